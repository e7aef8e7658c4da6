use Rattle.std.proofs.Common.{arith}
use Rattle.std.proofs.lemmas.Grind.{common_steps}
use Rattle.its_session.specs.Grammar.{show_line}
use Rattle.its_session.proofs.RowLaws.{three_words}
use Rattle.its_session.proofs.rows.show.Goals as goal

pub returns : goal.returns
unfolding show_line
returns c = rw (three_words c.args.words.now (omega arith) (omega arith)) (grind (arith, common_steps))
