use Rattle.std.proofs.Common.{arith}
use Rattle.std.proofs.lemmas.Grind.{common_steps}
use Rattle.its_session.specs.Grammar.{run_line}
use Rattle.its_session.proofs.RowLaws.{two_words}
use Rattle.its_session.proofs.rows.run.Goals as goal

pub returns : goal.returns
unfolding run_line
returns c = rw (two_words c.args.words.now (omega arith) (omega arith)) (grind (arith, common_steps))
