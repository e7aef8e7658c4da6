use Rattle.std.proofs.Common.{arith}
use Rattle.std.proofs.lemmas.Grind.{common_steps}
use Rattle.its_session.specs.StateGrammar.{tty_row}
use Rattle.its_session.proofs.RowLaws.{three_words}
use Rattle.its_session.proofs.state_rows.tty.Goals as goal

pub returns : goal.returns
unfolding tty_row
returns c = rw (three_words c.args.words.now (omega arith) (omega arith)) (grind (arith, common_steps))
