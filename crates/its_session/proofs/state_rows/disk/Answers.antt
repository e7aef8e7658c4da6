use Rattle.std.proofs.Common.{arith}
use Rattle.std.proofs.lemmas.Grind.{common_steps}
use Rattle.its_session.specs.StateGrammar.{disk_row}
use Rattle.its_session.proofs.RowLaws.{six_words}
use Rattle.its_session.proofs.state_rows.disk.Goals as goal

pub returns : goal.returns
unfolding disk_row
returns c = rw (six_words c.args.words.now (omega arith) (omega arith)) (grind (arith, common_steps))
