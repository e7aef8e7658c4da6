use Rattle.std.proofs.Common.{arith}
use Rattle.std.proofs.lemmas.Grind.{common_steps}
use Rattle.its_session.specs.StateGrammar.{job_row}
use Rattle.its_session.proofs.RowLaws.{four_words}
use Rattle.its_session.proofs.state_rows.job.Goals as goal

pub returns-in_err-s-2 : goal.returns-in_err-s-2
unfolding job_row
returns-in_err-s-2 c = rw (four_words c.args.words.now (omega arith) (omega arith)) (grind (arith, common_steps))
