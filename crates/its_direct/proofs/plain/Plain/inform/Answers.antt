use Rattle.std.proofs.Common.{sym}
use Rattle.its_direct.proofs.UserLaws.{inform_row, inform_tidy}
use Rattle.its_direct.proofs.plain.Plain.inform.Goals as goal

pub returns-in-Some-clause-row : goal.returns-in-Some-clause-row
returns-in-Some-clause-row c = inform_row _ _ _ _ _ _ _ (sym c.in-Some.ensures) c.with_bits.ensures c.put_job.ensures c.touch.ensures

pub returns-in-Some-clause-tidy : goal.returns-in-Some-clause-tidy
returns-in-Some-clause-tidy c = inform_tidy _ _ _ _ _ _ _ (sym c.in-Some.ensures) c.with_bits.ensures c.put_job.ensures c.touch.ensures c.requires.tidy
