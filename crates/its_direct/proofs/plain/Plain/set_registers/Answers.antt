use Rattle.its_direct.proofs.RestoringLaws.{regs_done}
use Rattle.its_direct.proofs.plain.Plain.set_registers.Goals as goal

pub returns-clause-done : goal.returns-clause-done
returns-clause-done c = regs_done _ _ _ _ _ _ _ c.job.ensures c.in-Some.is c.restored-now.ensures.registers c.rewrite.ensures.done
