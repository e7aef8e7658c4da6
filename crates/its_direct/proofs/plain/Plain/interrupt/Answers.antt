use Rattle.its_direct.proofs.LineLaws.{interrupt_done}
use Rattle.its_direct.proofs.plain.Plain.interrupt.Goals as goal

pub returns-clause-done : goal.returns-clause-done
returns-clause-done c = interrupt_done _ _ _ _ _ _ _ _ c.job.ensures c.in-Some.is c.interrupted-now.ensures c.rewrite.ensures.done
