use Rattle.its_direct.proofs.LineLaws.{cont_done}
use Rattle.its_direct.proofs.plain.Plain.cont.Goals as goal

pub returns-clause-done : goal.returns-clause-done
returns-clause-done c = cont_done _ _ _ _ _ _ c.job.ensures c.in-Some.is c.continued-now.ensures c.rewrite.ensures.done
