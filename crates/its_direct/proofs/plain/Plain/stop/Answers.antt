use Rattle.its_direct.proofs.LineLaws.{stop_done}
use Rattle.its_direct.proofs.plain.Plain.stop.Goals as goal

pub returns-clause-done : goal.returns-clause-done
returns-clause-done c = stop_done _ _ _ _ _ _ c.job.ensures c.in-Some.is c.stopped-now.ensures c.rewrite.ensures.done
