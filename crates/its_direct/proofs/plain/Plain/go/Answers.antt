use Rattle.its_direct.proofs.LineLaws.{go_done}
use Rattle.its_direct.proofs.plain.Plain.go.Goals as goal

pub returns-clause-done : goal.returns-clause-done
returns-clause-done c = go_done _ _ _ _ _ _ _ c.job.ensures c.in-Some.is c.started-now.ensures c.rewrite.ensures.done
