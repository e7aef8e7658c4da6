use Rattle.its_monitor.proofs.RegisterLaws.{stop_done, stop_kept}
use Rattle.its_monitor.proofs.monitor.Monitor.stop.Goals as goal

pub returns-clause-done : goal.returns-clause-done
returns-clause-done c = stop_done _ _ _ _ _ c.requires.kept c.in_ok-job.ensures.calm c.put_registers.ensures

pub returns-clause-kept : goal.returns-clause-kept
returns-clause-kept c = stop_kept _ _ _ _ _ c.requires.kept c.in_ok-job.ensures.calm c.put_registers.ensures
