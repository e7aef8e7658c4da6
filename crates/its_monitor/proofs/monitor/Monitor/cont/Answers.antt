use Rattle.its_monitor.proofs.RegisterLaws.{put_as, cont_done, cont_kept}
use Rattle.its_monitor.proofs.monitor.Monitor.cont.Goals as goal

pub returns-clause-done : goal.returns-clause-done
returns-clause-done c = cont_done _ _ _ _ _ c.requires.kept c.in_ok-job.ensures.calm (put_as _ _ _ _ _ c.continued.ensures c.put_registers.ensures)

pub returns-clause-kept : goal.returns-clause-kept
returns-clause-kept c = cont_kept _ _ _ _ _ c.requires.kept c.in_ok-job.ensures.calm (put_as _ _ _ _ _ c.continued.ensures c.put_registers.ensures)
