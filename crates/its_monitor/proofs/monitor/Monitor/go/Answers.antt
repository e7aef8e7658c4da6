use Rattle.its_monitor.proofs.RegisterLaws.{go_done, go_kept}
use Rattle.its_monitor.proofs.monitor.Monitor.go.Goals as goal

pub returns-clause-done : goal.returns-clause-done
returns-clause-done c = go_done _ _ _ _ _ c.args.a c.requires.address c.requires.kept c.in_ok-job.ensures.calm c.put_registers.ensures

pub returns-clause-kept : goal.returns-clause-kept
returns-clause-kept c = go_kept _ _ _ _ _ c.args.a c.requires.address c.requires.kept c.in_ok-job.ensures.calm c.put_registers.ensures
