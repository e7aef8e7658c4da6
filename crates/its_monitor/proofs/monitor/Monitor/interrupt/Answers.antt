use Rattle.its_monitor.proofs.RegisterLaws.{put_as, interrupt_done, interrupt_kept}
use Rattle.its_monitor.proofs.monitor.Monitor.interrupt.Goals as goal

pub returns-clause-done : goal.returns-clause-done
returns-clause-done c = interrupt_done _ _ _ _ _ c.args.v c.args.w c.requires.kept c.in_ok-job.ensures.calm
    (put_as _ _ _ _ _ c.interrupted.ensures c.put_registers.ensures)

pub returns-clause-kept : goal.returns-clause-kept
returns-clause-kept c = interrupt_kept _ _ _ _ _ c.args.v c.args.w c.requires.kept c.in_ok-job.ensures.calm
    (put_as _ _ _ _ _ c.interrupted.ensures c.put_registers.ensures)
