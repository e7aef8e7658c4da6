use Rattle.its_monitor.proofs.JobLineLaws.{set_lands, set_plain, set_kept}
use Rattle.its_monitor.proofs.RegisterLaws.{put_as}
use Rattle.its_monitor.proofs.monitor.Monitor.set_registers.Goals as goal

pub returns-clause-done : goal.returns-clause-done
returns-clause-done c = set_lands _ _ _ _ _ c.args.registers.now c.requires.kept c.in_ok-job.ensures.calm
    (put_as _ _ _ _ _ c.restored.ensures c.put_registers.ensures)

pub returns-clause-plain : goal.returns-clause-plain
returns-clause-plain c = set_plain _ _ _ _ _ c.args.registers.now c.requires.kept c.in_ok-job.ensures.calm
    (put_as _ _ _ _ _ c.restored.ensures c.put_registers.ensures)

pub returns-clause-kept : goal.returns-clause-kept
returns-clause-kept c = set_kept _ _ _ _ _ c.args.registers.now c.requires.kept c.in_ok-job.ensures.calm
    (put_as _ _ _ _ _ c.restored.ensures c.put_registers.ensures)
