use Rattle.its_monitor.proofs.StartLaws.{load_done, load_plain, load_kept, load_full}
use Rattle.its_monitor.proofs.monitor.Monitor.load_job.Goals as goal

pub returns-in-Ok-clause-done : goal.returns-in-Ok-clause-done
returns-in-Ok-clause-done c = load_done _ _ _ _ _ _ _ c.requires.kept c.in-Ok.ensures.slot
    (rw c.numbered.ensures.value at c.in-Ok.ensures.made) c.hold_console.ensures

pub returns-in-Ok-clause-plain : goal.returns-in-Ok-clause-plain
returns-in-Ok-clause-plain c = load_plain _ _ _ _ _ _ _ c.requires.kept c.in-Ok.ensures.slot
    (rw c.numbered.ensures.value at c.in-Ok.ensures.made) c.hold_console.ensures

pub returns-in-Ok-clause-kept : goal.returns-in-Ok-clause-kept
returns-in-Ok-clause-kept c =
    load_kept _ _ _ _ _ _ _ (rw c.numbered.ensures.value at c.numbered.ensures.below) c.requires.kept c.in-Ok.ensures.slot
    (rw c.numbered.ensures.value at c.in-Ok.ensures.made)
    c.hold_console.ensures

pub returns-in-Err-clause-refused : goal.returns-in-Err-clause-refused
returns-in-Err-clause-refused c = load_full _ _ _ _ c.in-Err.ensures.full
