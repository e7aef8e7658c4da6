use Rattle.its_monitor.proofs.JobLineLaws.{made_lands, made_plain, made_kept, made_past, made_there}
use Rattle.its_monitor.proofs.monitor.Monitor.make_job.Goals as goal

pub returns-then-not-can_have-clause-refused : goal.returns-then-not-can_have-clause-refused
returns-then-not-can_have-clause-refused c = made_past _ _ _ _ _ _ c.can_have.ensures c.if-not-can_have.true

pub returns-then-has_job-clause-refused : goal.returns-then-has_job-clause-refused
returns-then-has_job-clause-refused c = made_there _ _ _ _ _ _ c.can_have.ensures _ c.if-not-can_have.false c.has_job.ensures c.if-has_job.true

pub returns-clause-done : goal.returns-clause-done
returns-clause-done c = made_lands _ c.make_at.new.w _ _ _ _ c.requires.kept _ _ c.can_have.ensures c.if-not-can_have.false c.has_job.ensures
    c.if-has_job.false (rw c.numbered.ensures.value at c.make_at.ensures)

pub returns-clause-plain : goal.returns-clause-plain
returns-clause-plain c = made_plain _ c.make_at.new.w _ _ _ _ c.requires.kept _ _ c.can_have.ensures c.if-not-can_have.false c.has_job.ensures
    c.if-has_job.false (rw c.numbered.ensures.value at c.make_at.ensures)

pub returns-clause-kept : goal.returns-clause-kept
returns-clause-kept c = made_kept _ c.make_at.new.w _ _ _ _ c.requires.kept _ _ c.can_have.ensures c.if-not-can_have.false c.has_job.ensures
    c.if-has_job.false (rw c.numbered.ensures.value at c.make_at.ensures) (rw c.numbered.ensures.value at c.numbered.ensures.below)
