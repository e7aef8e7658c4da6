use Rattle.its_monitor.proofs.ByteLineLaws.{hold_lands, hold_done, hold_kept, hold_has}
use Rattle.its_monitor.proofs.monitor.Monitor.set_holder.Goals as goal

pub returns-then-is_held-clause-refused : goal.returns-then-is_held-clause-refused
returns-then-is_held-clause-refused c = hold_has _ _ _ _ c.in_ok-present.ensures.some c.is_held.ensures c.if-is_held.true

pub returns-clause-done : goal.returns-clause-done
returns-clause-done c = hold_lands _ _ _ _ c.requires.kept c.in_ok-present.ensures.some _ c.is_held.ensures c.if-is_held.false
    (rw c.number.ensures.value at c.hold.ensures)

pub returns-clause-plain : goal.returns-clause-plain
returns-clause-plain c = hold_done _ _ _ _ c.requires.kept c.in_ok-present.ensures.some _ c.is_held.ensures c.if-is_held.false
    (rw c.number.ensures.value at c.hold.ensures)

pub returns-clause-kept : goal.returns-clause-kept
returns-clause-kept c = hold_kept _ _ _ _ c.requires.kept c.in_ok-present.ensures.some _ c.is_held.ensures c.if-is_held.false
    (rw c.number.ensures.value at c.hold.ensures)
