use Rattle.std.proofs.Common.{sym, subst, refl}
use Rattle.std.specs.Prelude.{IfSome}
use Rattle.its_world.specs.World.{alarm_at}
use Rattle.its_stepped.specs.Alarmed.{Periodic}
use Rattle.its_monitor.proofs.RungLaws.{kept_periods, clock_still}
use Rattle.its_monitor.proofs.ClockLaws.{advanced, clock_done, clock_plain, clock_kept, clock_refused}
use Rattle.its_monitor.proofs.monitor.Monitor.advance.Goals as goal

pub set_clock-requires-clause-later : goal.set_clock-requires-clause-later
set_clock-requires-clause-later c = clock_still c.args.self.now.world c.unwind_due.new.w _ c.args.n c.unwind_due.ensures.same refl

pub alarms_go_off-requires-clause-periods : goal.alarms_go_off-requires-clause-periods
alarms_go_off-requires-clause-periods c = λ k.
    subst (λ l. IfSome (alarm_at l.items k) Periodic) (sym c.set_clock.ensures.alarms)
    (kept_periods c.args.self.now.world c.unwind_due.new.w c.requires.kept.alarmed c.unwind_due.ensures.same c.unwind_due.ensures.tidy k)

pub returns-then-in_time-clause-done : goal.returns-then-in_time-clause-done
returns-then-in_time-clause-done c =
    clock_done c.args.self.now.world c.alarms_go_off.new.w c.args.n c.in_time.result c.requires.kept c.in_time.ensures c.if-in_time.true
    (advanced c.args.self.now.world c.unwind_due.new.w c.set_clock.new.w c.alarms_go_off.new.w c.args.n c.unwind_due.ensures.unwinds
    c.set_clock.ensures.row c.alarms_go_off.ensures.rang)

pub returns-then-in_time-clause-plain : goal.returns-then-in_time-clause-plain
returns-then-in_time-clause-plain c =
    clock_plain c.args.self.now.world c.alarms_go_off.new.w c.args.n c.in_time.result c.requires.kept c.in_time.ensures c.if-in_time.true
    (advanced c.args.self.now.world c.unwind_due.new.w c.set_clock.new.w c.alarms_go_off.new.w c.args.n c.unwind_due.ensures.unwinds
    c.set_clock.ensures.row c.alarms_go_off.ensures.rang)

pub returns-then-in_time-clause-kept : goal.returns-then-in_time-clause-kept
returns-then-in_time-clause-kept c =
    clock_kept c.args.self.now.world c.alarms_go_off.new.w c.args.n c.in_time.result c.requires.kept c.in_time.ensures c.if-in_time.true
    (advanced c.args.self.now.world c.unwind_due.new.w c.set_clock.new.w c.alarms_go_off.new.w c.args.n c.unwind_due.ensures.unwinds
    c.set_clock.ensures.row c.alarms_go_off.ensures.rang) c.alarms_go_off.ensures.tidy

pub returns-else-in_time-clause-refused : goal.returns-else-in_time-clause-refused
returns-else-in_time-clause-refused c = clock_refused c.args.self.now.world c.args.n c.in_time.result c.requires.kept c.in_time.ensures c.if-in_time.false
