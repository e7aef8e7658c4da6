use Rattle.std.proofs.Common.{sym, ◌∙◌}
use Rattle.its_monitor.proofs.RungLaws.{still_none, still_some}
use Rattle.its_monitor.proofs.clock.alarm_goes_off.Goals as goal

pub returns-else-next-clock-clause-rang : goal.returns-else-next-clock-clause-rang
returns-else-next-clock-clause-rang c =
    still_some c.args.clock c.args.slot c.in-Some.period c.in-Some.next c.args.w.now c.requires.tidy (sym c.in-Some.is ∙ c.alarm.ensures)
    c.if-next-clock.false

pub returns-in_default-clause-rang : goal.returns-in_default-clause-rang
returns-in_default-clause-rang c = still_none c.args.clock c.args.slot c.args.w.now c.requires.tidy (sym c.in_default.is ∙ c.alarm.ensures)
