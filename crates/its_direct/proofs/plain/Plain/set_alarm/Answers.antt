use Rattle.its_direct.proofs.RestoringLaws.{alarm_done}
use Rattle.its_direct.proofs.plain.Plain.set_alarm.Goals as goal

pub returns-clause-done : goal.returns-clause-done
returns-clause-done c =
    alarm_done c.args.self.now c.args.s c.args.period c.args.next _ c.may_come.ensures c.arm.new.self c.touch_only.new.self c.within.ensures
    c.if-not-may_come.false c.in_ok-present.ensures.job c.arm.ensures.row c.touch_only.ensures
