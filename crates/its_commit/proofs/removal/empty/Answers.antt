use Rattle.std.proofs.Common.{None, refl}
use Rattle.its_world.proofs.AlarmLaws.{alarm_tidy}
use Rattle.its_commit.proofs.TidyLaws.{tidy_kept}
use Rattle.its_commit.proofs.RemovalLaws.{slot_emptied, tidy_bare}
use Rattle.its_commit.proofs.removal.empty.Goals as goal

pub returns-clause-empty : goal.returns-clause-empty
returns-clause-empty c = slot_emptied c.args.w.now c.shut_all.new.w c.drop_core.new.w c.leave_call.new.self _ c.args.slot
    c.shut_all.ensures.closed c.shut_all.ensures.tidy c.drop_core.ensures.dropped
    c.leave_call.ensures c.put_alarm.ensures c.shut_all.ensures.pages c.drop_core.ensures.frames

pub returns-clause-tidy : goal.returns-clause-tidy
returns-clause-tidy c =
    alarm_tidy _ _ _ None c.put_alarm.ensures (λ h. refl)
    (tidy_kept _ _ _ _ _ c.leave_call.ensures (tidy_bare _ _ _ c.drop_core.ensures.dropped c.shut_all.ensures.tidy))
