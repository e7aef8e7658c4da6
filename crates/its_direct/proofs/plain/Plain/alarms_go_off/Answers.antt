use Rattle.its_direct.proofs.ClockLaws.{rang_more}
use Rattle.its_direct.proofs.plain.Plain.alarms_go_off.Goals as goal

pub loop-slot-preserved : goal.loop-slot-preserved
loop-slot-preserved c = record {
  rang = rang_more _ _ _ _ _ c.loop-slot.invariant.rang (rw c.new.ensures at c.alarm_goes_off.ensures.rang);
  periods = c.alarm_goes_off.ensures.periods;
  tidy = c.alarm_goes_off.ensures.tidy;
}
