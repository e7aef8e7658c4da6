use Rattle.std.proofs.Common.{◌≡◌, ℕ}
use Rattle.std.specs.Prelude.{IfSome}
use Rattle.its_world.specs.Tidy.{Tidy}
use Rattle.its_world.specs.World.{alarm_at, state_of}
use Rattle.its_stepped.specs.Alarmed.{Periodic}
use Rattle.its_monitor.specs.Rung.{RangBelow}
use Rattle.its_monitor.proofs.clock.alarms_go_off.Given as goal

abbrev pub invariant-loop-slot : goal.invariant-loop-slot
invariant-loop-slot l = record {
  rang : RangBelow l.clock l.slot (state_of l.fn.w) (state_of l.w);
  periods : (k : ℕ) → IfSome (alarm_at l.w.alarms.items k) Periodic;
  pages : l.w.core.frames ≡ l.fn.w.core.frames;
  tidy : Tidy l.w;
}
