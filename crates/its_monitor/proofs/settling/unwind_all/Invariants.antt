use Rattle.std.proofs.Common.{◌≡◌, ◌<◌, ℕ}
use Rattle.std.specs.Prelude.{None}
use Rattle.its_world.specs.World.{plain_of, state_of}
use Rattle.its_monitor.specs.Kept.{Kept}
use Rattle.its_monitor.proofs.settling.unwind_all.Given as goal

abbrev pub invariant-loop-slot : goal.invariant-loop-slot
invariant-loop-slot l = record {
  plain : plain_of l.w ≡ plain_of l.fn.w;
  frames : (k : ℕ) → k < l.slot → (state_of l.w).frames k ≡ None;
  kept : Kept l.w;
}
