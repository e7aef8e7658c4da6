use Rattle.std.proofs.Common.{◌-◌}
use Rattle.its_word.specs.Limits.{slots}
use Rattle.its_world.specs.Tidy.{Tidy}
use Rattle.its_pclsr.proofs.BelowLaws.{Unwinding}
use Rattle.its_pclsr.proofs.below.unwind_below.Given as goal

abbrev pub invariant-loop-inferior : goal.invariant-loop-inferior
invariant-loop-inferior l = record {
  unwinding : Unwinding l.fn.w l.w l.slot l.k;
  tidy : Tidy l.w;
}

abbrev pub decreases-loop-inferior : goal.decreases-loop-inferior
decreases-loop-inferior l = slots - l.k
