use Rattle.std.proofs.Common.{◌≡◌}
use Rattle.its_stepped.specs.Unwind.{left, unwound}
use Rattle.its_stepped.specs.Sound.{Sound}
use Rattle.its_world.specs.World.{state_of}
use Rattle.its_world.specs.Tidy.{Tidy}
use Rattle.its_pclsr.specs.Apart.{CoresOff}
use Rattle.its_pclsr.proofs.unwinding.run.Given as goal

abbrev pub invariant-loop-slot : goal.invariant-loop-slot
invariant-loop-slot l = record {
  sound : Sound (state_of l.w);
  cores : CoresOff l.fn.w l.w l.slot;
  tidy : Tidy l.w;
  rest : unwound (state_of l.w) l.slot ≡ unwound (state_of l.fn.w) l.slot;
}

abbrev pub decreases-loop-slot : goal.decreases-loop-slot
decreases-loop-slot l = left (state_of l.w) l.slot
