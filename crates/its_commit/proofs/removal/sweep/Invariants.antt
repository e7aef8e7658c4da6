use Rattle.its_plain.specs.Machine.Change.{superiors, is_gone}
use Rattle.its_world.specs.Tidy.{Tidy}
use Rattle.its_world.specs.World.{state_of}
use Rattle.its_commit.specs.Removal.{Swept}
use Rattle.its_commit.proofs.removal.sweep.Given as goal

abbrev pub invariant-loop-slot : goal.invariant-loop-slot
invariant-loop-slot l = record {
  swept : Swept (is_gone (superiors (state_of l.fn.w).raw) l.root) l.fn.w l.w l.slot;
  tidy : Tidy l.w;
}
