use Rattle.std.proofs.Common.{◌≡◌}
use Rattle.its_world.specs.Tidy.{Tidy}
use Rattle.its_world.specs.World.{state_of}
use Rattle.its_commit.specs.Removal.{Closes}
use Rattle.its_commit.proofs.removal.shut_all.Given as goal

abbrev pub invariant-loop-n : goal.invariant-loop-n
invariant-loop-n l = record {
  closed : Closes (state_of l.fn.w) (state_of l.w) l.slot l.n;
  pages : l.w.core.frames ≡ l.fn.w.core.frames;
  tidy : Tidy l.w;
}
