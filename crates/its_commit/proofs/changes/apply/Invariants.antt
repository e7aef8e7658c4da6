use Rattle.std.proofs.Common.{◌≡◌, drop}
use Rattle.its_stepped.specs.Commit.{effects_on}
use Rattle.its_world.specs.Tidy.{Tidy}
use Rattle.its_commit.specs.Pages.{all_pages_changed}
use Rattle.its_commit.specs.Built.{CanMakeAll}
use Rattle.its_world.specs.World.{state_of}
use Rattle.its_commit.proofs.changes.apply.Given as goal

abbrev pub invariant-loop-change : goal.invariant-loop-change
invariant-loop-change l = record {
  rest : effects_on (drop l.change-index l.changes) l.slot (state_of l.w) ≡ effects_on l.changes l.slot (state_of l.fn.w);
  pages : all_pages_changed (drop l.change-index l.changes) l.slot (state_of l.w) l.w.core.frames ≡ all_pages_changed l.changes l.slot
      (state_of l.fn.w) l.fn.w.core.frames;
  built : CanMakeAll (drop l.change-index l.changes) l.slot (state_of l.w);
  tidy : Tidy l.w;
}
