use Rattle.std.proofs.Common.{◌≤◌, ◌+◌, ◌-◌, ◌++◌, length, replicate}
use Rattle.its_print.specs.Runs.{paces_in}
use Rattle.its_world.specs.World.{state_of}
use Rattle.its_monitor.specs.Kept.{Kept}
use Rattle.its_top.specs.Answer.{PacesSo}
use Rattle.its_top.proofs.sessions.ticking.paces_made.Given as goal

abbrev pub invariant-loop-made : goal.invariant-loop-made
invariant-loop-made l = record {
  sound : Kept l.m.world;
  few : l.made ≤ l.n;
  room : length l.runs.items + l.count ≤ l.made;
  so_far : PacesSo (state_of l.fn.m.world) (state_of l.m.world) l.s l.n l.made (paces_in l.runs.items ++ replicate l.count l.last);
}

abbrev pub decreases-loop-made : goal.decreases-loop-made
decreases-loop-made l = l.n - l.made
