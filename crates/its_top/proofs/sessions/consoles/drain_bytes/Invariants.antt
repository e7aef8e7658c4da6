use Rattle.std.proofs.Common.{◌≤◌, length}
use Rattle.its_world.specs.World.{state_of}
use Rattle.its_monitor.specs.Kept.{Kept}
use Rattle.its_top.specs.Answer.{DrainedSo}
use Rattle.its_top.proofs.sessions.consoles.drain_bytes.Given as goal

abbrev pub invariant-loop-k : goal.invariant-loop-k
invariant-loop-k l = record {
  sound : Kept l.m.world;
  few : length l.bytes.items ≤ l._k;
  so_far : DrainedSo (state_of l.fn.m.world) (state_of l.m.world) l.c l.n l._k l.bytes.items;
}
