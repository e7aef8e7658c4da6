use Rattle.std.proofs.Common.{◌≤◌, drop}
use Rattle.its_world.specs.World.{state_of}
use Rattle.its_monitor.specs.Kept.{Kept}
use Rattle.its_top.specs.Answer.{TypedSo}
use Rattle.its_top.proofs.sessions.consoles.type_bytes.Given as goal

abbrev pub invariant-loop-b : goal.invariant-loop-b
invariant-loop-b l = record {
  sound : Kept l.m.world;
  few : l.count ≤ l.b-index;
  so_far : TypedSo (state_of l.fn.m.world) (state_of l.m.world) l.c l.b-index l.count l.bytes (drop l.b-index l.bytes);
}
