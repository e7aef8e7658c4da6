use Rattle.its_world.specs.World.{state_of}
use Rattle.its_monitor.specs.Kept.{Kept}
use Rattle.its_top.specs.Silent.{TurnsSo}
use Rattle.its_top.proofs.sessions.silent.make_turns.Given as goal

abbrev pub invariant-loop-k : goal.invariant-loop-k
invariant-loop-k l = record {
  sound : Kept l.m.world;
  so_far : TurnsSo (state_of l.fn.m.world) (state_of l.m.world) l.fn.last l.last l.n l._k l.q;
}
