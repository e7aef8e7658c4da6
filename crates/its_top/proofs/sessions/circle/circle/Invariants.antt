use Rattle.std.proofs.Common.{◌≡◌}
use Rattle.its_world.specs.World.{state_of}
use Rattle.its_monitor.specs.Kept.{Kept}
use Rattle.its_top.specs.Answer.{CircleSo}
use Rattle.its_top.proofs.sessions.circle.circle.Given as goal

abbrev pub invariant-loop-k : goal.invariant-loop-k
invariant-loop-k g l = record {
  sound : Kept l.m.world;
  unfailed : g.K.Sink.faults l.out ≡ g.K.Sink.faults l.fn.out;
  so_far : CircleSo (state_of l.fn.m.world) (state_of l.m.world) l.fn.last l.last l.n l._k l.q (g.K.Sink.written l.fn.out) (g.K.Sink.written l.out);
}
