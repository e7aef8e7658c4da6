use Rattle.std.proofs.Common.{◌≤◌, ◌+◌, ◌-◌, ◌*◌, length, drop}
use Rattle.its_session.specs.Generated.{generated_session}
use Rattle.its_world.specs.World.{state_of}
use Rattle.its_monitor.specs.Kept.{Kept}
use Rattle.its_top.specs.Generating.{generated_tally, PlaySo}
use Rattle.its_top.proofs.commands.generating.play_all.Given as goal

abbrev pub invariant-loop-event : goal.invariant-loop-event
invariant-loop-event l = record {
  sound : Kept l.m.world;
  within : l.play.progress.number ≤ length (generated_session l.n);
  steps : l.play.tally.steps ≤ 512 * l.play.progress.number;
  drained : l.play.tally.drained ≤ 64 * l.play.progress.number;
  so_far : PlaySo l.play (l.play.progress.number + 1) (state_of l.m.world) (drop l.play.progress.number (generated_session l.n)) (generated_tally l.n);
}

abbrev pub decreases-loop-event : goal.decreases-loop-event
decreases-loop-event l = length (generated_session l.n) - l.play.progress.number
