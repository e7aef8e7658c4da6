use Rattle.std.proofs.Common.{arith}
use Rattle.its_top.proofs.TallyLaws.{play_start}
use Rattle.its_top.proofs.commands.generating.play_all.Goals as goal

pub loop-event-init : goal.loop-event-init
loop-event-init c = record {
  sound = c.requires.sound;
  within = omega arith;
  steps = omega arith;
  drained = omega arith;
  so_far = play_start _ _ _ c.requires.machine;
}
