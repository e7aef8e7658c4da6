use Rattle.its_world.specs.Tidy.{Tidy}
use Rattle.its_world.specs.World.{state_of}
use Rattle.its_monitor.proofs.LinkLineLaws.{Sending}
use Rattle.its_monitor.proofs.restoring_channels.send_all.Given as goal

abbrev pub invariant-loop-word : goal.invariant-loop-word
invariant-loop-word l = record {
  so_far : Sending (state_of l.fn.w) (state_of l.w) l.l l.words l.word-index;
  tidy : Tidy l.w;
}
