use Rattle.its_world.specs.Tidy.{Tidy}
use Rattle.its_world.specs.World.{state_of}
use Rattle.its_monitor.proofs.DraftLineLaws.{Appending}
use Rattle.its_monitor.proofs.restoring_channels.put_words.Given as goal

abbrev pub invariant-loop-word : goal.invariant-loop-word
invariant-loop-word l = record {
  so_far : Appending (state_of l.fn.w) (state_of l.w) l.s l.n l.words l.word-index;
  tidy : Tidy l.w;
}
