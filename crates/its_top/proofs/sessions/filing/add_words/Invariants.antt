use Rattle.std.proofs.Common.{drop}
use Rattle.its_stepped.specs.Unwind.{help}
use Rattle.its_world.specs.World.{state_of}
use Rattle.its_monitor.specs.Kept.{Kept}
use Rattle.its_top.specs.Answer.{AddSo}
use Rattle.its_top.proofs.sessions.filing.add_words.Given as goal

abbrev pub invariant-loop-w : goal.invariant-loop-w
invariant-loop-w l = record {
  sound : Kept l.m.world;
  so_far : AddSo (help (state_of l.fn.m.world)) (state_of l.m.world) l.names l.w-index l.words (drop l.w-index l.words);
}
