use Rattle.std.proofs.Common.{◌≡◌, ◌+◌, drop}
use Rattle.its_stepped.specs.Unwind.{unwound}
use Rattle.its_world.specs.World.{state_of}
use Rattle.its_monitor.specs.Kept.{Kept}
use Rattle.its_top.specs.Answer.{LoadSo}
use Rattle.its_top.proofs.sessions.loading.store_words.Given as goal

abbrev pub invariant-loop-w : goal.invariant-loop-w
invariant-loop-w l = record {
  at : l.at ≡ l.a + l.w-index;
  sound : Kept l.m.world;
  so_far : LoadSo (unwound (state_of l.fn.m.world) l.slot) (state_of l.m.world) l.slot l.a l.w-index l.words (drop l.w-index l.words);
}
