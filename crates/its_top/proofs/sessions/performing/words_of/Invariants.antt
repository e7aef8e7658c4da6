use Rattle.std.proofs.Common.{◌≡◌, length}
use Rattle.its_stepped.specs.Unwind.{unwound}
use Rattle.its_world.specs.World.{state_of}
use Rattle.its_monitor.specs.Kept.{Kept}
use Rattle.its_top.specs.Answer.{ExamSo, Calm}
use Rattle.its_top.proofs.sessions.performing.words_of.Given as goal

abbrev pub invariant-loop-k : goal.invariant-loop-k
invariant-loop-k l = record {
  sound : Kept l.m.world;
  calm : Calm (unwound (state_of l.fn.m.world) l.s) (state_of l.m.world) l.s l.k;
  count : length l.words.items ≡ l.k;
  so_far : ExamSo (unwound (state_of l.fn.m.world) l.s).raw l.s l.a l.n l.k l.words.items;
}
