use Rattle.std.proofs.Common.{arith, refl}
use Rattle.std.proofs.lemmas.List.{get_or_read_under}
use Rattle.its_top.proofs.LoadingLaws.{loading_next}
use Rattle.its_top.proofs.sessions.loading.store_words.Goals as goal

pub loop-w-preserved : goal.loop-w-preserved
loop-w-preserved c = record {
  at = omega (arith, c.loop-w.invariant.at);
  sound = c.load_word.ensures.kept;
  so_far = loading_next _ _ _ _ _ _ _ _ _ c.loop-w.invariant.sound.sound c.loop-w-test.true c.loop-w.invariant.at
      (get_or_read_under _ _ _ _ 0 c.w-item.is c.loop-w-test.true refl) c.loop-w.invariant.so_far c.in_ok-load_word.ensures.done;
}
