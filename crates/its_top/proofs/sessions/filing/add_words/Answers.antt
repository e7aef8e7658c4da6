use Rattle.std.proofs.Common.{refl}
use Rattle.std.proofs.lemmas.List.{get_or_read_under}
use Rattle.its_top.proofs.FilingLaws.{adding_next}
use Rattle.its_top.proofs.sessions.filing.add_words.Goals as goal

pub loop-w-preserved : goal.loop-w-preserved
loop-w-preserved c = record {
  sound = c.add_word.ensures.sound;
  so_far = adding_next _ _ _ _ _ _ _ c.loop-w-test.true (get_or_read_under _ _ _ _ 0 c.w-item.is c.loop-w-test.true refl)
      c.loop-w.invariant.so_far c.in_ok-add_word.ensures.done;
}
