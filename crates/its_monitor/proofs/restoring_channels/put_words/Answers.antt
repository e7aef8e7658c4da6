use Rattle.std.proofs.Common.{refl, subst, sym}
use Rattle.std.proofs.lemmas.List.{get_or_read_under}
use Rattle.its_world.specs.World.{state_of}
use Rattle.its_monitor.specs.Kept.{Lands}
use Rattle.its_monitor.proofs.DraftLineLaws.{appending_ends, appending_next, appending_room, appending_starts, appending_whole, wrote_ok, wrote_same}
use Rattle.its_monitor.proofs.restoring_channels.put_words.Goals as goal

pub loop-word-init : goal.loop-word-init
loop-word-init c = record { so_far = appending_starts (state_of c.args.w.now) c.args.s c.args.n c.args.words.now; tidy = c.requires.tidy }

pub append-requires-clause-room : goal.append-requires-clause-room
append-requires-clause-room c =
    appending_room _ _ c.args.s c.args.n c.loop-word.word-index _ 0 c.args.words.now c.loop-word.invariant.so_far c.loop-word-test.true
    (get_or_read_under _ _ _ _ 0 c.word-item.is c.loop-word-test.true refl) (wrote_ok _ _ _ _ c.requires.can)

pub append-requires-clause-unmarked : goal.append-requires-clause-unmarked
append-requires-clause-unmarked c = appending_whole _ _ _ _ _ _ c.loop-word.invariant.so_far c.requires.unmarked

pub loop-word-preserved : goal.loop-word-preserved
loop-word-preserved c = record {
  so_far = appending_next _ _ c.args.s c.args.n c.loop-word.word-index _ 0 c.args.words.now c.loop-word.invariant.so_far c.loop-word-test.true
      (get_or_read_under _ _ _ _ 0 c.word-item.is c.loop-word-test.true refl) (wrote_ok _ _ _ _ c.requires.can) _ c.append.ensures.row;
  tidy = c.append.ensures.tidy;
}

pub returns-clause-done : goal.returns-clause-done
returns-clause-done c =
    subst (λ r. Lands (state_of c.args.w.now) (state_of c.loop-word.w) r) (sym (wrote_same _ _ _ _ c.requires.can))
    (appending_ends _ _ _ _ _ _ _ c.loop-word.invariant.so_far refl c.loop-word-test.false)
