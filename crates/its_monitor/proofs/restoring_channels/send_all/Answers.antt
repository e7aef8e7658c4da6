use Rattle.std.proofs.Common.{refl}
use Rattle.std.proofs.lemmas.List.{get_or_read_under}
use Rattle.its_world.specs.World.{state_of}
use Rattle.its_monitor.proofs.LinkLineLaws.{sending_ends, sending_next, sending_room, sending_starts}
use Rattle.its_monitor.proofs.restoring_channels.send_all.Goals as goal

pub loop-word-init : goal.loop-word-init
loop-word-init c = record { so_far = sending_starts (state_of c.args.w.now) c.args.l c.args.words.now c.requires.can; tidy = c.requires.tidy }

pub send_one-requires-clause-stands : goal.send_one-requires-clause-stands
send_one-requires-clause-stands c = c.loop-word.invariant.so_far.stands

pub send_one-requires-clause-room : goal.send_one-requires-clause-room
send_one-requires-clause-room c =
    sending_room _ _ c.args.l c.loop-word.word-index _ 0 c.args.words.now c.loop-word.invariant.so_far c.loop-word-test.true
    (get_or_read_under _ _ _ _ 0 c.word-item.is c.loop-word-test.true refl)

pub loop-word-preserved : goal.loop-word-preserved
loop-word-preserved c = record {
  so_far = sending_next _ _ c.args.l c.loop-word.word-index _ 0 c.args.words.now c.loop-word.invariant.so_far c.loop-word-test.true
      (get_or_read_under _ _ _ _ 0 c.word-item.is c.loop-word-test.true refl) _ c.send_one.ensures.done;
  tidy = c.send_one.ensures.tidy;
}

pub returns-clause-done : goal.returns-clause-done
returns-clause-done c = sending_ends _ _ _ _ _ _ c.requires.can c.loop-word.invariant.so_far refl c.loop-word-test.false
