use Rattle.std.proofs.Common.{arith}
use Rattle.its_direct.proofs.EachLaws.{all_written, writing_full, writing_room}
use Rattle.its_direct.proofs.plain.Plain.write_words.Goals as goal

pub returns-then-words-room-clause-refused : goal.returns-then-words-room-clause-refused
returns-then-words-room-clause-refused c =
    let b = c.seen.ensures.blocks in
    writing_full c.args.s c.args.n c.args.draft c.within.ensures c.requires.channel c.args.self.now _ c.args.words.now c.seen.ensures.whole
    c.requires.tidy c.requires.on (omega arith) c.room.ensures c.if-words-room.true

pub append_each-requires-clause-room : goal.append_each-requires-clause-room
append_each-requires-clause-room c =
    let b = c.seen.ensures.blocks in
    writing_room c.args.s c.args.n c.args.draft c.within.ensures c.requires.channel c.args.self.now _ c.args.words.now c.seen.ensures.whole
    c.requires.tidy c.requires.on (omega arith) c.room.ensures c.if-words-room.false

pub returns-clause-done : goal.returns-clause-done
returns-clause-done c = all_written c.args.self.now c.append_each.new.self c.touch_only.new.self c.args.s c.args.n c.args.words.now c.within.ensures
    c.append_each.ensures.done c.append_each.ensures.place c.touch_only.ensures
