use Rattle.std.proofs.Common.{arith}
use Rattle.its_direct.proofs.FileLaws.{adding_full, adding_room, appended}
use Rattle.its_direct.proofs.plain.Plain.append_to.Goals as goal

pub returns-then-words-room-clause-refused : goal.returns-then-words-room-clause-refused
returns-then-words-room-clause-refused c =
    let b = c.seen.ensures.blocks in
    adding_full c.args.self.now c.args.id _ c.args.words.now c.seen.ensures.whole c.requires.tidy c.requires.file (omega arith)
    c.room.ensures c.if-words-room.true

pub add_words-requires-clause-room : goal.add_words-requires-clause-room
add_words-requires-clause-room c =
    let b = c.seen.ensures.blocks in
    adding_room c.args.self.now c.args.id _ c.args.words.now c.seen.ensures.whole c.requires.tidy c.requires.file (omega arith)
    c.room.ensures c.if-words-room.false

pub returns-clause-done : goal.returns-clause-done
returns-clause-done c = appended c.args.self.now c.add_words.new.self c.touch_none.new.self _ _ c.add_words.ensures.done
    c.add_words.ensures.place c.touch_none.ensures
