use Rattle.std.proofs.Common.{refl, sym, arith}
use Rattle.its_direct.proofs.FileLaws.{added_room, added_row, added_tidy, store_becomes}
use Rattle.its_direct.proofs.plain.Plain.add_word.Goals as goal

pub returns-clause-row : goal.returns-clause-row
returns-clause-row c =
    let h = c.in-Ok.ensures in
    let b = c.seen.ensures.blocks in
    added_row c.args.self.now c.seen.ensures.whole c.requires.tidy c.args.id c.requires.file (omega arith) _ c.args.w
    (store_becomes c.args.self.now _ _ h.ok refl) h.entry h.words (h.file c.requires.file)
    (sym h.full)

pub returns-clause-tidy : goal.returns-clause-tidy
returns-clause-tidy c =
    let h = c.in-Ok.ensures in
    let b = c.seen.ensures.blocks in
    added_tidy c.args.self.now c.seen.ensures.whole c.requires.tidy c.args.id c.requires.file (omega arith) _ c.args.w
    (store_becomes c.args.self.now _ _ h.ok refl) h.entry h.words (h.file c.requires.file)

pub unreachable-requires : goal.unreachable-requires
unreachable-requires c =
    let b = c.seen.ensures.blocks in
    added_room c.args.self.now c.seen.ensures.whole c.requires.tidy c.args.id c.requires.file (omega arith) c.args.w
    (sym c.in-Err.ensures.full) c.requires.room
