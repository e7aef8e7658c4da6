use Rattle.std.proofs.Common.{arith}
use Rattle.its_world.proofs.StorageLaws.{store_unmarked}
use Rattle.its_monitor.proofs.DraftLineLaws.{fits_full, fits_ok, written_stands, written_unfit}
use Rattle.its_monitor.proofs.restoring_channels.fitting.Goals as goal

pub room-requires : goal.room-requires
room-requires c = written_stands c.args.w.now c.args.s c.args.n c.in-Writing.draft c.requires.tidy c.in-Writing.ensures

pub returns-then-words-room-clause-refused : goal.returns-then-words-room-clause-refused
returns-then-words-room-clause-refused c =
    let blocks = c.seen.ensures.blocks in
    let more = c.if-words-room.true in
    fits_full c.args.w.now c.args.s c.args.n c.in-Writing.draft c.room.result c.args.words.now c.within.ensures c.requires.channel c.requires.tidy
    c.seen.ensures.whole (store_unmarked c.args.w.now c.requires.unmarked) (omega arith) c.in-Writing.ensures c.room.ensures (omega arith)

pub returns-else-words-room-clause-can : goal.returns-else-words-room-clause-can
returns-else-words-room-clause-can c =
    let blocks = c.seen.ensures.blocks in
    let less = c.if-words-room.false in
    fits_ok c.args.w.now c.args.s c.args.n c.in-Writing.draft c.room.result c.args.words.now c.within.ensures c.requires.channel c.requires.tidy
    c.seen.ensures.whole (store_unmarked c.args.w.now c.requires.unmarked) (omega arith) c.in-Writing.ensures c.room.ensures (omega arith)

pub returns-in_default : goal.returns-in_default
returns-in_default c = record {
  can = tt;
  refused = written_unfit c.args.w.now c.args.s c.args.n c.args.words.now c.channel.result c.channel.ensures c.in_default.not-Writing c.requires.some;
}
