use Rattle.its_direct.proofs.EachLaws.{appending_more, appending_room}
use Rattle.its_direct.proofs.plain.Plain.append_each.Goals as goal

pub append-requires-clause-room : goal.append-requires-clause-room
append-requires-clause-room c = appending_room c.args.self.now c.loop-k.self c.args.s c.args.n c.loop-k.k _ _ c.args.words.now
    c.loop-k.invariant.appending c.loop-k-test.true c.index-words-k.is c.requires.room

pub loop-k-preserved : goal.loop-k-preserved
loop-k-preserved c = record {
  appending = appending_more c.args.self.now c.loop-k.self c.args.s c.args.n c.loop-k.k _ _ c.args.words.now c.loop-k.invariant.appending
      c.loop-k-test.true c.index-words-k.is c.requires.room c.append.new.self c.append.ensures.row c.append.ensures.tidy;
}
