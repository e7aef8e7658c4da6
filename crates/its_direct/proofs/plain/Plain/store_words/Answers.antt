use Rattle.its_direct.proofs.LoadedLaws.{storing_more, storing_room}
use Rattle.its_direct.proofs.plain.Plain.store_words.Goals as goal

pub load_word-requires-clause-room : goal.load_word-requires-clause-room
load_word-requires-clause-room c = storing_room c.args.self.now c.loop-k.self c.args.slot c.args.a c.loop-k.k _ _ c.args.words.now
    c.loop-k.invariant.storing c.loop-k-test.true c.index-words-k.is c.requires.room

pub loop-k-preserved : goal.loop-k-preserved
loop-k-preserved c = record {
  storing = storing_more c.args.self.now c.loop-k.self c.load_word.new.self c.args.slot c.args.a c.loop-k.k _ _ c.args.words.now
      c.loop-k.invariant.storing c.loop-k-test.true c.index-words-k.is
      c.load_word.ensures.row c.load_word.ensures.job c.load_word.ensures.place c.load_word.ensures.tidy;
}
