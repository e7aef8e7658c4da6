use Rattle.its_direct.proofs.FileLaws.{adding_more, adding_next}
use Rattle.its_direct.proofs.plain.Plain.add_words.Goals as goal

pub add_word-requires-clause-room : goal.add_word-requires-clause-room
add_word-requires-clause-room c = adding_next c.args.self.now c.loop-k.self c.args.id c.loop-k.k _ _ c.args.words.now
    c.loop-k.invariant.adding c.loop-k-test.true c.index-words-k.is c.requires.room

pub loop-k-preserved : goal.loop-k-preserved
loop-k-preserved c = record {
  adding = adding_more c.args.self.now c.loop-k.self c.add_word.new.self c.args.id c.loop-k.k _ _ c.args.words.now c.loop-k.invariant.adding
      c.loop-k-test.true c.index-words-k.is
      c.add_word.ensures.row c.add_word.ensures.file c.add_word.ensures.names c.add_word.ensures.place c.add_word.ensures.tidy;
}
