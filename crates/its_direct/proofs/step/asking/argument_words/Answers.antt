use Rattle.std.proofs.Common.{arith, sym, ◌∙◌}
use Rattle.its_direct.proofs.AskLaws.{word_fails, word_last, word_more, words_over}
use Rattle.its_direct.proofs.step.asking.argument_words.Goals as goal

pub returns-then-has_bit_0-clause-reads : goal.returns-then-has_bit_0-clause-reads
returns-then-has_bit_0-clause-reads c =
    word_last _ _ _ _ _ _ _ _ c.loop-k.invariant.left _ c.push.new.self.items c.loop-k-test.true c.in-Ok.ensures.reads c.push.ensures.items
    (sym c.has_bit_0.ensures ∙ c.if-has_bit_0.true)

pub returns-in-Err-clause-reads : goal.returns-in-Err-clause-reads
returns-in-Err-clause-reads c = word_fails _ _ _ _ _ _ _ _ c.loop-k.invariant.left _ c.loop-k-test.true c.in-Err.ensures.reads

pub loop-k-preserved : goal.loop-k-preserved
loop-k-preserved c = record {
  words = let e = c.push.ensures.len in let w = c.loop-k.invariant.words in omega arith;
  room = let e = c.in-Ok.ensures.more in let r = c.loop-k.invariant.room in omega arith;
  left = word_more _ _ _ _ _ _ _ _ c.loop-k.invariant.left _ c.push.new.self.items c.loop-k-test.true c.in-Ok.ensures.reads
      c.push.ensures.items (sym c.has_bit_0.ensures ∙ c.if-has_bit_0.false);
}

pub returns-clause-reads : goal.returns-clause-reads
returns-clause-reads c = words_over _ _ _ _ _ _ _ c.loop-k.decode.items c.loop-k.invariant.left c.loop-k-test.false
