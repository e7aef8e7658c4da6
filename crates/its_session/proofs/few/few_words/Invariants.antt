use Rattle.std.proofs.Common.{◌≡◌, ◌++◌, length, map}
use Rattle.its_word.specs.Text.{words_of}
use Rattle.its_session.proofs.few.few_words.Given as goal

abbrev pub decreases-loop-run : goal.decreases-loop-run
decreases-loop-run l = length l.rest

abbrev pub invariant-loop-run : goal.invariant-loop-run
invariant-loop-run l = record {
  told : map (λ w. w.now) l.words.items ++ words_of l.rest ≡ words_of l.line;
}
