use Rattle.its_saving.specs.Keeping.{WordsFrom}
use Rattle.its_saving.proofs.keeping.keep_words.Given as goal

abbrev pub invariant-loop-k : goal.invariant-loop-k
invariant-loop-k l = WordsFrom l.core l.s l.from l.k
