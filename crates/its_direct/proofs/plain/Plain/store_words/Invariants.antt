use Rattle.its_direct.proofs.LoadedLaws.{Storing}
use Rattle.its_direct.proofs.plain.Plain.store_words.Given as goal

abbrev pub invariant-loop-k : goal.invariant-loop-k
invariant-loop-k l = record { storing : Storing l.fn.self l.self l.slot l.a l.words l.k }
