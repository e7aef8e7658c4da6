use Rattle.its_direct.proofs.FileLaws.{Adding}
use Rattle.its_direct.proofs.plain.Plain.add_words.Given as goal

abbrev pub invariant-loop-k : goal.invariant-loop-k
invariant-loop-k l = record { adding : Adding l.fn.self l.self l.id l.words l.k }
