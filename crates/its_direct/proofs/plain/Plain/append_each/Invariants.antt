use Rattle.its_direct.proofs.EachLaws.{Appending}
use Rattle.its_direct.proofs.plain.Plain.append_each.Given as goal

abbrev pub invariant-loop-k : goal.invariant-loop-k
invariant-loop-k l = record { appending : Appending l.fn.self l.self l.s l.n l.words l.k }
