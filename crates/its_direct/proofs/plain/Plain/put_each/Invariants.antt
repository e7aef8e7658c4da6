use Rattle.its_direct.proofs.EachLaws.{Putting}
use Rattle.its_direct.proofs.plain.Plain.put_each.Given as goal

abbrev pub invariant-loop-k : goal.invariant-loop-k
invariant-loop-k l = record { putting : Putting l.fn.self l.self l.c l.bytes l.k }
