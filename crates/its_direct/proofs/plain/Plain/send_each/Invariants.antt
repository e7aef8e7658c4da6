use Rattle.its_direct.proofs.EachLaws.{Sending}
use Rattle.its_direct.proofs.plain.Plain.send_each.Given as goal

abbrev pub invariant-loop-k : goal.invariant-loop-k
invariant-loop-k l = record { sending : Sending l.fn.self l.self l.l l.words l.k }
