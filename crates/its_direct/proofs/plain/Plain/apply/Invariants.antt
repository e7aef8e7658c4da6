use Rattle.its_direct.specs.Plain.{Tidy}
use Rattle.its_direct.proofs.ActLaws.{Applying}
use Rattle.its_direct.proofs.plain.Plain.apply.Given as goal

abbrev pub invariant-loop-change : goal.invariant-loop-change
invariant-loop-change l = record { applying : Applying l.changes l.slot l.fn.self l.self l.change-index; tidy : Tidy l.self }
