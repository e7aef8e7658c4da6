use Rattle.its_direct.specs.Plain.{Tidy}
use Rattle.its_direct.specs.Removal.{Closes}
use Rattle.its_direct.proofs.plain.Plain.close_all.Given as goal

abbrev pub invariant-loop-n : goal.invariant-loop-n
invariant-loop-n l = record { closed : Closes l.fn.self l.self l.slot l.n; tidy : Tidy l.self }
