use Rattle.its_direct.specs.Clock.{Periods, RangBelow}
use Rattle.its_direct.specs.Plain.{Tidy}
use Rattle.its_direct.proofs.plain.Plain.alarms_go_off.Given as goal

abbrev pub invariant-loop-slot : goal.invariant-loop-slot
invariant-loop-slot l = record { rang : RangBelow l.clock l.slot l.fn.self l.self; periods : Periods l.self; tidy : Tidy l.self }
