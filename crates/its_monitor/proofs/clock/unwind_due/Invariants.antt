use Rattle.its_monitor.specs.Rung.{Rousing}
use Rattle.its_monitor.proofs.clock.unwind_due.Given as goal

abbrev pub invariant-loop-slot : goal.invariant-loop-slot
invariant-loop-slot l = record { rousing : Rousing l.clock l.slot l.fn.w l.w }
