use Rattle.its_monitor.specs.Kept.{Kept}
use Rattle.test_operator.proofs.operator.lines.Given as goal

abbrev pub invariant-loop-slot : goal.invariant-loop-slot
invariant-loop-slot g l = Kept l.m.world
