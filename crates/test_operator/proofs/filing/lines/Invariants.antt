use Rattle.its_monitor.specs.Kept.{Kept}
use Rattle.test_operator.proofs.filing.lines.Given as goal

abbrev pub invariant-loop-line : goal.invariant-loop-line
invariant-loop-line g l = Kept l.m.world
