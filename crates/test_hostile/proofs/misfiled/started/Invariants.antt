use Rattle.its_monitor.specs.Kept.{Kept}
use Rattle.test_hostile.proofs.misfiled.started.Given as goal

abbrev pub invariant-loop-a : goal.invariant-loop-a
invariant-loop-a g l = Kept l.m.world
