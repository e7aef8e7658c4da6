use Rattle.its_monitor.specs.Kept.{Kept}
use Rattle.test_hostile.proofs.misfiled.last_of.Given as goal

abbrev pub invariant-loop-k : goal.invariant-loop-k
invariant-loop-k l = Kept l.m.world
