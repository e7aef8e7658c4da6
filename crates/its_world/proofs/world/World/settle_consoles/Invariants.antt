use Rattle.its_world.specs.WaitLists.{lists_to}
use Rattle.its_world.specs.Filed.{Resettled}
use Rattle.its_world.proofs.world.World.settle_consoles.Given as goal

abbrev pub invariant-loop-c : goal.invariant-loop-c
invariant-loop-c l = Resettled l.fn.self l.self (lists_to l.c)
