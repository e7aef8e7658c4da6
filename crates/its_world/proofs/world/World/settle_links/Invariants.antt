use Rattle.its_world.specs.WaitLists.{link_lists_to}
use Rattle.its_world.specs.Filed.{Resettled}
use Rattle.its_world.proofs.world.World.settle_links.Given as goal

abbrev pub invariant-loop-l : goal.invariant-loop-l
invariant-loop-l l = Resettled l.fn.self l.self (link_lists_to l.l)
