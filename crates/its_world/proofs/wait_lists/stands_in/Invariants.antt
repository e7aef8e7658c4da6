use Rattle.its_world.specs.WaitLists.{Looked}
use Rattle.its_world.proofs.wait_lists.stands_in.Given as goal

abbrev pub invariant-loop-k : goal.invariant-loop-k
invariant-loop-k l = Looked l.wait_lists.lists l.head l.slot l.at l._k
