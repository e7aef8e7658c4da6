use Rattle.its_world.proofs.WaitListLaws.{taken_out, not_linked}
use Rattle.its_world.proofs.wait_lists.take_out.Goals as goal

pub returns-then-linked : goal.returns-then-linked
returns-then-linked c = taken_out _ _ _ _ (rw c.number-then-linked.ensures.value at c.from-then-linked.ensures) c.unlink.ensures.lists

pub returns-else-linked : goal.returns-else-linked
returns-else-linked c = not_linked _ _ _ _ (rw c.number.ensures.value at c.from.ensures) c.if-linked.false c.linked.ensures
