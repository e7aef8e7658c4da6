use Rattle.its_world.proofs.BlockedLaws.{blocked_when, blocked_not}
use Rattle.its_world.proofs.world.World.is_blocked.Goals as goal

pub returns-then-linked : goal.returns-then-linked
returns-then-linked c = blocked_when c.args.self.now c.args.slot _ _ _ (rw c.number.ensures.value at c.from.ensures)
    (c.seen.ensures.once c.args.slot) c.requires.stands c.if-linked.true c.linked.ensures c.is_awake.ensures

pub returns-else-linked : goal.returns-else-linked
returns-else-linked c = blocked_not c.args.self.now c.args.slot _ _ (rw c.number.ensures.value at c.from.ensures) c.if-linked.false c.linked.ensures
