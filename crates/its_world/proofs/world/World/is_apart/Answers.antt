use Rattle.its_world.proofs.FilingLaws.{apart_already}
use Rattle.its_world.proofs.world.World.is_apart.Goals as goal

pub returns : goal.returns
returns c = λ h. apart_already c.args.self.now c.from.result c.args.slot c.linked.result (rw c.number.ensures.value at c.from.ensures)
    (c.is_waiting.ensures c.if-is_waiting.false) c.linked.ensures h
