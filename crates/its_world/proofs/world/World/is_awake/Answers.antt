use Rattle.its_world.proofs.BlockedLaws.{not_awake}
use Rattle.its_world.proofs.world.World.is_awake.Goals as goal

pub returns-then-is_asleep : goal.returns-then-is_asleep
returns-then-is_asleep c = not_awake (c.is_asleep.ensures c.if-is_asleep.true)
