use Rattle.its_world.proofs.BlockedLaws.{awake_within}
use Rattle.its_world.proofs.world.World.stands_awake.Goals as goal

pub stands_in-requires-clause-head : goal.stands_in-requires-clause-head
stands_in-requires-clause-head c = awake_within c.args.self.now c.args.slot c.in-Some.head _ c.awake_at.ensures c.in-Some.is
