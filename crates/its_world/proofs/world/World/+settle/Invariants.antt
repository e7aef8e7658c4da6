use Rattle.std.proofs.Common.{length}
use Rattle.its_links.specs.Lists.{list_at}
use Rattle.its_world.proofs.world.World.+settle.Given as goal

abbrev pub decreases-settle : goal.decreases-settle
decreases-settle l = length (list_at l.self.now.wait_lists.lists l.head)
