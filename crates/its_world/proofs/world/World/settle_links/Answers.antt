use Rattle.its_world.proofs.FilingLaws.{settled_start, settled_more_links}
use Rattle.its_world.proofs.world.World.settle_links.Goals as goal

pub loop-l-init : goal.loop-l-init
loop-l-init c = settled_start c.args.self.now

pub loop-l-preserved : goal.loop-l-preserved
loop-l-preserved c = settled_more_links c.args.self.now c.loop-l.self c.resettle_link.new.self c.loop-l.l c.loop-l.invariant c.resettle_link.ensures
