use Rattle.its_world.proofs.FilingLaws.{settled_link}
use Rattle.its_world.proofs.world.World.resettle_link.Goals as goal

pub returns : goal.returns
returns c = settled_link c.args.self.now c.settle_any.new.self c.settle_any-2.new.self c.settle_any-3.new.self c.args.link c.from-l.result c.from-l.ensures
    c.settle_any.ensures c.settle_any-2.ensures c.settle_any-3.ensures
