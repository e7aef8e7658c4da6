use Rattle.its_world.proofs.FilingLaws.{settled_start, settled_more}
use Rattle.its_world.proofs.world.World.settle_consoles.Goals as goal

pub loop-c-init : goal.loop-c-init
loop-c-init c = settled_start c.args.self.now

pub loop-c-preserved : goal.loop-c-preserved
loop-c-preserved c = settled_more c.args.self.now c.loop-c.self c.resettle.new.self c.loop-c.c c.loop-c.invariant (rw c.new.ensures at c.resettle.ensures)
