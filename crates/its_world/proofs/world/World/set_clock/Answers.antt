use Rattle.its_world.proofs.WorldLaws.{clock_becomes}
use Rattle.its_world.proofs.world.World.set_clock.Goals as goal

pub returns : goal.returns
returns c = clock_becomes c.args.self.now _ c.resettle_clock.new.self c.args.clock c.requires c.write_clock.ensures c.resettle_clock.ensures
