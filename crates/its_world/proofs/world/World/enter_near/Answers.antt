use Rattle.its_world.proofs.WorldLaws.{slot_becomes}
use Rattle.its_world.proofs.world.World.enter_near.Goals as goal

pub returns : goal.returns
returns c = slot_becomes c.args.self.now _ c.refile.new.self c.args.slot _ _ c.write_enter_near.ensures c.refile.ensures
