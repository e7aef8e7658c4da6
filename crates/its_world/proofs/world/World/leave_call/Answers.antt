use Rattle.its_world.proofs.WorldLaws.{slot_becomes}
use Rattle.its_world.proofs.world.World.leave_call.Goals as goal

pub returns : goal.returns
returns c = slot_becomes c.args.self.now _ c.refile.new.self c.args.slot _ _ c.write_leave_call.ensures c.refile.ensures
