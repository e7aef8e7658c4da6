use Rattle.its_world.proofs.StorageLaws.{channel_becomes}
use Rattle.its_world.proofs.world.World.set_channel.Goals as goal

pub returns-then-is_some : goal.returns-then-is_some
returns-then-is_some c = channel_becomes c.args.self.now _ c.refile.new.self c.args.slot c.args.n c.args.channel c.write_channel.ensures c.refile.ensures
