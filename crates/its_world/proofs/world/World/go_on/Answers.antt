use Rattle.its_world.proofs.WorldLaws.{if_becomes}
use Rattle.its_world.proofs.world.World.go_on.Goals as goal

pub returns : goal.returns
returns c = if_becomes _ c.args.self.now _ c.refile.new.self c.args.slot _ _ c.write_go_on.ensures c.refile.ensures
