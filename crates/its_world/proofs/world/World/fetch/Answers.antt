use Rattle.its_world.proofs.WorldLaws.{if_becomes}
use Rattle.its_world.proofs.world.World.fetch.Goals as goal

pub returns-clause-written : goal.returns-clause-written
returns-clause-written c = if_becomes _ c.args.self.now _ c.refile.new.self c.args.slot _ _ c.write_fetch-answer.ensures.written c.refile.ensures
