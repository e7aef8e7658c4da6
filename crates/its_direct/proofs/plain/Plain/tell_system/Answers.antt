use Rattle.its_direct.proofs.StateLaws.{restores_system}
use Rattle.its_direct.proofs.plain.Plain.tell_system.Goals as goal

pub returns-clause-restores : goal.returns-clause-restores
returns-clause-restores c = restores_system c.args.self.now c.version.new.self c.set_place.new.self c.args.v c.version.ensures.done c.set_place.ensures
