use Rattle.its_direct.proofs.StateLaws.{restores_ready}
use Rattle.its_direct.proofs.plain.Plain.tell_ready.Goals as goal

pub returns-clause-restores : goal.returns-clause-restores
returns-clause-restores c = restores_ready c.args.self.now c.set_place.new.self c.touch_none.new.self c.set_place.ensures c.touch_none.ensures
