use Rattle.its_direct.proofs.StateLaws.{restores_turn}
use Rattle.its_direct.proofs.plain.Plain.tell_turn.Goals as goal

pub returns-clause-restores : goal.returns-clause-restores
returns-clause-restores c = λ s. restores_turn c.args.self.now c.touch_none.new.self s c.requires.place c.touch_none.ensures
