use Rattle.its_direct.proofs.EventLaws.{told_nothing}
use Rattle.its_direct.proofs.plain.Plain.tell_nothing.Goals as goal

pub returns-clause-told : goal.returns-clause-told
returns-clause-told c = told_nothing c.args.self.now c.touch_none.new.self c.touch_none.ensures
