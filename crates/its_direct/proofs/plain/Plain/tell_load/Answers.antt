use Rattle.its_direct.proofs.EventLaws.{told_load, told_load_refused}
use Rattle.its_direct.proofs.plain.Plain.tell_load.Goals as goal

pub returns-in-Ok-clause-told : goal.returns-in-Ok-clause-told
returns-in-Ok-clause-told c = told_load c.args.self.now c.load.new.self c.args.u c.args.j _ c.args.console c.in-Ok.ensures.done

pub returns-in-Err-clause-told : goal.returns-in-Err-clause-told
returns-in-Err-clause-told c = told_load_refused c.args.self.now c.load.new.self c.args.u c.args.j c.args.console _ c.in-Err.ensures.refused
