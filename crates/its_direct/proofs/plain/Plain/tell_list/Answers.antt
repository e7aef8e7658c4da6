use Rattle.its_direct.proofs.EventLaws.{told_list, told_list_refused}
use Rattle.its_direct.proofs.plain.Plain.tell_list.Goals as goal

pub returns-in-Ok-clause-told : goal.returns-in-Ok-clause-told
returns-in-Ok-clause-told c = told_list c.args.self.now c.touch_only.new.self c.args.s c.args.a c.args.n _ c.within.ensures
    c.requires.address c.requires.some c.in-Ok.ensures.shown c.touch_only.ensures

pub returns-in-Err-clause-told : goal.returns-in-Err-clause-told
returns-in-Err-clause-told c = told_list_refused c.args.self.now c.args.self.now c.args.s c.args.a c.args.n _ c.in-Err.ensures.refused
