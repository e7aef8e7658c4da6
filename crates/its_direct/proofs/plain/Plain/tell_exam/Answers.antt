use Rattle.its_direct.proofs.EventLaws.{told_exam, told_exam_refused}
use Rattle.its_direct.proofs.plain.Plain.tell_exam.Goals as goal

pub returns-in-Ok-clause-told : goal.returns-in-Ok-clause-told
returns-in-Ok-clause-told c = told_exam c.args.self.now c.touch_only.new.self c.args.s c.args.a c.args.n _ c.within.ensures
    c.in-Ok.ensures.shown c.touch_only.ensures

pub returns-in-Err-clause-told : goal.returns-in-Err-clause-told
returns-in-Err-clause-told c = told_exam_refused c.args.self.now c.args.self.now c.args.s c.args.a c.args.n _ c.in-Err.ensures.refused
