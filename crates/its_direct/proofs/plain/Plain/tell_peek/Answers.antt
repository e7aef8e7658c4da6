use Rattle.its_direct.proofs.EventLaws.{told_peek, told_peek_refused}
use Rattle.its_direct.proofs.plain.Plain.tell_peek.Goals as goal

pub returns-in-Ok-clause-told : goal.returns-in-Ok-clause-told
returns-in-Ok-clause-told c = told_peek c.args.self.now c.peek.new.self c.args.s c.in-Ok.ensures.done c.in-Ok.ensures.some

pub returns-in-Err-clause-told : goal.returns-in-Err-clause-told
returns-in-Err-clause-told c = told_peek_refused c.args.self.now c.peek.new.self c.args.s _ c.in-Err.ensures.refused.0 c.in-Err.ensures.refused.1
