use Rattle.its_direct.proofs.EventLaws.{told_state, told_state_refused}
use Rattle.its_direct.proofs.plain.Plain.tell_state.Goals as goal

pub returns-in-Ok-clause-told : goal.returns-in-Ok-clause-told
returns-in-Ok-clause-told c = told_state c.args.self.now c.touch_only.new.self c.args.s _ c.within.ensures c.in-Ok.ensures.shown c.touch_only.ensures

pub returns-in-Err-clause-told : goal.returns-in-Err-clause-told
returns-in-Err-clause-told c = told_state_refused c.args.self.now c.args.self.now c.args.s _ c.in-Err.ensures.refused
