use Rattle.std.proofs.Common.{refl}
use Rattle.its_top.proofs.PerformLaws.{state_performed, state_refused}
use Rattle.its_top.proofs.sessions.performing.state.Goals as goal

pub returns-in-Ok-clause-performed : goal.returns-in-Ok-clause-performed
returns-in-Ok-clause-performed c = λ b. state_performed _ b _ _ _ _ refl tt c.in-Ok.ensures.shown c.in-Ok.ensures.unwinds

pub returns-in-Err-clause-performed : goal.returns-in-Err-clause-performed
returns-in-Err-clause-performed c = λ b. state_refused _ b b _ _ _ c.in-Err.ensures.refused.calmed
