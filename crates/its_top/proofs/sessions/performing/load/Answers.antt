use Rattle.its_top.proofs.PerformLaws.{load_performed, load_refused}
use Rattle.its_top.proofs.sessions.performing.load.Goals as goal

pub returns-in-Ok-clause-performed : goal.returns-in-Ok-clause-performed
returns-in-Ok-clause-performed c = load_performed _ _ _ _ _ _ _ c.in-Ok.ensures.done

pub returns-in-Err-clause-performed : goal.returns-in-Err-clause-performed
returns-in-Err-clause-performed c = load_refused _ _ _ _ _ _ _ _ c.in-Err.ensures.refused
