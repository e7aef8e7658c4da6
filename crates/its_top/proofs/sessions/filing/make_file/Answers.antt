use Rattle.its_top.proofs.PerformLaws.{file_performed, file_refused}
use Rattle.its_top.proofs.sessions.filing.make_file.Goals as goal

pub returns-in-Ok-clause-performed : goal.returns-in-Ok-clause-performed
returns-in-Ok-clause-performed c = file_performed _ _ _ _ _ _ c.in-Ok.ensures.done

pub returns-in-Err-clause-performed : goal.returns-in-Err-clause-performed
returns-in-Err-clause-performed c = file_refused _ _ _ _ _ _ _ _ c.in-Err.ensures.refused.calmed
