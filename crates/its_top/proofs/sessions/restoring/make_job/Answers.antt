use Rattle.its_top.proofs.RestoringLaws.{job_restored, job_refused}
use Rattle.its_top.proofs.sessions.restoring.make_job.Goals as goal

pub returns-in-Ok-clause-performed : goal.returns-in-Ok-clause-performed
returns-in-Ok-clause-performed c = job_restored _ _ _ _ _ _ _ c.in-Ok.ensures.done

pub returns-in-Err-clause-performed : goal.returns-in-Err-clause-performed
returns-in-Err-clause-performed c = job_refused _ _ _ _ _ _ _ _ _ c.in-Err.ensures.refused
