use Rattle.its_saving.proofs.WritingLaws.{first_broken, first_then}
use Rattle.its_saving.proofs.saving.write_files_on.Goals as goal

pub returns : goal.returns
returns g c = (first_then _ _ _ _ _ _ _ _ _ _ c.in_ok-write_files.was c.write_files.ensures
    (first_then _ _ _ _ _ _ _ _ _ _ c.in_ok-write_jobs.was c.write_jobs.ensures
    (first_then _ _ _ _ _ _ _ _ _ _ c.in_ok-write_superiors.was c.write_superiors.ensures
    (first_then _ _ _ _ _ _ _ _ _ _ c.in_ok-write_alarms.was c.write_alarms.ensures
    c.write_channels_on.ensures))))

pub returns-in_err-write_files : goal.returns-in_err-write_files
returns-in_err-write_files g c = (first_broken _ _ _ _ _ _ _ _ _ c.in_err-write_files.was c.write_files.ensures c.from_residual.ensures.0)

pub returns-in_err-write_jobs : goal.returns-in_err-write_jobs
returns-in_err-write_jobs g c = (first_then _ _ _ _ _ _ _ _ _ _ c.in_ok-write_files.was c.write_files.ensures
    (first_broken _ _ _ _ _ _ _ _ _ c.in_err-write_jobs.was c.write_jobs.ensures c.from_residual-in_err-write_jobs.ensures.0))

pub returns-in_err-write_superiors : goal.returns-in_err-write_superiors
returns-in_err-write_superiors g c = (first_then _ _ _ _ _ _ _ _ _ _ c.in_ok-write_files.was c.write_files.ensures
    (first_then _ _ _ _ _ _ _ _ _ _ c.in_ok-write_jobs.was c.write_jobs.ensures
    (first_broken _ _ _ _ _ _ _ _ _ c.in_err-write_superiors.was c.write_superiors.ensures c.from_residual-in_err-write_superiors.ensures.0)))

pub returns-in_err-write_alarms : goal.returns-in_err-write_alarms
returns-in_err-write_alarms g c = (first_then _ _ _ _ _ _ _ _ _ _ c.in_ok-write_files.was c.write_files.ensures
    (first_then _ _ _ _ _ _ _ _ _ _ c.in_ok-write_jobs.was c.write_jobs.ensures
    (first_then _ _ _ _ _ _ _ _ _ _ c.in_ok-write_superiors.was c.write_superiors.ensures
    (first_broken _ _ _ _ _ _ _ _ _ c.in_err-write_alarms.was c.write_alarms.ensures c.from_residual-in_err-write_alarms.ensures.0))))
