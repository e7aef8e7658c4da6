use Rattle.std.proofs.Common.{sym, ◌∙◌, refl}
use Rattle.its_world.proofs.StorageLaws.{job_missing}
use Rattle.its_monitor.proofs.JobLineLaws.{alarm_lands, alarm_plain, alarm_kept, alarm_early, alarm_none}
use Rattle.its_monitor.proofs.monitor.Monitor.set_alarm.Goals as goal

pub returns-then-not-may_come-clause-refused : goal.returns-then-not-may_come-clause-refused
returns-then-not-may_come-clause-refused c = alarm_early _ _ _ _ _ c.may_come.ensures c.if-not-may_come.true c.requires.kept

pub returns-then-not-has_job-clause-refused : goal.returns-then-not-has_job-clause-refused
returns-then-not-has_job-clause-refused c = alarm_none _ _ _ _ _ _ c.may_come.ensures c.if-not-may_come.false refl
    (job_missing c.args.self.now.world c.args.s (sym c.has_job.ensures ∙ c.if-not-has_job.true)) c.requires.kept

pub returns-clause-done : goal.returns-clause-done
returns-clause-done c = alarm_lands _ c.calm.new.w _ _ _ _ _ c.may_come.ensures c.if-not-may_come.false
    (sym c.has_job.ensures ∙ c.if-not-has_job.false) c.requires.kept c.calm.ensures c.put_alarm.ensures

pub returns-clause-plain : goal.returns-clause-plain
returns-clause-plain c = alarm_plain _ c.calm.new.w _ _ _ _ _ c.may_come.ensures c.if-not-may_come.false
    (sym c.has_job.ensures ∙ c.if-not-has_job.false) c.requires.kept c.calm.ensures c.put_alarm.ensures

pub returns-clause-kept : goal.returns-clause-kept
returns-clause-kept c = alarm_kept _ c.calm.new.w _ _ _ _ _ c.may_come.ensures c.if-not-may_come.false
    (sym c.has_job.ensures ∙ c.if-not-has_job.false) c.requires.kept c.calm.ensures c.put_alarm.ensures
