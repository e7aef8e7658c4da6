use Rattle.std.proofs.Common.{ℕ, Some, rules, subst, sym, ◌∙◌}
use Rattle.its_records.specs.declared.jobs.Job.{Job}
use Rattle.its_direct.specs.Clock.{AlarmBecomes}
use Rattle.its_direct.specs.Plain.{JobBecomes}
use Rattle.its_direct.proofs.ClockLaws.{went, went_periods, went_tidy}
use Rattle.its_direct.proofs.plain.Plain.go_off.Goals as goal

pub returns-clause-rang : goal.returns-clause-rang
returns-clause-rang c =
    went c.args.clock c.args.period c.args.next c.args.self.now c.put_job.new.self c.put_alarm.new.self c.touch.new.self c.args.slot _
    c.requires.tidy (sym c.job.ensures ∙ c.in-Some.is) c.requires.alarm c.requires.due
    (subst (λ (j : Job). JobBecomes c.args.self.now c.put_job.new.self c.args.slot j) c.with_alr.ensures c.put_job.ensures)
    (subst (λ (n : ℕ). AlarmBecomes c.put_job.new.self c.put_alarm.new.self c.args.slot (Some (c.args.period, n))) c.time_after.ensures
    c.put_alarm.ensures) c.touch.ensures (search rules)

pub returns-clause-periods : goal.returns-clause-periods
returns-clause-periods c =
    went_periods c.args.clock c.args.period c.args.next c.args.self.now c.put_job.new.self c.put_alarm.new.self c.touch.new.self c.args.slot
    _ c.requires.tidy (sym c.job.ensures ∙ c.in-Some.is) c.requires.alarm c.requires.due
    (subst (λ (j : Job). JobBecomes c.args.self.now c.put_job.new.self c.args.slot j) c.with_alr.ensures c.put_job.ensures)
    (subst (λ (n : ℕ). AlarmBecomes c.put_job.new.self c.put_alarm.new.self c.args.slot (Some (c.args.period, n))) c.time_after.ensures
    c.put_alarm.ensures) c.touch.ensures c.requires.periods

pub returns-clause-tidy : goal.returns-clause-tidy
returns-clause-tidy c =
    went_tidy c.args.clock c.args.period c.args.next c.args.self.now c.put_job.new.self c.put_alarm.new.self c.touch.new.self c.args.slot _
    c.requires.tidy (sym c.job.ensures ∙ c.in-Some.is) c.requires.alarm c.requires.due
    (subst (λ (j : Job). JobBecomes c.args.self.now c.put_job.new.self c.args.slot j) c.with_alr.ensures c.put_job.ensures)
    (subst (λ (n : ℕ). AlarmBecomes c.put_job.new.self c.put_alarm.new.self c.args.slot (Some (c.args.period, n))) c.time_after.ensures
    c.put_alarm.ensures) c.touch.ensures
