use Rattle.std.proofs.Common.{None, Some, refl, sym, ◌∙◌}
use Rattle.its_saved.specs.Saving.{alarm_by}
use Rattle.its_saving.proofs.WritingLaws.{none_at, writes_at}
use Rattle.its_saving.proofs.jobs.write_alarm.Goals as goal

pub returns-in-Some : goal.returns-in-Some
returns-in-Some g c = writes_at _ _ (alarm_by c.args.s) _ _ _ (Some c.in-Some.alarm) _ (sym c.in-Some.is ∙ c.alarm.ensures) c.write_period.ensures

pub returns-in-None : goal.returns-in-None
returns-in-None g c = none_at _ _ (alarm_by c.args.s) _ _ None _ (sym c.in-None.is ∙ c.alarm.ensures) refl
