use Rattle.std.proofs.Common.{arith}
use Rattle.its_shared.specs.Parts.{alarm_at}
use Rattle.its_saved.specs.Saving.{alarm_by}
use Rattle.its_saving.proofs.WritingLaws.{each_all, each_cut, each_next, none_written}
use Rattle.its_saving.proofs.jobs.write_alarms.Goals as goal

pub loop-s-init : goal.loop-s-init
loop-s-init g c = none_written _ _ _

pub loop-s-preserved : goal.loop-s-preserved
loop-s-preserved g c = each_next _ _ (λ k. alarm_by k (alarm_at c.args.w.now.alarms.items k)) _ _ _ _ _ _ _ c.new.ensures c.loop-s.invariant
    c.in_ok-write_alarm.was c.write_alarm.ensures

pub returns : goal.returns
returns g c = each_all _ _ (λ k. alarm_by k (alarm_at c.args.w.now.alarms.items k)) _ _ _ c.loop-s.s 96 c.loop-s.invariant
    (omega (arith, c.loop-s-test.false)) (omega (arith, c.loop-s.auto.s-end))

pub returns-in_err-write_alarm : goal.returns-in_err-write_alarm
returns-in_err-write_alarm g c = each_cut _ _ (λ k. alarm_by k (alarm_at c.args.w.now.alarms.items k)) _ _ _ _ _ _ _ _ 96 c.new.ensures
    c.loop-s.invariant c.in_err-write_alarm.was c.write_alarm.ensures (omega (arith, c.loop-s-test.true)) c.from_residual.ensures.0
