use Rattle.std.proofs.Common.{arith}
use Rattle.its_saving.specs.Parts.{job_part}
use Rattle.its_saving.proofs.WritingLaws.{each_all, each_cut, each_next, none_written}
use Rattle.its_saving.proofs.jobs.write_jobs.Goals as goal

pub loop-s-init : goal.loop-s-init
loop-s-init g c = none_written _ _ _

pub loop-s-preserved : goal.loop-s-preserved
loop-s-preserved g c = each_next _ _ (job_part c.args.w.now) _ _ _ _ _ _ _ c.new.ensures c.loop-s.invariant c.in_ok-write_slot.was c.write_slot.ensures

pub returns : goal.returns
returns g c = each_all _ _ (job_part c.args.w.now) _ _ _ c.loop-s.s 96 c.loop-s.invariant (omega (arith, c.loop-s-test.false))
    (omega (arith, c.loop-s.auto.s-end))

pub returns-in_err-write_slot : goal.returns-in_err-write_slot
returns-in_err-write_slot g c = each_cut _ _ (job_part c.args.w.now) _ _ _ _ _ _ _ _ 96 c.new.ensures c.loop-s.invariant c.in_err-write_slot.was
    c.write_slot.ensures (omega (arith, c.loop-s-test.true)) c.from_residual.ensures.0
