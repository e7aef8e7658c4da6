use Rattle.std.proofs.Common.{arith}
use Rattle.its_shared.specs.Parts.{holder_at}
use Rattle.its_saved.specs.Saving.{holder_line}
use Rattle.its_saving.proofs.WritingLaws.{each_all, each_cut, each_next, none_written}
use Rattle.its_saving.proofs.consoles.write_holders.Goals as goal

pub loop-c-init : goal.loop-c-init
loop-c-init g c = none_written _ _ _

pub loop-c-preserved : goal.loop-c-preserved
loop-c-preserved g c = each_next _ _ (λ n. holder_line n (holder_at c.args.w.now.holders n)) _ _ _ _ _ _ _ c.new.ensures c.loop-c.invariant
    c.in_ok-write_holder_at.was c.write_holder_at.ensures

pub returns : goal.returns
returns g c = each_all _ _ (λ n. holder_line n (holder_at c.args.w.now.holders n)) _ _ _ c.loop-c.c 8 c.loop-c.invariant
    (omega (arith, c.loop-c-test.false)) (omega (arith, c.loop-c.auto.c-end))

pub returns-in_err-write_holder_at : goal.returns-in_err-write_holder_at
returns-in_err-write_holder_at g c = each_cut _ _ (λ n. holder_line n (holder_at c.args.w.now.holders n)) _ _ _ _ _ _ _ _ 8 c.new.ensures
    c.loop-c.invariant c.in_err-write_holder_at.was c.write_holder_at.ensures (omega (arith, c.loop-c-test.true)) c.from_residual.ensures.0
