use Rattle.std.proofs.Common.{arith, refl}
use Rattle.its_saving.specs.Parts.{nth_lines}
use Rattle.its_saving.proofs.RowLaws.{files_each}
use Rattle.its_saving.proofs.WritingLaws.{each_all, each_cut, each_next, none_written, writes_at}
use Rattle.its_saving.proofs.files.write_files.Goals as goal

pub loop-k-init : goal.loop-k-init
loop-k-init g c = none_written _ _ _

pub loop-k-preserved : goal.loop-k-preserved
loop-k-preserved g c = each_next _ _ (nth_lines c.args.files.now) _ _ _ _ _ _ _ refl c.loop-k.invariant c.in_ok-write_nth.was c.write_nth.ensures

pub returns : goal.returns
returns g c = writes_at _ _ (λ ls. ls) _ _ _ _ _ (files_each c.args.files.now 256 (omega (arith, c.seen.ensures.files)))
    (each_all _ _ (nth_lines c.args.files.now) _ _ _ c.loop-k.k 256 c.loop-k.invariant (omega (arith, c.loop-k-test.false))
    (omega (arith, c.loop-k.auto.k-end)))

pub returns-in_err-write_nth : goal.returns-in_err-write_nth
returns-in_err-write_nth g c = writes_at _ _ (λ ls. ls) _ _ _ _ _ (files_each c.args.files.now 256 (omega (arith, c.seen.ensures.files)))
    (each_cut _ _ (nth_lines c.args.files.now) _ _ _ _ _ _ _ _ 256 refl c.loop-k.invariant c.in_err-write_nth.was c.write_nth.ensures
    (omega (arith, c.loop-k-test.true)) c.from_residual.ensures.0)
