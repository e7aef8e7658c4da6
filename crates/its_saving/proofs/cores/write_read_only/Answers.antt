use Rattle.std.proofs.Common.{arith, refl}
use Rattle.its_word.specs.Core.{page_of}
use Rattle.its_core.specs.Cores.{core_at}
use Rattle.its_saved.specs.Saving.{read_only_line}
use Rattle.its_saving.proofs.CellLaws.{marks_are}
use Rattle.its_saving.proofs.WritingLaws.{each_all, each_cut, each_next, none_written, writes_at}
use Rattle.its_saving.proofs.cores.write_read_only.Goals as goal

pub loop-page-init : goal.loop-page-init
loop-page-init g c = none_written _ _ _

pub loop-page-preserved : goal.loop-page-preserved
loop-page-preserved g c = each_next _ _ (λ k. read_only_line c.args.s k (page_of (core_at c.args.core.now c.args.s) k)) _ _ _ _ _ _ _ refl
    c.loop-page.invariant c.in_ok-write_mark_of.was c.write_mark_of.ensures

pub returns : goal.returns
returns g c = writes_at _ _ (λ ls. ls) _ _ _ _ _ (marks_are c.args.s (core_at c.args.core.now c.args.s))
    (each_all _ _ (λ k. read_only_line c.args.s k (page_of (core_at c.args.core.now c.args.s) k)) _ _ _ c.loop-page.page 256 c.loop-page.invariant
    (omega (arith, c.loop-page-test.false)) (omega (arith, c.loop-page.auto.page-end)))

pub returns-in_err-write_mark_of : goal.returns-in_err-write_mark_of
returns-in_err-write_mark_of g c = writes_at _ _ (λ ls. ls) _ _ _ _ _ (marks_are c.args.s (core_at c.args.core.now c.args.s))
    (each_cut _ _ (λ k. read_only_line c.args.s k (page_of (core_at c.args.core.now c.args.s) k)) _ _ _ _ _ _ _ _ 256 refl c.loop-page.invariant
    c.in_err-write_mark_of.was c.write_mark_of.ensures (omega (arith, c.loop-page-test.true)) c.from_residual.ensures.0)
