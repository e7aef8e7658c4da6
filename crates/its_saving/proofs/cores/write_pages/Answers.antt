use Rattle.std.proofs.Common.{arith}
use Rattle.its_core.specs.Cores.{core_at}
use Rattle.its_saving.proofs.CellLaws.{begun_of, page_all, page_begun, page_start, page_then, taken_of, takes_begun, takes_ok}
use Rattle.its_saving.proofs.cores.write_pages.Goals as goal

pub loop-page-init : goal.loop-page-init
loop-page-init g c = record { end = c.requires.end; taken = page_start _ _ (core_at c.args.core.now c.args.s) _ _ _ }

pub loop-page-preserved : goal.loop-page-preserved
loop-page-preserved g c = record {
  end = c.write_page.ensures.end;
  taken = page_then _ _ (core_at c.args.core.now c.args.s) _ _ _ _ _ _ _ _ _ c.loop-page.page c.loop-page.invariant.taken
      (taken_of _ _ _ _ _ _ _ _ _ _ _ c.in_ok-write_page.was c.write_page.ensures.takes);
}

pub returns-clause-takes : goal.returns-clause-takes
returns-clause-takes g c = takes_ok _ _ _ _ _ _ _ _ _ _
    (page_all _ _ (core_at c.args.core.now c.args.s) _ _ _ _ _ _ c.loop-page.page c.loop-page.invariant.taken (omega (arith, c.loop-page-test.false))
    (omega (arith, c.loop-page.auto.page-end)))

pub returns-in_err-write_page-clause-takes : goal.returns-in_err-write_page-clause-takes
returns-in_err-write_page-clause-takes g c = takes_begun _ _ _ _ _ _ _ _ _ _ c.from_residual.ensures.0
    (page_begun _ _ (core_at c.args.core.now c.args.s) _ _ _ _ _ _ _ c.loop-page.page c.loop-page-test.true c.loop-page.invariant.taken
    (begun_of _ _ _ _ _ _ _ _ _ _ _ c.in_err-write_page.was c.write_page.ensures.takes))
