use Rattle.std.proofs.Common.{arith}
use Rattle.its_saving.proofs.BoundLaws.{core_all, core_first, core_next}
use Rattle.its_saving.proofs.keeping.keep_core.Goals as goal

pub loop-page-init : goal.loop-page-init
loop-page-init c = record { core = core_first _ _ c.keep_words.ensures; later = omega arith }

pub loop-page-preserved : goal.loop-page-preserved
loop-page-preserved c = record {
  core = core_next _ _ c.loop-page.page c.loop-page.invariant.core c.keep_page.ensures;
  later = omega arith;
}

pub returns : goal.returns
returns c = core_all _ _ c.loop-page.page (omega (arith, c.loop-page-test.false, c.loop-page.auto.page-end)) c.loop-page.invariant.core
