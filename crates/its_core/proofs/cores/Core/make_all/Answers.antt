use Rattle.std.proofs.Common.{◌∙◌}
use Rattle.its_word.proofs.StoreLaws.{making_goes_on}
use Rattle.its_core.proofs.cores.Core.make_all.Goals as goal

pub loop-s-preserved : goal.loop-s-preserved
loop-s-preserved c = record {
  making = making_goes_on _ _ _ _ _ _ _ c.s-item.is c.loop-s.invariant.making c.loop-s-test.true c.make.ensures.stored;
  reserved = c.make.ensures.reserved ∙ c.loop-s.invariant.reserved;
  frames = c.make.ensures.frames ∙ c.loop-s.invariant.frames;
}
