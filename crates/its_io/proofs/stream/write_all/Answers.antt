-- each turn writes the front of the rest
use Rattle.its_io.proofs.ByteLaws.{wrote_more}
use Rattle.std.proofs.Common.{◌∙◌}
use Rattle.its_io.proofs.stream.write_all.Goals as goal

pub loop-rest-preserved : goal.loop-rest-preserved
loop-rest-preserved g c = record {
  so_far = wrote_more _ _ _ _ _ _ c.loop-rest.invariant.so_far c.in_ok-count.ensures.bytes;
  unfailed = c.in_ok-count.ensures.cause.kept ∙ c.loop-rest.invariant.unfailed;
}
