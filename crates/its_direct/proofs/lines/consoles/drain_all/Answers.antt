use Rattle.its_direct.proofs.ConsoleLaws.{draining_more}
use Rattle.its_direct.proofs.lines.consoles.drain_all.Goals as goal

pub loop-k-preserved : goal.loop-k-preserved
loop-k-preserved c = record { draining = draining_more _ _ _ _ _ _ c.loop-k.invariant.draining c.drain_one.ensures.rest c.drain_one.ensures.bytes }
