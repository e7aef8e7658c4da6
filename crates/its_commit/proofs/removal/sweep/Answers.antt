use Rattle.its_commit.proofs.RemovalLaws.{swept_more}
use Rattle.its_commit.proofs.removal.sweep.Goals as goal

pub loop-slot-preserved : goal.loop-slot-preserved
loop-slot-preserved c = record {
  swept = swept_more _ _ _ _ _ c.loop-slot.invariant.swept (rw c.new.ensures at c.sweep_slot.ensures.swept) c.sweep_slot.ensures.tidy;
  tidy = c.sweep_slot.ensures.tidy;
}
