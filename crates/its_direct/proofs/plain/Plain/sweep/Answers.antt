use Rattle.its_direct.proofs.RemovalLaws.{swept_next}
use Rattle.its_direct.proofs.plain.Plain.sweep.Goals as goal

pub loop-slot-preserved : goal.loop-slot-preserved
loop-slot-preserved c = swept_next c.args.self.now c.loop-slot.self c.sweep_slot.new.self c.args.root c.loop-slot.slot c.loop-slot.invariant
    (rw c.new.ensures at c.sweep_slot.ensures)
