use Rattle.std.proofs.Common.{◌+◌, sym, subst}
use Rattle.its_world.specs.declared.world.World.{World}
use Rattle.its_monitor.specs.Rung.{Rousing}
use Rattle.its_monitor.proofs.RungLaws.{rousing_start, rousing_more, rousing_skip}
use Rattle.its_monitor.proofs.clock.unwind_due.Goals as goal
use Rattle.its_monitor.proofs.clock.unwind_due.Goals.{then-is_due, else-is_due}

pub loop-slot-init : goal.loop-slot-init
loop-slot-init c = record { rousing = rousing_start c.args.clock c.args.w.now c.requires.sound c.requires.tidy }

pub loop-slot-preserved : goal.loop-slot-preserved
loop-slot-preserved c = record {
  rousing = elim c.if-is_due.branch [
    | then-is_due w ↦
        subst (λ (v : World). Rousing c.args.clock (c.loop-slot.slot + 1) c.args.w.now v) (sym w.w-is)
        (rousing_more c.args.clock c.loop-slot.slot c.args.w.now c.loop-slot.w _ c.is_due.result c.loop-slot-test.true
        c.loop-slot.invariant.rousing (rw c.new-slot.ensures at c.is_due.ensures) w.if-is_due.true
        (rw c.new-slot.ensures at w.unwind.ensures.unwinds) w.unwind.ensures.same w.unwind.ensures.sound w.unwind.ensures.tidy
        (rw c.new-slot.ensures at w.unwind.ensures.pages))
    | else-is_due w ↦
        subst (λ (v : World). Rousing c.args.clock (c.loop-slot.slot + 1) c.args.w.now v) (sym w.w-is)
        (rousing_skip c.args.clock c.loop-slot.slot c.args.w.now c.loop-slot.w c.is_due.result c.loop-slot-test.true
        c.loop-slot.invariant.rousing (rw c.new-slot.ensures at c.is_due.ensures) w.if-is_due.false)
  ];
}
