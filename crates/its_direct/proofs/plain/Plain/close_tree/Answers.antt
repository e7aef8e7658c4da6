use Rattle.std.proofs.Common.{◌+◌, subst, sym}
use Rattle.its_jobs.specs.Table.{in_tree, superior_at}
use Rattle.its_direct.specs.Plain.{Tidy}
use Rattle.its_direct.specs.Removal.{ClosesTree}
use Rattle.its_direct.specs.declared.plain.Plain.{Plain}
use Rattle.its_direct.proofs.RemovalLaws.{tree_gone, tree_kept}
use Rattle.its_direct.proofs.plain.Plain.close_tree.Goals.{else-is_removed, then-is_removed}
use Rattle.its_direct.proofs.plain.Plain.close_tree.Goals as goal

pub loop-slot-preserved : goal.loop-slot-preserved
loop-slot-preserved c =
    let old = c.args.self.now in
    let now = c.loop-slot.self in
    let r = c.args.root in
    let k = c.loop-slot.slot in
    elim c.if-is_removed.branch [
      | then-is_removed w ↦ record {
        closed = subst (λ (p : Plain). ClosesTree (in_tree (superior_at old.jobs) r) old p (k + 1)) (sym w.self-is)
            (tree_gone old now w.close_all.new.self r k _ (rw (c.number.ensures.value, c.new-slot.ensures) at c.is_removed.ensures)
            w.if-is_removed.true c.loop-slot.invariant.closed
            (rw c.new-slot.ensures at w.close_all.ensures.closed));
        tidy = subst Tidy (sym w.self-is) w.close_all.ensures.tidy;
      }
      | else-is_removed w ↦ record {
        closed = subst (λ (p : Plain). ClosesTree (in_tree (superior_at old.jobs) r) old p (k + 1)) (sym w.self-is)
            (tree_kept old now r k _ (rw (c.number.ensures.value, c.new-slot.ensures) at c.is_removed.ensures) w.if-is_removed.false
            c.loop-slot.invariant.closed);
        tidy = subst Tidy (sym w.self-is) c.loop-slot.invariant.tidy;
      }
    ]
