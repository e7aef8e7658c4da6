-- none is below if the loop found no first
use Rattle.std.proofs.Common.{sym, ◌∙◌}
use Rattle.its_records.proofs.TreeLaws.{nth_here, nth_next, nth_skip, nth_end}
use Rattle.its_jobs.proofs.TableLaws.{none_at_all}
use Rattle.its_jobs.proofs.table.nth_below.Goals as goal
use Rattle.its_jobs.proofs.table.nth_below.Goals.{then-is_below+else-left-eq0, else-is_below}

pub returns-clause-none : goal.returns-clause-none
returns-clause-none c = λ e n j. none_at_all c.args.superiors.now c.args.slot c.requires.length
    (rw (← e) (sym c.loop-other.invariant ∙ nth_end _ _ _ _ c.loop-other-test.false)) j

pub returns-then-left-eq0-clause-job : goal.returns-then-left-eq0-clause-job
returns-then-left-eq0-clause-job c =
    let below = sym (rw c.new-other.ensures at c.is_below.ensures) ∙ c.if-is_below.true in
    rw c.new-other.ensures (sym (nth_here _ _ _ _ c.loop-other-test.true below c.if-left-eq0.true) ∙ c.loop-other.invariant)

pub loop-other-preserved : goal.loop-other-preserved
loop-other-preserved c =
    let is = rw c.new-other.ensures at c.is_below.ensures in
    elim c.if-is_below.branch [
      | then-is_below+else-left-eq0 w ↦ rw w.left-is (sym (nth_next _ _ _ _ c.loop-other-test.true (sym is ∙ w.if-is_below.true)
          w.if-left-eq0.false) ∙ c.loop-other.invariant)
      | else-is_below w ↦ rw w.left-is (sym (nth_skip _ _ _ _ c.loop-other-test.true (sym is ∙ w.if-is_below.false)) ∙ c.loop-other.invariant)
    ]
