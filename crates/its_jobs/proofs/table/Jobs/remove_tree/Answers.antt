-- what is left is a tree
use Rattle.its_jobs.proofs.TreeLaws.{tree_left, superiors_left}
use Rattle.its_jobs.proofs.table.Jobs.remove_tree.Goals as goal

pub invariant_of-self : goal.invariant_of-self
invariant_of-self c =
    let left = rw (c.number.ensures.value, c.deref.ensures.value) at c.clear_tree.ensures.left in
    let cleared = rw c.deref-2.ensures.value at c.clear_superiors.ensures.left in
    record {
      tree = tree_left _ _ _ _ _ c.self.invariant.tree left cleared c.clear_tree.ensures.length c.clear_superiors.ensures.length;
      few = c.self.invariant.few;
    }

pub returns-clause-superior : goal.returns-clause-superior
returns-clause-superior c =
    let left = rw (c.number.ensures.value, c.deref.ensures.value) at c.clear_tree.ensures.left in
    let cleared = rw c.deref-2.ensures.value at c.clear_superiors.ensures.left in
    rw (← c.self.view_is) (superiors_left _ _ _ _ _ c.self.invariant.tree left cleared)
