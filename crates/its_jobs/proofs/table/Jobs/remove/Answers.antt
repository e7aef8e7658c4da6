-- what is left is a tree
use Rattle.its_jobs.proofs.TableLaws.{removed}
use Rattle.its_jobs.proofs.table.Jobs.remove.Goals as goal

pub invariant_of-self : goal.invariant_of-self
invariant_of-self c =
    let within = (rw c.index-place.ensures.value at c.index-place.ensures.below) in
    rw c.index-place.ensures.value (record {
      tree = removed _ _ _ c.self.invariant.tree within (rw (← c.self.view_is) at c.requires.leaf);
      few = c.self.invariant.few;
    })
