use Rattle.its_jobs.proofs.TreeLaws.{placed}
use Rattle.its_jobs.proofs.table.Jobs.create_at.Goals as goal

pub invariant_of-self : goal.invariant_of-self
invariant_of-self c =
    let within = (rw c.index-place.ensures.value at c.index-place.ensures.below) in
    rw c.index-place.ensures.value (record {
      tree = placed _ _ _ _ c.self.invariant.tree within (rw (← c.self.view_is) at c.requires.empty);
      few = c.self.invariant.few;
    })
