use Rattle.its_jobs.proofs.TreeLaws.{given}
use Rattle.its_jobs.proofs.table.Jobs.set_superior.Goals as goal

pub invariant_of-self : goal.invariant_of-self
invariant_of-self c =
    let within = (rw c.index-place.ensures.value at c.index-place.ensures.below) in
    rw c.index-place.ensures.value (record {
      tree = given _ _ _ _ c.self.invariant.tree within (rw (← c.self.view_is) at c.requires.job)
          (rw (← c.self.view_is) at c.requires.standing) (rw (← c.self.view_is) at c.requires.none) (rw (← c.self.view_is) at c.requires.apart);
      few = c.self.invariant.few;
    })
