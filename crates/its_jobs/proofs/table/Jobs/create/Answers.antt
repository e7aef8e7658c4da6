use Rattle.std.proofs.Common.{rules}
use Rattle.its_jobs.proofs.TreeLaws.{made}
use Rattle.its_jobs.proofs.table.Jobs.create.Goals as goal

pub invariant_of-self : goal.invariant_of-self
invariant_of-self c =
    let within = (rw c.index-place.ensures.value at c.index-place.ensures.below) in
    rw c.index-place.ensures.value (record {
      tree = made _ _ _ _ _ c.self.invariant.tree within (search rules)
          (rw (← c.self.view_is) at c.requires.standing);
      few = c.self.invariant.few;
    })
