-- the clauses of `nth_below`, over the table that contracts see
use Rattle.its_jobs.proofs.table.Jobs.below.Goals as goal

pub returns-clause-some : goal.returns-clause-some
returns-clause-some c = rw (← c.self.view_is, ← c.deref.ensures.value) (rw c.number.ensures.value at c.nth_below.ensures.some)

pub returns-clause-none : goal.returns-clause-none
returns-clause-none c = rw (← c.self.view_is, ← c.deref.ensures.value) (rw c.number.ensures.value at c.nth_below.ensures.none)
