use Rattle.std.proofs.Common.{◌≡◌, ◌∙◌, ap, sym, true, slice_index_or, None}
use Rattle.its_records.specs.Tree.{no_job}
use Rattle.its_jobs.specs.Table.{job_at}
use Rattle.its_jobs.proofs.TableLaws.{nobody}
use Rattle.its_jobs.proofs.table.Jobs.is_empty.Goals as goal

pub returns-clause-nobody : goal.returns-clause-nobody
returns-clause-nobody c = λ h k.
    let none : no_job (λ i. slice_index_or c.self.inside.jobs.items i None) ≡ true = rw c.deref.ensures.value at (sym c.has_none.ensures ∙ h) in
    sym (ap (λ t. job_at t k) c.self.view_is) ∙ nobody c.self.inside.jobs.items k c.self.invariant.tree.job_count none
