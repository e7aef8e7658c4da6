use Rattle.std.proofs.Common.{◌≡◌, ◌-◌, slice_index_or, None}
use Rattle.its_word.specs.Limits.{slots}
use Rattle.its_records.specs.Tree.{none_from, no_job}
use Rattle.its_jobs.proofs.table.has_none.Given as goal

abbrev pub invariant-loop-slot : goal.invariant-loop-slot
invariant-loop-slot l = none_from (λ k. slice_index_or l.jobs k None) (slots - l.slot) l.slot ≡ no_job (λ k. slice_index_or l.jobs k None)
