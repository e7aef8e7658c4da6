use Rattle.std.proofs.Common.{◌≡◌, ◌-◌, slice_index_or, None}
use Rattle.its_records.specs.Tree.{free_from, least_free}
use Rattle.its_jobs.proofs.table.free_slot.Given as goal

abbrev pub invariant-loop-slot : goal.invariant-loop-slot
invariant-loop-slot l = free_from (λ k. slice_index_or l.jobs k None) (l.limit - l.slot) l.slot ≡ least_free l.limit (λ k. slice_index_or l.jobs k None)
