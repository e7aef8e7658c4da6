use Rattle.std.proofs.Common.{◌≡◌, slice_get, slice_index_or, None}
use Rattle.its_records.specs.Tree.{slots_below}
use Rattle.its_records.proofs.TreeLaws.{rest_below}
use Rattle.its_jobs.proofs.table.nth_below.Given as goal

abbrev pub invariant-loop-other : goal.invariant-loop-other
invariant-loop-other l =
    slice_get (rest_below (λ k. slice_index_or l.superiors k None) l.slot l.other) l.left
    ≡ slice_get (slots_below (λ k. slice_index_or l.superiors k None) l.slot) l.k
