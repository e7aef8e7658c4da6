use Rattle.std.proofs.Common.{◌≡◌, ℕ, ◌<◌, ◌≤◌, ◌-◌, true, is_some, None, length, slice_index_or}
use Rattle.its_files.proofs.directory.free_number.Given as goal

abbrev pub invariant-loop-id : goal.invariant-loop-id
invariant-loop-id l = (l.id ≤ length l.entries) × ((k : ℕ) → k < l.id → is_some (slice_index_or l.entries k None) ≡ true)

abbrev pub decreases-loop-id : goal.decreases-loop-id
decreases-loop-id l = length l.entries - l.id
