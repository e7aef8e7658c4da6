use Rattle.std.proofs.Common.{◌≡◌, ℕ, vec_len, slice_index_or, None}
use Rattle.its_shared.proofs.opening.no_alarms.Given as goal

abbrev pub invariant-loop-k : goal.invariant-loop-k
invariant-loop-k l = (vec_len l.v ≡ l._k) × ((k : ℕ) → slice_index_or l.v.items k None ≡ None)
