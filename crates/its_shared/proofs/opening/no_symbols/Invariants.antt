use Rattle.std.proofs.Common.{◌≡◌, ℕ, [], vec_len}
use Rattle.its_shared.specs.Parts.{symbols_at}
use Rattle.its_shared.proofs.opening.no_symbols.Given as goal

abbrev pub invariant-loop-k : goal.invariant-loop-k
invariant-loop-k l = (vec_len l.v ≡ l._k) × ((k : ℕ) → symbols_at l.v.items k ≡ [])
