-- Lists that are built by index: n copies of x, and f of each number below n. Opaque, as n may be
-- large.
-- A promise rests on this.
use Rattle.std.specs.Prelude.{ℕ, List, map, replicate}
use Rattle.std.specs.List.{range_with_len}

unfoldable pub filled : {X : Type 0} → ℕ → X → List X
filled n x = replicate n x

unfoldable pub table : {X : Type 0} → ℕ → (ℕ → X) → List X
table n f = map f (range_with_len 0 n)
