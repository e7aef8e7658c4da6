-- A table of words by address as a list in rising order of address.
-- No promise rests on this.
use Rattle.std.specs.Prelude.{ℕ, suc, Option, Some, None, List, [], ◌∷◌}

-- the words of a table, from an address on
abbrev pub cells_from : ℕ → List (Option ℕ) → List (ℕ × ℕ)
cells_from a [] = []
cells_from a (None ∷ words) = cells_from (suc a) words
cells_from a (Some w ∷ words) = (a, w) ∷ cells_from (suc a) words

abbrev pub cell_at : ℕ → Option ℕ → List (ℕ × ℕ)
cell_at a None = []
cell_at a (Some w) = (a, w) ∷ []
