-- The lines that the commands `check` and `gen` write of their counts (docs/SESSION.md, "its
-- check", "its gen").
-- No promise rests on this.
use Rattle.std.specs.Prelude.{ℕ, List, [], ◌∷◌, ◌++◌}
use Rattle.its_word.specs.Text.{digits_of, spaced}

-- a name and a number, in octal
abbrev pub count_line : List ℕ → ℕ → List ℕ
count_line name n = spaced name (digits_of n ∷ []) ++ 10 ∷ []
