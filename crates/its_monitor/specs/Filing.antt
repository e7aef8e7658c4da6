-- What is shown of a file that goes by its number, by whether a file has this number.
-- No promise rests on this.
use Rattle.std.specs.Prelude.{ℕ, Bool, true, false, Option, Some, None, List, length, slice_get}

-- the k-th of its words, from 0
abbrev pub word_if : Bool → List ℕ → ℕ → Option ℕ
word_if true words k = slice_get words k
word_if false words k = None

-- how many words it has
abbrev pub length_if : Bool → List ℕ → Option ℕ
length_if true words = Some (length words)
length_if false words = None
