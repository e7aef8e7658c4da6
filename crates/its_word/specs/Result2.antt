-- What a row of the instruction tables gives: a first and a second result, and the flags that it
-- sets.
-- A promise rests on this.
use Rattle.std.specs.Prelude.{ℕ}
use Rattle.its_word.specs.declared.result2.Result2.{Result2}

-- one result, and flags
abbrev pub one_word : ℕ → ℕ → Result2
one_word w flags = record { first = w; second = 0; flags = flags }
