-- The text of a name and of a console.
-- A promise rests on this.
use Rattle.std.specs.Prelude.{if◌then◌else◌, ◌==◌, ℕ, zero, suc, ◌+◌, ◌*◌, ◌/◌, ◌%◌, ◌^◌, Option, Some, None, List, [], ◌∷◌, codes}
use Rattle.its_word.specs.Text.{digits_of}

-- up to n characters of a name, which are in the top of a word
unfoldable pub characters : ℕ → ℕ → List ℕ
characters zero w = []
characters (suc n) w = if w / 2 ^ 30 == 0 then [] else (32 + w / 2 ^ 30) ∷ characters n (w * 2 ^ 6 % 2 ^ 36)

-- the characters of a name's word
abbrev pub name_of : ℕ → List ℕ
name_of w = characters 6 w

abbrev pub console_text : Option ℕ → List ℕ
console_text None = codes "-"
console_text (Some c) = digits_of c
