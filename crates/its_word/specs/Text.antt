-- Numbers and names as text (docs/SESSION.md, "Numbers and names"). Characters are their ASCII
-- codes.
-- A promise rests on this.
use Rattle.std.specs.Prelude.{if◌then◌else◌, ℕ, ◌+◌, ◌-◌, ◌*◌, ◌/◌, ◌%◌, ◌^◌, ◌==◌, Bool, ◌&&◌, not, List, [], ◌∷◌, ◌++◌, length, map, filter, fold, nat_le, nat_lt}
use Rattle.std.specs.List.{range_with_len, list_all, slice_split}
use Rattle.std.specs.Int.Digits as base

-- the twelve octal digits of a word
unfoldable pub octal12_of : ℕ → List ℕ
octal12_of w = map (λ k. 48 + w / 2 ^ (33 - 3 * k) % 8) (range_with_len 0 12)

-- the number that digits of a base are, the code of whose 0 is given
abbrev pub number_of : ℕ → ℕ → List ℕ → ℕ
number_of base zero_code codes = fold (λ n c. n * base + (c - zero_code)) 0 codes

abbrev pub is_code : ℕ → ℕ → ℕ → Bool
is_code low high c = nat_le low c && nat_le c high

-- from one to `most` characters from `low` to `high`
abbrev pub is_text : ℕ → ℕ → ℕ → List ℕ → Bool
is_text most low high text = nat_le 1 (length text) && nat_le (length text) most && list_all (is_code low high) text

-- a number is 1 to 12 octal digits
unfoldable pub is_octal : List ℕ → Bool
is_octal text = is_text 12 48 55 text

unfoldable pub octal_value : List ℕ → ℕ
octal_value text = number_of 8 48 text

-- a name is 1 to 6 characters from 41 to 137 (octal)
unfoldable pub is_name : List ℕ → Bool
is_name text = is_text 6 33 95 text

-- its SIXBIT word: six bits a character, its code less 40 (octal), from the left, zeros after the
-- end
unfoldable pub sixbit_of : List ℕ → ℕ
sixbit_of text = number_of 64 32 text * 2 ^ (6 * (6 - length text))

-- the six octal digits of an address
unfoldable pub octal6_of : ℕ → List ℕ
octal6_of a = map (λ k. 48 + a / 2 ^ (15 - 3 * k) % 8) (range_with_len 0 6)

-- the octal digits of a number without leading zeros; 0 is one digit
unfoldable pub digits_of : ℕ → List ℕ
digits_of n = if nat_lt n 8 then (48 + n) ∷ [] else map (λ d. 48 + d) (base.digits_of 8 n)

-- a first word and others, with one space between two words
unfoldable pub spaced : List ℕ → List (List ℕ) → List ℕ
spaced first others = fold (λ text word. text ++ 32 ∷ word) first others

-- a line's words are its runs of bytes other than space
unfoldable pub words_of : List ℕ → List (List ℕ)
words_of line = filter (λ run. not (length run == 0)) (slice_split (λ b. b == 32) line)

-- a run of bytes other than space as a word, if it has any bytes
abbrev pub word_of_run : List ℕ → List (List ℕ)
word_of_run run = if length run == 0 then [] else run ∷ []
