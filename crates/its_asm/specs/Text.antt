-- The runs of a text between marks, the words of a line, and symbols (docs/ASM.md). Characters are
-- their ASCII codes.
-- A promise rests on this.
use Rattle.std.specs.Prelude.{if◌then◌else◌, ℕ, ◌-◌, Bool, false, ◌&&◌, ◌||◌, ◌==◌, Option, Some, None, List, [], ◌∷◌, length, take, slice_index, nat_le, codes}
use Rattle.std.specs.List.{list_all, slice_split}
use Rattle.its_word.specs.Text.{is_code, sixbit_of, words_of}
use Rattle.its_chart.specs.Text.{is_mark, up_to}

-- the runs of a text between its marks
abbrev pub pieces : List ℕ → List ℕ → List (List ℕ)
pieces marks text = slice_split (is_mark marks) text

-- a text without its last byte, if that is this one
abbrev pub closed : ℕ → List ℕ → Option (List ℕ)
closed mark text = if slice_index text (length text - 1) == mark then Some (take (length text - 1) text) else None

-- the words of a line are those before its comment
unfoldable pub statement_words : List ℕ → List (List ℕ)
statement_words line = words_of (up_to (codes ";") line)

-- a letter, a digit or `.`
abbrev pub is_symbol_byte : ℕ → Bool
is_symbol_byte b = is_code 65 90 b || is_code 48 57 b || b == 46

-- a symbol has 1 to 6 bytes: a letter, then letters, digits or `.`
unfoldable pub is_symbol : List ℕ → Bool
is_symbol [] = false
is_symbol (b ∷ rest) = is_code 65 90 b && nat_le (length rest) 5 && list_all is_symbol_byte rest

-- a symbol's name as a word of SIXBIT
abbrev pub symbol_of : List ℕ → Option ℕ
symbol_of text = if is_symbol text then Some (sixbit_of text) else None

-- the symbol of a label, which is directly followed by `:`
abbrev pub label_by : Option (List ℕ) → Option ℕ
label_by None = None
label_by (Some name) = symbol_of name

abbrev pub label_of : List ℕ → Option ℕ
label_of word = label_by (closed 58 word)
