-- The lines of a transcript's bytes, and which line of a transcript each of them says
-- (docs/SESSION.md).
-- A promise rests on this.
use Rattle.std.specs.Prelude.{if◌then◌else◌, ◌≡◌, ◌==◌, ℕ, ◌+◌, Bool, true, false, ◌&&◌, List, [], ◌∷◌, length, nat_le, bytes_eq, codes}
use Rattle.std.specs.List.{concat}
use Rattle.its_print.specs.Printing.{Line, Peeked, text_of_line}
use Rattle.its_word.specs.Text.{words_of}
use Rattle.its_reader.specs.TextLines.{before_lf}

abbrev pub is_last : List ℕ → Bool
is_last [] = true
is_last (b ∷ bs) = false

-- LF is the last byte, and is nowhere else
abbrev pub is_whole : List ℕ → Bool
is_whole [] = false
is_whole (b ∷ bs) = if b == 10 then is_last bs else is_whole bs

-- the most bytes of a line of a transcript before its LF
abbrev pub most_bytes : ℕ
most_bytes = 1543

-- the first word of a line, whose words are its runs of bytes other than space
abbrev pub begins_with : List ℕ → List (List ℕ) → Bool
begins_with word [] = false
begins_with word (first ∷ words) = bytes_eq first word

-- a line that may occur when PEEK shows a job: its first word is `P`, and it is not too long
unfoldable pub is_peek : List ℕ → Bool
is_peek line =
    is_whole line && nat_le (length line) (most_bytes + 1) && begins_with (codes "P") (words_of (before_lf line))

-- the bytes are the line: they are its text, and for a `P` line any text that may occur there
abbrev pub says : Line → List ℕ → Bool
says (Peeked s peek) bytes = is_peek bytes
says line bytes = bytes_eq bytes (text_of_line line)

-- some bytes say each line, in their order
abbrev pub Said : List Line → List (List ℕ) → Type 0
Said [] [] = Unit {0}
Said [] (bytes ∷ texts) = ⊥
Said (line ∷ lines) [] = ⊥
Said (line ∷ lines) (bytes ∷ texts) = (says line bytes ≡ true) × Said lines texts

-- the bytes are the lines: they are the texts of the lines, one after another
pub record Tells (lines : List Line) (bytes : List ℕ) : Type 0 where
  pub texts : List (List ℕ)
  pub said : Said lines texts
  pub whole : concat texts ≡ bytes
