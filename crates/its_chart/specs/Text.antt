-- Texts cut at marks, and printable texts (docs/ASM.md). Characters are their ASCII codes.
-- A promise rests on this.
use Rattle.std.specs.Prelude.{ℕ, Bool, true, false, Option, Some, None, List, [], ◌∷◌, nat_eq}
use Rattle.std.specs.List.{list_all, list_any}
use Rattle.its_word.specs.Text.{is_code}

abbrev pub is_mark : List ℕ → ℕ → Bool
is_mark marks b = list_any (λ m. nat_eq m b) marks

-- a byte that is a mark or not, before the rest of a text and what that is cut into
abbrev pub cut_at : Bool → ℕ → List ℕ → Option (List ℕ × ℕ × List ℕ) → Option (List ℕ × ℕ × List ℕ)
cut_at true b rest parts = Some ([], b, rest)
cut_at false b rest None = None
cut_at false b rest (Some p) = Some (b ∷ p.0, p.1, p.2)

-- a text cut at its first mark: what is before the mark, the mark, and what is after it
abbrev pub cut : List ℕ → List ℕ → Option (List ℕ × ℕ × List ℕ)
cut marks [] = None
cut marks (b ∷ rest) = cut_at (is_mark marks b) b rest (cut marks rest)

-- a text up to its first mark
abbrev pub before : List ℕ → Option (List ℕ × ℕ × List ℕ) → List ℕ
before text None = text
before text (Some p) = p.0

abbrev pub up_to : List ℕ → List ℕ → List ℕ
up_to marks text = before text (cut marks text)

-- all bytes of a line are from 40 to 176, in its comment too
abbrev pub is_printable : List ℕ → Bool
is_printable line = list_all (is_code 32 126) line
