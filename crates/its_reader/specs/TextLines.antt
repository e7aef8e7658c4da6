-- The lines of bytes, each with the LF that ends it.
-- A promise rests on this.
use Rattle.std.specs.Prelude.{if◌then◌else◌, ◌==◌, ℕ, List, [], ◌∷◌}

-- a byte in front of the lines of bytes: LF is a line of its own there, and any other byte begins
-- the first line
abbrev pub in_front : ℕ → List (List ℕ) → List (List ℕ)
in_front b [] = (b ∷ []) ∷ []
in_front b (line ∷ lines) = if b == 10 then (b ∷ []) ∷ line ∷ lines else (b ∷ line) ∷ lines

-- the lines of bytes. Each keeps the LF that ends it, and a last line may have none
unfoldable pub lines_in : List ℕ → List (List ℕ)
lines_in [] = []
lines_in (b ∷ bs) = in_front b (lines_in bs)

-- the bytes of a line before its LF
abbrev pub before_lf : List ℕ → List ℕ
before_lf [] = []
before_lf (b ∷ bs) = if b == 10 then [] else b ∷ before_lf bs
