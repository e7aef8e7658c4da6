-- Lists of nodes by head, as contracts see them.
-- No promise rests on this.
use Rattle.std.specs.Prelude.{ℕ, ◌+◌, Bool, true, false, cond, eqb, Option, Some, None, List, [], ◌∷◌, slice_index_or, replicate}

-- how many nodes there are, and the list of each head
pub record Linked : Type 0 where
  pub nodes : ℕ
  pub lists : List (List ℕ)

-- the list of head h
abbrev pub list_at : List (List ℕ) → ℕ → List ℕ
list_at lists h = slice_index_or lists h []

-- 1 if two nodes are the same, else 0
unfoldable pub hit : ℕ → ℕ → ℕ
hit x y = cond (eqb x y) 1 0

-- how often a node is in a list
abbrev pub count : ℕ → List ℕ → ℕ
count x [] = 0
count x (y ∷ ys) = hit x y + count x ys

-- how often a node is in all lists together
abbrev pub times : ℕ → List (List ℕ) → ℕ
times x [] = 0
times x (l ∷ ls) = count x l + times x ls

-- a node before a list, unless it is the one to be taken out
abbrev pub kept_before : Bool → ℕ → List ℕ → List ℕ
kept_before true y ys = ys
kept_before false y ys = y ∷ ys

-- a list with each copy of a node taken out
abbrev pub without : ℕ → List ℕ → List ℕ
without x [] = []
without x (y ∷ ys) = kept_before (eqb x y) y (without x ys)

-- the first node of a list, and those after it
abbrev pub first : List ℕ → Option ℕ
first [] = None
first (x ∷ xs) = Some x

abbrev pub rest : List ℕ → List ℕ
rest [] = []
rest (x ∷ xs) = xs

-- the lists of m heads, all empty
unfoldable pub no_lists : ℕ → List (List ℕ)
no_lists m = replicate m []
