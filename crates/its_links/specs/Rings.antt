-- How the lists are kept: the numbers below n are the nodes, those from there on the heads, and
-- each number has one that follows it. From a head on they lead through its list and back.
-- No promise rests on this.
use Rattle.std.specs.Prelude.{◌≡◌, ◌≢◌, ◌<◌, ◌≤◌, ◌^◌, ℕ, zero, suc, ◌+◌, ◌-◌, Bool, true, false, eqb, List, [], ◌∷◌, length, map, slice_index_or}
use Rattle.std.specs.List.{range_with_len}
use Rattle.its_links.specs.Lists.{Linked, list_at, times}

-- what follows i
abbrev pub link : List ℕ → ℕ → ℕ
link next i = slice_index_or next i 0

-- n numbers, each of which follows itself
unfoldable pub alone : ℕ → List ℕ
alone n = range_with_len 0 n

-- two lists of links, each the other's inverse
pub record IsRings (next prev : List ℕ) : Type 0 where
  pub even : length prev ≡ length next
  pub within : (i : ℕ) → i < length next → link next i < length next
  pub back_within : (i : ℕ) → i < length next → link prev i < length next
  pub there : (i : ℕ) → i < length next → link prev (link next i) ≡ i
  pub back : (i : ℕ) → i < length next → link next (link prev i) ≡ i

-- what followed p follows q, and what followed q follows p
pub record Exchanged (old new : ℕ → ℕ) (p q : ℕ) : Type 0 where
  pub at_p : new p ≡ old q
  pub at_q : new q ≡ old p
  pub others : (y : ℕ) → y ≢ p → y ≢ q → new y ≡ old y

-- the links lead from a through a list to b
abbrev pub Walk : (ℕ → ℕ) → ℕ → List ℕ → ℕ → Type 0
Walk f a [] b = f a ≡ b
Walk f a (x ∷ xs) b = (f a ≡ x) × Walk f x xs b

-- at most k numbers from a on, up to b
abbrev pub walked_on : Bool → ℕ → List ℕ → List ℕ
walked_on true a xs = []
walked_on false a xs = a ∷ xs

abbrev pub walked : (ℕ → ℕ) → ℕ → ℕ → ℕ → List ℕ
walked f zero a b = []
walked f (suc k) a b = walked_on (eqb a b) a (walked f k (f a) b)

-- the lists of m heads
unfoldable pub lists_of : ℕ → ℕ → List ℕ → List (List ℕ)
lists_of n m next = map (λ h. walked (link next) n (link next (n + h)) (n + h)) (range_with_len 0 m)

unfoldable pub linked_in : ℕ → List ℕ → Linked
linked_in n next = record { nodes = n; lists = lists_of n (length next - n) next }

-- links that give these lists
pub record Agrees (n : ℕ) (f : ℕ → ℕ) (lists : List (List ℕ)) : Type 0 where
  pub walks : (h : ℕ) → h < length lists → Walk f (n + h) (list_at lists h) (n + h)
  pub once : (x : ℕ) → times x lists ≤ 1
  pub below : (x : ℕ) → 0 < times x lists → x < n
  pub free : (x : ℕ) → x < n → times x lists ≡ 0 → f x ≡ x

pub record IsLinks (n : ℕ) (next : List ℕ) : Type 0 where
  pub fits : length next < 2 ^ 32
  pub nodes : n ≤ length next
  pub agrees : Agrees n (link next) (linked_in n next).lists
