-- Words of a call that are apart from each other and from those that it reads.
-- No promise rests on this.
use Rattle.std.specs.Prelude.{◌==◌, ◌&&◌, ◌||◌, ℕ, Bool, false, not, List, [], ◌∷◌, Option, None, Some}
use Rattle.std.specs.List.{list_any}
use Rattle.its_records.specs.declared.calls.Ask.{Ask}

-- whether a place is one of three
abbrev pub is_met : ℕ → ℕ → ℕ → ℕ → Bool
is_met p k n q = ((q == p) || (q == k)) || (q == n)

-- two or three places that differ from each other and from another one
abbrev pub are_unlike : List ℕ → ℕ → Bool
are_unlike (a ∷ b ∷ []) n = (not (a == b) && not (a == n)) && not (b == n)
are_unlike (a ∷ b ∷ c ∷ []) n = ((((not (a == b) && not (a == c)) && not (b == c)) && not (a == n)) && not (b == n)) && not (c == n)
are_unlike _ n = false

-- whether the places of a call's arguments are two or three that differ, and a third word is none
-- of them; and none of these three places is a decode word
abbrev pub are_places_apart : Ask → ℕ → ℕ → ℕ → Bool
are_places_apart a p k n = are_unlike a.operand.items n && not (list_any (is_met p k n) a.decode.items)

-- whether the words of two arguments, which both have to have a place, are apart from each other
-- and from a third word
abbrev pub are_apart : Ask → Option ℕ → Option ℕ → ℕ → Bool
are_apart a (Some p) (Some k) n = are_places_apart a p k n
are_apart a (Some p) None n = false
are_apart a None k n = false
