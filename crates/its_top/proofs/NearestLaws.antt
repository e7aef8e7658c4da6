-- The nearest symbol in other words: it is one of the symbols, its address is at most the PC, and
-- no symbol has an address at most the PC that is greater, or equal and kept later. If there is
-- none, all addresses are above the PC.
use Rattle.std.specs.Prelude.{◌≡◌, ◌≤◌, ◌<◌, ◌&&◌, not, ℕ, Bool, true, false, Option, Some, None, List, [], ◌∷◌, ◌++◌, nat_lt, cond, refl}
use Rattle.std.proofs.Common.{sym, ap, subst, arith}
use Rattle.std.proofs.lemmas.Bool.{ltb-false, ltb-true}
use Rattle.its_plain.specs.Machine.{Symbol}
use Rattle.its_plain.specs.Operator.Symbols.{address_of, is_nearer, nearest_after, nearest}

-- each of some symbols with an address at most the PC has one at most n, or one below n
abbrev pub Within : ℕ → ℕ → List Symbol → Type 0
Within pc n [] = Unit {0}
Within pc n (t ∷ ts) = (address_of t ≤ pc → address_of t ≤ n) × Within pc n ts

abbrev pub Below : ℕ → ℕ → List Symbol → Type 0
Below pc n [] = Unit {0}
Below pc n (t ∷ ts) = (address_of t ≤ pc → address_of t < n) × Below pc n ts

abbrev pub Above : ℕ → List Symbol → Type 0
Above pc [] = Unit {0}
Above pc (t ∷ ts) = (pc < address_of t) × Above pc ts

pub record Nearest (pc : ℕ) (ss : List Symbol) (s : Symbol) : Type 0 where
  pub before : List Symbol
  pub after : List Symbol
  pub is : ss ≡ before ++ s ∷ after
  pub under : address_of s ≤ pc
  pub greatest : Within pc (address_of s) before
  pub last : Below pc (address_of s) after

abbrev pub IsNearest : ℕ → List Symbol → Option Symbol → Type 0
IsNearest pc ss (Some s) = Nearest pc ss s
IsNearest pc ss None = Above pc ss

-- after a best one: it stays, or one of the symbols takes its place
data Behind (pc : ℕ) (best : Symbol) (ss : List Symbol) (o : Option Symbol) : Type 0 where
  Keeps : o ≡ Some best → Below pc (address_of best) ss → Behind pc best ss o
  Gives : (s : Symbol) → o ≡ Some s → address_of best ≤ address_of s → Nearest pc ss s → Behind pc best ss o

taken : (pc a b : ℕ) → (not (nat_lt pc a) && not (nat_lt a b)) ≡ true → (a ≤ pc) × (b ≤ a)
taken pc a b h = go (nat_lt pc a) (nat_lt a b) refl refl h
  where
    go : (x y : Bool) → nat_lt pc a ≡ x → nat_lt a b ≡ y → (not x && not y) ≡ true → (a ≤ pc) × (b ≤ a)
    go false false e f t = (ltb-false pc a e, ltb-false a b f)
    go true y e f t = cc
    go false true e f t = cc

passed : (pc a b : ℕ) → (not (nat_lt pc a) && not (nat_lt a b)) ≡ false → a ≤ pc → a < b
passed pc a b h l = go (nat_lt pc a) (nat_lt a b) refl refl h
  where
    go : (x y : Bool) → nat_lt pc a ≡ x → nat_lt a b ≡ y → (not x && not y) ≡ false → a < b
    go true y e f t = let over = ltb-true pc a e in absurd (omega arith)
    go false true e f t = ltb-true a b f
    go false false e f t = cc

with_best : (pc : ℕ) (x : Symbol) (xs : List Symbol) → address_of x ≤ pc → Below pc (address_of x) xs → Nearest pc (x ∷ xs) x
with_best pc x xs l below = record { before = []; after = xs; is = refl; under = l; greatest = tt; last = below }

with_first : (pc : ℕ) (x s : Symbol) (xs : List Symbol) → (address_of x ≤ pc → address_of x ≤ address_of s) → Nearest pc xs s → Nearest pc (x ∷ xs) s
with_first pc x s xs l n = record {
  before = x ∷ n.before;
  after = n.after;
  is = ap (λ ss. x ∷ ss) n.is;
  under = n.under;
  greatest = (l, n.greatest);
  last = n.last;
}

behind_taken : (pc : ℕ) (best x : Symbol) (xs : List Symbol) (o : Option Symbol) → address_of x ≤ pc → address_of best ≤ address_of x
    → Behind pc x xs o → Behind pc best (x ∷ xs) o
behind_taken pc best x xs o l le (Keeps e below) = Gives x e le (with_best pc x xs l below)
behind_taken pc best x xs o l le (Gives s e more n) = Gives s e (omega arith) (with_first pc x s xs (λ h. more) n)

behind_passed : (pc : ℕ) (best x : Symbol) (xs : List Symbol) (o : Option Symbol) → (address_of x ≤ pc → address_of x < address_of best)
    → Behind pc best xs o → Behind pc best (x ∷ xs) o
behind_passed pc best x xs o l (Keeps e below) = Keeps e (l, below)
behind_passed pc best x xs o l (Gives s e more n) = Gives s e more (with_first pc x s xs (λ h. let less = l h in omega arith) n)

behind : (pc : ℕ) (best : Symbol) (ss : List Symbol) → Behind pc best ss (nearest_after pc (Some best) ss)
behind pc best [] = Keeps refl tt
behind pc best (x ∷ xs) = go (is_nearer pc (Some best) x) refl (behind pc x xs) (behind pc best xs)
  where
    go : (b : Bool) → is_nearer pc (Some best) x ≡ b → Behind pc x xs (nearest_after pc (Some x) xs) → Behind pc best xs (nearest_after pc (Some best) xs)
        → Behind pc best (x ∷ xs) (nearest_after pc (cond b (Some x) (Some best)) xs)
    go true e first second = let t = taken pc (address_of x) (address_of best) e in behind_taken pc best x xs (nearest_after pc (Some x) xs) t.0 t.1 first
    go false e first second = behind_passed pc best x xs (nearest_after pc (Some best) xs) (passed pc (address_of x) (address_of best) e) second

first_best : (pc : ℕ) (x : Symbol) (xs : List Symbol) (o : Option Symbol) → address_of x ≤ pc → Behind pc x xs o → IsNearest pc (x ∷ xs) o
first_best pc x xs o l (Keeps e below) = subst (IsNearest pc (x ∷ xs)) (sym e) (with_best pc x xs l below)
first_best pc x xs o l (Gives s e more n) = subst (IsNearest pc (x ∷ xs)) (sym e) (with_first pc x s xs (λ h. more) n)

first_above : (pc : ℕ) (x : Symbol) (xs : List Symbol) (o : Option Symbol) → pc < address_of x → IsNearest pc xs o → IsNearest pc (x ∷ xs) o
first_above pc x xs (Some s) l n = with_first pc x s xs (λ h. absurd (omega arith)) n
first_above pc x xs None l n = (l, n)

nearest_from : (pc : ℕ) (ss : List Symbol) → IsNearest pc ss (nearest_after pc None ss)
nearest_from pc [] = tt
nearest_from pc (x ∷ xs) = go (nat_lt pc (address_of x)) refl (behind pc x xs) (nearest_from pc xs)
  where
    go : (b : Bool) → nat_lt pc (address_of x) ≡ b → Behind pc x xs (nearest_after pc (Some x) xs) → IsNearest pc xs (nearest_after pc None xs)
        → IsNearest pc (x ∷ xs) (nearest_after pc (cond (not b) (Some x) None) xs)
    go true e first second = first_above pc x xs (nearest_after pc None xs) (ltb-true pc (address_of x) e) second
    go false e first second = first_best pc x xs (nearest_after pc (Some x) xs) (ltb-false pc (address_of x) e) first

pub nearest_is : (pc : ℕ) (ss : List Symbol) → IsNearest pc ss (nearest pc ss)
unfolding nearest
nearest_is pc ss = nearest_from pc ss
