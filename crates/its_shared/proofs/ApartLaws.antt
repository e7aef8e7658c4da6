-- Words that are apart: none of them is among the words that a call reads, or is the word of two
-- arguments.
use Rattle.std.specs.Prelude.{◌≡◌, ◌==◌, ◌||◌, ◌&&◌, ◌+◌, ℕ, Bool, true, false, not, cond, List, [], ◌∷◌, nat_lt, refl}
use Rattle.std.specs.List.{list_any}
use Rattle.std.proofs.Common.{sym, ◌∙◌, ap}
use Rattle.std.proofs.lemmas.Bool.{eq-eqb, eqb-true}
use Rattle.its_records.specs.declared.calls.Ask.{Ask}
use Rattle.its_plain.specs.Call.Footprint.{among, in_footprint, is_shared, times}
use Rattle.its_shared.specs.Apart.{are_unlike, is_met}

neither : (a b : Bool) → a ≡ false → b ≡ false → (a || b) ≡ false
neither a b e f = ap (λ x. x || b) e ∙ f

-- the parts of a list of tests of which none holds
record None_of (p k n : ℕ) (xs : List ℕ) : Type 0 where
  first : among p xs ≡ false
  second : among k xs ≡ false
  third : among n xs ≡ false

record Unmet (a b c r : Bool) : Type 0 where
  first : a ≡ false
  second : b ≡ false
  third : c ≡ false
  rest : not r ≡ true

unmet : (a b c r : Bool) → not (((a || b) || c) || r) ≡ true → Unmet a b c r
unmet false false false r h = record { first = refl; second = refl; third = refl; rest = h }
unmet true b c r h = cc
unmet false true c r h = cc
unmet false false true r h = cc

none_of : (p k n : ℕ) (xs : List ℕ) → not (list_any (is_met p k n) xs) ≡ true → None_of p k n xs
none_of p k n [] h = record { first = refl; second = refl; third = refl }
none_of p k n (x ∷ xs) h =
    let u = unmet (x == p) (x == k) (x == n) (list_any (is_met p k n) xs) h in
    let r = none_of p k n xs u.rest in
    record {
      first = neither (x == p) (among p xs) u.first r.first;
      second = neither (x == k) (among k xs) u.second r.second;
      third = neither (x == n) (among n xs) u.third r.third;
    }

-- a place is at most once among places that differ
both : (a b p : ℕ) → not (a == b) ≡ true → (a == p) ≡ true → (b == p) ≡ true → false ≡ true
both a b p ne e f = sym (ap not (eq-eqb a b (eqb-true a p e ∙ sym (eqb-true b p f)))) ∙ ne

once_two : (x y : Bool) → (x ≡ true → y ≡ true → false ≡ true) → nat_lt 1 ((0 + cond {A = ℕ} x 1 0) + cond {A = ℕ} y 1 0) ≡ false
once_two true true h = let z = h refl refl in cc
once_two true false h = refl
once_two false true h = refl
once_two false false h = refl

once_three : (x y z : Bool) → (x ≡ true → y ≡ true → false ≡ true) → (x ≡ true → z ≡ true → false ≡ true) → (y ≡ true → z ≡ true → false ≡ true)
    → nat_lt 1 (((0 + cond {A = ℕ} x 1 0) + cond {A = ℕ} y 1 0) + cond {A = ℕ} z 1 0) ≡ false
once_three true true z h i j = let c = h refl refl in cc
once_three true false true h i j = let c = i refl refl in cc
once_three true false false h i j = refl
once_three false true true h i j = let c = j refl refl in cc
once_three false true false h i j = refl
once_three false false true h i j = refl
once_three false false false h i j = refl

record Two (a b c : Bool) : Type 0 where
  first : a ≡ true
  second : b ≡ true
  third : c ≡ true

two : (a b c : Bool) → ((a && b) && c) ≡ true → Two a b c
two true true true h = record { first = refl; second = refl; third = refl }
two false b c h = cc
two true false c h = cc
two true true false h = cc

record Three (a b c d e f : Bool) : Type 0 where
  fore : Two a b c
  back : Two d e f

three : (a b c d e f : Bool) → (((((a && b) && c) && d) && e) && f) ≡ true → Three a b c d e f
three true true true true true true h = record { fore = two true true true refl; back = two true true true refl }
three false b c d e f h = cc
three true false c d e f h = cc
three true true false d e f h = cc
three true true true false e f h = cc
three true true true true false f h = cc
three true true true true true false h = cc

once : (xs : List ℕ) (n p : ℕ) → are_unlike xs n ≡ true → nat_lt 1 (times p xs) ≡ false
unfolding times
once (a ∷ b ∷ []) n p h =
    let t = two (not (a == b)) (not (a == n)) (not (b == n)) h in once_two (a == p) (b == p) (both a b p t.first)
once (a ∷ b ∷ c ∷ []) n p h =
    let t = three (not (a == b)) (not (a == c)) (not (b == c)) (not (a == n)) (not (b == n)) (not (c == n)) h in
    once_three (a == p) (b == p) (c == p) (both a b p t.fore.first) (both a c p t.fore.second) (both b c p t.fore.third)
once [] n p h = cc
once (a ∷ []) n p h = cc
once (a ∷ b ∷ c ∷ d ∷ xs) n p h = cc

is_not : (b : Bool) → not b ≡ true → b ≡ false
is_not false h = refl
is_not true h = cc

unlisted : (xs : List ℕ) (n : ℕ) → are_unlike xs n ≡ true → among n xs ≡ false
unlisted (a ∷ b ∷ []) n h =
    let t = two (not (a == b)) (not (a == n)) (not (b == n)) h in
    neither (a == n) (among n (b ∷ [])) (is_not (a == n) t.second) (neither (b == n) false (is_not (b == n) t.third) refl)
unlisted (a ∷ b ∷ c ∷ []) n h =
    let t = three (not (a == b)) (not (a == c)) (not (b == c)) (not (a == n)) (not (b == n)) (not (c == n)) h in
    neither (a == n) (among n (b ∷ c ∷ [])) (is_not (a == n) t.back.first)
    (neither (b == n) (among n (c ∷ [])) (is_not (b == n) t.back.second) (neither (c == n) false (is_not (c == n) t.back.third) refl))
unlisted [] n h = cc
unlisted (a ∷ []) n h = cc
unlisted (a ∷ b ∷ c ∷ d ∷ xs) n h = cc

-- of a call
pub unshared : (a : Ask) (p k n : ℕ) → are_unlike a.operand.items n ≡ true → not (list_any (is_met p k n) a.decode.items) ≡ true
    → (is_shared p a || is_shared k a) ≡ false
unfolding is_shared
unshared a p k n u h =
    let o = none_of p k n a.decode.items h in
    neither (is_shared p a) (is_shared k a) (neither (among p a.decode.items) (nat_lt 1 (times p a.operand.items)) o.first (once a.operand.items n p u))
    (neither (among k a.decode.items) (nat_lt 1 (times k a.operand.items)) o.second (once a.operand.items n k u))

pub unread : (a : Ask) (p k n : ℕ) → are_unlike a.operand.items n ≡ true → not (list_any (is_met p k n) a.decode.items) ≡ true → in_footprint n a ≡ false
unfolding in_footprint
unread a p k n u h =
    neither (among n a.decode.items) (among n a.operand.items) (none_of p k n a.decode.items h).third (unlisted a.operand.items n u)
