-- A block occurs at one place in the lists at most.
use Rattle.std.specs.Prelude.{◌≡◌, ◌<◌, ◌≤◌, ℕ, zero, suc, ◌+◌, Option, Some, List, [], ◌∷◌, ◌++◌, length, take, drop, slice_get, refl}
use Rattle.std.proofs.Common.{sym, ◌∙◌, ap, inl, inr, arith}
use Rattle.std.proofs.lemmas.Bool.{cases_eq}
use Rattle.its_links.specs.Lists.{list_at, hit, count, times, first, rest}
use Rattle.its_links.proofs.CountLaws.{hit_same, count-le-times, two-le-times}

pub count-at : (x : ℕ) (xs : List ℕ) (i : ℕ) → slice_get xs i ≡ Some x → 1 ≤ count x xs
count-at x [] i e = cc
count-at x (y ∷ ys) zero e = let h : y ≡ x = cc in let s = ap (λ z. hit x z) h in let t = hit_same x in omega arith
count-at x (y ∷ ys) (suc i) e = let r = count-at x ys i e in omega arith

once_at : (x : ℕ) (xs : List ℕ) (i j : ℕ) → slice_get xs i ≡ Some x → slice_get xs j ≡ Some x → count x xs ≤ 1 → i ≡ j
once_at x [] i j e f h = cc
once_at x (y ∷ ys) zero zero e f h = refl
once_at x (y ∷ ys) zero (suc j) e f h = let k : y ≡ x = cc in let s = ap (λ z. hit x z) k in let t = hit_same x in let r =
    count-at x ys j f in absurd (omega arith)
once_at x (y ∷ ys) (suc i) zero e f h = let k : y ≡ x = cc in let s = ap (λ z. hit x z) k in let t = hit_same x in let r =
    count-at x ys i e in absurd (omega arith)
once_at x (y ∷ ys) (suc i) (suc j) e f h = let r = once_at x ys i j e f (omega arith) in omega arith

pub record At (h g i j : ℕ) : Type 0 where
  pub list : h ≡ g
  pub place : i ≡ j

pub apart : (ls : List (List ℕ)) (x h g i j : ℕ) → times x ls ≤ 1 → slice_get (list_at ls h) i ≡ Some x → slice_get (list_at ls g) j ≡ Some x → At h g i j
apart ls x h g i j once e f = elim (cases_eq h g) [
  | inl same ↦
      let e' : slice_get (list_at ls g) i ≡ Some x = rw (← same) e in
      let c = count-le-times x ls g in
      record { list = same; place = once_at x (list_at ls g) i j e' f (omega arith) }
  | inr ne ↦
      let t = two-le-times x ls h g ne in
      let a = count-at x (list_at ls h) i e in
      let b = count-at x (list_at ls g) j f in
      absurd (omega arith)
]

pub standing : (ls : List (List ℕ)) (x h i : ℕ) → slice_get (list_at ls h) i ≡ Some x → 0 < times x ls
standing ls x h i e = let a = count-at x (list_at ls h) i e in let c = count-le-times x ls h in omega arith

-- what follows an element
pub behind : (xs : List ℕ) (k x : ℕ) → slice_get xs k ≡ Some x → xs ≡ take k xs ++ x ∷ drop (suc k) xs
behind [] k x e = cc
behind (y ∷ ys) zero x e = let h : y ≡ x = cc in rw h refl
behind (y ∷ ys) (suc k) x e = ap (λ zs. y ∷ zs) (behind ys k x e)

pub first_drop : (xs : List ℕ) (k : ℕ) → first (drop k xs) ≡ slice_get xs k
first_drop [] zero = refl
first_drop [] (suc k) = refl
first_drop (x ∷ xs) zero = refl
first_drop (x ∷ xs) (suc k) = first_drop xs k

pub first_some : (xs : List ℕ) → 0 < length xs → (x : ℕ) × (first xs ≡ Some x)
first_some [] h = absurd (omega arith)
first_some (x ∷ xs) h = (x, refl)

pub take_first : (xs : List ℕ) (x : ℕ) → first xs ≡ Some x → take 1 xs ≡ x ∷ []
take_first [] x e = cc
take_first (y ∷ ys) x e = let h : y ≡ x = cc in rw h refl

pub rest_first : (xs : List ℕ) (x : ℕ) → first xs ≡ Some x → length xs ≡ length (rest xs) + 1
rest_first [] x e = cc
rest_first (y ∷ ys) x e = omega arith

-- what follows a block in its list
pub next_is : (ls : List (List ℕ)) (h at next x : ℕ) (r : Option ℕ) → next ≡ suc at → slice_get (list_at ls h) at ≡ Some x
    → ((g : ℕ) (before after : List ℕ) → list_at ls g ≡ before ++ x ∷ after → r ≡ first after) → r ≡ slice_get (list_at ls h) next
next_is ls h at next x r n e f =
    f h (take at (list_at ls h)) (drop (suc at) (list_at ls h)) (behind (list_at ls h) at x e) ∙ first_drop (list_at ls h) (suc at)
    ∙ ap (λ k. slice_get (list_at ls h) k) (sym n)
