-- What holds of all bytes of a text.
use Rattle.std.proofs.Common.{◌≡◌, ◌&&◌, ℕ, Bool, true, false, List, [], ◌∷◌, ◌++◌, refl}
use Rattle.std.specs.List.{list_all}
use Rattle.std.proofs.lemmas.Bool.{and_from}
use Rattle.std.proofs.lemmas.List.Folds.{list_all-append}

pub both_true : (x y : Bool) → (x && y) ≡ true → (x ≡ true) × (y ≡ true)
both_true true y h = (refl, h)
both_true false y h = cc

pub all_imp : (p q : ℕ → Bool) → ((b : ℕ) → p b ≡ true → q b ≡ true) → (xs : List ℕ) → list_all p xs ≡ true → list_all q xs ≡ true
all_imp p q f [] h = refl
all_imp p q f (x ∷ xs) h =
    let parts = both_true (p x) (list_all p xs) h in
    and_from (q x) (list_all q xs) (f x parts.0) (all_imp p q f xs parts.1)

pub all_append : (p : ℕ → Bool) (xs ys : List ℕ) → list_all p xs ≡ true → list_all p ys ≡ true → list_all p (xs ++ ys) ≡ true
all_append p xs ys h k = rw (list_all-append p xs ys) (and_from (list_all p xs) (list_all p ys) h k)

pub all_two : (p : ℕ → Bool) (xs ys : List ℕ) → list_all p xs ≡ true → list_all p ys ≡ true → p 32 ≡ true → list_all p (xs ++ 32 ∷ ys) ≡ true
all_two p [] ys h k t = rw t k
all_two p (x ∷ xs) ys h k t =
    let parts = both_true (p x) (list_all p xs) h in
    and_from (p x) (list_all p (xs ++ 32 ∷ ys)) parts.0 (all_two p xs ys parts.1 k t)
