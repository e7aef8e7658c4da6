-- Lists that are built by index.
use Rattle.std.specs.Prelude.{◌≡◌, ◌<◌, ℕ, suc, Some, List, [], ◌∷◌, ◌++◌, length, slice_get, slice_index_or, sum_by, refl}
use Rattle.std.proofs.Common.{sym, ◌∙◌, ap, arith}
use Rattle.std.proofs.lemmas.List.{get_or_append_left, get_or_push, length_push}
use Rattle.std.proofs.lemmas.List.Sums.{sum_by-cons}
use Rattle.std.proofs.lemmas.Option.{slice_get-get_or}

-- an element that is put at the end
pub push_last : {X : Type 0} (xs : List X) (x : X) (k : ℕ) → length xs ≡ k → slice_get (xs ++ x ∷ []) k ≡ Some x
push_last xs x k e =
    let l = length_push xs x in
    slice_get-get_or (xs ++ x ∷ []) k x (omega arith) ∙ ap Some (get_or_push xs x x k e)

pub push_before : {X : Type 0} (xs : List X) (x : X) (k : ℕ) → k < length xs → slice_get (xs ++ x ∷ []) k ≡ slice_get xs k
push_before xs x k h =
    let l = length_push xs x in
    slice_get-get_or (xs ++ x ∷ []) k x (omega arith) ∙ ap Some (get_or_append_left xs (x ∷ []) x k h) ∙ sym (slice_get-get_or xs k x h)

-- two sums that are alike at each place
pub sum_alike : {X Y : Type 0} (f : X → ℕ) (g : Y → ℕ) (xs : List X) (ys : List Y) (d : X) (e : Y) → length xs ≡ length ys
    → ((k : ℕ) → k < length xs → f (slice_index_or xs k d) ≡ g (slice_index_or ys k e)) → sum_by f xs ≡ sum_by g ys
sum_alike f g [] [] d e l h = refl
sum_alike f g [] (y ∷ ys) d e l h = absurd (omega (arith, l))
sum_alike f g (x ∷ xs) [] d e l h = absurd (omega (arith, l))
sum_alike f g (x ∷ xs) (y ∷ ys) d e l h =
    let r = sum_alike f g xs ys d e (omega arith) (λ k lt. h (suc k) (omega arith)) in
    let z : f x ≡ g y = h 0 (omega arith) in
    omega (arith, sum_by-cons f x xs, sum_by-cons g y ys)
