-- Numbers in an order, and free ones.
use Rattle.std.specs.Prelude.{◌≡◌, ◌≢◌, ◌<◌, ◌≤◌, ℕ, suc, ◌+◌, true, cond, Option, Some, None, is_some, List, [], ◌∷◌, ◌++◌, length, take, drop, count_by, slice_get, slice_index_or, refl}
use Rattle.std.specs.List.{remove}
use Rattle.std.proofs.Common.{sym, ◌∙◌, ap, inl, inr, arith}
use Rattle.std.proofs.lemmas.Bool.{cases_lt}
use Rattle.std.proofs.lemmas.List.{take_more, take_all}
use Rattle.std.proofs.lemmas.List.Sums.{sum_by-cons}
use Rattle.its_links.specs.Lists.{count, without}
use Rattle.its_links.proofs.CountLaws.{hit_other, count-append, without_split}
use Rattle.its_files.proofs.ChainLaws.{behind}

pub count_none : (x : ℕ) (xs : List ℕ) → count x (take 0 xs) ≡ 0
count_none x xs = refl

pub count_more : (x k d : ℕ) (xs : List ℕ) → k < length xs → x ≢ slice_index_or xs k d → count x (take k xs) ≡ 0 → count x (take (k + 1) xs) ≡ 0
count_more x k d xs lt ne e =
    let t = ap (λ ys. count x ys) (take_more xs k d lt) in
    let a = count-append x (take k xs) (slice_index_or xs k d ∷ []) in
    let h = hit_other x (slice_index_or xs k d) ne in
    omega arith

pub count_end : (x k : ℕ) (xs : List ℕ) → length xs ≤ k → count x (take k xs) ≡ 0 → count x xs ≡ 0
count_end x k xs le e = sym (ap (λ ys. count x ys) (take_all k xs le)) ∙ e

-- a number that occurs once is taken out at its place
pub removed : (x k : ℕ) (xs : List ℕ) → count x xs ≤ 1 → slice_get xs k ≡ Some x → remove xs k ≡ without x xs
removed x k xs once at =
    let b = behind xs k x at in
    let c : count x (take k xs ++ x ∷ drop (suc k) xs) ≤ 1 = rw (← b) once in
    sym (ap (λ ys. without x ys) b ∙ without_split x (take k xs) (drop (suc k) xs) c)

-- if not all numbers are in use, some number is free
all_used : {X : Type 0} (es : List (Option X)) → ((k : ℕ) → k < length es → is_some (slice_index_or es k None) ≡ true) → count_by is_some es ≡ length es
all_used [] h = refl
all_used (e ∷ es) h =
    let s : is_some e ≡ true = h 0 (omega arith) in
    let r : count_by is_some es ≡ length es = all_used es (λ k lt. h (suc k) (omega arith)) in
    sum_by-cons (λ x. cond (is_some x) 1 0) e es ∙ rw (s, r) (omega arith)

pub some_free : {X : Type 0} (es : List (Option X)) (n : ℕ) → n ≤ length es → ((k : ℕ) → k < n → is_some (slice_index_or es k None) ≡ true)
    → count_by is_some es < length es → n < length es
some_free es n h each few = elim (cases_lt n (length es)) [
  | inl lt ↦ lt
  | inr ge ↦ let r = all_used es (λ k lt. each k (omega arith)) in absurd (omega arith)
]
