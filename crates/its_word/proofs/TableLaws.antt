-- Lists that are built by index.
use Rattle.std.specs.Prelude.{◌≡◌, ◌≢◌, ◌<◌, ◌≤◌, ℕ, ◌+◌, Some, [], ◌∷◌, ◌++◌, length, slice_get, slice_set, slice_index_or, refl}
use Rattle.std.proofs.Common.{sym, ◌∙◌, ap, inl, inr, arith, length-set}
use Rattle.std.proofs.lemmas.Bool.{cases_eq, cases_lt}
use Rattle.std.proofs.lemmas.List.{ext_get_or, get_or-set_same, get_or-set_other, get_or_past, get_or_append_left, get_or_push, length_push, length-replicate, replicate-append-replicate}
use Rattle.std.proofs.lemmas.List.FromFn.{length-map-range_with_len, get_or-map-range_with_len}
use Rattle.std.proofs.lemmas.Option.{slice_get-get_or}
use Rattle.its_word.specs.Table.{filled, table}
use Rattle.its_word.proofs.PageLaws.{get_or-copies}

-- a list that is built by index
pub length-table : {X : Type 0} (n : ℕ) (f : ℕ → X) → length (table n f) ≡ n
unfolding table
length-table n f = length-map-range_with_len f 0 n

pub get_or-table : {X : Type 0} (n : ℕ) (f : ℕ → X) (k : ℕ) (d : X) → k < n → slice_index_or (table n f) k d ≡ f k
unfolding table
get_or-table n f k d h = get_or-map-range_with_len f 0 n k k d h (omega arith)

pub get-table : {X : Type 0} (n : ℕ) (f : ℕ → X) (k : ℕ) → k < n → slice_get (table n f) k ≡ Some (f k)
get-table n f k h =
    let l = length-table n f in
    slice_get-get_or (table n f) k (f k) (omega arith) ∙ ap Some (get_or-table n f k (f k) h)

pub get_or-table_past : {X : Type 0} (n : ℕ) (f : ℕ → X) (k : ℕ) (d : X) → n ≤ k → slice_index_or (table n f) k d ≡ d
get_or-table_past n f k d h = let l = length-table n f in get_or_past _ k d (omega arith)

pub table_alike : {X : Type 0} (n : ℕ) (f g : ℕ → X) → ((k : ℕ) → k < n → g k ≡ f k) → table n g ≡ table n f
table_alike n f g h =
    let a = length-table n f in
    let b = length-table n g in
    ext_get_or (f 0) (table n g) (table n f) (b ∙ sym a)
    (λ k lt. let i : k < n = omega arith in get_or-table n g k (f 0) i ∙ h k i ∙ sym (get_or-table n f k (f 0) i))

-- it changes at one place
pub table_set : {X : Type 0} (n : ℕ) (f g : ℕ → X) (i : ℕ) (x : X) → i < n → g i ≡ x → ((k : ℕ) → k < n → k ≢ i → g k ≡ f k)
    → table n g ≡ slice_set (table n f) i x
table_set n f g i x lt here others =
    let a = length-table n f in
    let b = length-table n g in
    let c = length-set (table n f) i x in
    ext_get_or x (table n g) (slice_set (table n f) i x) (omega arith)
    (λ k less. let at : k < n = omega arith in get_or-table n g k x at ∙ elim (cases_eq k i) [
      | inl e ↦ rw e (here ∙ sym (get_or-set_same (table n f) i x x (omega arith)))
      | inr ne ↦ others k at ne ∙ sym (get_or-table n f k x at) ∙ sym (get_or-set_other (table n f) i k x x ne)
    ])

-- one more
pub table_more : {X : Type 0} (n : ℕ) (f g : ℕ → X) (x : X) → g n ≡ x → ((k : ℕ) → k < n → g k ≡ f k) → table (n + 1) g ≡ table n f ++ x ∷ []
table_more n f g x here below =
    let a = length-table (n + 1) g in
    let b = length-table n f in
    let c = length_push (table n f) x in
    ext_get_or x (table (n + 1) g) (table n f ++ x ∷ []) (omega arith)
    (λ k less. let at : k < n + 1 = omega arith in get_or-table (n + 1) g k x at ∙ elim (cases_lt k n) [
      | inl lt ↦ below k lt ∙ sym (get_or-table n f k x lt) ∙ sym (get_or_append_left (table n f) (x ∷ []) x k (omega arith))
      | inr ge ↦ let e : k ≡ n = omega arith in rw e (here ∙ sym (get_or_push (table n f) x x n (omega arith)))
    ])

-- copies of one value
pub length-filled : {X : Type 0} (n : ℕ) (x : X) → length (filled n x) ≡ n
unfolding filled
length-filled n x = length-replicate n x

pub get_or-filled : {X : Type 0} (n k : ℕ) (x : X) → slice_index_or (filled n x) k x ≡ x
unfolding filled
get_or-filled n k x = get_or-copies n k x

-- a loop that makes them
pub filled_none : {X : Type 0} (x : X) → [] ≡ filled 0 x
unfolding filled
filled_none x = refl

pub filled_more : {X : Type 0} (k : ℕ) (x : X) → filled k x ++ x ∷ [] ≡ filled (k + 1) x
unfolding filled
filled_more k x = replicate-append-replicate k 1 x
