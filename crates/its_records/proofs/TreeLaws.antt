-- The least free slot, and the jobs below a job, found by looking at one slot after another.
use Rattle.std.specs.Prelude.{◌≡◌, ◌≢◌, ◌≤◌, ◌<◌, ◌+◌, ◌-◌, ◌==◌, ◌&&◌, ◌||◌, not, ℕ, zero, suc, Bool, true, false, Option, Some, None, List, ◌∷◌, is_some, cond, filter, slice_get, refl}
use Rattle.std.specs.List.{range_with_len}
use Rattle.std.proofs.Common.{◌∙◌, ap, arith, inl, inr, eq-eqb}
use Rattle.std.proofs.lemmas.Bool.{cases_eq, ne_eqb}
use Rattle.its_word.specs.Limits.{slots}
use Rattle.its_records.specs.Tree.{free_from, least_free, none_from, no_job, climbs_to, is_below, slots_below}

-- before the first slot is looked at
pub least_start : {X : Type 0} (jobs : ℕ → Option X) (limit : ℕ) → free_from jobs (limit - 0) 0 ≡ least_free limit jobs
unfolding least_free
least_start jobs limit = let e : limit - 0 ≡ limit = omega arith in ap (λ n. free_from jobs n 0) e

-- slot k is full
full_next : {X : Type 0} (jobs : ℕ → Option X) (n k : ℕ) → is_some (jobs k) ≡ true → free_from jobs (suc n) k ≡ free_from jobs n (k + 1)
unfolding free_from
full_next jobs n k h = rw h refl

pub least_next : {X : Type 0} (jobs : ℕ → Option X) (limit k : ℕ) → k < limit → is_some (jobs k) ≡ true
    → free_from jobs (limit - k) k ≡ free_from jobs (limit - (k + 1)) (k + 1)
least_next jobs limit k l h =
    let e : limit - k ≡ suc (limit - (k + 1)) = omega arith in
    ap (λ n. free_from jobs n k) e ∙ full_next jobs (limit - (k + 1)) k h

-- slot k is free
free_here : {X : Type 0} (jobs : ℕ → Option X) (n k : ℕ) → is_some (jobs k) ≡ false → free_from jobs (suc n) k ≡ Some k
unfolding free_from
free_here jobs n k h = rw h refl

pub least_found : {X : Type 0} (jobs : ℕ → Option X) (limit k : ℕ) → k < limit → is_some (jobs k) ≡ false → free_from jobs (limit - k) k ≡ Some k
least_found jobs limit k l h =
    let e : limit - k ≡ suc (limit - (k + 1)) = omega arith in
    ap (λ n. free_from jobs n k) e ∙ free_here jobs (limit - (k + 1)) k h

-- no slot is left
pub least_end : {X : Type 0} (jobs : ℕ → Option X) (limit k : ℕ) → limit ≤ k → free_from jobs (limit - k) k ≡ None
unfolding free_from
least_end jobs limit k l = let e : limit - k ≡ 0 = omega arith in ap (λ n. free_from jobs n k) e

-- whether no slot has a job: before the first is looked at, if slot k has one, if it has none, and
-- at the end
pub none_start : {X : Type 0} (jobs : ℕ → Option X) → none_from jobs (slots - 0) 0 ≡ no_job jobs
unfolding no_job
none_start jobs = let e : slots - 0 ≡ slots = omega arith in ap (λ n. none_from jobs n 0) e

job_here : {X : Type 0} (jobs : ℕ → Option X) (n k : ℕ) → is_some (jobs k) ≡ true → none_from jobs (suc n) k ≡ false
unfolding none_from
job_here jobs n k h = rw h refl

pub none_full : {X : Type 0} (jobs : ℕ → Option X) (k : ℕ) → k < slots → is_some (jobs k) ≡ true → none_from jobs (slots - k) k ≡ false
none_full jobs k l h =
    let e : slots - k ≡ suc (slots - (k + 1)) = omega arith in
    ap (λ n. none_from jobs n k) e ∙ job_here jobs (slots - (k + 1)) k h

none_here : {X : Type 0} (jobs : ℕ → Option X) (n k : ℕ) → is_some (jobs k) ≡ false → none_from jobs (suc n) k ≡ none_from jobs n (k + 1)
unfolding none_from
none_here jobs n k h = rw h refl

pub none_next : {X : Type 0} (jobs : ℕ → Option X) (k : ℕ) → k < slots → is_some (jobs k) ≡ false
    → none_from jobs (slots - k) k ≡ none_from jobs (slots - (k + 1)) (k + 1)
none_next jobs k l h =
    let e : slots - k ≡ suc (slots - (k + 1)) = omega arith in
    ap (λ n. none_from jobs n k) e ∙ none_here jobs (slots - (k + 1)) k h

pub none_end : {X : Type 0} (jobs : ℕ → Option X) (k : ℕ) → slots ≤ k → none_from jobs (slots - k) k ≡ true
unfolding none_from
none_end jobs k l = let e : slots - k ≡ 0 = omega arith in ap (λ n. none_from jobs n k) e

-- climbing from one job to its superior
pub climb_spent : (superiors : ℕ → Option ℕ) (s n : ℕ) (o : Option ℕ) → n ≡ 0 → climbs_to superiors s n o ≡ false
unfolding climbs_to
climb_spent superiors s zero o e = refl
climb_spent superiors s (suc n) o e = absurd (omega arith)

pub climb_end : (superiors : ℕ → Option ℕ) (s n : ℕ) → climbs_to superiors s n None ≡ false
unfolding climbs_to
climb_end superiors s zero = refl
climb_end superiors s (suc n) = refl

climb : (superiors : ℕ → Option ℕ) (s n m k : ℕ) → n ≡ suc m → climbs_to superiors s n (Some k) ≡ ((k == s) || climbs_to superiors s m (superiors k))
unfolding climbs_to
climb superiors s zero m k e = absurd (omega arith)
climb superiors s (suc n) m k e = let same : n ≡ m = omega arith in ap (λ x. (k == s) || climbs_to superiors s x (superiors k)) same

-- after i of so many steps
pub climb_turn : (superiors : ℕ → Option ℕ) (s most i k : ℕ) → i < most
    → climbs_to superiors s (most - i) (Some k) ≡ ((k == s) || climbs_to superiors s (most - (i + 1)) (superiors k))
climb_turn superiors s most i k l = let e : most - i ≡ suc (most - (i + 1)) = omega arith in climb superiors s (most - i) (most - (i + 1)) k e

pub and_false : (b : Bool) → (b && false) ≡ false
and_false true = refl
and_false false = refl

-- a job whose superior is s is below s
pub below_superior : (superiors : ℕ → Option ℕ) (s k : ℕ) → k ≢ s → superiors k ≡ Some s → is_below superiors s k ≡ true
unfolding is_below climbs_to
below_superior superiors s k ne e = rw (e, eq-eqb s s refl) (ap (λ b. not b && true) (ne_eqb k s ne))

-- a job without superior is below none
pub below_none : (superiors : ℕ → Option ℕ) (s k : ℕ) → superiors k ≡ None → is_below superiors s k ≡ false
unfolding is_below climbs_to
below_none superiors s k e = rw e (and_false (not (k == s)))

-- the slots from i on that are below s
unfoldable pub rest_below : (ℕ → Option ℕ) → ℕ → ℕ → List ℕ
rest_below superiors s i = filter (is_below superiors s) (range_with_len i (slots - i))

pub rest_start : (superiors : ℕ → Option ℕ) (s : ℕ) → rest_below superiors s 0 ≡ slots_below superiors s
unfolding rest_below slots_below
rest_start superiors s = refl

rest_turn : (superiors : ℕ → Option ℕ) (s i : ℕ) → i < slots
    → rest_below superiors s i ≡ cond (is_below superiors s i) (i ∷ rest_below superiors s (i + 1)) (rest_below superiors s (i + 1))
unfolding rest_below
rest_turn superiors s i l =
    let e : slots - i ≡ suc (slots - (i + 1)) = omega arith in
    ap (λ n. filter (is_below superiors s) (range_with_len i n)) e

skipped : (superiors : ℕ → Option ℕ) (s i : ℕ) → i < slots → is_below superiors s i ≡ false → rest_below superiors s i ≡ rest_below superiors s (i + 1)
skipped superiors s i l h = rest_turn superiors s i l ∙ ap (λ b. cond b (i ∷ rest_below superiors s (i + 1)) (rest_below superiors s (i + 1))) h

taken : (superiors : ℕ → Option ℕ) (s i : ℕ) → i < slots → is_below superiors s i ≡ true → rest_below superiors s i ≡ i ∷ rest_below superiors s (i + 1)
taken superiors s i l h = rest_turn superiors s i l ∙ ap (λ b. cond b (i ∷ rest_below superiors s (i + 1)) (rest_below superiors s (i + 1))) h

-- the n-th of them
pub nth_skip : (superiors : ℕ → Option ℕ) (s i n : ℕ) → i < slots → is_below superiors s i ≡ false
    → slice_get (rest_below superiors s i) n ≡ slice_get (rest_below superiors s (i + 1)) n
nth_skip superiors s i n l h = ap (λ xs. slice_get xs n) (skipped superiors s i l h)

pub nth_here : (superiors : ℕ → Option ℕ) (s i n : ℕ) → i < slots → is_below superiors s i ≡ true → n ≡ 0 → slice_get (rest_below superiors s i) n ≡ Some i
nth_here superiors s i zero l h e = ap (λ xs. slice_get xs 0) (taken superiors s i l h)
nth_here superiors s i (suc n) l h e = absurd (omega arith)

pub nth_next : (superiors : ℕ → Option ℕ) (s i n : ℕ) → i < slots → is_below superiors s i ≡ true → n ≢ 0
    → slice_get (rest_below superiors s i) n ≡ slice_get (rest_below superiors s (i + 1)) (n - 1)
nth_next superiors s i zero l h ne = absurd (ne refl)
nth_next superiors s i (suc n) l h ne =
    let e : n ≡ suc n - 1 = omega arith in
    ap (λ xs. slice_get xs (suc n)) (taken superiors s i l h) ∙ ap (slice_get (rest_below superiors s (i + 1))) e

pub nth_end : (superiors : ℕ → Option ℕ) (s i n : ℕ) → slots ≤ i → slice_get (rest_below superiors s i) n ≡ None
unfolding rest_below
nth_end superiors s i n l = let e : slots - i ≡ 0 = omega arith in ap (λ m. slice_get (filter (is_below superiors s) (range_with_len i m)) n) e

-- none is below s if there is no first
none_in : (p : ℕ → Bool) (a n j : ℕ) → slice_get (filter p (range_with_len a n)) 0 ≡ None → a ≤ j → j < a + n → p j ≡ false
none_in p a zero j h l m = absurd (omega arith)
none_in p a (suc n) j h l m =
    let later : slice_get (filter p (range_with_len (a + 1) n)) 0 ≡ None → a + 1 ≤ j → p j ≡ false = λ g r. none_in p (a + 1) n j g r (omega arith) in
    go (p a) refl h later
  where
    go : (b : Bool) → p a ≡ b → slice_get (cond b (a ∷ filter p (range_with_len (a + 1) n)) (filter p (range_with_len (a + 1) n))) 0 ≡ None
        → (slice_get (filter p (range_with_len (a + 1) n)) 0 ≡ None → a + 1 ≤ j → p j ≡ false) → p j ≡ false
    go true e h later = cc
    go false e h later = elim (cases_eq j a) [ inl f ↦ rw f e | inr f ↦ later h (omega arith) ]

pub none_below : (superiors : ℕ → Option ℕ) (s j : ℕ) → slice_get (slots_below superiors s) 0 ≡ None → j < slots → is_below superiors s j ≡ false
unfolding slots_below
none_below superiors s j h l = none_in (is_below superiors s) 0 slots j h (omega arith) (omega arith)
