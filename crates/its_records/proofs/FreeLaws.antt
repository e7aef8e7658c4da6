-- Least free slots of functions that are alike, what they say of the slot, whether no slot has a
-- job, and how many slots jobs can have.
use Rattle.std.specs.Prelude.{if◌then◌else◌, ◌==◌, ◌≡◌, ◌≢◌, ◌≤◌, ◌<◌, ◌+◌, ℕ, zero, suc, true, false, Option, Some, None, is_some, cond, refl}
use Rattle.std.proofs.Common.{sym, ◌∙◌, ap, arith, inl, inr}
use Rattle.std.proofs.lemmas.Bool.{cases_eq}
use Rattle.its_word.specs.Limits.{slots, limit_of}
use Rattle.its_records.specs.Tree.{free_from, least_free, none_from, no_job}

-- only which slots are empty counts
free_alike : {X Y : Type 0} (f : ℕ → Option X) (g : ℕ → Option Y) (n k : ℕ) → ((i : ℕ) → is_some (f i) ≡ is_some (g i)) → free_from f n k ≡ free_from g n k
unfolding free_from
free_alike f g zero k h = refl
free_alike f g (suc n) k h = ap (λ b. cond b (free_from f n (k + 1)) (Some k)) (h k) ∙ ap (λ r. cond (is_some (g k)) r (Some k)) (free_alike f g n (k + 1) h)

pub least_alike : {X Y : Type 0} (limit : ℕ) (f : ℕ → Option X) (g : ℕ → Option Y) → ((i : ℕ) → is_some (f i) ≡ is_some (g i))
    → least_free limit f ≡ least_free limit g
unfolding least_free
least_alike limit f g h = free_alike f g limit 0 h

-- the least free slot is empty
free_empty : {X : Type 0} (f : ℕ → Option X) (n k s : ℕ) → free_from f n k ≡ Some s → f s ≡ None
unfolding free_from
free_empty f zero k s h = cc
free_empty {X = X} f (suc n) k s h = go (f k) refl (free_empty f n (k + 1) s) h
  where
    go : (o : Option X) → f k ≡ o → (free_from f n (k + 1) ≡ Some s → f s ≡ None) → cond (is_some o) (free_from f n (k + 1)) (Some k) ≡ Some s → f s ≡ None
    go (Some x) e later h = later h
    go None e later h = let q : k ≡ s = cc in ap f (sym q) ∙ e

pub least_empty : {X : Type 0} (limit : ℕ) (f : ℕ → Option X) (s : ℕ) → least_free limit f ≡ Some s → f s ≡ None
unfolding least_free
least_empty limit f s h = free_empty f limit 0 s h

-- the least free slot is below the limit
free_below : {X : Type 0} (f : ℕ → Option X) (n k s : ℕ) → free_from f n k ≡ Some s → s < k + n
unfolding free_from
free_below f zero k s h = cc
free_below {X = X} f (suc n) k s h = go (f k) (λ later. let l = free_below f n (k + 1) s later in omega arith) h
  where
    go : (o : Option X) → (free_from f n (k + 1) ≡ Some s → s < k + suc n) → cond (is_some o) (free_from f n (k + 1)) (Some k) ≡ Some s → s < k + suc n
    go (Some x) later h = later h
    go None later h = let q : k ≡ s = cc in omega arith

pub least_below : {X : Type 0} (limit : ℕ) (f : ℕ → Option X) (s : ℕ) → least_free limit f ≡ Some s → s < limit
unfolding least_free
least_below limit f s h = let l = free_below f limit 0 s h in omega arith

-- whether no slot has a job
none_alike : {X Y : Type 0} (f : ℕ → Option X) (g : ℕ → Option Y) (n k : ℕ) → ((i : ℕ) → is_some (f i) ≡ is_some (g i)) → none_from f n k ≡ none_from g n k
unfolding none_from
none_alike f g zero k h = refl
none_alike f g (suc n) k h = ap (λ b. cond b false (none_from f n (k + 1))) (h k) ∙ ap (λ r. cond (is_some (g k)) false r) (none_alike f g n (k + 1) h)

pub no_job_alike : {X Y : Type 0} (f : ℕ → Option X) (g : ℕ → Option Y) → ((i : ℕ) → is_some (f i) ≡ is_some (g i)) → no_job f ≡ no_job g
unfolding no_job
no_job_alike f g h = none_alike f g slots 0 h

none_there : {X : Type 0} (f : ℕ → Option X) (n k i : ℕ) → none_from f n k ≡ true → k ≤ i → i < k + n → f i ≡ None
unfolding none_from
none_there f zero k i h a b = absurd (omega arith)
none_there {X = X} f (suc n) k i h a b = go (f k) refl (λ later ne. none_there f n (k + 1) i later (omega arith) (omega arith)) h
  where
    go : (o : Option X) → f k ≡ o → (none_from f n (k + 1) ≡ true → i ≢ k → f i ≡ None) → cond (is_some o) false (none_from f n (k + 1)) ≡ true → f i ≡ None
    go (Some x) e later h = cc
    go None e later h = elim (cases_eq i k) [ inl is ↦ ap f is ∙ e | inr ne ↦ later h ne ]

pub no_job_there : {X : Type 0} (f : ℕ → Option X) (i : ℕ) → no_job f ≡ true → i < slots → f i ≡ None
unfolding no_job
no_job_there f i h l = none_there f slots 0 i h (omega arith) (omega arith)

none_at_all : {X : Type 0} (f : ℕ → Option X) (n k : ℕ) → ((i : ℕ) → f i ≡ None) → none_from f n k ≡ true
unfolding none_from
none_at_all f zero k h = refl
none_at_all f (suc n) k h = rw (h k) (none_at_all f n (k + 1) h)

pub no_job_at_all : {X : Type 0} (f : ℕ → Option X) → ((i : ℕ) → f i ≡ None) → no_job f ≡ true
unfolding no_job
no_job_at_all f h = none_at_all f slots 0 h

-- how many jobs a session can have is one of two numbers
pub limit_few : (version : ℕ) → limit_of version ≤ slots
unfolding limit_of
limit_few version = elim (version == 2) as (λ b. (if b then slots else 64) ≤ slots) [ true ↦ omega arith | false ↦ omega arith ]

pub limit_first : limit_of 1 ≡ 64
unfolding limit_of
limit_first = refl

pub limit_second : limit_of 2 ≡ slots
unfolding limit_of
limit_second = refl

-- what is nothing
pub none_is : {X : Type 0} (o : Option X) → is_some o ≡ false → o ≡ None
none_is (Some x) h = cc
none_is None h = refl
