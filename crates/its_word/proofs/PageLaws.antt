-- The laws of a core with another page, and of how many pages there are.
use Rattle.std.specs.Prelude.{◌≡◌, ◌≢◌, ◌<◌, ◌≤◌, ℕ, zero, suc, ◌+◌, ◌/◌, ◌%◌, true, cond, Option, Some, None, List, [], ◌∷◌, nat_lt, slice_get, slice_set, slice_index_or, is_some, length, replicate, sum_by, count_by, refl}
use Rattle.std.specs.List.{range_with_len}
use Rattle.std.proofs.Common.{sym, ◌∙◌, ap, inl, inr, arith}
use Rattle.std.proofs.lemmas.Bool.{cases_Bool, cases_eq, lt-ltb, le-ltb}
use Rattle.std.proofs.lemmas.List.{get_or-set_same}
use Rattle.std.proofs.lemmas.List.Sums.{sum_by-set, sum_by-cons}
use Rattle.its_word.specs.Core.{Page, Core, present, page_of, zero_page, word_in, stores_in, page_stored, word_at, can_store, store, with_page, no_core, pages_present, pages_mapped}
use Rattle.its_word.specs.Limits.{slots}
use Rattle.its_word.specs.Only.{Only, Same}
use Rattle.its_word.proofs.CoreLaws.{in_accs, in_page, stores_acc, stores_page, store_acc, store_page, get_set_other}

pub present-slice_get : (ps : List (Option Page)) (k : ℕ) → present (slice_get ps k) ≡ slice_index_or ps k None
present-slice_get [] k = refl
present-slice_get (Some p ∷ ps) zero = refl
present-slice_get (None ∷ ps) zero = refl
present-slice_get (p ∷ ps) (suc k) = present-slice_get ps k

within : (ps : List (Option Page)) (k : ℕ) → is_some (present (slice_get ps k)) ≡ true → k < length ps
within [] k h = cc
within (p ∷ ps) zero h = omega arith
within (p ∷ ps) (suc k) h = let r = within ps k h in omega arith

set_none : (ps : List (Option Page)) (k : ℕ) → slice_index_or (slice_set ps k None) k None ≡ None
set_none [] k = refl
set_none (p ∷ ps) zero = refl
set_none (p ∷ ps) (suc k) = set_none ps k

-- a core with another page
pub page_of-with_page_other : (c : Core) (k j : ℕ) (p : Option Page) → j ≢ k → page_of (with_page c k p) j ≡ page_of c j
unfolding page_of with_page
page_of-with_page_other c k j p ne = ap present (get_set_other c.pages k j p ne)

-- if there is a place for it
pub page_of-with_page : (c : Core) (k : ℕ) (p : Option Page) → k < length c.pages → page_of (with_page c k p) k ≡ p
unfolding page_of with_page
page_of-with_page c k p h = present-slice_get (slice_set c.pages k p) k ∙ get_or-set_same c.pages k p None h

-- and in any case if it is present before, or is to be absent
pub page_of-with_page_present : (c : Core) (k : ℕ) (p : Option Page) → is_some (page_of c k) ≡ true → page_of (with_page c k p) k ≡ p
unfolding page_of
page_of-with_page_present c k p h = page_of-with_page c k p (within c.pages k h)

pub page_of-with_page_none : (c : Core) (k : ℕ) → page_of (with_page c k None) k ≡ None
unfolding page_of with_page
page_of-with_page_none c k = present-slice_get (slice_set c.pages k None) k ∙ set_none c.pages k

pub word_at-with_page_other : (c : Core) (k a : ℕ) (p : Option Page) → a / 1024 ≢ k → word_at (with_page c k p) a ≡ word_at c a
unfolding with_page
word_at-with_page_other c k a p ne = elim (cases_Bool (nat_lt a 16)) [
  | inl t ↦ in_accs (with_page c k p) a t ∙ sym (in_accs c a t)
  | inr t ↦ in_page (with_page c k p) a t ∙ ap (λ q. word_in q (a % 1024)) (page_of-with_page_other c k (a / 1024) p ne) ∙ sym (in_page c a t)
]

pub can_store-with_page_other : (c : Core) (k a : ℕ) (p : Option Page) → a / 1024 ≢ k → can_store (with_page c k p) a ≡ can_store c a
unfolding with_page
can_store-with_page_other c k a p ne = elim (cases_Bool (nat_lt a 16)) [
  | inl t ↦ stores_acc (with_page c k p) a t ∙ sym (stores_acc c a t)
  | inr t ↦ stores_page (with_page c k p) a t ∙ ap (λ q. stores_in q (a % 1024)) (page_of-with_page_other c k (a / 1024) p ne) ∙ sym (stores_page c a t)
]

-- an accumulator is the same whatever the pages are
pub word_at-with_page_acc : (c : Core) (k a : ℕ) (p : Option Page) → a < 16 → word_at (with_page c k p) a ≡ word_at c a
unfolding with_page
word_at-with_page_acc c k a p h = let t = lt-ltb a 16 h in in_accs (with_page c k p) a t ∙ sym (in_accs c a t)

pub can_store-with_page_acc : (c : Core) (k a : ℕ) (p : Option Page) → a < 16 → can_store (with_page c k p) a ≡ can_store c a
unfolding with_page
can_store-with_page_acc c k a p h = let t = lt-ltb a 16 h in stores_acc (with_page c k p) a t ∙ sym (stores_acc c a t)

-- 1 if there is something
abbrev pub one_if : {X : Type 0} → Option X → ℕ
one_if p = cond (is_some p) 1 0

-- one page more or less
pub pages_present-with_page : (c : Core) (k : ℕ) (p : Option Page) → k < length c.pages
    → pages_present (with_page c k p) + one_if (page_of c k) ≡ pages_present c + one_if p
unfolding pages_present with_page page_of
pages_present-with_page c k p h = rw present-slice_get (sum_by-set (λ q. cond (is_some q) 1 0) c.pages k p None h)

count_stored : (ps : List (Option Page)) (k j w : ℕ) → count_by is_some (slice_set ps k (page_stored (present (slice_get ps k)) j w)) ≡ count_by is_some ps
count_stored [] k j w = refl
count_stored (Some p ∷ ps) zero j w = sum_by-cons (λ q. cond (is_some q) 1 0) (page_stored (Some p) j w) ps
    ∙ sym (sum_by-cons (λ q. cond (is_some q) 1 0) (Some p) ps)
count_stored (None ∷ ps) zero j w = refl
count_stored (p ∷ ps) (suc k) j w =
    sum_by-cons (λ q. cond (is_some q) 1 0) p (slice_set ps k (page_stored (present (slice_get ps k)) j w))
    ∙ ap (λ n. one_if p + n) (count_stored ps k j w) ∙ sym (sum_by-cons (λ q. cond (is_some q) 1 0) p ps)

count_present : (c : Core) (a w : ℕ) → count_by is_some (slice_set c.pages (a / 1024) (page_stored (page_of c (a / 1024)) (a % 1024) w)) ≡
    count_by is_some c.pages
unfolding page_of
count_present c a w = count_stored c.pages (a / 1024) (a % 1024) w

-- a store makes no page and takes none away
pub pages_present-store : (c : Core) (a w : ℕ) → pages_present (store c a w) ≡ pages_present c
unfolding pages_present
pages_present-store c a w = elim (cases_Bool (nat_lt a 16)) [
  | inl t ↦ ap (λ d. count_by is_some d.pages) (store_acc c a w t)
  | inr t ↦ ap (λ d. count_by is_some d.pages) (store_page c a w t) ∙ count_present c a w
]

sum_alike : (f g : ℕ → ℕ) (a n : ℕ) → ((k : ℕ) → a ≤ k → g k ≡ f k) → sum_by g (range_with_len a n) ≡ sum_by f (range_with_len a n)
sum_alike f g a zero h = refl
sum_alike f g a (suc n) h =
    let e : g a ≡ f a = h a (omega arith) in
    let r : sum_by g (range_with_len (a + 1) n) ≡ sum_by f (range_with_len (a + 1) n) = sum_alike f g (a + 1) n (λ k le. h k (omega arith)) in
    let x = sum_by-cons g a (range_with_len (a + 1) n) in
    let y = sum_by-cons f a (range_with_len (a + 1) n) in
    omega arith

sum_only : (f g : ℕ → ℕ) (i a n : ℕ) → a ≤ i → i < a + n → ((k : ℕ) → k ≢ i → g k ≡ f k)
    → sum_by g (range_with_len a n) + f i ≡ sum_by f (range_with_len a n) + g i
sum_only f g i a zero lo hi h = absurd (omega arith)
sum_only f g i a (suc n) lo hi h =
    let x = sum_by-cons g a (range_with_len (a + 1) n) in
    let y = sum_by-cons f a (range_with_len (a + 1) n) in
    elim (cases_eq a i) [
      | inl e ↦
          let r : sum_by g (range_with_len (a + 1) n) ≡ sum_by f (range_with_len (a + 1) n) = sum_alike f g (a + 1) n (λ k le. h k (λ s. omega arith)) in
          let u : f a ≡ f i = ap f e in
          let v : g a ≡ g i = ap g e in
          omega arith
      | inr ne ↦
          let r = sum_only f g i (a + 1) n (omega arith) (omega arith) h in
          let u : g a ≡ f a = h a ne in
          omega arith
    ]

-- the pages of all slots, if one slot's core is another
pub pages_mapped-only : (old new : ℕ → Core) (i : ℕ) (x : Core) → Only old new i x → i < slots
    → pages_mapped new + pages_present (old i) ≡ pages_mapped old + pages_present x
unfolding pages_mapped
pages_mapped-only old new i x o h =
    rw (sym o.here) (sum_only (λ k. pages_present (old k)) (λ k. pages_present (new k)) i 0 slots (omega arith) h (λ k ne. ap pages_present (o.others k ne)))

-- if the cores are alike, so are their pages
pub pages_mapped-same : (old new : ℕ → Core) → Same old new → pages_mapped new ≡ pages_mapped old
unfolding pages_mapped
pages_mapped-same old new s = sum_alike (λ k. pages_present (old k)) (λ k. pages_present (new k)) 0 slots (λ k le. ap pages_present (s.each k))

-- n copies of one value
pub get-copies : {X : Type 0} (n k : ℕ) (x : X) → k < n → slice_get (replicate n x) k ≡ Some x
get-copies zero k x h = absurd (omega arith)
get-copies (suc n) zero x h = refl
get-copies (suc n) (suc k) x h = get-copies n k x (omega arith)

-- a page of zeros can be stored to
pub zero_stores : (c : Core) (x : ℕ) → 16 ≤ x → page_of c (x / 1024) ≡ Some zero_page → can_store c x ≡ true
unfolding can_store zero_page
zero_stores c x l h = let t = le-ltb x 16 l in rw (t, h) (ap is_some (get-copies 1024 (x % 1024) 0 (omega arith)))

pub get_or-copies : {X : Type 0} (n k : ℕ) (x : X) → slice_index_or (replicate n x) k x ≡ x
get_or-copies zero k x = refl
get_or-copies (suc n) zero x = refl
get_or-copies (suc n) (suc k) x = get_or-copies n k x

count-copies : (n : ℕ) → count_by is_some (replicate {A = Option Page} n None) ≡ 0
count-copies zero = refl
count-copies (suc n) = count-copies n

-- the core of an empty slot
pub word_at-no_core : (a : ℕ) → a < 16 → word_at no_core a ≡ Some 0
unfolding no_core
word_at-no_core a h = in_accs no_core a (lt-ltb a 16 h) ∙ get-copies 16 a 0 h

pub page_of-no_core : (k : ℕ) → page_of no_core k ≡ None
unfolding page_of no_core
page_of-no_core k = present-slice_get (replicate 256 None) k ∙ get_or-copies 256 k None

pub word_at-no_core_past : (a : ℕ) → 16 ≤ a → word_at no_core a ≡ None
word_at-no_core_past a h = in_page no_core a (le-ltb a 16 h) ∙ ap (λ p. word_in p (a % 1024)) (page_of-no_core (a / 1024))

pub can_store-no_core : (a : ℕ) → a < 16 → can_store no_core a ≡ true
unfolding no_core
can_store-no_core a h = stores_acc no_core a (lt-ltb a 16 h) ∙ ap is_some (get-copies 16 a 0 h)

pub pages_present-no_core : pages_present no_core ≡ 0
unfolding pages_present no_core
pages_present-no_core = count-copies 256

sum_none : (f : ℕ → ℕ) (a n : ℕ) → ((k : ℕ) → f k ≡ 0) → sum_by f (range_with_len a n) ≡ 0
sum_none f a zero h = refl
sum_none f a (suc n) h =
    let x = sum_by-cons f a (range_with_len (a + 1) n) in
    let y = h a in
    let z = sum_none f (a + 1) n h in
    omega arith

-- no core has a page
pub pages_mapped-none : (cores : ℕ → Core) → ((k : ℕ) → cores k ≡ no_core) → pages_mapped cores ≡ 0
unfolding pages_mapped
pages_mapped-none cores h = sum_none (λ k. pages_present (cores k)) 0 slots (λ k. ap pages_present (h k) ∙ pages_present-no_core)

-- an absent page that is made absent
set_absent : (ps : List (Option Page)) (k : ℕ) → slice_index_or ps k None ≡ None → slice_set ps k None ≡ ps
set_absent [] k h = refl
set_absent (p ∷ ps) zero h = let e : p ≡ None = h in ap (λ q. q ∷ ps) (sym e)
set_absent (p ∷ ps) (suc k) h = ap (λ qs. p ∷ qs) (set_absent ps k h)

pub with_page-absent : (c : Core) (k : ℕ) → page_of c k ≡ None → with_page c k None ≡ c
unfolding with_page page_of
with_page-absent c k h = ap (λ ps. record c { pages = ps }) (set_absent c.pages k (sym (present-slice_get c.pages k) ∙ h))

-- for `using`
pub ruleset paging = (page_of-with_page_none, page_of-with_page_other, with_page-absent)

pub ruleset empty_slot = (word_at-no_core, word_at-no_core_past, page_of-no_core, can_store-no_core)
