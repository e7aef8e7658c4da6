-- The words of an a/ line are stored exactly if the pages that they make can be mapped.
use Rattle.std.specs.Prelude.{◌≡◌, ◌≢◌, ◌<◌, ◌≤◌, ◌^◌, ℕ, zero, suc, ◌+◌, ◌-◌, ◌/◌, ◌%◌, ◌||◌, ◌&&◌, not, ◌⊎◌, Bool, true, false, Option, Some, None, is_some, IsOk, List, [], ◌∷◌, Result, Ok, Err, nat_lt, length, slice_get, refl}
use Rattle.std.proofs.Common.{sym, ◌∙◌, ap, subst, arith, inl, inr}
use Rattle.std.proofs.lemmas.Bool.{cases_Bool, cases_eq, cases_lt, both_ways, or_parts, lt-ltb, le-ltb, ltb-true, ltb-false}
use Rattle.std.proofs.lemmas.List.{length-set}
use Rattle.its_word.specs.Core.{Core, Page, IsWhole, page_of, word_in, page_stored, word_at, can_store, store, with_page, zero_page, pages_present}
use Rattle.its_word.specs.Limits.{slots, most_pages}
use Rattle.its_records.specs.declared.session.Reason.{Reason}
use Rattle.its_records.specs.declared.session.Reason.TheVariants.{Full}
use Rattle.its_word.proofs.CoreLaws.{page_alike, is_some-store, can_store-store, word_at-can_store, in_accs, in_page, store_acc, store_page}
use Rattle.its_word.proofs.PageLaws.{page_of-with_page, page_of-with_page_other, word_at-with_page_other, can_store-with_page_other, pages_present-with_page, pages_present-store, pages_mapped-only, one_if, zero_stores}
use Rattle.its_core.specs.Cores.{mark_of}
use Rattle.its_plain.specs.Machine.{Whole, Machine, changed, with_job, mapped, core_of}
use Rattle.its_plain.specs.Operator.{and_then}
use Rattle.its_plain.specs.Operator.Jobs.{with_core, with_stored_in, with_stored, with_word_loaded_of, with_word_loaded, with_words_stored, is_barred, any_barred}
use Rattle.its_shared.proofs.PartLaws.{changed_only}
use Rattle.its_direct.specs.Lines.{one_unless, pages_absent, pages_made_if, pages_made}

-- a line is obeyed if what it needs is at most what there can be, or it is refused as Full if it
-- needs more
abbrev pub Within : ℕ → ℕ → Result Machine Reason → Type 0
Within most needed (Ok m) = needed ≤ most
Within most needed (Err r) = (r ≡ Full) × (most < needed)

pub within_ok : (most needed : ℕ) (r : Result Machine Reason) → Within most needed r → needed ≤ most → IsOk r
within_ok most needed (Ok m) h le = refl
within_ok most needed (Err r) h le = let l = h.1 in absurd (omega arith)

pub within_full : (most needed : ℕ) (r : Result Machine Reason) → Within most needed r → most < needed → r ≡ Err Full
within_full most needed (Ok m) h lt = absurd (omega arith)
within_full most needed (Err r) h lt = ap Err h.0

-- pages that are there, in two cores
abbrev is_there : Core → ℕ → Bool
is_there c k = is_some (page_of c k)

absent_same : (c d : Core) (k n : ℕ) → ((j : ℕ) → k ≤ j → is_there d j ≡ is_there c j) → pages_absent d k n ≡ pages_absent c k n
unfolding pages_absent
absent_same c d k zero same = refl
absent_same c d k (suc n) same =
    ap (λ b. one_unless b + pages_absent d (k + 1) n) (same k (omega arith))
    ∙ ap (λ i. one_unless (is_there c k) + i) (absent_same c d (k + 1) n (λ j le. same j (omega arith)))

absent_more : (c : Core) (k n : ℕ) → 1 ≤ n → pages_absent c k n ≡ one_unless (is_there c k) + pages_absent c (k + 1) (n - 1)
unfolding pages_absent
absent_more c k zero some = absurd (omega arith)
absent_more c k (suc n) some = let e : suc n - 1 ≡ n = omega arith in ap (λ i. one_unless (is_there c k) + pages_absent c (k + 1) i) (sym e)

absent_none : (c : Core) (k n : ℕ) → n ≡ 0 → pages_absent c k n ≡ 0
unfolding pages_absent
absent_none c k n e = ap (pages_absent c k) e

-- pages counted one by one: so many of the first k are absent
pub record Counting (c : Core) (first n k absent : ℕ) : Type 0 where
  pub rest : absent + pages_absent c (first + k) (n - k) ≡ pages_absent c first n
  pub few : absent ≤ k

pub counting_starts : (c : Core) (first n : ℕ) → Counting c first n 0 0
counting_starts c first n =
    let e : first + 0 ≡ first = omega arith in
    let f : n - 0 ≡ n = omega arith in
    let z : 0 + pages_absent c first n ≡ pages_absent c first n = omega arith in
    record { rest = ap (λ i. 0 + pages_absent c i (n - 0)) e ∙ ap (λ i. 0 + pages_absent c first i) f ∙ z; few = omega arith }

counted_more : (c : Core) (first n k : ℕ) → k < n → pages_absent c (first + k) (n - k) ≡ one_unless (is_there c (first + k)) + pages_absent
    c (first + (k + 1)) (n - (k + 1))
counted_more c first n k l =
    let e : first + k + 1 ≡ first + (k + 1) = omega arith in
    let f : n - k - 1 ≡ n - (k + 1) = omega arith in
    absent_more c (first + k) (n - k) (omega arith) ∙ ap (λ i. one_unless (is_there c (first + k)) + pages_absent c i (n - k - 1)) e
    ∙ ap (λ i. one_unless (is_there c (first + k)) + pages_absent c (first + (k + 1)) i) f

pub counting_there : (c : Core) (first n k x : ℕ) → Counting c first n k x → k < n → is_some (page_of c (first + k)) ≡ true → Counting c first n (k + 1) x
counting_there c first n k x h l t =
    let e = counted_more c first n k l in
    let f : one_unless (is_there c (first + k)) ≡ 0 = ap one_unless t in
    let r = h.rest in
    let b = h.few in
    record { rest = omega arith; few = omega arith }

pub counting_absent : (c : Core) (first n k x : ℕ) → Counting c first n k x → k < n → is_some (page_of c (first + k)) ≡ false
    → Counting c first n (k + 1) (x + 1)
counting_absent c first n k x h l t =
    let e = counted_more c first n k l in
    let f : one_unless (is_there c (first + k)) ≡ 1 = ap one_unless t in
    let r = h.rest in
    let b = h.few in
    record { rest = omega arith; few = omega arith }

pub counting_ends : (c : Core) (first n k x : ℕ) → Counting c first n k x → n ≤ k → x ≡ pages_absent c first n
counting_ends c first n k x h l =
    let z = absent_none c (first + k) (n - k) (omega arith) in
    let r = h.rest in
    omega arith

pub some_marked : (o : Option Page) → is_some (mark_of o) ≡ is_some o
some_marked (Some p) = refl
some_marked None = refl

-- the pages that are made by words of which the last is no accumulator
made_past : (c : Core) (a n : ℕ) → 16 ≤ a + n → pages_made c a (suc n) ≡ pages_absent c (a / 1024) ((a + n) / 1024 + 1 - a / 1024)
unfolding pages_made
made_past c a n h = ap (pages_made_if c a (a + n)) (le-ltb (a + n) 16 h)

made_few : (c : Core) (a n : ℕ) → a + n < 16 → pages_made c a (suc n) ≡ 0
unfolding pages_made
made_few c a n h = ap (pages_made_if c a (a + n)) (lt-ltb (a + n) 16 h)

made_none : (c : Core) (a : ℕ) → pages_made c a 0 ≡ 0
unfolding pages_made
made_none c a = refl

pub made_accs : (c : Core) (a n last : ℕ) → 1 ≤ n → last ≡ a + n - 1 → last < 16 → pages_made c a n ≡ 0
made_accs c a zero last some is l = absurd (omega arith)
made_accs c a (suc n) last some is l = made_few c a n (omega arith)

pub made_on_pages : (c : Core) (a n last : ℕ) → 1 ≤ n → last ≡ a + n - 1 → 16 ≤ last
    → pages_made c a n ≡ pages_absent c (a / 1024) (last / 1024 + 1 - a / 1024)
made_on_pages c a zero last some is l = absurd (omega arith)
made_on_pages c a (suc n) last some is l =
    let e : a + n ≡ last = omega arith in
    made_past c a n (omega arith) ∙ ap (λ k. pages_absent c (a / 1024) (k / 1024 + 1 - a / 1024)) e

-- a word in an accumulator makes none
made_acc : (c d : Core) (a n : ℕ) → a < 16 → ((j : ℕ) → is_there d j ≡ is_there c j) → pages_made c a (suc n) ≡ pages_made d (a + 1) n
made_acc c d a zero h same = made_few c a 0 (omega arith) ∙ sym (made_none d (a + 1))
made_acc c d a (suc n) h same = elim (cases_Bool (nat_lt (a + suc n) 16)) [
  | inl t ↦ let l = ltb-true (a + suc n) 16 t in made_few c a (suc n) l ∙ sym (made_few d (a + 1) n (omega arith))
  | inr t ↦
      let l = ltb-false (a + suc n) 16 t in
      let e : (a + 1) / 1024 ≡ a / 1024 = omega arith in
      let f : (a + 1 + n) / 1024 + 1 - (a + 1) / 1024 ≡ (a + suc n) / 1024 + 1 - a / 1024 = omega arith in
      made_past c a (suc n) l ∙ sym (absent_same c d (a / 1024) ((a + suc n) / 1024 + 1 - a / 1024) (λ j le. same j))
      ∙ sym (made_past d (a + 1) n (omega arith) ∙ ap (λ k. pages_absent d k ((a + 1 + n) / 1024 + 1 - (a + 1) / 1024)) e ∙ ap (pages_absent d (a / 1024)) f)
]

-- a word on a page makes that page, if it is absent
made_page : (c d : Core) (a n : ℕ) → 16 ≤ a → is_there d (a / 1024) ≡ true → ((j : ℕ) → j ≢ a / 1024 → is_there d j ≡ is_there c j)
    → pages_made c a (suc n) ≡ one_unless (is_there c (a / 1024)) + pages_made d (a + 1) n
made_page c d a zero h here others =
    let e : (a + 0) / 1024 + 1 - a / 1024 ≡ 1 = omega arith in
    made_past c a 0 (omega arith) ∙ ap (pages_absent c (a / 1024)) e ∙ absent_more c (a / 1024) 1 (omega arith)
    ∙ ap (λ i. one_unless (is_there c (a / 1024)) + i) (absent_none c (a / 1024 + 1) 0 refl ∙ sym (made_none d (a + 1)))
made_page c d a (suc n) h here others =
    let k = a / 1024 in
    let m = (a + suc n) / 1024 - a / 1024 in
    let e : (a + suc n) / 1024 + 1 - a / 1024 - 1 ≡ (a + suc n) / 1024 - a / 1024 = omega arith in
    let alike : pages_absent d (k + 1) m ≡ pages_absent c (k + 1) m = absent_same c d (k + 1) m (λ j le. others j (λ s. omega arith)) in
    let rest : pages_made d (a + 1) (suc n) ≡ pages_absent d (k + 1) m = made_past d (a + 1) n (omega arith) ∙ rest_of m refl alike in
    made_past c a (suc n) (omega arith) ∙ absent_more c k ((a + suc n) / 1024 + 1 - k) (omega arith)
    ∙ ap (λ i. one_unless (is_there c k) + pages_absent c (k + 1) i) e
    ∙ ap (λ i. one_unless (is_there c k) + i) (sym alike ∙ sym rest)
  where
    rest_of : (m : ℕ) → m ≡ (a + suc n) / 1024 - a / 1024 → pages_absent d (a / 1024 + 1) m ≡ pages_absent c (a / 1024 + 1) m
        → pages_absent d ((a + 1) / 1024) ((a + 1 + n) / 1024 + 1 - (a + 1) / 1024) ≡ pages_absent d (a / 1024 + 1) m
    rest_of m is alike = elim (cases_eq ((a + 1) / 1024) (a / 1024)) [
      | inl s ↦
          let f : (a + 1 + n) / 1024 + 1 - (a + 1) / 1024 - 1 ≡ m = omega arith in
          let z : 0 + pages_absent d (a / 1024 + 1) m ≡ pages_absent d (a / 1024 + 1) m = omega arith in
          absent_more d ((a + 1) / 1024) ((a + 1 + n) / 1024 + 1 - (a + 1) / 1024) (omega arith)
          ∙ ap (λ j. one_unless (is_there d j) + pages_absent d (j + 1) ((a + 1 + n) / 1024 + 1 - (a + 1) / 1024 - 1)) s
          ∙ ap (λ b. one_unless b + pages_absent d (a / 1024 + 1) ((a + 1 + n) / 1024 + 1 - (a + 1) / 1024 - 1)) here
          ∙ ap (λ i. 0 + pages_absent d (a / 1024 + 1) i) f ∙ z
      | inr ne ↦
          let s : (a + 1) / 1024 ≡ a / 1024 + 1 = omega arith in
          let f : (a + 1 + n) / 1024 + 1 - (a + 1) / 1024 ≡ m = omega arith in
          ap (λ j. pages_absent d j ((a + 1 + n) / 1024 + 1 - (a + 1) / 1024)) s ∙ ap (pages_absent d (a / 1024 + 1)) f
    ]

-- a word can be stored exactly if there is one: in an accumulator, or on a page that is present
abbrev has : Core → ℕ → Bool
has c x = nat_lt x 16 || is_there c (x / 1024)

pub record AreaReady (c : Core) (a n : ℕ) : Type 0 where
  pub can : (x : ℕ) → a ≤ x → x < a + n → can_store c x ≡ has c x
  pub word : (x : ℕ) → a ≤ x → x < a + n → is_some (word_at c x) ≡ has c x
  pub places : length c.pages ≡ 256

ready_less : (c : Core) (a n : ℕ) → AreaReady c a (suc n) → AreaReady c (a + 1) n
ready_less c a n h = record {
  can = λ x lo hi. h.can x (omega arith) (omega arith);
  word = λ x lo hi. h.word x (omega arith) (omega arith);
  places = h.places;
}

some_page : (p : Option Page) (i w : ℕ) → is_some (page_stored p i w) ≡ is_some p
some_page (Some p) i w = refl
some_page None i w = refl

there_stored : (c : Core) (b w k : ℕ) → is_there (store c b w) k ≡ is_there c k
there_stored c b w k = page_alike is_some some_page c b w k

places_stored : (c : Core) (b w : ℕ) → length (store c b w).pages ≡ length c.pages
places_stored c b w = elim (cases_Bool (nat_lt b 16)) [
  | inl t ↦ ap (λ d. length d.pages) (store_acc c b w t)
  | inr t ↦ ap (λ d. length d.pages) (store_page c b w t) ∙ length-set c.pages (b / 1024) _
]

ready_stored : (c : Core) (a b n w : ℕ) → AreaReady c a n → AreaReady (store c b w) a n
ready_stored c a b n w h = record {
  can = λ x lo hi. can_store-store c b x w ∙ h.can x lo hi ∙ ap (λ y. nat_lt x 16 || y) (sym (there_stored c b w (x / 1024)));
  word = λ x lo hi. is_some-store c b x w ∙ h.word x lo hi ∙ ap (λ y. nat_lt x 16 || y) (sym (there_stored c b w (x / 1024)));
  places = places_stored c b w ∙ h.places;
}

paged : Core → ℕ → Core
paged c k = with_page c k (Some zero_page)

places_paged : (c : Core) (k : ℕ) → length (paged c k).pages ≡ length c.pages
unfolding paged with_page
places_paged c k = length-set c.pages k _

has_past : (c : Core) (x : ℕ) → 16 ≤ x → has c x ≡ is_there c (x / 1024)
has_past c x l = ap (λ b. b || is_there c (x / 1024)) (le-ltb x 16 l)

has_acc : (c : Core) (x : ℕ) → x < 16 → has c x ≡ true
has_acc c x l = ap (λ b. b || is_there c (x / 1024)) (lt-ltb x 16 l)

module _ (c : Core) (k : ℕ) (places : length c.pages ≡ 256) (few : k < 256) where
  page_here : page_of (paged c k) k ≡ Some zero_page
  unfolding paged
  page_here = page_of-with_page c k (Some zero_page) (omega arith)

  page_there : (j : ℕ) → j ≢ k → page_of (paged c k) j ≡ page_of c j
  unfolding paged
  page_there j ne = page_of-with_page_other c k j (Some zero_page) ne

  can_here : (x : ℕ) → 16 ≤ x → x / 1024 ≡ k → can_store (paged c k) x ≡ true
  can_here x l e = zero_stores (paged c k) x l (ap (page_of (paged c k)) e ∙ page_here)

  can_there : (x : ℕ) → x / 1024 ≢ k → can_store (paged c k) x ≡ can_store c x
  unfolding paged
  can_there x ne = can_store-with_page_other c k x (Some zero_page) ne

  word_there : (x : ℕ) → x / 1024 ≢ k → word_at (paged c k) x ≡ word_at c x
  unfolding paged
  word_there x ne = word_at-with_page_other c k x (Some zero_page) ne

  has_here : (x : ℕ) → 16 ≤ x → x / 1024 ≡ k → has (paged c k) x ≡ true
  has_here x l e = has_past (paged c k) x l ∙ ap is_some (ap (page_of (paged c k)) e ∙ page_here)

  has_there : (x : ℕ) → x / 1024 ≢ k → has (paged c k) x ≡ has c x
  has_there x ne = ap (λ p. nat_lt x 16 || is_some p) (page_there (x / 1024) ne)

  ready_paged : (a n : ℕ) → 16 ≤ a → AreaReady c a n → AreaReady (paged c k) a n
  ready_paged a n l h = record {
    can = λ x lo hi. elim (cases_eq (x / 1024) k) [
      | inl e ↦ can_here x (omega arith) e ∙ sym (has_here x (omega arith) e)
      | inr ne ↦ can_there x ne ∙ h.can x lo hi ∙ sym (has_there x ne)
    ];
    word = λ x lo hi. elim (cases_eq (x / 1024) k) [
      | inl e ↦ word_at-can_store (paged c k) x (can_here x (omega arith) e) ∙ sym (has_here x (omega arith) e)
      | inr ne ↦ ap is_some (word_there x ne) ∙ h.word x lo hi ∙ sym (has_there x ne)
    ];
    places = places_paged c k ∙ h.places;
  }

-- the machine with a job's core changed
abbrev with_core_of : Machine → ℕ → Whole → Core → Machine
with_core_of m s q d = with_job m s (record q { core = d })

module _ (m : Machine) (s : ℕ) (q : Whole) (is : m.jobs s ≡ Some q) (slot : s < slots) where
  mapped_with : (d : Core) → mapped (with_core_of m s q d) + pages_present q.core ≡ mapped m + pages_present d
  mapped_with d =
      ap (λ o. mapped (with_core_of m s q d) + pages_present (core_of o)) (sym is)
      ∙ pages_mapped-only (λ k. core_of (m.jobs k)) (λ k. core_of (changed m.jobs s (Some (record q { core = d })) k)) s d
      (record {
        here = ap core_of (changed_only m.jobs s (Some (record q { core = d }))).here;
        others = λ k ne. ap core_of ((changed_only m.jobs s (Some (record q { core = d }))).others k ne);
      }) slot

  mapped_stored : (a w : ℕ) → mapped (with_core_of m s q (store q.core a w)) ≡ mapped m
  mapped_stored a w = let e = mapped_with (store q.core a w) in let f = pages_present-store q.core a w in omega arith

  mapped_paged : (a k w : ℕ) → length q.core.pages ≡ 256 → k < 256 → page_of q.core k ≡ None
      → mapped (with_core_of m s q (store (paged q.core k) a w)) ≡ mapped m + 1
  unfolding paged
  mapped_paged a k w places few none =
      let e = mapped_with (store (paged q.core k) a w) in
      let f = pages_present-store (paged q.core k) a w in
      let g : pages_present (paged q.core k) + one_if {X = Page} None ≡ pages_present q.core + 1 =
      sym (ap (λ o. pages_present (paged q.core k) + one_if o) none) ∙ pages_present-with_page q.core k (Some zero_page) (omega arith) in
      omega arith

  -- the result of a word
  loaded_here : (a w : ℕ) → can_store q.core a ≡ true → with_word_loaded m s a w ≡ Ok (with_core_of m s q (store q.core a w))
  unfolding with_word_loaded with_stored
  loaded_here a w t =
      ap (with_word_loaded_of m s a w) is
      ∙ ap (λ b. with_core m s q (with_stored_in q.core a w b (is_some (word_at q.core a)) (nat_lt (mapped m) most_pages))) t

  loaded_absent : (a w : ℕ) → can_store q.core a ≡ false → is_some (word_at q.core a) ≡ false
      → with_word_loaded m s a w ≡ with_core m s q (with_stored_in q.core a w false false (nat_lt (mapped m) most_pages))
  unfolding with_word_loaded with_stored
  loaded_absent a w f g =
      ap (with_word_loaded_of m s a w) is
      ∙ ap (λ b. with_core m s q (with_stored_in q.core a w b (is_some (word_at q.core a)) (nat_lt (mapped m) most_pages))) f
      ∙ ap (λ b. with_core m s q (with_stored_in q.core a w false b (nat_lt (mapped m) most_pages))) g

  -- a word that is stored, and one for whose page there is no room
  record Goes (a w n : ℕ) : Type 0 where
    core : Core
    loaded : with_word_loaded m s a w ≡ Ok (with_core_of m s q core)
    ready : AreaReady core (a + 1) n
    sum : mapped (with_core_of m s q core) + pages_made core (a + 1) n ≡ mapped m + pages_made q.core a (suc n)
    few : mapped (with_core_of m s q core) ≤ most_pages

  record Stops (a w n : ℕ) : Type 0 where
    loaded : with_word_loaded m s a w ≡ Err Full
    many : most_pages < mapped m + pages_made q.core a (suc n)

  module _ (a w n : ℕ) (ready : AreaReady q.core a (suc n)) (few : mapped m ≤ most_pages) where
    sum_here : has q.core a ≡ true → pages_made (store q.core a w) (a + 1) n ≡ pages_made q.core a (suc n)
    sum_here t = elim (cases_Bool (nat_lt a 16)) [
      | inl l ↦ sym (made_acc q.core (store q.core a w) a n (ltb-true a 16 l) (there_stored q.core a w))
      | inr g ↦
          let le = ltb-false a 16 g in
          let here : is_there q.core (a / 1024) ≡ true = sym (has_past q.core a le) ∙ t in
          let e = made_page q.core (store q.core a w) a n le (there_stored q.core a w (a / 1024) ∙ here) (λ j ne. there_stored q.core a w j) in
          let f : one_unless (is_there q.core (a / 1024)) ≡ 0 = ap one_unless here in
          omega arith
    ]

    goes_here : has q.core a ≡ true → Goes a w n
    goes_here t =
        let e = mapped_stored a w in
        let f = sum_here t in
        record {
          core = store q.core a w;
          loaded = loaded_here a w (ready.can a (omega arith) (omega arith) ∙ t);
          ready = ready_stored q.core (a + 1) a n w (ready_less q.core a n ready);
          sum = omega arith;
          few = omega arith;
        }

    module _ (no : has q.core a ≡ false) (address : a < 2 ^ 18) where
      past : 16 ≤ a
      past = elim (cases_Bool (nat_lt a 16)) [ inl t ↦ absurd (both_ways (has q.core a) no (has_acc q.core a (ltb-true a 16 t))) | inr f ↦ ltb-false a 16 f ]

      absent : page_of q.core (a / 1024) ≡ None
      absent = none_of (page_of q.core (a / 1024)) (sym (has_past q.core a past) ∙ no)
        where
          none_of : (o : Option Page) → is_some o ≡ false → o ≡ None
          none_of (Some p) h = cc
          none_of None h = refl

      one_more : (d : Core) → is_there d (a / 1024) ≡ true → ((j : ℕ) → j ≢ a / 1024 → is_there d j ≡ is_there q.core j)
          → pages_made q.core a (suc n) ≡ 1 + pages_made d (a + 1) n
      one_more d here others = made_page q.core d a n past here others ∙ ap (λ o. one_unless (is_some o) + pages_made d (a + 1) n) absent

      made : Core
      made = paged q.core (a / 1024)

      made_sum : pages_made q.core a (suc n) ≡ 1 + pages_made (store made a w) (a + 1) n
      unfolding made
      made_sum =
          one_more (store made a w)
          (there_stored made a w (a / 1024) ∙ ap is_some (page_here q.core (a / 1024) ready.places (omega arith)))
          (λ j ne. there_stored made a w j ∙ ap is_some (page_there q.core (a / 1024) ready.places (omega arith) j ne))

      is_absent : with_word_loaded m s a w ≡ with_core m s q (with_stored_in q.core a w false false (nat_lt (mapped m) most_pages))
      is_absent = loaded_absent a w (ready.can a (omega arith) (omega arith) ∙ no) (ready.word a (omega arith) (omega arith) ∙ no)

      goes_made : mapped m < most_pages → Goes a w n
      unfolding made paged
      goes_made room =
          let e = mapped_paged a (a / 1024) w ready.places (omega arith) absent in
          let f = made_sum in
          let l = past in
          record {
            core = store made a w;
            loaded = is_absent ∙ ap (λ b. with_core m s q (with_stored_in q.core a w false false b)) (lt-ltb (mapped m) most_pages room);
            ready = ready_stored made (a + 1) a n w (ready_paged q.core (a / 1024) ready.places (omega arith) (a + 1) n (omega arith)
                (ready_less q.core a n ready));
            sum = omega arith;
            few = omega arith;
          }

      stops : most_pages ≤ mapped m → Stops a w n
      stops none =
          let f = made_sum in
          record {
            loaded = is_absent ∙ ap (λ b. with_core m s q (with_stored_in q.core a w false false b)) (le-ltb (mapped m) most_pages none);
            many = omega arith;
          }

    word_step : a < 2 ^ 18 → Goes a w n ⊎ Stops a w n
    word_step address = elim (cases_Bool (has q.core a)) [
      | inl t ↦ inl (goes_here t)
      | inr f ↦ elim (cases_lt (mapped m) most_pages) [ inl l ↦ inl (goes_made f address l) | inr g ↦ inr (stops f address g) ]
    ]

-- the words one by one
pub room_of : (s a : ℕ) (ws : List ℕ) (m : Machine) (q : Whole) → m.jobs s ≡ Some q → s < slots → AreaReady q.core a (length ws)
    → a + length ws ≤ 2 ^ 18 → mapped m ≤ most_pages
    → Within most_pages (mapped m + pages_made q.core a (length ws)) (with_words_stored m s a ws)
room_of s a [] m q is slot ready end few = let e = made_none q.core a in omega arith
room_of s a (w ∷ ws) m q is slot ready end few = elim (word_step m s q is slot a w (length ws) ready few (omega arith)) [
  | inl g ↦
      let n = with_core_of m s q g.core in
      let rest = room_of s (a + 1) ws n (record q { core = g.core }) ((changed_only m.jobs s (Some (record q { core = g.core }))).here) slot
      g.ready (omega arith) g.few in
      subst (Within most_pages (mapped m + pages_made q.core a (suc (length ws))))
      (sym (ap (λ r. and_then r (λ k. with_words_stored k s (a + 1) ws)) g.loaded))
      (subst (λ k. Within most_pages k (with_words_stored n s (a + 1) ws)) g.sum rest)
  | inr t ↦ subst (Within most_pages (mapped m + pages_made q.core a (suc (length ws))))
      (sym (ap (λ r. and_then r (λ k. with_words_stored k s (a + 1) ws)) t.loaded)) (refl, t.many)
]

-- a core of which each word is there, and of which these words are on no read-only page
some_below : {X : Type 0} (xs : List X) (i : ℕ) → i < length xs → is_some (slice_get xs i) ≡ true
some_below [] i h = absurd (omega arith)
some_below (x ∷ xs) zero h = refl
some_below (x ∷ xs) (suc i) h = some_below xs i (omega arith)

word_has : (c : Core) (x : ℕ) → IsWhole c → is_some (word_at c x) ≡ has c x
word_has c x whole = elim (cases_Bool (nat_lt x 16)) [
  | inl t ↦ let l = ltb-true x 16 t in let e = whole.accs in ap is_some (in_accs c x t) ∙ some_below c.accs x (omega arith) ∙ sym (has_acc c x l)
  | inr f ↦ ap is_some (in_page c x f) ∙ on_page (page_of c (x / 1024)) refl ∙ sym (has_past c x (ltb-false x 16 f))
]
  where
    on_page : (o : Option Page) → page_of c (x / 1024) ≡ o → is_some (word_in o (x % 1024)) ≡ is_some o
    on_page (Some p) is = let e = whole.words (x / 1024) p is in some_below p.words (x % 1024) (omega arith)
    on_page None is = refl

spared : (c : Core) (a n x : ℕ) → any_barred c a n ≡ false → a ≤ x → x < a + n → is_barred c x ≡ false
unfolding any_barred
spared c a zero x free lo hi = absurd (omega arith)
spared c a (suc n) x free lo hi =
    let p = or_parts (is_barred c a) (any_barred c (a + 1) n) free in
    elim (cases_eq x a) [ inl e ↦ ap (is_barred c) e ∙ p.0 | inr ne ↦ spared c (a + 1) n x p.1 (omega arith) (omega arith) ]

can_has : (c : Core) (x : ℕ) → IsWhole c → is_barred c x ≡ false → can_store c x ≡ has c x
can_has c x whole free = by_word (is_some (word_at c x)) (can_store c x) free (word_at-can_store c x) ∙ word_has c x whole
  where
    by_word : (there can : Bool) → (there && not can) ≡ false → (can ≡ true → there ≡ true) → can ≡ there
    by_word true true h f = refl
    by_word true false h f = cc
    by_word false true h f = sym (f refl)
    by_word false false h f = refl

pub ready_whole : (c : Core) (a n : ℕ) → IsWhole c → any_barred c a n ≡ false → AreaReady c a n
ready_whole c a n whole free = record {
  can = λ x lo hi. can_has c x whole (spared c a n x free lo hi);
  word = λ x lo hi. word_has c x whole;
  places = whole.pages;
}
