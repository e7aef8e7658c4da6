-- A core into which words are stored one after another.
use Rattle.std.specs.Prelude.{if◌then◌else◌, ◌≡◌, ◌≢◌, ◌≤◌, ◌<◌, ◌/◌, ◌%◌, ◌^◌, ◌&&◌, ◌||◌, ℕ, zero, suc, Bool, true, false, Option, Some, None, Ok, List, [], ◌∷◌, ◌++◌, cond, length, is_some, nat_eq, nat_le, nat_lt, slice_get, slice_set, refl}
use Rattle.std.proofs.Common.{sym, ◌∙◌, ap, subst, arith, inl, inr}
use Rattle.std.specs.Map.{lookup}
use Rattle.std.proofs.lemmas.Bool.{cases_Bool}
use Rattle.std.proofs.lemmas.Bool.Decides.{nat_tests}
use Rattle.std.proofs.lemmas.List.Folds.{list_any-append}
use Rattle.its_word.specs.Limits.{most_pages}
use Rattle.its_word.specs.Core.{Core, Page, can_store, no_core, page_of, page_stored, present, store, stores_in, with_page, word_at, word_in, zero_page}
use Rattle.its_word.proofs.CoreLaws.{can_store-store, in_page, is_some-store, stores_page, word_at-store_same, word_at-store_other}
use Rattle.its_word.proofs.PageLaws.{can_store-no_core, can_store-with_page_acc, can_store-with_page_other, get-copies, page_of-no_core, page_of-with_page, page_of-with_page_other, word_at-no_core, word_at-no_core_past, word_at-with_page_acc, word_at-with_page_other}
use Rattle.its_plain.specs.Operator.Jobs.{with_stored, with_stored_in}
use Rattle.its_asm_command.specs.Loading.{has_page, on_page, word_by}

-- a core that has some words, if also the pages of `has` are there
pub record CoreIs (has : ℕ → Bool) (cells : List (ℕ × ℕ)) (c : Core) : Type 0 where
  pub long : length c.pages ≡ 256
  pub words : (b : ℕ) → b < 2 ^ 18 → word_at c b ≡ word_by (lookup (nat_eq b) cells) (nat_lt b 16 || has (b / 1024))
  pub stores : (b : ℕ) → b < 2 ^ 18 → can_store c b ≡ is_some (word_at c b)
  pub absent : (k : ℕ) → has k ≡ false → page_of c k ≡ None

-- the first core
start_words : (b : ℕ) → word_at no_core b ≡ word_by None (nat_lt b 16 || false)
start_words b = elim (cases_Bool (nat_lt b 16)) [
  | inl t ↦ let h : b < 16 = grind (arith, nat_tests) in rw t (word_at-no_core b h)
  | inr f ↦ let h : 16 ≤ b = grind (arith, nat_tests) in rw f (word_at-no_core_past b h)
]

no_stores : (b : ℕ) → can_store no_core b ≡ is_some (word_at no_core b)
no_stores b = elim (cases_Bool (nat_lt b 16)) [
  | inl t ↦ let h : b < 16 = grind (arith, nat_tests) in rw (can_store-no_core b h, word_at-no_core b h) refl
  | inr f ↦ let h : 16 ≤ b = grind (arith, nat_tests) in rw (word_at-no_core_past b h)
      (stores_page no_core b f ∙ ap (λ p. stores_in p (b % 1024)) (page_of-no_core (b / 1024)))
]

no_core_long : length no_core.pages ≡ 256
unfolding no_core
no_core_long = refl

pub core_start : CoreIs (λ k. false) [] no_core
core_start = record { long = no_core_long; words = λ b h. start_words b; stores = λ b h. no_stores b; absent = λ k h. page_of-no_core k }

-- lookups among words with one more
lookup_last : (b a w : ℕ) (cells : List (ℕ × ℕ)) → lookup (nat_eq b) cells ≡ None → lookup (nat_eq b) (cells ++ (a, w) ∷ []) ≡ cond (nat_eq b a) (Some w) None
lookup_last b a w [] h = refl
lookup_last b a w (c ∷ cells) h = by (nat_eq b c.0) (λ k. lookup_last b a w cells k) h
  where
    by : (t : Bool) → (lookup (nat_eq b) cells ≡ None → lookup (nat_eq b) (cells ++ (a, w) ∷ []) ≡ cond (nat_eq b a) (Some w) None)
        → cond t (Some c.1) (lookup (nat_eq b) cells) ≡ None
        → cond t (Some c.1) (lookup (nat_eq b) (cells ++ (a, w) ∷ [])) ≡ cond (nat_eq b a) (Some w) None
    by true f k = cc
    by false f k = f k

lookup_first : (b a w v : ℕ) (cells : List (ℕ × ℕ)) → lookup (nat_eq b) cells ≡ Some v → lookup (nat_eq b) (cells ++ (a, w) ∷ []) ≡ Some v
lookup_first b a w v [] h = cc
lookup_first b a w v (c ∷ cells) h = by (nat_eq b c.0) (λ k. lookup_first b a w v cells k) h
  where
    by : (t : Bool) → (lookup (nat_eq b) cells ≡ Some v → lookup (nat_eq b) (cells ++ (a, w) ∷ []) ≡ Some v)
        → cond t (Some c.1) (lookup (nat_eq b) cells) ≡ Some v
        → cond t (Some c.1) (lookup (nat_eq b) (cells ++ (a, w) ∷ [])) ≡ Some v
    by true f k = k
    by false f k = f k

lookup_other : (b a w : ℕ) (cells : List (ℕ × ℕ)) → nat_eq b a ≡ false → lookup (nat_eq b) (cells ++ (a, w) ∷ []) ≡ lookup (nat_eq b) cells
lookup_other b a w cells h = by (lookup (nat_eq b) cells) refl
  where
    by : (o : Option ℕ) → lookup (nat_eq b) cells ≡ o → lookup (nat_eq b) (cells ++ (a, w) ∷ []) ≡ o
    by None e = lookup_last b a w cells e ∙ ap (λ t. cond t (Some w) None) h
    by (Some v) e = lookup_first b a w v cells e

-- one word more, if one can be stored
is_kept : (o : Option ℕ) (b : Bool) → is_some (word_by o b) ≡ true → o ≡ None → b ≡ true
is_kept (Some v) b h e = cc
is_kept None true h e = refl
is_kept None false h e = cc

length-set : {A : Type 0} (xs : List A) (k : ℕ) (x : A) → length (slice_set xs k x) ≡ length xs
length-set [] k x = refl
length-set (y ∷ xs) zero x = refl
length-set (y ∷ xs) (suc k) x = ap suc (length-set xs k x)

store_long : (c : Core) (a w : ℕ) → length (store c a w).pages ≡ length c.pages
unfolding store
store_long c a w = by (nat_lt a 16)
  where
    by : (t : Bool) → length (if t then record c { accs = slice_set c.accs a w } else record c
        { pages = slice_set c.pages (a / 1024) (page_stored (page_of c (a / 1024)) (a % 1024) w) }).pages ≡ length c.pages
    by true = refl
    by false = length-set c.pages (a / 1024) _

absent_after : (ps : List (Option Page)) (j k : ℕ) (p : Option Page) → (j ≡ k → p ≡ None) → present (slice_get ps k) ≡ None
    → present (slice_get (slice_set ps j p) k) ≡ None
absent_after [] j k p f h = h
absent_after (x ∷ ps) zero zero p f h = ap (λ q. present (Some q)) (f refl)
absent_after (x ∷ ps) zero (suc k) p f h = h
absent_after (x ∷ ps) (suc j) zero p f h = h
absent_after (x ∷ ps) (suc j) (suc k) p f h = absent_after ps j k p (λ e. f (ap suc e)) h

store_absent : (c : Core) (a w k : ℕ) → page_of c k ≡ None → page_of (store c a w) k ≡ None
unfolding store page_of
store_absent c a w k h = by (nat_lt a 16)
  where
    by : (t : Bool) → present (slice_get (if t then record c { accs = slice_set c.accs a w } else record c
        { pages = slice_set c.pages (a / 1024) (page_stored (present (slice_get c.pages (a / 1024))) (a % 1024) w) }).pages k) ≡ None
    by true = h
    by false = absent_after c.pages (a / 1024) k _ (λ e. ap (λ p. page_stored p (a % 1024) w) (ap (λ x. present (slice_get c.pages x)) e ∙ h)) h

pub core_put : (has : ℕ → Bool) (cells : List (ℕ × ℕ)) (c : Core) (a w : ℕ) → CoreIs has cells c → lookup (nat_eq a) cells ≡ None
    → can_store c a ≡ true → CoreIs has (cells ++ (a, w) ∷ []) (store c a w)
core_put has cells c a w s none can = record {
  long = store_long c a w ∙ s.long;
  words = λ b h. elim (cases_Bool (nat_eq b a)) [
    | inl t ↦
        let e : b ≡ a = grind (arith, nat_tests) in
        let there : lookup (nat_eq a) (cells ++ (a, w) ∷ []) ≡ Some w = lookup_last a a w cells none
        ∙ ap (λ x. cond x (Some w) None) (ap (λ x. nat_eq x a) (sym e) ∙ t) in
        subst (λ x. word_at (store c a w) x ≡ word_by (lookup (nat_eq x) (cells ++ (a, w) ∷ [])) (nat_lt x 16 || has (x / 1024))) (sym e)
        (word_at-store_same c a w can ∙ sym (ap (λ o. word_by o (nat_lt a 16 || has (a / 1024))) there))
    | inr f ↦
        let n : b ≢ a = λ e. (let g : nat_eq b a ≡ true = grind (arith, nat_tests) in cc) in
        word_at-store_other c a b w n ∙ s.words b h ∙ ap (λ o. word_by o (nat_lt b 16 || has (b / 1024))) (sym (lookup_other b a w cells f))
  ];
  stores = λ b h. can_store-store c a b w ∙ s.stores b h ∙ sym (is_some-store c a b w);
  absent = λ k h. store_absent c a w k (s.absent k h);
}

-- a page more
zeros : (j : ℕ) → j < 1024 → word_in (Some zero_page) j ≡ Some 0
unfolding zero_page
zeros j h = get-copies 1024 j 0 h

zero_stores : (j : ℕ) → stores_in (Some zero_page) j ≡ is_some (word_in (Some zero_page) j)
unfolding zero_page
zero_stores j = refl

some_zero : (t : Bool) → Some 0 ≡ word_by None (false || (t || true))
some_zero true = refl
some_zero false = refl

or_none : (t : Bool) → (t || false) ≡ t
or_none true = refl
or_none false = refl

neither : (s t : Bool) → (s || t) ≡ false → (s ≡ false) × (t ≡ false)
neither false false h = (refl, refl)
neither true t h = cc
neither false true h = cc

open_long : (c : Core) (k : ℕ) → length c.pages ≡ 256 → length (with_page c k (Some zero_page)).pages ≡ 256
unfolding with_page
open_long c k h = length-set c.pages k (Some zero_page) ∙ h

core_open : (has : ℕ → Bool) (cells : List (ℕ × ℕ)) (c : Core) (k : ℕ) → CoreIs has cells c → k < 256 → has k ≡ false
    → ((b : ℕ) → b < 2 ^ 18 → nat_lt b 16 ≡ false → b / 1024 ≡ k → lookup (nat_eq b) cells ≡ None)
    → CoreIs (λ j. has j || nat_eq j k) cells (with_page c k (Some zero_page))
core_open has cells c k s below h none = record {
  long = open_long c k s.long;
  words = λ b l. elim (cases_Bool (nat_lt b 16)) [
    | inl t ↦ let e : b < 16 = grind (arith, nat_tests) in rw t
        (word_at-with_page_acc c k b (Some zero_page) e ∙ s.words b l ∙ ap (λ x. word_by (lookup (nat_eq b) cells) (x || has (b / 1024))) t)
    | inr f ↦ elim (cases_Bool (nat_eq (b / 1024) k)) [
      | inl u ↦
          let e : b / 1024 ≡ k = grind (arith, nat_tests) in
          in_page (with_page c k (Some zero_page)) b f ∙ ap (λ p. word_in p (b % 1024))
          (ap (page_of (with_page c k (Some zero_page))) e ∙ page_of-with_page c k (Some zero_page) (rw s.long below)) ∙ zeros (b % 1024) (omega arith)
          ∙ rw (f, u, none b l f e) (some_zero (has (b / 1024)))
      | inr u ↦
          let e : b / 1024 ≢ k = λ x. (let g : nat_eq (b / 1024) k ≡ true = grind (arith, nat_tests) in cc) in
          word_at-with_page_other c k b (Some zero_page) e ∙ s.words b l
          ∙ rw u (ap (λ x. word_by (lookup (nat_eq b) cells) (nat_lt b 16 || x)) (sym (or_none (has (b / 1024)))))
    ]
  ];
  stores = λ b l. elim (cases_Bool (nat_lt b 16)) [
    | inl t ↦
        let e : b < 16 = grind (arith, nat_tests) in
        can_store-with_page_acc c k b (Some zero_page) e ∙ s.stores b l ∙ ap is_some (sym (word_at-with_page_acc c k b (Some zero_page) e))
    | inr f ↦ elim (cases_Bool (nat_eq (b / 1024) k)) [
      | inl u ↦
          let e : b / 1024 ≡ k = grind (arith, nat_tests) in
          let page : page_of (with_page c k (Some zero_page)) (b / 1024) ≡ Some zero_page = ap (page_of (with_page c k (Some zero_page))) e
          ∙ page_of-with_page c k (Some zero_page) (rw s.long below) in
          stores_page (with_page c k (Some zero_page)) b f ∙ ap (λ p. stores_in p (b % 1024)) page ∙ zero_stores (b % 1024)
          ∙ sym (ap is_some (in_page (with_page c k (Some zero_page)) b f ∙ ap (λ p. word_in p (b % 1024)) page))
      | inr u ↦
          let e : b / 1024 ≢ k = λ x. (let g : nat_eq (b / 1024) k ≡ true = grind (arith, nat_tests) in cc) in
          can_store-with_page_other c k b (Some zero_page) e ∙ s.stores b l ∙ ap is_some (sym (word_at-with_page_other c k b (Some zero_page) e))
    ]
  ];
  absent = λ j l.
      let p = neither (has j) (nat_eq j k) l in
      let e : j ≢ k = λ x. (let q = p.1 in let g : nat_eq j k ≡ true = grind (arith, nat_tests) in cc) in
      page_of-with_page_other c k j (Some zero_page) e ∙ s.absent j p.0;
}

-- one word more, on a page that is there or is made
core_alike : (has g : ℕ → Bool) (cells : List (ℕ × ℕ)) (c : Core) → ((k : ℕ) → g k ≡ has k) → CoreIs has cells c → CoreIs g cells c
core_alike has g cells c e s = record {
  long = s.long;
  words = λ b h. s.words b h ∙ ap (λ x. word_by (lookup (nat_eq b) cells) (nat_lt b 16 || x)) (sym (e (b / 1024)));
  stores = s.stores;
  absent = λ k h. s.absent k (sym (e k) ∙ h);
}

page_last : (cells : List (ℕ × ℕ)) (a w k : ℕ) → has_page (cells ++ (a, w) ∷ []) k ≡ (has_page cells k || on_page k (a, w))
page_last cells a w k = list_any-append (on_page k) cells ((a, w) ∷ []) ∙ ap (λ x. has_page cells k || x) (or_none (on_page k (a, w)))

both_true : (s t : Bool) → (s && t) ≡ true → (s ≡ true) × (t ≡ true)
both_true true true h = (refl, refl)
both_true true false h = cc
both_true false t h = cc

or_known : (s t : Bool) → (t ≡ true → s ≡ true) → (s || t) ≡ s
or_known true t f = refl
or_known false true f = let e : false ≡ true = f refl in cc
or_known false false f = refl

or_left : (s t : Bool) → s ≡ true → (s || t) ≡ true
or_left true t h = refl
or_left false t h = cc

lookup_page : (b v : ℕ) (cells : List (ℕ × ℕ)) → lookup (nat_eq b) cells ≡ Some v → nat_le 16 b ≡ true → has_page cells (b / 1024) ≡ true
lookup_page b v [] h l = cc
lookup_page b v (c ∷ cells) h l = elim (cases_Bool (nat_eq b c.0)) [
  | inl t ↦
      let e : b ≡ c.0 = grind (arith, nat_tests) in
      let same : nat_eq (b / 1024) (c.0 / 1024) ≡ true = subst (λ x. nat_eq (b / 1024) (x / 1024) ≡ true) e (itself (b / 1024)) in
      or_left (nat_le 16 c.0 && nat_eq (b / 1024) (c.0 / 1024)) (has_page cells (b / 1024)) (rw (same, subst (λ x. nat_le 16 x ≡ true) e l) refl)
  | inr f ↦ or_right (on_page (b / 1024) c) (has_page cells (b / 1024)) (lookup_page b v cells (not_here (nat_eq b c.0) f h) l)
]
  where
    itself : (n : ℕ) → nat_eq n n ≡ true
    itself n = grind (arith, nat_tests)

    or_right : (s t : Bool) → t ≡ true → (s || t) ≡ true
    or_right true t h = refl
    or_right false t h = h

    not_here : (t : Bool) → t ≡ false → cond t (Some c.1) (lookup (nat_eq b) cells) ≡ Some v → lookup (nat_eq b) cells ≡ Some v
    not_here true f h = cc
    not_here false f h = h

none_there : (b : ℕ) (cells : List (ℕ × ℕ)) → has_page cells (b / 1024) ≡ false → nat_lt b 16 ≡ false → lookup (nat_eq b) cells ≡ None
none_there b cells h l = by (lookup (nat_eq b) cells) refl
  where
    by : (o : Option ℕ) → lookup (nat_eq b) cells ≡ o → o ≡ None
    by None e = refl
    by (Some v) e =
        let le : nat_le 16 b ≡ true = grind (arith, nat_tests) in
        let t = lookup_page b v cells e le in cc

pub record Stored (pages : ℕ) (c : Core) (a w : ℕ) (cells : List (ℕ × ℕ)) : Type 0 where
  pub core : Core
  pub is : with_stored pages c a w ≡ Ok core
  pub has : CoreIs (has_page cells) cells core

store_there : (pages : ℕ) (c : Core) (a w : ℕ) (cells : List (ℕ × ℕ)) → CoreIs (has_page cells) cells c → a < 2 ^ 18
    → lookup (nat_eq a) cells ≡ None → can_store c a ≡ true → Stored pages c a w (cells ++ (a, w) ∷ [])
unfolding with_stored
store_there pages c a w cells s h none can =
    let some : is_some (word_by (lookup (nat_eq a) cells) (nat_lt a 16 || has_page cells (a / 1024))) ≡ true =
    ap is_some (sym (s.words a h)) ∙ sym (s.stores a h) ∙ can in
    let opens = is_kept (lookup (nat_eq a) cells) (nat_lt a 16 || has_page cells (a / 1024)) some none in
    record {
      core = store c a w;
      is = ap (λ x. with_stored_in c a w x (is_some (word_at c a)) (nat_lt pages most_pages)) can;
      has = core_alike (has_page cells) (has_page (cells ++ (a, w) ∷ [])) (cells ++ (a, w) ∷ []) (store c a w)
          (λ k. page_last cells a w k ∙ or_known (has_page cells k) (on_page k (a, w)) (λ t.
          let p = both_true (nat_le 16 a) (nat_eq k (a / 1024)) t in
          let high : nat_lt a 16 ≡ false = (let q = p.0 in grind (arith, nat_tests)) in
          let e : k ≡ a / 1024 = (let q = p.1 in grind (arith, nat_tests)) in
          ap (has_page cells) e ∙ (rw high at opens)))
          (core_put (has_page cells) cells c a w s none can);
    }

store_anew : (pages : ℕ) (c : Core) (a w : ℕ) (cells : List (ℕ × ℕ)) → CoreIs (has_page cells) cells c → a < 2 ^ 18
    → lookup (nat_eq a) cells ≡ None → can_store c a ≡ false → pages < most_pages
    → Stored pages c a w (cells ++ (a, w) ∷ [])
unfolding with_stored
store_anew pages c a w cells s h none can few =
    let there : is_some (word_at c a) ≡ false = sym (s.stores a h) ∙ can in
    let off : is_some (word_by (lookup (nat_eq a) cells) (nat_lt a 16 || has_page cells (a / 1024))) ≡ false = ap is_some (sym (s.words a h)) ∙ there in
    let off_none : is_some (word_by None (nat_lt a 16 || has_page cells (a / 1024))) ≡ false = rw none at off in
    let p = neither (nat_lt a 16) (has_page cells (a / 1024)) (no_word (nat_lt a 16 || has_page cells (a / 1024)) off_none) in
    let room : nat_lt pages most_pages ≡ true = grind (arith, nat_tests) in
    let high : nat_le 16 a ≡ true = (let q = p.0 in grind (arith, nat_tests)) in
    let opened = core_open (has_page cells) cells c (a / 1024) s (omega arith) p.1 (λ b l f e. none_there b cells (ap (has_page cells) e ∙ p.1) f) in
    let here : nat_eq (a / 1024) (a / 1024) ≡ true = grind (arith, nat_tests) in
    let word : word_at (with_page c (a / 1024) (Some zero_page)) a ≡ Some 0 = opened.words a h ∙ rw (none, p.0, p.1, here) refl in
    let able : can_store (with_page c (a / 1024) (Some zero_page)) a ≡ true = opened.stores a h ∙ ap is_some word in
    record {
      core = store (with_page c (a / 1024) (Some zero_page)) a w;
      is = rw (can, there, room) refl;
      has = core_alike (λ j. has_page cells j || nat_eq j (a / 1024)) (has_page (cells ++ (a, w) ∷ [])) (cells ++ (a, w) ∷ []) _
          (λ k. page_last cells a w k ∙ ap (λ x. has_page cells k || (x && nat_eq k (a / 1024))) high)
          (core_put (λ j. has_page cells j || nat_eq j (a / 1024)) cells (with_page c (a / 1024) (Some zero_page)) a w opened none able);
    }
  where
    no_word : (t : Bool) → is_some (word_by None t) ≡ false → t ≡ false
    no_word true h = cc
    no_word false h = refl

pub store_one : (pages : ℕ) (c : Core) (a w : ℕ) (cells : List (ℕ × ℕ)) → CoreIs (has_page cells) cells c → a < 2 ^ 18
    → lookup (nat_eq a) cells ≡ None → pages < most_pages → Stored pages c a w (cells ++ (a, w) ∷ [])
store_one pages c a w cells s h none few = elim (cases_Bool (can_store c a)) [
  | inl t ↦ store_there pages c a w cells s h none t
  | inr f ↦ store_anew pages c a w cells s h none f few
]
