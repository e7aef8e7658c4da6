-- The lines of a core lead to the core: its words one after another, and then the marks of its
-- read-only pages.
use Rattle.std.specs.Prelude.{if◌then◌else◌, ◌≡◌, ◌≢◌, ◌≤◌, ◌<◌, ◌==◌, ◌||◌, ◌&&◌, ℕ, suc, ◌+◌, ◌-◌, ◌*◌, ◌/◌, ◌%◌, ◌^◌, Bool, true, false, not, Option, Some, None, Ok, Err, List, [], ◌∷◌, ◌++◌, length, replicate, nat_le, nat_lt, is_some, slice_get, slice_set, slice_index_or, count_by, cond, refl}
use Rattle.std.proofs.Common.{sym, ◌∙◌, ap, subst, arith, inl, inr}
use Rattle.std.proofs.lemmas.Bool.{cases_Bool}
use Rattle.std.proofs.lemmas.Bool.Decides.{nat_tests}
use Rattle.std.proofs.lemmas.Option.{slice_get-get_or}
use Rattle.std.proofs.lemmas.List.Sums.{sum_by-cons}
use Rattle.std.proofs.lemmas.List.{ext_get_or, length-replicate, set-set}
use Rattle.its_word.proofs.PageLaws.{can_store-no_core, word_at-no_core_past, present-slice_get, get_or-copies, page_of-with_page, pages_present-with_page, pages_present-store, one_if}
use Rattle.its_word.specs.Core.{Core, Page, IsWhole, present, page_of, word_in, stores_in, page_stored, word_at, can_store, store, with_page, zero_page, no_core, pages_present, marked}
use Rattle.its_word.specs.Table.{table}
use Rattle.its_word.specs.Limits.{most_pages}
use Rattle.its_word.proofs.TableLaws.{length-table, get-table, get_or-table, get_or-table_past, table_alike, table_set}
use Rattle.its_word.proofs.CoreLaws.{in_accs, in_page, stores_acc, stores_page, store_acc, store_page, store-word_at}
use Rattle.its_plain.specs.Machine.{Whole, Machine, Symbol, with_job, mapped}
use Rattle.its_plain.specs.Operator.{and_then}
use Rattle.its_plain.specs.Operator.Jobs.{on_job, with_page_protected, with_page_protected_in, with_words_loaded, with_words_loaded_if, with_word_loaded, with_word_loaded_of, with_stored, with_stored_in, with_core, words_barred, barred_in, any_barred, is_barred}
use Rattle.its_records.specs.declared.session.Reason.TheVariants.{ReadOnly, Full}
use Rattle.std.specs.Result.{result_ok}
use Rattle.its_saved.specs.Building.{build}
use Rattle.its_saved.specs.Saving.{begins_page, cell_of, word_lines, read_only_line, read_only_lines}
use Rattle.its_saved.specs.StateLine as state
use Rattle.its_saved.specs.WellFormed.{IsHollow}
use Rattle.its_saved.proofs.LeadLaws.{Leads, leads_none, leads_line, leads_append, leads_each, leads_to, leads_from}
use Rattle.its_saved.proofs.RowLaws.{cell_lines, single_lines, free_rows}
use Rattle.its_saved.proofs.JobLaws.{block, block_here, job_again, CoreLeads}

-- the part of a core below an address
abbrev pub first_of : ℕ → ℕ
first_of k = if k == 0 then 16 else 1024 * k

abbrev pub word_part : Page → ℕ → ℕ → ℕ → ℕ
word_part x k i j = if nat_lt (1024 * k + j) i then slice_index_or x.words j 0 else 0

abbrev pub page_if : Bool → Page → Option Page
page_if true p = Some p
page_if false p = None

abbrev pub page_part : Option Page → ℕ → ℕ → Option Page
page_part None k i = None
page_part (Some x) k i = page_if (nat_lt (first_of k) i) (record { words = table 1024 (word_part x k i); writable = true })

abbrev pub acc_part : Core → ℕ → ℕ → ℕ
acc_part c i a = if nat_lt a i then slice_index_or c.accs a 0 else 0

unfoldable pub core_part : Core → ℕ → Core
core_part c i = record { accs = table 16 (acc_part c i); pages = table 256 (λ k. page_part (page_of c k) k i) }

-- one cell in its line
cell_done : (b : Machine) (s a w : ℕ) (q : Whole) (d : Core) → b.jobs s ≡ Some q → is_barred q.core a ≡ false
    → with_stored (mapped b) q.core a w ≡ Ok d → build b (state.CoreWords s a (w ∷ [])) ≡ Some (with_job b s (record q { core = d }))
unfolding build with_words_loaded any_barred with_word_loaded
cell_done b s a w q d here free stored =
    let barred : words_barred b s a 1 ≡ false = ap (λ o. barred_in o a 1) here ∙ ap (λ x. x || false) free in
    ap (λ x. result_ok (with_words_loaded_if b s a (w ∷ []) x)) barred
    ∙ ap (λ o. result_ok (and_then (with_word_loaded_of b s a w o) (λ n. Ok n))) here
    ∙ ap (λ r. result_ok (and_then (with_core b s q r) (λ n. Ok n))) stored

-- pages of a part
present_some : (p : Option Page) → present (Some p) ≡ p
present_some None = refl
present_some (Some p) = refl

part_page : (c : Core) (i k : ℕ) → k < 256 → page_of (core_part c i) k ≡ page_part (page_of c k) k i
unfolding core_part page_of
part_page c i k l = ap present (get-table 256 (λ k. page_part (present (slice_get c.pages k)) k i) k l)
    ∙ present_some (page_part (present (slice_get c.pages k)) k i)

-- no word is written yet
table_const : {X : Type 0} (n : ℕ) (f : ℕ → X) (x : X) → ((k : ℕ) → k < n → f k ≡ x) → table n f ≡ replicate n x
table_const n f x h =
    let a = length-table n f in
    let b = length-replicate n x in
    ext_get_or x (table n f) (replicate n x) (a ∙ sym b) (λ k l. let i : k < n = omega arith in get_or-table n f k x i ∙ h k i ∙ sym (get_or-copies n k x))

part_none : (c : Core) → core_part c 0 ≡ no_core
unfolding core_part no_core
part_none c = λ t. record {
  accs = table_const 16 (acc_part c 0) 0 (λ k l. zero_acc k) t;
  pages = table_const 256 (λ k. page_part (page_of c k) k 0) None (λ k l. no_page (page_of c k) k) t;
}
  where
    zero_acc : (k : ℕ) → acc_part c 0 k ≡ 0
    zero_acc k = let l : nat_lt k 0 ≡ false = grind (arith, nat_tests) in rw l refl

    no_page : (p : Option Page) (k : ℕ) → page_part p k 0 ≡ None
    no_page None k = refl
    no_page (Some x) k = let l : nat_lt (first_of k) 0 ≡ false =
        grind (arith, nat_tests) in ap (λ b. page_if b (record { words = table 1024 (word_part x k 0); writable = true })) l

-- accumulators of a part
part_acc : (c : Core) (i a : ℕ) → a < 16 → slice_get (core_part c i).accs a ≡ Some (acc_part c i a)
unfolding core_part
part_acc c i a l = get-table 16 (acc_part c i) a l

-- the part below the next address: what changes is the word at the address
acc_next : (c : Core) (i a : ℕ) → a ≢ i → acc_part c (i + 1) a ≡ acc_part c i a
acc_next c i a ne = elim (cases_Bool (nat_lt a i)) [
  | inl t ↦ (let l : nat_lt a (i + 1) ≡ true = grind (arith, nat_tests) in rw (t, l) refl)
  | inr t ↦ (let l : nat_lt a (i + 1) ≡ false = grind (arith, nat_tests) in rw (t, l) refl)
]

acc_now : (c : Core) (i : ℕ) → acc_part c (i + 1) i ≡ slice_index_or c.accs i 0
acc_now c i = let l : nat_lt i (i + 1) ≡ true = grind (arith, nat_tests) in rw l refl

word_next : (x : Page) (k i j : ℕ) → 1024 * k + j ≢ i → word_part x k (i + 1) j ≡ word_part x k i j
word_next x k i j ne = elim (cases_Bool (nat_lt (1024 * k + j) i)) [
  | inl t ↦ (let l : nat_lt (1024 * k + j) (i + 1) ≡ true = grind (arith, nat_tests) in rw (t, l) refl)
  | inr t ↦ (let l : nat_lt (1024 * k + j) (i + 1) ≡ false = grind (arith, nat_tests) in rw (t, l) refl)
]

-- a page on which the address is not
first_le : (k : ℕ) → 1024 * k ≤ first_of k
first_le k = elim (cases_Bool (k == 0)) [
  | inl t ↦ (let e : k ≡ 0 = grind (arith, nat_tests) in rw t (omega arith))
  | inr t ↦ rw t (omega arith)
]

first_past : (k : ℕ) → first_of k < 1024 * k + 1024
first_past k = elim (cases_Bool (k == 0)) [
  | inl t ↦ rw t (omega arith)
  | inr t ↦ rw t (omega arith)
]

page_other : (o : Option Page) (k i : ℕ) → 16 ≤ i → i / 1024 ≢ k → page_part o k (i + 1) ≡ page_part o k i
page_other None k i l ne = refl
page_other (Some x) k i l ne = elim (cases_Bool (nat_lt (first_of k) i)) [
  | inl t ↦ (let u : nat_lt (first_of k) (i + 1) ≡ true = grind (arith, nat_tests) in
      rw (t, u) (ap (λ ws. Some (record { words = ws; writable = true }))
      (table_alike 1024 (word_part x k i) (word_part x k (i + 1)) (λ j b. word_next x k i j (λ e. ne (sym (omega arith)))))))
  | inr t ↦ (let f : first_of k ≢ i = (λ e. ne (let a = first_le k in let b = first_past k in omega arith)) in let u : nat_lt (first_of k)
      (i + 1) ≡ false = grind (arith, nat_tests) in rw (t, u) refl)
]

page_below : (o : Option Page) (k i : ℕ) → i < 16 → page_part o k (i + 1) ≡ page_part o k i
page_below None k i l = refl
page_below (Some x) k i l =
    let f = first_least k in
    let t : nat_lt (first_of k) i ≡ false = grind (arith, nat_tests) in
    let u : nat_lt (first_of k) (i + 1) ≡ false = grind (arith, nat_tests) in
    rw (t, u) refl
  where
    first_least : (k : ℕ) → 16 ≤ first_of k
    first_least k = elim (cases_Bool (k == 0)) [
      | inl t ↦ rw t (omega arith)
      | inr t ↦ (let e : k ≢ 0 = (λ h. let g : (k == 0) ≡ true = grind (arith, nat_tests) in cc) in rw t (omega arith))
    ]

-- a word in an accumulator
acc_stored : (c : Core) (i w : ℕ) → i < 16 → slice_index_or c.accs i 0 ≡ w → store (core_part c i) i w ≡ core_part c (i + 1)
unfolding core_part
acc_stored c i w l e =
    let b : nat_lt i 16 ≡ true = grind (arith, nat_tests) in
    store_acc _ i w b
    ∙ sym (λ t. record {
      accs = table_set 16 (acc_part c i) (acc_part c (i + 1)) i w l (acc_now c i ∙ e) (λ a h ne. acc_next c i a ne) t;
      pages = table_alike 256 (λ k. page_part (page_of c k) k i) (λ k. page_part (page_of c k) k (i + 1)) (λ k h. page_below (page_of c k) k i l) t;
    })

acc_can : (c : Core) (i : ℕ) → i < 16 → can_store (core_part c i) i ≡ true
acc_can c i l = let b : nat_lt i 16 ≡ true = grind (arith, nat_tests) in stores_acc (core_part c i) i b ∙ ap is_some (part_acc c i i l)

-- pages of the next part are those of the part, but for the one on which the address is
pages_next : (c : Core) (i : ℕ) (p : Option Page) → 16 ≤ i → i < 2 ^ 18 → page_part (page_of c (i / 1024)) (i / 1024) (i + 1) ≡ p
    → table 256 (λ k. page_part (page_of c k) k (i + 1)) ≡ slice_set (table 256 (λ k. page_part (page_of c k) k i)) (i / 1024) p
pages_next c i p l b e = table_set 256 (λ k. page_part (page_of c k) k i) (λ k. page_part (page_of c k) k (i + 1)) (i / 1024) p
    (omega arith) e (λ k h ne. page_other (page_of c k) k i l (λ x. ne (sym x)))

accs_next : (c : Core) (i : ℕ) → 16 ≤ i → table 16 (acc_part c (i + 1)) ≡ table 16 (acc_part c i)
accs_next c i l = table_alike 16 (acc_part c i) (acc_part c (i + 1)) (λ a h. acc_next c i a (omega arith))

-- a word on a page that is there
page_words : (x : Page) (i w : ℕ) → i < 2 ^ 18 → slice_index_or x.words (i % 1024) 0 ≡ w
    → table 1024 (word_part x (i / 1024) (i + 1)) ≡ slice_set (table 1024 (word_part x (i / 1024) i)) (i % 1024) w
page_words x i w b e =
    table_set 1024 (word_part x (i / 1024) i) (word_part x (i / 1024) (i + 1)) (i % 1024) w (omega arith)
    (let t : nat_lt (1024 * (i / 1024) + i % 1024) (i + 1) ≡ true =
    (let h : 1024 * (i / 1024) + i % 1024 < i + 1 = omega arith in grind (arith, nat_tests)) in rw t e)
    (λ j h ne. word_next x (i / 1024) i j (λ y. ne (omega arith)))

page_is : (c : Core) (x : Page) (i : ℕ) → i < 2 ^ 18 → page_of c (i / 1024) ≡ Some x → first_of (i / 1024) < i
    → page_of (core_part c i) (i / 1024) ≡ Some (record { words = table 1024 (word_part x (i / 1024) i); writable = true })
page_is c x i b here begun =
    let t : nat_lt (first_of (i / 1024)) i ≡ true = grind (arith, nat_tests) in
    part_page c i (i / 1024) (omega arith) ∙ ap (λ o. page_part o (i / 1024) i) here
    ∙ ap (λ u. page_if u (record { words = table 1024 (word_part x (i / 1024) i); writable = true })) t

page_stored_there : (c : Core) (x : Page) (i w : ℕ) → 16 ≤ i → i < 2 ^ 18 → page_of c (i / 1024) ≡ Some x → first_of (i / 1024) < i
    → slice_index_or x.words (i % 1024) 0 ≡ w → store (core_part c i) i w ≡ core_part c (i + 1)
unfolding core_part
page_stored_there c x i w l b here begun e =
    let f : nat_lt i 16 ≡ false = grind (arith, nat_tests) in
    let t : nat_lt (first_of (i / 1024)) (i + 1) ≡ true = grind (arith, nat_tests) in
    let next : page_part (page_of c (i / 1024)) (i / 1024) (i + 1) ≡ Some
    (record { words = slice_set (table 1024 (word_part x (i / 1024) i)) (i % 1024) w; writable = true }) =
    ap (λ o. page_part o (i / 1024) (i + 1)) here ∙ ap (λ u. page_if u
    (record { words = table 1024 (word_part x (i / 1024) (i + 1)); writable = true })) t
    ∙ ap (λ ws. Some (record { words = ws; writable = true })) (page_words x i w b e) in
    store_page (core_part c i) i w f
    ∙ ap (λ o. record {
      accs = table 16 (acc_part c i);
      pages = slice_set (table 256 (λ k. page_part (page_of c k) k i)) (i / 1024)
          (page_stored o (i % 1024) w);
    }) (page_is c x i b here begun)
    ∙ sym (λ s. record { accs = accs_next c i l s; pages = pages_next c i _ l b next s })

page_can : (c : Core) (x : Page) (i : ℕ) → 16 ≤ i → i < 2 ^ 18 → page_of c (i / 1024) ≡ Some x → first_of (i / 1024) < i → can_store (core_part c i) i ≡ true
page_can c x i l b here begun =
    let f : nat_lt i 16 ≡ false = grind (arith, nat_tests) in
    stores_page (core_part c i) i f ∙ ap (λ o. stores_in o (i % 1024)) (page_is c x i b here begun)
    ∙ ap is_some (get-table 1024 (word_part x (i / 1024) i) (i % 1024) (omega arith))

-- the first word of a page makes it
page_is_none : (c : Core) (i : ℕ) → i < 2 ^ 18 → i ≤ first_of (i / 1024) → page_of (core_part c i) (i / 1024) ≡ None
page_is_none c i b not_begun = part_page c i (i / 1024) (omega arith) ∙ by (page_of c (i / 1024))
  where
    by : (o : Option Page) → page_part o (i / 1024) i ≡ None
    by None = refl
    by (Some x) = let t : nat_lt (first_of (i / 1024)) i ≡ false =
        grind (arith, nat_tests) in ap (λ u. page_if u (record { words = table 1024 (word_part x (i / 1024) i); writable = true })) t

pub absent_word : (d : Core) (a : ℕ) → 16 ≤ a → page_of d (a / 1024) ≡ None → word_at d a ≡ None
absent_word d a l e = let f : nat_lt a 16 ≡ false = grind (arith, nat_tests) in in_page d a f ∙ ap (λ o. word_in o (a % 1024)) e

absent_can : (d : Core) (a : ℕ) → 16 ≤ a → page_of d (a / 1024) ≡ None → can_store d a ≡ false
absent_can d a l e = let f : nat_lt a 16 ≡ false = grind (arith, nat_tests) in stores_page d a f ∙ ap (λ o. stores_in o (a % 1024)) e

first_words : (c : Core) (x : Page) (i w : ℕ) → IsHollow c → 16 ≤ i → i < 2 ^ 18 → page_of c (i / 1024) ≡ Some x → i ≡ first_of (i / 1024)
    → slice_index_or x.words (i % 1024) 0 ≡ w
    → table 1024 (word_part x (i / 1024) (i + 1)) ≡ slice_set (replicate 1024 0) (i % 1024) w
first_words c x i w hollow l b here at e =
    table_set 1024 (λ j. 0) (word_part x (i / 1024) (i + 1)) (i % 1024) w (omega arith)
    (let t : nat_lt (1024 * (i / 1024) + i % 1024) (i + 1) ≡ true =
    (let h : 1024 * (i / 1024) + i % 1024 < i + 1 = omega arith in grind (arith, nat_tests)) in rw t e)
    (λ j h ne. other j h ne)
    ∙ ap (λ ws. slice_set ws (i % 1024) w) (table_const 1024 (λ j. 0) 0 (λ k h. refl))
  where
    other : (j : ℕ) → j < 1024 → j ≢ i % 1024 → word_part x (i / 1024) (i + 1) j ≡ 0
    other j h ne = elim (cases_Bool (i / 1024 == 0)) [
      | inl z ↦
          let k0 : i / 1024 ≡ 0 = grind (arith, nat_tests) in
          let i16 : i ≡ 16 = rw z at at in
          elim (cases_Bool (nat_lt (1024 * (i / 1024) + j) (i + 1))) [
            | inl t ↦ (let m : 1024 * (i / 1024) + j < i + 1 = grind (arith, nat_tests) in rw t
                (hollow.hollow x (ap (page_of c) (sym k0) ∙ here) j (omega arith)))
            | inr t ↦ rw t refl
          ]
      | inr z ↦
          let ik : i ≡ 1024 * (i / 1024) = rw z at at in
          let t : nat_lt (1024 * (i / 1024) + j) (i + 1) ≡ false =
          (let m : i + 1 ≤ 1024 * (i / 1024) + j = omega arith in grind (arith, nat_tests)) in rw t refl
    ]

part_long : (c : Core) (i : ℕ) → length (core_part c i).pages ≡ 256
unfolding core_part
part_long c i = length-table 256 (λ k. page_part (page_of c k) k i)

page_made : (c : Core) (x : Page) (i w : ℕ) → IsHollow c → 16 ≤ i → i < 2 ^ 18 → page_of c (i / 1024) ≡ Some x → i ≡ first_of (i / 1024)
    → slice_index_or x.words (i % 1024) 0 ≡ w
    → store (with_page (core_part c i) (i / 1024) (Some zero_page)) i w ≡ core_part c (i + 1)
unfolding core_part with_page zero_page
page_made c x i w hollow l b here at e =
    let f : nat_lt i 16 ≡ false = grind (arith, nat_tests) in
    let t : nat_lt (first_of (i / 1024)) (i + 1) ≡ true = grind (arith, nat_tests) in
    let d = with_page (core_part c i) (i / 1024) (Some zero_page) in
    let made : page_of d (i / 1024) ≡ Some zero_page = page_of-with_page (core_part c i) (i / 1024) (Some zero_page) (let n = part_long c i in omega arith) in
    let next : page_part (page_of c (i / 1024)) (i / 1024) (i + 1) ≡ Some (record { words = slice_set (replicate 1024 0) (i % 1024) w; writable = true }) =
    ap (λ o. page_part o (i / 1024) (i + 1)) here ∙ ap (λ u. page_if u
    (record { words = table 1024 (word_part x (i / 1024) (i + 1)); writable = true })) t
    ∙ ap (λ ws. Some (record { words = ws; writable = true })) (first_words c x i w hollow l b here at e) in
    store_page d i w f
    ∙ ap (λ o. record { accs = table 16 (acc_part c i); pages = slice_set d.pages (i / 1024) (page_stored o (i % 1024) w) }) made
    ∙ (λ s. record {
      accs = table 16 (acc_part c i);
      pages = set-set (table 256 (λ k. page_part (page_of c k) k i)) (i / 1024)
          (Some zero_page) (page_stored (Some zero_page) (i % 1024) w) s;
    })
    ∙ sym (λ s. record { accs = accs_next c i l s; pages = pages_next c i _ l b next s })

abbrev no_page_at_all : Option Page
no_page_at_all = None

-- a part has no more pages than the core
count_le : (xs ys : List (Option Page)) → length xs ≡ length ys
    → ((k : ℕ) → is_some (slice_index_or xs k None) ≡ true → is_some (slice_index_or ys k None) ≡ true) → count_by is_some xs ≤ count_by is_some ys
count_le [] ys e h = omega arith
count_le (x ∷ xs) [] e h = absurd (let f = e in omega arith)
count_le (x ∷ xs) (y ∷ ys) e h =
    let rest = count_le xs ys (let f = e in omega arith) (λ k t. h (suc k) t) in
    let a = sum_by-cons (λ q. cond (is_some q) 1 0) x xs in
    let b = sum_by-cons (λ q. cond (is_some q) 1 0) y ys in
    let c = one x y (h 0) in
    rw (a, b) (omega arith)
  where
    one : (x y : Option Page) → (is_some x ≡ true → is_some y ≡ true) → cond (is_some x) 1 0 ≤ cond (is_some y) 1 0
    one None y h = omega arith
    one (Some p) (Some q) h = omega arith
    one (Some p) None h = absurd (let z = h refl in cc)

part_le : (c : Core) (i : ℕ) → length c.pages ≡ 256 → pages_present (core_part c i) ≤ pages_present c
unfolding pages_present core_part page_of
part_le c i long =
    count_le (table 256 (λ k. page_part (present (slice_get c.pages k)) k i)) c.pages
    (length-table 256 (λ k. page_part (present (slice_get c.pages k)) k i) ∙ sym long)
    (λ k. by k)
  where
    in_page_part : (o : Option Page) (k : ℕ) → is_some (page_part o k i) ≡ true → is_some o ≡ true
    in_page_part None k h = h
    in_page_part (Some p) k h = refl

    by : (k : ℕ) → is_some (slice_index_or (table 256 (λ k. page_part (present (slice_get c.pages k)) k i)) k None) ≡ true
        → is_some (slice_index_or c.pages k None) ≡ true
    by k h = elim (cases_Bool (nat_lt k 256)) [
      | inl t ↦
          let l : k < 256 = grind (arith, nat_tests) in
          let a : is_some (page_part (present (slice_get c.pages k)) k i) ≡ true =
          sym (ap is_some (get_or-table 256 (λ k. page_part (present (slice_get c.pages k)) k i) k None l)) ∙ h in
          ap is_some (sym (present-slice_get c.pages k)) ∙ in_page_part (present (slice_get c.pages k)) k a
      | inr t ↦
          let l : 256 ≤ k = grind (arith, nat_tests) in
          let z : is_some no_page_at_all ≡ true = sym (ap is_some
          (get_or-table_past 256 (λ k. page_part (present (slice_get c.pages k)) k i) k None l)) ∙ h in cc
    ]

-- a word that is 0, if the part has 0 at its address
part_same : (c : Core) (i : ℕ) → store (core_part c i) i 0 ≡ core_part c (i + 1) → word_at (core_part c i) i ≡ Some 0 → core_part c i ≡ core_part c (i + 1)
part_same c i s w = sym (store-word_at (core_part c i) i 0 w) ∙ s

acc_zero : (c : Core) (i : ℕ) → i < 16 → word_at (core_part c i) i ≡ Some 0
acc_zero c i l =
    let b : nat_lt i 16 ≡ true = grind (arith, nat_tests) in
    let f : nat_lt i i ≡ false = grind (arith, nat_tests) in
    in_accs (core_part c i) i b ∙ part_acc c i i l ∙ ap (λ t. Some (if t then slice_index_or c.accs i 0 else 0)) f

page_zero : (c : Core) (x : Page) (i : ℕ) → 16 ≤ i → i < 2 ^ 18 → page_of c (i / 1024) ≡ Some x → first_of (i / 1024) < i → word_at (core_part c i) i ≡ Some 0
page_zero c x i l b here begun =
    let f : nat_lt i 16 ≡ false = grind (arith, nat_tests) in
    let g : nat_lt (1024 * (i / 1024) + i % 1024) i ≡ false = (let h : i ≤ 1024 * (i / 1024) + i % 1024 = omega arith in grind (arith, nat_tests)) in
    in_page (core_part c i) i f ∙ ap (λ o. word_in o (i % 1024)) (page_is c x i b here begun)
    ∙ get-table 1024 (word_part x (i / 1024) i) (i % 1024) (omega arith)
    ∙ ap (λ t. Some (if t then slice_index_or x.words (i % 1024) 0 else 0)) g

-- on an absent page nothing changes
part_absent : (c : Core) (i : ℕ) → 16 ≤ i → i < 2 ^ 18 → page_of c (i / 1024) ≡ None → core_part c i ≡ core_part c (i + 1)
unfolding core_part
part_absent c i l b none =
    sym (λ s. record {
      accs = accs_next c i l s;
      pages = table_alike 256 (λ k. page_part (page_of c k) k i)
          (λ k. page_part (page_of c k) k (i + 1)) (λ k h. by k) s;
    })
  where
    by : (k : ℕ) → page_part (page_of c k) k (i + 1) ≡ page_part (page_of c k) k i
    by k = elim (cases_Bool (k == i / 1024)) [
      | inl t ↦ (let e : k ≡ i / 1024 = grind (arith, nat_tests) in ap (λ o. page_part o k (i + 1)) (ap (page_of c) e ∙ none)
          ∙ sym (ap (λ o. page_part o k i) (ap (page_of c) e ∙ none)))
      | inr t ↦ page_other (page_of c k) k i l (λ e. let g : (k == i / 1024) ≡ true = grind (arith, nat_tests) in cc)
    ]

-- a cell is written of an address; or nothing is, if its word is 0 and it does not begin a page
begins_at : (i : ℕ) → 16 ≤ i → i ≡ first_of (i / 1024) → begins_page i ≡ true
begins_at i l at = elim (cases_Bool (i / 1024 == 0)) [
  | inl z ↦ (let e : i ≡ 16 = rw z at at in let t : (i == 16) ≡ true = grind (arith, nat_tests) in rw t refl)
  | inr z ↦
      let e : i ≡ 1024 * (i / 1024) = rw z at at in
      let n : i / 1024 ≢ 0 = (λ h. let g : (i / 1024 == 0) ≡ true = grind (arith, nat_tests) in cc) in
      let t : (i % 1024 == 0) ≡ true = (let h : i % 1024 ≡ 0 = omega arith in grind (arith, nat_tests)) in
      let u : nat_le 1024 i ≡ true = (let h : 1024 ≤ i = omega arith in grind (arith, nat_tests)) in
      rw (t, u) (either (i == 16))
]
  where
    either : (b : Bool) → (b || (true && true)) ≡ true
    either true = refl
    either false = refl

-- nothing is read only in the first core
no_bar : (i : ℕ) → is_barred no_core i ≡ false
no_bar i = elim (cases_Bool (nat_lt i 16)) [
  | inl t ↦ (let h : i < 16 = grind (arith, nat_tests) in rw (can_store-no_core i h) (by (is_some (word_at no_core i))))
  | inr t ↦ (let h : 16 ≤ i = grind (arith, nat_tests) in rw (word_at-no_core_past i h) refl)
]
  where
    by : (b : Bool) → (b && not true) ≡ false
    by true = refl
    by false = refl

-- what is asked of a machine into which a core is loaded: there is room for one page more, as long
-- as some pages of the core are not made
pub record Room (n : Machine) (s : ℕ) (q : Whole) (ss : List Symbol) (c : Core) : Type 0 where
  pub room : (d : Core) → pages_present d < pages_present c → mapped (block n s (record q { core = d }) ss) < most_pages

module _ (n : Machine) (s : ℕ) (q : Whole) (ss : List Symbol) (c : Core) (whole : IsWhole c) (hollow : IsHollow c) (room : Room n s q ss c) where
  abbrev at_address : ℕ → Machine
  at_address i = block n s (record q { core = core_part c i }) ss

  -- the word of the address is stored
  cell_there : (i w : ℕ) → can_store (core_part c i) i ≡ true → store (core_part c i) i w ≡ core_part c (i + 1)
      → Leads (at_address i) (state.CoreWords s i (w ∷ []) ∷ []) (at_address (suc i))
  unfolding with_stored
  cell_there i w can is =
      let b = at_address i in
      let free : is_barred (core_part c i) i ≡ false = ap (λ t. is_some (word_at (core_part c i) i) && not t) can
      ∙ and_false (is_some (word_at (core_part c i) i)) in
      let stored : with_stored (mapped b) (core_part c i) i w ≡ Ok (core_part c (suc i)) =
      ap (λ t. with_stored_in (core_part c i) i w t (is_some (word_at (core_part c i) i)) (nat_lt (mapped b) most_pages)) can
      ∙ ap Ok (is ∙ ap (core_part c) (omega arith)) in
      leads_line b _ _ (cell_done b s i w (record q { core = core_part c i }) (core_part c (suc i))
      (block_here n s (record q { core = core_part c i }) ss) free stored
      ∙ ap Some (job_again n s (record q { core = core_part c i }) (record q { core = core_part c (suc i) }) ss))
    where
      and_false : (x : Bool) → (x && not true) ≡ false
      and_false true = refl
      and_false false = refl

  -- it makes its page
  cell_makes : (i w : ℕ) → 16 ≤ i → page_of (core_part c i) (i / 1024) ≡ None → pages_present (core_part c i) < pages_present c
      → store (with_page (core_part c i) (i / 1024) (Some zero_page)) i w ≡ core_part c (i + 1)
      → Leads (at_address i) (state.CoreWords s i (w ∷ []) ∷ []) (at_address (suc i))
  unfolding with_stored
  cell_makes i w l none fewer is =
      let b = at_address i in
      let r = room.room (core_part c i) fewer in
      let space : nat_lt (mapped b) most_pages ≡ true = grind (arith, nat_tests) in
      let word : is_some (word_at (core_part c i) i) ≡ false = ap is_some (absent_word (core_part c i) i l none) in
      let can = absent_can (core_part c i) i l none in
      let free : is_barred (core_part c i) i ≡ false = ap (λ t. t && not (can_store (core_part c i) i)) word in
      let stored : with_stored (mapped b) (core_part c i) i w ≡ Ok (core_part c (suc i)) =
      ap (λ t. with_stored_in (core_part c i) i w t (is_some (word_at (core_part c i) i)) (nat_lt (mapped b) most_pages)) can
      ∙ ap (λ t. if t then Err ReadOnly else (if nat_lt (mapped b) most_pages then Ok
      (store (with_page (core_part c i) (i / 1024) (Some zero_page)) i w) else Err Full)) word
      ∙ ap (λ t. if t then Ok (store (with_page (core_part c i) (i / 1024) (Some zero_page)) i w) else Err Full) space
      ∙ ap Ok (is ∙ ap (core_part c) (omega arith)) in
      leads_line b _ _ (cell_done b s i w (record q { core = core_part c i }) (core_part c (suc i))
      (block_here n s (record q { core = core_part c i }) ss) free stored
      ∙ ap Some (job_again n s (record q { core = core_part c i }) (record q { core = core_part c (suc i) }) ss))

  -- nothing is written
  no_cell : (i : ℕ) → core_part c i ≡ core_part c (i + 1) → Leads (at_address i) [] (at_address (suc i))
  no_cell i e = leads_to _ _ _ _ (leads_none (at_address i)) (ap (λ d. block n s (record q { core = d }) ss) (e ∙ ap (core_part c) (omega arith)))

  -- the lines of one address
  lines_by : (i w : ℕ) (b : Bool) → begins_page i ≡ b → (z : Bool) → (w == 0) ≡ z
      → Leads (at_address i) (state.CoreWords s i (w ∷ []) ∷ []) (at_address (suc i))
      → (b ≡ false → w ≡ 0 → core_part c i ≡ core_part c (i + 1)) → Leads (at_address i) (cell_lines s (cell_of i (Some w))) (at_address (suc i))
  lines_by i w true e z f line same = rw (e, f) (by z)
    where
      by : (z : Bool) → Leads (at_address i) (cell_lines s (if z && false then [] else (i, w) ∷ [])) (at_address (suc i))
      by true = line
      by false = line
  lines_by i w false e true f line same = rw (e, f) (no_cell i (same refl (let h : w ≡ 0 = grind (arith, nat_tests) in h)))
  lines_by i w false e false f line same = rw (e, f) line

  first_under : (i : ℕ) → 16 ≤ i → first_of (i / 1024) ≤ i
  first_under i l = elim (cases_Bool (i / 1024 == 0)) [
    | inl z ↦ rw z l
    | inr z ↦ rw z (omega arith)
  ]

  address_leads : (i : ℕ) → i < 2 ^ 18 → Leads (at_address i) (cell_lines s (cell_of i (word_at c i))) (at_address (suc i))
  address_leads i b = elim (cases_Bool (nat_lt i 16)) [
    | inl t ↦
        let l : i < 16 = grind (arith, nat_tests) in
        let w = slice_index_or c.accs i 0 in
        let word : word_at c i ≡ Some w = in_accs c i t ∙ slice_get-get_or c.accs i 0 (let a = whole.accs in omega arith) in
        let stored = acc_stored c i w l refl in
        subst (λ o. Leads (at_address i) (cell_lines s (cell_of i o)) (at_address (suc i))) (sym word)
        (lines_by i w (begins_page i) refl (w == 0) refl (cell_there i w (acc_can c i l) stored)
        (λ e z. part_same c i (acc_stored c i 0 l z) (acc_zero c i l)))
    | inr t ↦ (let l : 16 ≤ i = grind (arith, nat_tests) in on_page i b l t (page_of c (i / 1024)) refl)
  ]
    where
      on_page : (i : ℕ) → i < 2 ^ 18 → 16 ≤ i → nat_lt i 16 ≡ false → (o : Option Page) → page_of c (i / 1024) ≡ o
          → Leads (at_address i) (cell_lines s (cell_of i (word_at c i))) (at_address (suc i))
      on_page i b l t None here =
          subst (λ o. Leads (at_address i) (cell_lines s (cell_of i o)) (at_address (suc i))) (sym (absent_word c i l here))
          (no_cell i (part_absent c i l b here))
      on_page i b l t (Some x) here =
          let w = slice_index_or x.words (i % 1024) 0 in
          let long = whole.words (i / 1024) x here in
          let word : word_at c i ≡ Some w = in_page c i t ∙ ap (λ o. word_in o (i % 1024)) here ∙ slice_get-get_or x.words (i % 1024) 0 (omega arith) in
          let under = first_under i l in
          subst (λ o. Leads (at_address i) (cell_lines s (cell_of i o)) (at_address (suc i))) (sym word)
          (elim (cases_Bool (nat_lt (first_of (i / 1024)) i)) [
            | inl u ↦
                let begun : first_of (i / 1024) < i = grind (arith, nat_tests) in
                lines_by i w (begins_page i) refl (w == 0) refl
                (cell_there i w (page_can c x i l b here begun) (page_stored_there c x i w l b here begun refl))
                (λ e z. part_same c i (page_stored_there c x i 0 l b here begun z) (page_zero c x i l b here begun))
            | inr u ↦
                let at : i ≡ first_of (i / 1024) = (let h : i ≤ first_of (i / 1024) = grind (arith, nat_tests) in omega arith) in
                let none = page_is_none c i b (omega arith) in
                let made = page_made c x i w hollow l b here at refl in
                lines_by i w (begins_page i) refl (w == 0) refl (cell_makes i w l none (fewer i w b none made) made)
                (λ e z. let f = begins_at i l at in let g : true ≡ false = sym f ∙ e in cc)
          ])
        where
          fewer : (i w : ℕ) → i < 2 ^ 18 → page_of (core_part c i) (i / 1024) ≡ None
              → store (with_page (core_part c i) (i / 1024) (Some zero_page)) i w ≡ core_part c (i + 1) → pages_present (core_part c i) < pages_present c
          fewer i w b none made =
              let d = with_page (core_part c i) (i / 1024) (Some zero_page) in
              let a = pages_present-with_page (core_part c i) (i / 1024) (Some zero_page) (let n = part_long c i in omega arith) in
              let o : one_if (page_of (core_part c i) (i / 1024)) ≡ 0 = ap one_if none in
              let e : pages_present (core_part c (i + 1)) ≡ pages_present d = ap pages_present (sym made) ∙ pages_present-store d i w in
              let f = part_le c (i + 1) whole.pages in
              omega arith

  -- all words
  words_lead : Leads (at_address 0) (word_lines s c) (at_address (2 ^ 18))
  unfolding word_lines
  words_lead = free_rows (at_address 0) (at_address (2 ^ 18)) s c (2 ^ 18)
      (record {
        job = record q { core = core_part c 0 };
        is = block_here n s (record q { core = core_part c 0 }) ss;
        free = λ i. subst (λ d. is_barred d i ≡ false) (sym (part_none c)) (no_bar i);
      })
      (leads_each (single_lines s c) at_address (2 ^ 18) address_leads)

-- a table of a list's own values
table_of : {X : Type 0} (n : ℕ) (f : ℕ → X) (xs : List X) (d : X) → length xs ≡ n → ((k : ℕ) → k < n → f k ≡ slice_index_or xs k d) → table n f ≡ xs
table_of n f xs d long h =
    let a = length-table n f in
    ext_get_or d (table n f) xs (a ∙ sym long) (λ k l. let i : k < n = omega arith in get_or-table n f k d i ∙ h k i)

-- all words are there: a page is as it is in the core, but for its mark
full_page : (c : Core) (x : Page) (k : ℕ) → IsWhole c → k < 256 → page_of c k ≡ Some x
    → page_part (Some x) k (2 ^ 18) ≡ Some (record { words = x.words; writable = true })
full_page c x k whole b here =
    let u = first_past k in
    let t : nat_lt (first_of k) (2 ^ 18) ≡ true = (let h : first_of k < 2 ^ 18 = omega arith in grind (arith, nat_tests)) in
    ap (λ y. page_if y (record { words = table 1024 (word_part x k (2 ^ 18)); writable = true })) t
    ∙ ap (λ ws. Some (record { words = ws; writable = true }))
    (table_of 1024 (word_part x k (2 ^ 18)) x.words 0 (whole.words k x here)
    (λ j l. let v : nat_lt (1024 * k + j) (2 ^ 18) ≡ true = (let h : 1024 * k + j < 2 ^ 18 = omega arith in grind (arith, nat_tests)) in rw v refl))

abbrev mark_part : Core → ℕ → ℕ → Option Page
mark_part c i k = if nat_lt k i then page_of c k else page_part (page_of c k) k (2 ^ 18)

unfoldable pub marks_part : Core → ℕ → Core
marks_part c i = record { accs = table 16 (acc_part c (2 ^ 18)); pages = table 256 (mark_part c i) }

marks_none : (c : Core) → core_part c (2 ^ 18) ≡ marks_part c 0
unfolding core_part marks_part
marks_none c = λ s. record {
  accs = table 16 (acc_part c (2 ^ 18));
  pages = table_alike 256 (mark_part c 0) (λ k. page_part (page_of c k) k (2 ^ 18))
      (λ k l. let f : nat_lt k 0 ≡ false = grind (arith, nat_tests) in rw f refl) s;
}

marks_all : (c : Core) → IsWhole c → marks_part c 256 ≡ c
unfolding marks_part page_of
marks_all c whole = λ s. record {
  accs = table_of 16 (acc_part c (2 ^ 18)) c.accs 0 whole.accs
      (λ k l. let t : nat_lt k (2 ^ 18) ≡ true = (let h : k < 2 ^ 18 = omega arith in grind (arith, nat_tests)) in rw t refl) s;
  pages = table_of 256 (mark_part c 256) c.pages None whole.pages
      (λ k l. let t : nat_lt k 256 ≡ true = grind (arith, nat_tests) in ap
      (λ y. if y then present (slice_get c.pages k) else page_part (present (slice_get c.pages k)) k (2 ^ 18)) t ∙ present-slice_get c.pages k) s;
}

mark_now : (c : Core) (k : ℕ) → mark_part c (k + 1) k ≡ page_of c k
mark_now c k = let t : nat_lt k (k + 1) ≡ true = grind (arith, nat_tests) in ap (λ y. if y then page_of c k else page_part (page_of c k) k (2 ^ 18)) t

mark_before : (c : Core) (k : ℕ) → mark_part c k k ≡ page_part (page_of c k) k (2 ^ 18)
mark_before c k = let t : nat_lt k k ≡ false = grind (arith, nat_tests) in ap (λ y. if y then page_of c k else page_part (page_of c k) k (2 ^ 18)) t

mark_other : (c : Core) (i k : ℕ) → k ≢ i → mark_part c (i + 1) k ≡ mark_part c i k
mark_other c i k ne = elim (cases_Bool (nat_lt k i)) [
  | inl t ↦ (let u : nat_lt k (i + 1) ≡ true = grind (arith, nat_tests) in ap
      (λ y. if y then page_of c k else page_part (page_of c k) k (2 ^ 18)) (u ∙ sym t))
  | inr t ↦ (let u : nat_lt k (i + 1) ≡ false = grind (arith, nat_tests) in ap
      (λ y. if y then page_of c k else page_part (page_of c k) k (2 ^ 18)) (u ∙ sym t))
]

marks_next : (c : Core) (k : ℕ) → k < 256 → table 256 (mark_part c (k + 1)) ≡ slice_set (table 256 (mark_part c k)) k (page_of c k)
marks_next c k l = table_set 256 (mark_part c k) (mark_part c (k + 1)) k (page_of c k) l (mark_now c k) (λ j h ne. mark_other c k j ne)

marks_quiet : (c : Core) (k : ℕ) → page_part (page_of c k) k (2 ^ 18) ≡ page_of c k → marks_part c k ≡ marks_part c (k + 1)
unfolding marks_part
marks_quiet c k e = λ s. record { accs = table 16 (acc_part c (2 ^ 18)); pages = table_alike 256 (mark_part c (k + 1)) (mark_part c k) (λ j l. by j) s }
  where
    by : (j : ℕ) → mark_part c k j ≡ mark_part c (k + 1) j
    by j = elim (cases_Bool (j == k)) [
      | inl t ↦ (let h : j ≡ k = grind (arith, nat_tests) in rw h (mark_before c k ∙ e ∙ sym (mark_now c k)))
      | inr t ↦ sym (mark_other c k j (λ h. let g : (j == k) ≡ true = grind (arith, nat_tests) in cc))
    ]

marks_page : (c : Core) (i k : ℕ) → k < 256 → page_of (marks_part c i) k ≡ mark_part c i k
unfolding marks_part page_of
marks_page c i k l = ap present (get-table 256 (mark_part c i) k l) ∙ present_some (mark_part c i k)

mark_set : (c : Core) (k : ℕ) → k < 256 → with_page (marks_part c k) k (page_of c k) ≡ marks_part c (k + 1)
unfolding marks_part with_page
mark_set c k l = sym (λ s. record { accs = table 16 (acc_part c (2 ^ 18)); pages = marks_next c k l s })

protect_done : (b : Machine) (s k : ℕ) (q : Whole) (p : Page) → b.jobs s ≡ Some q → page_of q.core k ≡ Some p
    → build b (state.ReadOnly s k) ≡ Some (with_job b s (record q { core = with_page q.core k (Some (record p { writable = false })) }))
unfolding build with_page_protected
protect_done b s k q p here page =
    ap (λ o. result_ok (on_job b s (λ r. with_page_protected_in b s k r (page_of r.core k)) o)) here
    ∙ ap (λ o. result_ok (with_page_protected_in b s k q o)) page
    ∙ ap (λ o. Some (with_job b s (record q { core = with_page q.core k (marked o false) }))) page

module _ (n : Machine) (s : ℕ) (q : Whole) (ss : List Symbol) (c : Core) (whole : IsWhole c) where
  abbrev at_mark : ℕ → Machine
  at_mark i = block n s (record q { core = marks_part c i }) ss

  mark_leads : (k : ℕ) → k < 256 → (o : Option Page) → page_of c k ≡ o → Leads (at_mark k) (read_only_line s k o) (at_mark (suc k))
  mark_leads k l None e = leads_to _ _ _ _ (leads_none (at_mark k))
      (ap (λ d. block n s (record q { core = d }) ss) (marks_quiet c k (ap (λ o. page_part o k (2 ^ 18)) e ∙ sym e) ∙ ap (marks_part c) (omega arith)))
  mark_leads k l (Some x) e = by x.writable refl
    where
      by : (t : Bool) → x.writable ≡ t → Leads (at_mark k) (if t then [] else state.ReadOnly s k ∷ []) (at_mark (suc k))
      by true w =
          let same : page_part (page_of c k) k (2 ^ 18) ≡ page_of c k = ap (λ o. page_part o k (2 ^ 18)) e ∙ full_page c x k whole l e
          ∙ (λ t. Some (record { words = x.words; writable = sym w t })) ∙ sym e in
          leads_to _ _ _ _ (leads_none (at_mark k)) (ap (λ d. block n s (record q { core = d }) ss) (marks_quiet c k same ∙ ap (marks_part c) (omega arith)))
      by false w =
          let b = at_mark k in
          let page : page_of (marks_part c k) k ≡ Some (record { words = x.words; writable = true }) = marks_page c k k l ∙ mark_before c k
          ∙ ap (λ o. page_part o k (2 ^ 18)) e ∙ full_page c x k whole l e in
          let next : with_page (marks_part c k) k (Some (record { words = x.words; writable = false })) ≡ marks_part c (suc k) =
          ap (with_page (marks_part c k) k) ((λ t. Some (record { words = x.words; writable = sym w t })) ∙ sym e) ∙ mark_set c k l
          ∙ ap (marks_part c) (omega arith) in
          leads_line b _ _ (protect_done b s k (record q { core = marks_part c k }) (record { words = x.words; writable = true })
          (block_here n s (record q { core = marks_part c k }) ss) page
          ∙ ap Some (job_again n s (record q { core = marks_part c k })
          (record q { core = with_page (marks_part c k) k (Some (record { words = x.words; writable = false })) }) ss
          ∙ ap (λ d. block n s (record q { core = d }) ss) next))

  marks_lead : Leads (at_mark 0) (read_only_lines s c) (at_mark 256)
  unfolding read_only_lines
  marks_lead = leads_each (λ k. read_only_line s k (page_of c k)) at_mark 256 (λ k l. mark_leads k l (page_of c k) refl)

-- a core is loaded
pub core_leads : (n : Machine) (s : ℕ) (q : Whole) (ss : List Symbol) (c : Core) → IsWhole c → IsHollow c → Room n s q ss c
    → q.core ≡ no_core → CoreLeads n s q c ss
core_leads n s q ss c whole hollow room empty = record {
  leads =
      leads_append _ (block n s (record q { core = marks_part c 0 }) ss) _ (word_lines s c) (read_only_lines s c)
      (leads_from _ (block n s (record q { core = core_part c 0 }) ss) _ _ (ap (λ d. block n s (record q { core = d }) ss) (empty ∙ sym (part_none c)))
      (leads_to _ _ _ _ (words_lead n s q ss c whole hollow room) (ap (λ d. block n s (record q { core = d }) ss) (marks_none c))))
      (leads_to _ _ _ _ (marks_lead n s q ss c whole) (ap (λ d. block n s (record q { core = d }) ss) (marks_all c whole)));
}
