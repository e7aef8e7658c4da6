-- A line of several words does what lines of one word each do.
use Rattle.std.specs.Prelude.{if◌then◌else◌, ◌≡◌, ◌≢◌, ◌≤◌, ◌<◌, ◌==◌, ◌||◌, ◌&&◌, ◌⊎◌, replicate, slice_set, ℕ, zero, suc, ◌+◌, ◌/◌, ◌%◌, ◌^◌, Bool, true, false, not, Option, Some, None, Result, Ok, Err, List, [], ◌∷◌, ◌++◌, length, nat_lt, is_some, slice_get, option_and_then, refl}
use Rattle.std.proofs.Common.{sym, ◌∙◌, ap, subst, arith, inl, inr}
use Rattle.std.proofs.lemmas.Bool.{cases_Bool}
use Rattle.std.proofs.lemmas.Option.{same_Some}
use Rattle.std.proofs.lemmas.Bool.Decides.{nat_tests}
use Rattle.its_word.specs.Limits.{most_pages}
use Rattle.its_word.specs.Core.{Core, Page, present, page_of, word_at, can_store, store, with_page, zero_page, word_in, stores_in}
use Rattle.its_word.proofs.CoreLaws.{can_store-store, is_some-store, in_page, stores_page}
use Rattle.its_word.proofs.PageLaws.{can_store-with_page_acc, can_store-with_page_other, word_at-with_page_acc, word_at-with_page_other}
use Rattle.its_records.specs.declared.session.Reason.{Reason}
use Rattle.its_plain.specs.Machine.{Whole, Machine, with_job, mapped}
use Rattle.its_plain.specs.Operator.{and_then}
use Rattle.its_plain.specs.Operator.Jobs.{with_words_loaded, with_words_loaded_if, with_words_stored, with_word_loaded, with_word_loaded_of, with_stored, with_stored_in, with_core, words_barred, barred_in, any_barred, is_barred}
use Rattle.std.specs.Result.{result_ok}
use Rattle.its_saved.specs.StateLine.{StateLine}
use Rattle.its_saved.specs.Building.{build, build_all}
use Rattle.its_saved.specs.Saving.{each, cell_of, cells_below, is_next, rows_from, rows}
use Rattle.its_saved.specs.StateLine as state
use Rattle.its_saved.proofs.ChangedLaws.{changed_here}
use Rattle.its_saved.proofs.LeadLaws.{Leads, leads_line, leads_append, leads_to}

-- each word in a line of its own
abbrev pub cell_lines : ℕ → List (ℕ × ℕ) → List StateLine
cell_lines s [] = []
cell_lines s (x ∷ xs) = state.CoreWords s x.0 (x.1 ∷ []) ∷ cell_lines s xs

abbrev pub single_lines : ℕ → Core → ℕ → List StateLine
single_lines s c a = cell_lines s (cell_of a (word_at c a))

cells_append : (s : ℕ) (xs ys : List (ℕ × ℕ)) → cell_lines s (xs ++ ys) ≡ cell_lines s xs ++ cell_lines s ys
cells_append s [] ys = refl
cells_append s (x ∷ xs) ys = ap (λ ls. state.CoreWords s x.0 (x.1 ∷ []) ∷ ls) (cells_append s xs ys)

cells_each : (s : ℕ) (c : Core) (n : ℕ) → cell_lines s (cells_below c n) ≡ each (single_lines s c) n
cells_each s c zero = refl
cells_each s c (suc n) = cells_append s (cells_below c n) (cell_of n (word_at c n)) ∙ ap (λ ls. ls ++ single_lines s c n) (cells_each s c n)

-- consecutive words, each in a line of its own
abbrev singles : ℕ → ℕ → List ℕ → List StateLine
singles s a [] = []
singles s a (w ∷ ws) = state.CoreWords s a (w ∷ []) ∷ singles s (a + 1) ws

singles_push : (s a : ℕ) (ws : List ℕ) (w : ℕ) → singles s a (ws ++ w ∷ []) ≡ singles s a ws ++ state.CoreWords s (a + length ws) (w ∷ []) ∷ []
singles_push s a [] w = ap (λ b. state.CoreWords s b (w ∷ []) ∷ []) (omega arith)
singles_push s a (v ∷ ws) w = ap (λ ls. state.CoreWords s a (v ∷ []) ∷ ls)
    (singles_push s (a + 1) ws w ∙ ap (λ b. singles s (a + 1) ws ++ state.CoreWords s b (w ∷ []) ∷ []) (omega arith))

-- the job of a slot, no page of whose core is read only
pub record Free (b : Machine) (s : ℕ) : Type 0 where
  pub job : Whole
  pub is : b.jobs s ≡ Some job
  pub free : (i : ℕ) → is_barred job.core i ≡ false

none_barred : (c : Core) → ((i : ℕ) → is_barred c i ≡ false) → (n a : ℕ) → any_barred c a n ≡ false
unfolding any_barred
none_barred c h zero a = refl
none_barred c h (suc n) a = ap (λ t. t || any_barred c (a + 1) n) (h a) ∙ none_barred c h n (a + 1)

not_barred : (b : Machine) (s : ℕ) (f : Free b s) (a n : ℕ) → words_barred b s a n ≡ false
not_barred b s f a n = ap (λ o. barred_in o a n) f.is ∙ none_barred f.job.core f.free n a

-- what a line of one word does
single_stored : (b k : Machine) (s a w : ℕ) → Free b s → build b (state.CoreWords s a (w ∷ [])) ≡ Some k → with_word_loaded b s a w ≡ Ok k
unfolding build with_words_loaded
single_stored b k s a w f e = by (with_word_loaded b s a w) (sym (ap (λ t. result_ok (with_words_loaded_if b s a (w ∷ []) t)) (not_barred b s f a 1)) ∙ e)
  where
    by : (r : Result Machine Reason) → result_ok (and_then r (λ n. Ok n)) ≡ Some k → r ≡ Ok k
    by (Ok n) h = ap Ok (same_Some n k h)
    by (Err r) h = cc

-- the core stays free
stored_free : (c : Core) (a w : ℕ) → ((i : ℕ) → is_barred c i ≡ false) → (i : ℕ) → is_barred (store c a w) i ≡ false
stored_free c a w h i = ap (λ t. t && not (can_store (store c a w) i)) (is_some-store c a i w)
    ∙ ap (λ t. is_some (word_at c i) && not t) (can_store-store c a i w) ∙ h i

page_set : (ps : List (Option Page)) (k : ℕ) (p : Page) → (present (slice_get (slice_set ps k (Some p)) k) ≡ Some p)
    ⊎ (present (slice_get (slice_set ps k (Some p)) k) ≡ None)
page_set [] k p = inr refl
page_set (o ∷ ps) zero p = inl refl
page_set (o ∷ ps) (suc k) p = page_set ps k p

page_made : (c : Core) (k : ℕ) → (page_of (with_page c k (Some zero_page)) k ≡ Some zero_page) ⊎ (page_of (with_page c k (Some zero_page)) k ≡ None)
unfolding page_of with_page
page_made c k = page_set c.pages k zero_page

abbrev bar_of : Option Page → ℕ → Bool
bar_of o j = is_some (word_in o j) && not (stores_in o j)

in_bar : (c : Core) (i : ℕ) → nat_lt i 16 ≡ false → is_barred c i ≡ bar_of (page_of c (i / 1024)) (i % 1024)
in_bar c i t = ap (λ x. is_some x && not (can_store c i)) (in_page c i t)
    ∙ ap (λ x. is_some (word_in (page_of c (i / 1024)) (i % 1024)) && not x) (stores_page c i t)

zero_bar : (j : ℕ) → bar_of (Some zero_page) j ≡ false
unfolding zero_page
zero_bar j = by (is_some (slice_get (replicate 1024 0) j))
  where
    by : (b : Bool) → (b && not b) ≡ false
    by true = refl
    by false = refl

made_free : (c : Core) (k : ℕ) → ((i : ℕ) → is_barred c i ≡ false) → (i : ℕ) → is_barred (with_page c k (Some zero_page)) i ≡ false
made_free c k h i = elim (cases_Bool (nat_lt i 16)) [
  | inl t ↦
      let l : i < 16 = grind (arith, nat_tests) in
      ap (λ x. is_some x && not (can_store (with_page c k (Some zero_page)) i)) (word_at-with_page_acc c k i (Some zero_page) l)
      ∙ ap (λ x. is_some (word_at c i) && not x) (can_store-with_page_acc c k i (Some zero_page) l) ∙ h i
  | inr t ↦ elim (cases_Bool (i / 1024 == k)) [
    | inl u ↦ (let e : i / 1024 ≡ k = grind (arith, nat_tests) in in_bar (with_page c k (Some zero_page)) i t
        ∙ ap (λ n. bar_of (page_of (with_page c k (Some zero_page)) n) (i % 1024)) e ∙ either (page_made c k))
    | inr u ↦
        let ne : i / 1024 ≢ k = (λ e. let g : (i / 1024 == k) ≡ true = grind (arith, nat_tests) in cc) in
        ap (λ x. is_some x && not (can_store (with_page c k (Some zero_page)) i)) (word_at-with_page_other c k i (Some zero_page) ne)
        ∙ ap (λ x. is_some (word_at c i) && not x) (can_store-with_page_other c k i (Some zero_page) ne) ∙ h i
  ]
]
  where
    either : (page_of (with_page c k (Some zero_page)) k ≡ Some zero_page) ⊎ (page_of (with_page c k (Some zero_page)) k ≡ None)
        → bar_of (page_of (with_page c k (Some zero_page)) k) (i % 1024) ≡ false
    either (inl e) = ap (λ o. bar_of o (i % 1024)) e ∙ zero_bar (i % 1024)
    either (inr e) = ap (λ o. bar_of o (i % 1024)) e

-- a word stored leaves it free
abbrev FreeCore : Result Core Reason → Type 0
FreeCore (Ok c) = (i : ℕ) → is_barred c i ≡ false
FreeCore (Err r) = Unit {0}

word_free : (pages : ℕ) (c : Core) (a w : ℕ) → ((i : ℕ) → is_barred c i ≡ false) → FreeCore (with_stored pages c a w)
unfolding with_stored
word_free pages c a w h = by (can_store c a) (is_some (word_at c a)) (nat_lt pages most_pages)
  where
    by : (x y z : Bool) → FreeCore (with_stored_in c a w x y z)
    by true y z = stored_free c a w h
    by false true z = tt
    by false false true = stored_free (with_page c (a / 1024) (Some zero_page)) a w (made_free c (a / 1024) h)
    by false false false = tt

abbrev loaded_as : Machine → Result Machine Reason
loaded_as m = Ok m

same_loaded : (x y : Machine) → loaded_as x ≡ loaded_as y → x ≡ y
same_loaded x y h = same_Some x y (ap result_ok h)

loaded_free : (b k : Machine) (s a w : ℕ) → Free b s → with_word_loaded b s a w ≡ Ok k → Free k s
unfolding with_word_loaded
loaded_free b k s a w f e = by (with_stored (mapped b) f.job.core a w) (word_free (mapped b) f.job.core a w f.free)
    (sym (ap (with_word_loaded_of b s a w) f.is) ∙ e)
  where
    by : (r : Result Core Reason) → FreeCore r → with_core b s f.job r ≡ Ok k → Free k s
    by (Err r) g h = cc
    by (Ok d) g h = subst (λ m. Free m s) (same_loaded (with_job b s (record f.job { core = d })) k h)
        (record { job = record f.job { core = d }; is = changed_here b.jobs s (Some (record f.job { core = d })); free = g })

-- lines that lead on from a first line
pub record First (b n : Machine) (l : StateLine) (ls : List StateLine) : Type 0 where
  pub machine : Machine
  pub line : build b l ≡ Some machine
  pub rest : Leads machine ls n

first_leads : (b n : Machine) (l : StateLine) (ls : List StateLine) → Leads b (l ∷ ls) n → First b n l ls
first_leads b n l ls h = by (build b l) refl h.leads
  where
    by : (o : Option Machine) → build b l ≡ o → option_and_then (λ k. build_all k ls) o ≡ Some n → First b n l ls
    by (Some k) e g = record { machine = k; line = e; rest = record { leads = g } }
    by None e g = cc

-- the words of a line, stored one after another
words_stored : (ws : List ℕ) (b n : Machine) (s a : ℕ) → Free b s → Leads b (singles s a ws) n → (with_words_stored b s a ws ≡ Ok n) × Free n s
words_stored [] b n s a f h = (ap Ok (same_Some b n h.leads), subst (λ m. Free m s) (same_Some b n h.leads) f)
words_stored (w ∷ ws) b n s a f h =
    let first = first_leads b n (state.CoreWords s a (w ∷ [])) (singles s (a + 1) ws) h in
    let loaded = single_stored b first.machine s a w f first.line in
    let rest = words_stored ws first.machine n s (a + 1) (loaded_free b first.machine s a w f loaded) first.rest in
    (ap (λ r. and_then r (λ m. with_words_stored m s (a + 1) ws)) loaded ∙ rest.0, rest.1)

line_of : (ws : List ℕ) (b n : Machine) (s a : ℕ) → Free b s → Leads b (singles s a ws) n → build b (state.CoreWords s a ws) ≡ Some n
unfolding build with_words_loaded
line_of ws b n s a f h = ap (λ t. result_ok (with_words_loaded_if b s a ws t)) (not_barred b s f a (length ws)) ∙ ap result_ok (words_stored ws b n s a f h).0

-- cells in rows
rows_lead : (cells : List (ℕ × ℕ)) (b k n : Machine) (s a : ℕ) (ws : List ℕ) → Free b s → Leads b (singles s a ws) k
    → Leads k (cell_lines s cells) n → Leads b (rows_from s a ws cells) n
rows_lead [] b k n s a ws f h g = leads_to b k n _ (leads_line b k (state.CoreWords s a ws) (line_of ws b k s a f h)) (same_Some k n g.leads)
rows_lead (c ∷ cells) b k n s a ws f h g = by (is_next a ws c.0) refl
    (λ e. rows_lead cells b first.machine n s a (ws ++ c.1 ∷ []) f
    (subst (λ ls. Leads b ls first.machine) (sym (singles_push s a ws c.1
    ∙ ap (λ i. singles s a ws ++ state.CoreWords s i (c.1 ∷ []) ∷ []) (sym e)))
    (leads_append b k first.machine (singles s a ws) (state.CoreWords s c.0 (c.1 ∷ []) ∷ []) h
    (leads_line k first.machine (state.CoreWords s c.0 (c.1 ∷ [])) first.line))) first.rest)
    (leads_append b k n (state.CoreWords s a ws ∷ []) (rows_from s c.0 (c.1 ∷ []) cells) (leads_line b k (state.CoreWords s a ws) (line_of ws b k s a f h))
    (rows_lead cells k first.machine n s c.0 (c.1 ∷ []) (words_stored ws b k s a f h).1
    (leads_line k first.machine (state.CoreWords s c.0 (c.1 ∷ [])) first.line) first.rest))
  where
    first : First k n (state.CoreWords s c.0 (c.1 ∷ [])) (cell_lines s cells)
    first = first_leads k n (state.CoreWords s c.0 (c.1 ∷ [])) (cell_lines s cells) g

    by : (t : Bool) → is_next a ws c.0 ≡ t → (c.0 ≡ a + length ws → Leads b (rows_from s a (ws ++ c.1 ∷ []) cells) n)
        → Leads b (state.CoreWords s a ws ∷ rows_from s c.0 (c.1 ∷ []) cells) n
        → Leads b (if t then rows_from s a (ws ++ c.1 ∷ []) cells else state.CoreWords s a ws ∷ rows_from s c.0 (c.1 ∷ []) cells) n
    by true e x y = x (let t : (c.0 == a + length ws) ≡ true = left (c.0 == a + length ws) (nat_lt (length ws) 16) e in grind (arith, nat_tests))
      where
        left : (p q : Bool) → (p && q) ≡ true → p ≡ true
        left true q z = refl
        left false q z = cc
    by false e x y = y

pub free_rows : (b n : Machine) (s : ℕ) (c : Core) (top : ℕ) → Free b s → Leads b (each (single_lines s c) top) n → Leads b (rows s (cells_below c top)) n
free_rows b n s c top f h = by (cells_below c top) (subst (λ ls. Leads b ls n) (sym (cells_each s c top)) h)
  where
    by : (cells : List (ℕ × ℕ)) → Leads b (cell_lines s cells) n → Leads b (rows s cells) n
    by [] g = g
    by (x ∷ xs) g =
        let first = first_leads b n (state.CoreWords s x.0 (x.1 ∷ [])) (cell_lines s xs) g in
        rows_lead xs b first.machine n s x.0 (x.1 ∷ []) f (leads_line b first.machine (state.CoreWords s x.0 (x.1 ∷ [])) first.line) first.rest
