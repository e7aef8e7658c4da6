-- The words of a LOAD block: a word is stored; if its page is absent, a page of zeros is made
-- first.
use Rattle.std.specs.Prelude.{◌≡◌, ◌<◌, ◌≤◌, ◌/◌, ◌+◌, ◌^◌, ℕ, Bool, true, false, Option, Some, None, is_some, option_map, List, [], ◌∷◌, drop, length, IsOk, Result, Ok, Err, nat_lt, slice_index_or, refl}
use Rattle.std.proofs.Common.{sym, ◌∙◌, ap, subst, arith, get_or, inl, inr}
use Rattle.std.proofs.Math.ListN.{drop_of_length-le}
use Rattle.std.proofs.lemmas.Bool.{cases_lt, lt-ltb, le-ltb}
use Rattle.std.proofs.lemmas.Bool.Decides.{nat_tests}
use Rattle.std.proofs.lemmas.List.{drop_more}
use Rattle.its_word.specs.Core.{Core, IsWhole, no_core, page_of, word_at, can_store, store, putting, put, with_page, zero_page, pages_mapped}
use Rattle.its_word.specs.Limits.{slots, most_pages}
use Rattle.its_word.specs.Only.{Only, Same}
use Rattle.its_word.specs.declared.access.NoAccess.TheVariants.{ReadOnly}
use Rattle.its_records.specs.declared.jobs.Job.{Job}
use Rattle.its_records.specs.declared.session.Reason.{Reason}
use Rattle.its_records.specs.declared.session.Reason.TheVariants as reasons
use Rattle.its_word.proofs.PageLaws.{pages_mapped-same}
use Rattle.its_core.specs.Cores.{Cores, Reserved, core_at, reserved_at, clear_at}
use Rattle.its_files.specs.Files.{Store}
use Rattle.its_jobs.specs.Table.{job_at, superior_at}
use Rattle.its_plain.specs.Machine.{Whole, Machine, mapped, core_of}
use Rattle.its_plain.specs.Operator.{and_then}
use Rattle.its_plain.specs.Operator.Jobs.{with_core, with_stored_in, with_stored, with_word_loaded_of, with_word_loaded, with_words_stored, any_barred, barred_in, with_words_loaded_if, with_words_loaded}
use Rattle.its_shared.specs.Parts.{alarm_at, raw_of}
use Rattle.its_direct.specs.Plain.{machine_of, Tidy, Aside, CoreBecomes}
use Rattle.its_direct.specs.Lines.{one_slot, Operates, pages_made}
use Rattle.its_direct.specs.declared.plain.Plain.{Plain}
use Rattle.its_direct.proofs.LineLaws.{only_touched, put_slot}
use Rattle.its_direct.proofs.RoomLaws.{Within, within_ok, within_full, ready_whole, room_of}
use Rattle.its_direct.proofs.SlotLaws.{alike, core_machine, core_tidy, touched_machine}
use Rattle.its_direct.proofs.UserLaws.{own_of, own_is, nobody_is}

-- a page of zeros is made, and a word stored there
pub laid_word : (a b c : Cores) (s x : ℕ) (d : Core) (h : Core → Core) → Only (core_at a) (core_at b) s d
    → Only (core_at b) (core_at c) s (h (core_at b s)) → Only (core_at a) (core_at c) s (h d)
laid_word a b c s x d h o p = record { here = p.here ∙ ap h o.here; others = λ k n. p.others k n ∙ o.others k n }

pub laid_reserved : (a b c : Cores) → Same (clear_at a) (clear_at b) → c.reserved ≡ b.reserved → Same (clear_at a) (clear_at c)
unfolding reserved_at
laid_reserved a b c s e = record { each = λ k. ap (λ rs. option_map (λ (x : Reserved). x.clear) (slice_index_or rs k None)) e ∙ s.each k }

-- the pages of all jobs are those of the cores
core_by : (x : Store) (c : Core) (u : Option ℕ) (a : Option (ℕ × ℕ)) (o : Option Job) → (o ≡ None → c ≡ no_core) → core_of (raw_of x c u a o) ≡ c
core_by x c u a (Some j) blank = refl
core_by x c u a None blank = sym (blank refl)

core_shown : (p : Plain) (k : ℕ) → Tidy p → core_of ((machine_of p).jobs k) ≡ core_at p.core k
unfolding machine_of
core_shown p k tidy = core_by p.files (core_at p.core k) (superior_at p.jobs k) (alarm_at p.alarms.items k) (job_at p.jobs k) (tidy.blank k)

mapped_is : (p : Plain) → Tidy p → mapped (machine_of p) ≡ pages_mapped (core_at p.core)
mapped_is p tidy = pages_mapped-same (core_at p.core) (λ k. core_of ((machine_of p).jobs k)) (record { each = λ k. core_shown p k tidy })

-- a word
abbrev can : Plain → ℕ → ℕ → Bool
can p s a = can_store (core_at p.core s) a

abbrev there : Plain → ℕ → ℕ → Bool
there p s a = is_some (word_at (core_at p.core s) a)

abbrev room : Plain → Bool
room p = nat_lt (pages_mapped (core_at p.core)) most_pages

word_on : (p : Plain) (s a x : ℕ) (i : Job) → job_at p.jobs s ≡ Some i → Tidy p
    → with_word_loaded (machine_of p) s a x ≡ with_core (machine_of p) s (own_of p s i)
    (with_stored_in (core_at p.core s) a x (can p s a) (there p s a) (room p))
unfolding with_word_loaded with_stored
word_on p s a x i had tidy =
    ap (with_word_loaded_of (machine_of p) s a x) (own_is p s i had)
    ∙ ap (λ n. with_core (machine_of p) s (own_of p s i) (with_stored_in (core_at p.core s) a x (can p s a) (there p s a)
    (nat_lt n most_pages))) (mapped_is p tidy)

some_of : {X : Type 0} (o : Option X) → is_some o ≡ true → (x : X) × (o ≡ Some x)
some_of (Some x) h = (x, refl)
some_of None h = cc

becomes_is : (old new : Plain) (s : ℕ) (c : Core) (i : Job) → job_at old.jobs s ≡ Some i → CoreBecomes old new s c
    → with_core (machine_of old) s (own_of old s i) (Ok c) ≡ Ok (machine_of new)
becomes_is old new s c i had b = ap Ok (sym (core_machine old new s c i b had
    ∙ put_slot (machine_of old) s (own_of old s i) (λ q. record q { core = c }) (own_is old s i had)))

-- what is obeyed is not refused
pub no_error : {X : Type 0} {A E : Type 0} (r : Result A E) (e : E) → r ≡ Err e → IsOk r → X
no_error (Ok x) e is ok = cc
no_error (Err y) e is ok = let wrong : false ≡ true = ok in absurd cc

module _ (old : Plain) (s a x : ℕ) (job : is_some (job_at old.jobs s) ≡ true) (tidy : Tidy old) where
  had : (i : Job) × (job_at old.jobs s ≡ Some i)
  had = some_of (job_at old.jobs s) job

  pub word_stored : (new : Plain) → can_store (core_at old.core s) a ≡ true → CoreBecomes old new s (store (core_at old.core s) a x)
      → with_word_loaded (machine_of old) s a x ≡ Ok (machine_of new)
  word_stored new t b =
      word_on old s a x had.0 had.1 tidy
      ∙ ap (λ y. with_core (machine_of old) s (own_of old s had.0) (with_stored_in (core_at old.core s) a x y (there old s a) (room old))) t
      ∙ becomes_is old new s (store (core_at old.core s) a x) had.0 had.1 b

  absent_word : 16 ≤ a → page_of (core_at old.core s) (a / 1024) ≡ None → (can old s a ≡ false) × (there old s a ≡ false)
  unfolding can_store word_at
  absent_word l h =
      let t : nat_lt a 16 ≡ false = grind (arith, nat_tests) in
      (rw (t, h) refl, rw (t, h) refl)

  absent_on : 16 ≤ a → page_of (core_at old.core s) (a / 1024) ≡ None
      → with_word_loaded (machine_of old) s a x ≡ with_core (machine_of old) s (own_of old s had.0)
      (with_stored_in (core_at old.core s) a x false false (room old))
  absent_on l h =
      let f = absent_word l h in
      word_on old s a x had.0 had.1 tidy
      ∙ ap (λ y. with_core (machine_of old) s (own_of old s had.0) (with_stored_in (core_at old.core s) a x y (there old s a) (room old))) f.0
      ∙ ap (λ y. with_core (machine_of old) s (own_of old s had.0) (with_stored_in (core_at old.core s) a x false y (room old))) f.1

  pub word_made : (new : Plain) → 16 ≤ a → page_of (core_at old.core s) (a / 1024) ≡ None → pages_mapped (core_at old.core) < most_pages
      → CoreBecomes old new s (store (with_page (core_at old.core s) (a / 1024) (Some zero_page)) a x)
      → with_word_loaded (machine_of old) s a x ≡ Ok (machine_of new)
  word_made new l h r b =
      absent_on l h
      ∙ ap (λ y. with_core (machine_of old) s (own_of old s had.0) (with_stored_in (core_at old.core s) a x false false y))
      (lt-ltb (pages_mapped (core_at old.core)) most_pages r)
      ∙ becomes_is old new s (store (with_page (core_at old.core s) (a / 1024) (Some zero_page)) a x) had.0 had.1 b

  word_full : 16 ≤ a → page_of (core_at old.core s) (a / 1024) ≡ None → most_pages ≤ pages_mapped (core_at old.core)
      → with_word_loaded (machine_of old) s a x ≡ Err reasons.Full
  word_full l h r =
      absent_on l h
      ∙ ap (λ y. with_core (machine_of old) s (own_of old s had.0) (with_stored_in (core_at old.core s) a x false false y))
      (le-ltb (pages_mapped (core_at old.core)) most_pages r)

  barred_by : (b : Bool) (o : Option ℕ) → putting (core_at old.core s) a x b o ≡ Err ReadOnly
      → with_core (machine_of old) s (own_of old s had.0) (with_stored_in (core_at old.core s) a x b (is_some o) (room old)) ≡ Err reasons.ReadOnly
  barred_by true o h = cc
  barred_by false (Some v) h = refl
  barred_by false None h = cc

  word_barred : put (core_at old.core s) a x ≡ Err ReadOnly → with_word_loaded (machine_of old) s a x ≡ Err reasons.ReadOnly
  word_barred h = word_on old s a x had.0 had.1 tidy ∙ barred_by (can old s a) (word_at (core_at old.core s) a) h

  -- a word for which there is room
  pub word_room : 16 ≤ a → page_of (core_at old.core s) (a / 1024) ≡ None → IsOk (with_word_loaded (machine_of old) s a x)
      → pages_mapped (core_at old.core) < most_pages
  word_room l h ok = elim (cases_lt (pages_mapped (core_at old.core)) most_pages)
      [ inl r ↦ r | inr r ↦ no_error (with_word_loaded (machine_of old) s a x) reasons.Full (word_full l h r) ok ]

  pub word_free : put (core_at old.core s) a x ≡ Err ReadOnly → IsOk (with_word_loaded (machine_of old) s a x) → ⊥
  word_free h ok = no_error (with_word_loaded (machine_of old) s a x) reasons.ReadOnly (word_barred h) ok

  module _ (new : Plain) (c : Core) (b : CoreBecomes old new s c) where
    pub word_tidy : Tidy new
    word_tidy = core_tidy old new s c had.0 b had.1 tidy

    pub word_job : is_some (job_at new.jobs s) ≡ true
    word_job = ap is_some b.job.here ∙ job

pub page_becomes : (old new : Plain) (s : ℕ) (c : Core) → Only (core_at old.core) (core_at new.core) s c
    → Same (clear_at old.core) (clear_at new.core) → new.jobs ≡ old.jobs → Aside old new → CoreBecomes old new s c
page_becomes old new s c core reserved jobs aside = record {
  core = core;
  job = alike _ _ s (λ k. ap (λ t. job_at t k) jobs);
  superiors = ap (λ t. t.superiors) jobs;
  reserved = reserved;
  aside = aside;
}

-- the words in their order: those before place k are stored
pub record Storing (old now : Plain) (s a : ℕ) (ws : List ℕ) (k : ℕ) : Type 0 where
  pub rest : with_words_stored (machine_of now) s (a + k) (drop k ws) ≡ with_words_stored (machine_of old) s a ws
  pub job : is_some (job_at now.jobs s) ≡ true
  pub place : now.place ≡ old.place
  pub tidy : Tidy now

pub storing_starts : (p : Plain) (s a : ℕ) (ws : List ℕ) → is_some (job_at p.jobs s) ≡ true → Tidy p → Storing p p s a ws 0
storing_starts p s a ws job tidy = record {
  rest = let e : a + 0 ≡ a = omega arith in ap (λ i. with_words_stored (machine_of p) s i ws) e;
  job = job;
  place = refl;
  tidy = tidy;
}

stored_next : (old now : Plain) (s a k w d : ℕ) (ws : List ℕ) → Storing old now s a ws k → k < length ws → w ≡ get_or ws k d
    → and_then (with_word_loaded (machine_of now) s (a + k) w)
    (λ n. with_words_stored n s (a + (k + 1)) (drop (k + 1) ws)) ≡ with_words_stored (machine_of old) s a ws
stored_next old now s a k w d ws h l is =
    let f : a + k + 1 ≡ a + (k + 1) = omega arith in
    ap (λ i. and_then (with_word_loaded (machine_of now) s (a + k) w) (λ n. with_words_stored n s i (drop (k + 1) ws))) (sym f)
    ∙ ap (λ x. with_words_stored (machine_of now) s (a + k) (x ∷ drop (k + 1) ws)) is
    ∙ ap (with_words_stored (machine_of now) s (a + k)) (sym (drop_more ws k d l)) ∙ h.rest

pub first_ok : {A B E : Type 0} (r : Result A E) (f : A → Result B E) → IsOk (and_then r f) → IsOk r
first_ok (Ok x) f h = refl
first_ok (Err e) f h = h

pub storing_room : (old now : Plain) (s a k w d : ℕ) (ws : List ℕ) → Storing old now s a ws k → k < length ws → w ≡ get_or ws k d
    → IsOk (with_words_stored (machine_of old) s a ws)
    → IsOk (with_word_loaded (machine_of now) s (a + k) w)
storing_room old now s a k w d ws h l is ok =
    first_ok (with_word_loaded (machine_of now) s (a + k) w) (λ n. with_words_stored n s (a + (k + 1)) (drop (k + 1) ws))
    (subst (λ (r : Result Machine Reason). IsOk r) (sym (stored_next old now s a k w d ws h l is)) ok)

pub storing_more : (old now new : Plain) (s a k w d : ℕ) (ws : List ℕ) → Storing old now s a ws k → k < length ws → w ≡ get_or ws k d
    → with_word_loaded (machine_of now) s (a + k) w ≡ Ok (machine_of new)
    → is_some (job_at new.jobs s) ≡ true → new.place ≡ now.place → Tidy new → Storing old new s a ws (k + 1)
storing_more old now new s a k w d ws h l is made job place tidy = record {
  rest = sym (ap (λ r. and_then r (λ n. with_words_stored n s (a + (k + 1)) (drop (k + 1) ws))) made) ∙ stored_next old now s a k w d ws h l is;
  job = job;
  place = place ∙ h.place;
  tidy = tidy;
}

pub storing_ends : (old now : Plain) (s a k n : ℕ) (ws : List ℕ) → Storing old now s a ws k → n ≡ length ws → n ≤ k
    → with_words_stored (machine_of old) s a ws ≡ Ok (machine_of now)
storing_ends old now s a k n ws h is l = sym h.rest ∙ ap (with_words_stored (machine_of now) s (a + k)) (drop_of_length-le ws (omega arith))

-- the line
line_on : (p : Plain) (s a : ℕ) (ws : List ℕ) (i : Job) → job_at p.jobs s ≡ Some i
    → with_words_loaded (machine_of p) s a ws ≡ with_words_loaded_if (machine_of p) s a ws (any_barred (core_at p.core s) a (length ws))
unfolding with_words_loaded
line_on p s a ws i had = ap (λ (o : Option Whole). with_words_loaded_if (machine_of p) s a ws (barred_in o a (length ws))) (own_is p s i had)

module _ (old : Plain) (s a : ℕ) (ws : List ℕ) (i : Job) (had : job_at old.jobs s ≡ Some i) (b : Bool)
    (barred : b ≡ any_barred (core_at old.core s) a (length ws)) where
  pub line_barred : b ≡ true → with_words_loaded (machine_of old) s a ws ≡ Err reasons.ReadOnly
  line_barred t = line_on old s a ws i had ∙ ap (with_words_loaded_if (machine_of old) s a ws) (sym barred ∙ t)

  module _ (free : b ≡ false) where
    stored_line : with_words_loaded (machine_of old) s a ws ≡ with_words_stored (machine_of old) s a ws
    stored_line = line_on old s a ws i had ∙ ap (with_words_loaded_if (machine_of old) s a ws) (sym barred ∙ free)

    -- n pages are mapped, and so many are made
    module _ (tidy : Tidy old) (slot : s < slots) (end : a + length ws ≤ 2 ^ 18) (whole : IsWhole (core_at old.core s)) (n made : ℕ)
        (number : n ≡ pages_mapped (core_at old.core)) (few : n ≤ most_pages)
        (made_is : made ≡ pages_made (core_at old.core s) a (length ws)) where
      within : Within most_pages (n + made) (with_words_stored (machine_of old) s a ws)
      within =
          let mapped_now : mapped (machine_of old) ≡ n = mapped_is old tidy ∙ sym number in
          subst (λ k. Within most_pages (n + k) (with_words_stored (machine_of old) s a ws)) (sym made_is)
          (subst (λ k. Within most_pages (k + pages_made (core_at old.core s) a (length ws)) (with_words_stored (machine_of old) s a ws)) mapped_now
          (room_of s a ws (machine_of old) (own_of old s i) (own_is old s i had) slot
          (ready_whole (core_at old.core s) a (length ws) whole (sym barred ∙ free)) end (subst (λ k. k ≤ most_pages) (sym mapped_now) few)))

      pub line_room : n + made ≤ most_pages → IsOk (with_words_stored (machine_of old) s a ws)
      line_room le = within_ok most_pages (n + made) (with_words_stored (machine_of old) s a ws) within le

      pub line_full : most_pages < n + made → with_words_loaded (machine_of old) s a ws ≡ Err reasons.Full
      line_full lt = stored_line ∙ within_full most_pages (n + made) (with_words_stored (machine_of old) s a ws) within lt

    pub line_done : (put new : Plain) → s < slots → with_words_stored (machine_of old) s a ws ≡ Ok (machine_of put) → put.place ≡ old.place
        → new ≡ record put { touched = one_slot s }
        → Operates old new s (with_words_loaded (machine_of old) s a ws)
    line_done put new l made place e = record {
      is = stored_line ∙ made ∙ ap Ok (sym (touched_machine put new (one_slot s) e));
      touched = only_touched put new s l e;
      place = ap (λ (p : Plain). p.place) e ∙ place;
    }

pub line_refused : (p : Plain) (s a : ℕ) (ws : List ℕ) → 1 ≤ length ws → job_at p.jobs s ≡ None → with_words_loaded (machine_of p) s a ws ≡ Err reasons.NoJob
unfolding with_words_loaded with_word_loaded
line_refused p s a [] some none = absurd (omega arith)
line_refused p s a (w ∷ ws) some none =
    ap (λ (o : Option Whole). with_words_loaded_if (machine_of p) s a (w ∷ ws) (barred_in o a (length (w ∷ ws)))) (nobody_is p s none)
    ∙ ap (λ (o : Option Whole). and_then (with_word_loaded_of (machine_of p) s a w o) (λ n. with_words_stored n s (a + 1) ws)) (nobody_is p s none)
