-- The words of a LOAD block: a word is stored; if its page is absent, a page of zeros is made
-- first.
use Rattle.std.specs.Prelude.{◌≡◌, ◌<◌, ◌≤◌, ◌/◌, ◌&&◌, ◌||◌, not, ℕ, Bool, true, false, Option, Some, None, [], ◌∷◌, Result, Ok, Err, is_some, nat_lt, refl}
use Rattle.std.proofs.Common.{sym, ◌∙◌, ap, subst, arith, inl, inr}
use Rattle.std.proofs.lemmas.Bool.{cases_Bool}
use Rattle.std.proofs.lemmas.Bool.Decides.{nat_tests}
use Rattle.its_word.specs.Limits.{most_pages}
use Rattle.its_word.specs.Core.{Core, page_of, word_at, can_store, store, putting, put, with_page, zero_page, pages_mapped}
use Rattle.its_word.specs.declared.access.NoAccess.TheVariants.{ReadOnly}
use Rattle.its_records.specs.declared.jobs.Job.{Job}
use Rattle.its_records.specs.declared.session.Event.TheVariants as events
use Rattle.its_records.specs.declared.session.Reason.{Reason}
use Rattle.its_records.specs.declared.session.Refusal.{Refusal}
use Rattle.its_records.specs.declared.session.Refusal.TheVariants as refusals
use Rattle.its_word.proofs.CoreLaws.{word_at-can_store}
use Rattle.its_core.specs.Cores.{core_at, clear_at}
use Rattle.its_core.specs.Frames.{frames_map, frames_reserve}
use Rattle.its_jobs.specs.Table.{job_at, superior_at}
use Rattle.its_plain.specs.Machine.{Whole, Machine, mapped, core_of}
use Rattle.its_plain.specs.Operator.{only, and_then, disturbs}
use Rattle.its_plain.specs.Operator.Jobs.{with_core, with_stored_in, with_stored, with_word_loaded_of, with_word_loaded, any_barred, barred_in, words_barred, with_words_loaded_if, with_words_loaded}
use Rattle.its_plain.specs.Operator.Lines.{operate, Done, lined}
use Rattle.its_stepped.specs.State.{State, plain}
use Rattle.its_stepped.specs.Unwind.{unwound}
use Rattle.its_stepped.specs.Lines.{after_calm}
use Rattle.its_stepped.proofs.Lining.RefusalLaws.{error_of, word_alike, word_refused_first}
use Rattle.its_stepped.proofs.Unwinding.UnwindLaws.{unwound_none}
use Rattle.its_world.specs.World.{alarm_at, state_of, raw_at, frames_after, with_frames, CoreBecomes}
use Rattle.its_world.specs.declared.world.World.{World}
use Rattle.its_world.proofs.MappedLaws.{core_raw, mapped_raw}
use Rattle.its_world.proofs.StateLaws.{raw_job, job_of, frames_state}
use Rattle.its_world.proofs.WorldLaws.{frames_still}
use Rattle.its_records.specs.Refusals.{reason_of}
use Rattle.its_monitor.specs.Kept.{Kept, Lands, Refused, Calmed, unloadable, frames_loaded}
use Rattle.its_monitor.proofs.KeptLaws.{refused_by, frames_kept, Made, made_plain, Lasts, kept_lasts}
use Rattle.its_tick.proofs.WaitsLaws.{raw_is, raw_is_none}
use Rattle.its_monitor.proofs.RegisterLaws.{disturbed, block_of}
use Rattle.its_monitor.proofs.WordLaws.{core_lands, core_lasts, core_kept}
use Rattle.its_stepped.proofs.Lining.KeptLaws.{user_page}

abbrev there : World → ℕ → ℕ → Bool
there w s a = is_some (word_at (core_at w.core s) a)

abbrev can : World → ℕ → ℕ → Bool
can w s a = can_store (core_at w.core s) a

abbrev room : World → Bool
room w = nat_lt (pages_mapped (core_at w.core)) most_pages

abbrev whole_of : World → ℕ → Job → Whole
whole_of w s j = raw_job w.files (core_at w.core s) j (superior_at w.jobs s) (alarm_at w.alarms.items s)

loaded_on : (w : World) (s a x : ℕ) (j : Job) → job_at w.jobs s ≡ Some j → Kept w
    → with_word_loaded (state_of w).raw s a x ≡ with_core (state_of w).raw s (whole_of w s j)
    (with_stored_in (core_at w.core s) a x (can w s a) (there w s a) (room w))
unfolding with_word_loaded with_stored
loaded_on w s a x j h kept =
    ap (with_word_loaded_of (state_of w).raw s a x) (raw_is w s j h)
    ∙ ap (λ n. with_core (state_of w).raw s (whole_of w s j)
    (with_stored_in (core_at w.core s) a x (can w s a) (there w s a) (nat_lt n most_pages))) (mapped_raw w kept.tidy)

-- a refusal
unloaded : (m : Machine) (s : ℕ) (q : Whole) (c : Core) (a x : ℕ) (b t n : Bool) (r : Refusal) → unloadable b t n ≡ Some r
    → with_core m s q (with_stored_in c a x b t n) ≡ Err (reason_of r)
unloaded m s q c a x true t n r h = cc
unloaded m s q c a x false true n r h = let is : refusals.ReadOnly ≡ r = cc in ap (λ y. Err (reason_of y)) is
unloaded m s q c a x false false true r h = cc
unloaded m s q c a x false false false r h = let is : refusals.Full ≡ r = cc in ap (λ y. Err (reason_of y)) is

pub load_refused : (w : World) (s a x : ℕ) (o : Option Refusal) (r : Refusal) → is_some (job_at w.jobs s) ≡ true
    → o ≡ unloadable (can_store (core_at w.core s) a) (is_some (word_at (core_at w.core s) a))
    (nat_lt (pages_mapped (core_at w.core)) most_pages) → o ≡ Some r → Kept w
    → Refused (state_of w) (unwound (state_of w) s) (λ m. with_word_loaded m s a x) r
load_refused w s a x o r some is e kept =
    let had = job_of (job_at w.jobs s) some in
    refused_by (λ m. with_word_loaded m s a x) (state_of w) s r (λ u. word_alike u s a x) kept.sound
    (loaded_on w s a x had.0 had.1 kept ∙ unloaded (state_of w).raw s (whole_of w s had.0) (core_at w.core s) a x (can w s a) (there w s a)
    (room w) r (sym is ∙ e))

pub load_none : (w : World) (s a x : ℕ) (r : Refusal) → r ≡ refusals.NoJob → job_at w.jobs s ≡ None → Kept w
    → Refused (state_of w) (unwound (state_of w) s) (λ m. with_word_loaded m s a x) r
unfolding with_word_loaded
load_none w s a x r is h kept = refused_by (λ m. with_word_loaded m s a x) (state_of w) s r (λ u. word_alike u s a x) kept.sound
    (ap (with_word_loaded_of (state_of w).raw s a x) (raw_is_none w s h) ∙ ap (λ y. Err (reason_of y)) (sym is))

-- no refusal, before unwinding and afterwards
cleared : (m : Machine) (s : ℕ) (q : Whole) (c : Core) (a x : ℕ) (b t n : Bool) → unloadable b t n ≡ None
    → error_of (with_core m s q (with_stored_in c a x b t n)) ≡ None
cleared m s q c a x true t n h = refl
cleared m s q c a x false true n h = cc
cleared m s q c a x false false true h = refl
cleared m s q c a x false false false h = cc

pub record Clear (w : World) (s a x : ℕ) : Type 0 where
  pub none : error_of (with_word_loaded (state_of w).raw s a x) ≡ None

pub load_clear : (old mid : World) (s a x : ℕ) (o : Option Refusal) → Kept old → is_some (job_at old.jobs s) ≡ true → Calmed old mid s
    → o ≡ unloadable (can_store (core_at old.core s) a) (is_some (word_at (core_at old.core s) a))
    (nat_lt (pages_mapped (core_at old.core)) most_pages) → o ≡ None → Clear mid s a x
load_clear old mid s a x o kept some c is e =
    let had = job_of (job_at old.jobs s) some in
    record {
      none = ap (λ (v : State). error_of (with_word_loaded v.raw s a x)) c.calm.unwinds ∙ sym (word_refused_first (state_of old) s a x kept.sound)
          ∙ ap error_of (loaded_on old s a x had.0 had.1 kept)
          ∙ cleared (state_of old).raw s (whole_of old s had.0) (core_at old.core s) a x (can old s a) (there old s a) (room old) (sym is ∙ e);
    }

clear_on : (old mid : World) (s a x : ℕ) → (c : Calmed old mid s) → Clear mid s a x
    → error_of (with_core (state_of mid).raw s (whole_of mid s c.job)
    (with_stored_in (core_at mid.core s) a x (can mid s a) (there mid s a) (room mid))) ≡ None
clear_on old mid s a x c h = ap error_of (sym (loaded_on mid s a x c.job c.calm.job c.calm.kept)) ∙ h.none

pub load_writable : (old mid : World) (s a x u : ℕ) → Calmed old mid s → Clear mid s a x → put (core_at mid.core s) a u ≡ Err ReadOnly → ⊥
load_writable old mid s a x u c h p = go (can mid s a) (word_at (core_at mid.core s) a) (clear_on old mid s a x c h) p
  where
    go : (b : Bool) (o : Option ℕ) → error_of (with_core (state_of mid).raw s (whole_of mid s c.job)
        (with_stored_in (core_at mid.core s) a x b (is_some o) (room mid))) ≡ None
        → putting (core_at mid.core s) a u b o ≡ Err ReadOnly → ⊥
    go true o e f = cc
    go false (Some v) e f = cc
    go false None e f = cc

absent_word : (c : Core) (a : ℕ) → 16 ≤ a → page_of c (a / 1024) ≡ None → (can_store c a ≡ false) × (is_some (word_at c a) ≡ false)
unfolding can_store word_at
absent_word c a l h =
    let t : nat_lt a 16 ≡ false = grind (arith, nat_tests) in
    (rw (t, h) refl, rw (t, h) refl)

full_refused : (m : Machine) (s : ℕ) (q : Whole) (c : Core) (a x : ℕ) (b t n : Bool) → b ≡ false → t ≡ false → n ≡ false
    → error_of (with_core m s q (with_stored_in c a x b t n)) ≡ None → ⊥
full_refused m s q c a x true t n e f g h = cc
full_refused m s q c a x false true n e f g h = cc
full_refused m s q c a x false false true e f g h = cc
full_refused m s q c a x false false false e f g h = cc

pub load_room : (old mid : World) (s a x : ℕ) → Calmed old mid s → Clear mid s a x → 16 ≤ a → page_of (core_at mid.core s) (a / 1024) ≡ None
    → pages_mapped (core_at mid.core) < most_pages
load_room old mid s a x c h l p = elim (cases_Bool (nat_lt (pages_mapped (core_at mid.core)) most_pages)) [
  | inl t ↦ grind (arith, nat_tests)
  | inr t ↦ let no = absent_word (core_at mid.core s) a l p in
      absurd (full_refused (state_of mid).raw s (whole_of mid s c.job) (core_at mid.core s) a x (can mid s a) (there mid s a) (room mid)
      no.0 no.1 t (clear_on old mid s a x c h))
]

pub load_unreserved : (old mid : World) (s : ℕ) → Kept old → Calmed old mid s → clear_at mid.core s ≡ None
unfolding state_of
load_unreserved old mid s kept c =
    user_page (raw_at mid.files mid.core mid.jobs mid.alarms.items s) ((state_of mid).frames s) (clear_at mid.core s)
    (ap (λ (v : State). v.frames s) c.calm.unwinds ∙ unwound_none (state_of old) s kept.sound) (c.calm.kept.sound.each s).by

-- the same of a world under another name
pub made_as : (mid same new : World) (s a x : ℕ) → same ≡ mid
    → CoreBecomes same (with_frames new same.core.frames) s (store (with_page (core_at same.core s) (a / 1024) (Some zero_page)) a x)
    → CoreBecomes mid (with_frames new mid.core.frames) s (store (with_page (core_at mid.core s) (a / 1024) (Some zero_page)) a x)
made_as mid same new s a x e b = subst (λ (w : World). CoreBecomes w (with_frames new w.core.frames) s
    (store (with_page (core_at w.core s) (a / 1024) (Some zero_page)) a x)) e b

-- the state after it
pub and_ok : (r : Result Machine Reason) (n : Machine) → and_then r (λ m. Ok m) ≡ Ok n → r ≡ Ok n
and_ok (Ok m) n h = h
and_ok (Err x) n h = cc

loaded_lasts : (m n : Machine) (s a x : ℕ) → with_word_loaded m s a x ≡ Ok n → Lasts m → Lasts n
unfolding with_word_loaded
loaded_lasts m n s a x is h = go (m.jobs s) refl is
  where
    go : (o : Option Whole) → m.jobs s ≡ o → with_word_loaded_of m s a x o ≡ Ok n → Lasts n
    go (Some q) at e = core_lasts m n s q (with_stored (mapped m) q.core a x) at e h
    go None at e = absurd cc

-- an a/ line of one word that can be stored
unbarred_by : (m n : Machine) (s : ℕ) (q : Whole) (c : Core) (a x : ℕ) (b t r : Bool) → with_core m s q (with_stored_in c a x b t r) ≡ Ok n
    → ((t && not b) || false) ≡ false
unbarred_by m n s q c a x true true r h = refl
unbarred_by m n s q c a x true false r h = refl
unbarred_by m n s q c a x false true r h = cc
unbarred_by m n s q c a x false false r h = refl

unbarred : (m n : Machine) (s a x : ℕ) → with_word_loaded m s a x ≡ Ok n → words_barred m s a 1 ≡ false
unfolding with_word_loaded with_stored any_barred
unbarred m n s a x h = go (m.jobs s) h
  where
    go : (o : Option Whole) → with_word_loaded_of m s a x o ≡ Ok n → barred_in o a 1 ≡ false
    go (Some q) e = unbarred_by m n s q q.core a x (can_store q.core a) (is_some (word_at q.core a)) (nat_lt (mapped m) most_pages) e
    go None e = refl

one_line : (m n : Machine) (s a x : ℕ) → with_word_loaded m s a x ≡ Ok n → with_words_loaded m s a (x ∷ []) ≡ Ok n
unfolding with_words_loaded
one_line m n s a x h = ap (with_words_loaded_if m s a (x ∷ [])) (unbarred m n s a x h) ∙ ap (λ r. and_then r (λ k. Ok k)) h

line_one : (m n : Machine) (s a x : ℕ) → with_words_loaded m s a (x ∷ []) ≡ Ok n → with_word_loaded m s a x ≡ Ok n
unfolding with_words_loaded
line_one m n s a x h = go (words_barred m s a 1) h
  where
    go : (b : Bool) → with_words_loaded_if m s a (x ∷ []) b ≡ Ok n → with_word_loaded m s a x ≡ Ok n
    go true e = cc
    go false e = and_ok (with_word_loaded m s a x) n e

module _ (old mid new : World) (s a x : ℕ) where
  pub load_stored : Kept old → Calmed old mid s → can_store (core_at mid.core s) a ≡ true → CoreBecomes mid new s (store (core_at mid.core s) a x)
      → Lands (unwound (state_of old) s) (state_of new) (with_word_loaded (unwound (state_of old) s).raw s a x)
  load_stored kept c writes r = core_lands old mid new s c.job (store (core_at mid.core s) a x) (λ v. with_word_loaded v.raw s a x) c.calm r
      (loaded_on mid s a x c.job c.calm.job c.calm.kept
      ∙ ap (λ b. with_core (state_of mid).raw s (whole_of mid s c.job) (with_stored_in (core_at mid.core s) a x b (there mid s a) (room mid))) writes)

  pub load_made : Kept old → Calmed old mid s → Clear mid s a x → 16 ≤ a → page_of (core_at mid.core s) (a / 1024) ≡ None
      → CoreBecomes mid (with_frames new mid.core.frames) s (store (with_page (core_at mid.core s) (a / 1024) (Some zero_page)) a x)
      → Lands (unwound (state_of old) s) (state_of new) (with_word_loaded (unwound (state_of old) s).raw s a x)
  load_made kept c h l p r =
      let no = absent_word (core_at mid.core s) a l p in
      let fits = load_room old mid s a x c h l p in
      let t : nat_lt (pages_mapped (core_at mid.core)) most_pages ≡ true = grind (arith, nat_tests) in
      subst (λ (v : State). Lands (unwound (state_of old) s) v (with_word_loaded (unwound (state_of old) s).raw s a x)) (frames_state new mid.core.frames)
      (core_lands old mid (with_frames new mid.core.frames) s c.job (store (with_page (core_at mid.core s) (a / 1024) (Some zero_page)) a x)
      (λ v. with_word_loaded v.raw s a x) c.calm r
      (loaded_on mid s a x c.job c.calm.job c.calm.kept
      ∙ ap (λ b. with_core (state_of mid).raw s (whole_of mid s c.job) (with_stored_in (core_at mid.core s) a x b (there mid s a) (room mid))) no.0
      ∙ ap (λ b. with_core (state_of mid).raw s (whole_of mid s c.job) (with_stored_in (core_at mid.core s) a x false b (room mid))) no.1
      ∙ ap (λ b. with_core (state_of mid).raw s (whole_of mid s c.job) (with_stored_in (core_at mid.core s) a x false false b)) t))

  load_line : Lands (unwound (state_of old) s) (state_of new) (with_word_loaded (unwound (state_of old) s).raw s a x)
      → Made (state_of old) (state_of new) (block_of s) (events.Words a (record { items = x ∷ [] }))
  unfolding after_calm lined operate
  load_line l = record {
    out = [];
    touched = only s;
    block = block_of s;
    is = ap (λ r. Done (disturbs s (block_of s) r)) (one_line (unwound (state_of old) s).raw (state_of new).raw s a x l.is);
    rest = l.rest;
  }

  pub load_plain : Kept old → Lands (unwound (state_of old) s) (state_of new) (with_word_loaded (unwound (state_of old) s).raw s a x)
      → with_word_loaded (plain (state_of old)) s a x ≡ Ok (plain (state_of new))
  unfolding lined operate
  load_plain kept l =
      let m = load_line l in
      line_one (plain (state_of old)) (plain (state_of new)) s a x
      (disturbed s (block_of s) (with_words_loaded (plain (state_of old)) s a (x ∷ [])) (plain (state_of new)) m.out m.touched m.block
      (made_plain (state_of old) (state_of new) (block_of s) (events.Words a (record { items = x ∷ [] })) kept.sound m))

  pub load_kept : (d : Core) → Kept old → Calmed old mid s → CoreBecomes mid new s d
      → Lands (unwound (state_of old) s) (state_of new) (with_word_loaded (unwound (state_of old) s).raw s a x) → Kept new
  load_kept d kept c r l = core_kept (events.Words a (record { items = x ∷ [] })) (block_of s) old mid new s c.job d kept c.calm r (load_line l)
      (loaded_lasts (plain (state_of old)) (plain (state_of new)) s a x (load_plain kept l) (kept_lasts old kept))

-- the same if its page was made
pub made_kept : (old mid new : World) (s a x : ℕ) (d : Core) → Kept old → Calmed old mid s → CoreBecomes mid (with_frames new mid.core.frames) s d
    → Lands (unwound (state_of old) s) (state_of new) (with_word_loaded (unwound (state_of old) s).raw s a x) → Kept new
made_kept old mid new s a x d kept c r l =
    frames_kept new mid.core.frames
    (load_kept old mid (with_frames new mid.core.frames) s a x d kept c r
    (subst (λ (v : State). Lands (unwound (state_of old) s) v (with_word_loaded (unwound (state_of old) s).raw s a x))
    (sym (frames_state new mid.core.frames)) l))

-- the frames of pages: that of the page which the slot has reserved is free once it is unwound, and
-- a page that is made has the first free one
module _ (old mid new : World) (s a : ℕ) (kept : Kept old) (c : Calmed old mid s) where
  there_in : is_some (word_at (core_of ((unwound (state_of old) s).raw.jobs s)) a) ≡ there mid s a
  there_in = ap (λ (v : State). is_some (word_at (core_of (v.raw.jobs s)) a)) (sym c.calm.unwinds)
      ∙ ap (λ (k : Core). is_some (word_at k a)) (core_raw mid s c.calm.kept.tidy)

  frames_calm : mid.core.frames ≡ frames_after (clear_at old.core s) None s old.core.frames
  frames_calm = c.calm.cores.pages ∙ ap (λ (o : Option ℕ). frames_after (clear_at old.core s) o s old.core.frames) (load_unreserved old mid s kept c)

  loaded_frames : (b : Bool) → there mid s a ≡ b → new.core.frames ≡ frames_loaded b s (a / 1024) mid.core.frames
      → new.core.frames ≡ frames_loaded (is_some (word_at (core_of ((unwound (state_of old) s).raw.jobs s)) a)) s (a / 1024)
      (frames_after (clear_at old.core s) None s old.core.frames)
  loaded_frames b t e = e ∙ (λ i. frames_loaded ((sym t ∙ sym there_in) i) s (a / 1024) (frames_calm i))

  pub stored_frames : (d : Core) → can_store (core_at mid.core s) a ≡ true → CoreBecomes mid new s d
      → new.core.frames ≡ frames_loaded (is_some (word_at (core_of ((unwound (state_of old) s).raw.jobs s)) a)) s (a / 1024)
      (frames_after (clear_at old.core s) None s old.core.frames)
  stored_frames d writes b = loaded_frames true (word_at-can_store (core_at mid.core s) a writes)
      (b.pages ∙ frames_still (clear_at mid.core s) s mid.core.frames)

  pub made_frames : 16 ≤ a → page_of (core_at mid.core s) (a / 1024) ≡ None → new.core.frames ≡ frames_map s s (a / 1024) (frames_reserve s mid.core.frames)
      → new.core.frames ≡ frames_loaded (is_some (word_at (core_of ((unwound (state_of old) s).raw.jobs s)) a)) s (a / 1024)
      (frames_after (clear_at old.core s) None s old.core.frames)
  made_frames l p e = loaded_frames false (absent_word (core_at mid.core s) a l p).1 e
