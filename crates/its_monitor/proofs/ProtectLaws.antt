-- RO, and the words of a LOAD block that are on read-only pages.
use Rattle.std.specs.Prelude.{◌≡◌, ◌≢◌, ◌&&◌, not, ℕ, Bool, true, false, Option, Some, None, [], Ok, Err, is_some, refl}
use Rattle.std.proofs.Common.{sym, ◌∙◌, ap}
use Rattle.its_word.specs.Core.{Core, Page, word_at, can_store, page_of, with_page, marked}
use Rattle.its_word.specs.Stores.{refusal, refused}
use Rattle.its_word.specs.declared.access.Fault.{Fault}
use Rattle.its_word.specs.declared.access.Fault.TheVariants.{Wro}
use Rattle.its_records.specs.declared.jobs.Job.{Job}
use Rattle.its_records.specs.declared.session.Event.TheVariants as events
use Rattle.its_records.specs.declared.session.Reason.TheVariants as reasons
use Rattle.its_records.specs.declared.session.Refusal.{Refusal}
use Rattle.its_records.specs.declared.session.Refusal.TheVariants as refusals
use Rattle.its_core.specs.Cores.{core_at, mark_of}
use Rattle.its_jobs.specs.Table.{job_at, superior_at}
use Rattle.its_plain.specs.Machine.{Whole, Machine}
use Rattle.its_plain.specs.Operator.{only, disturbs}
use Rattle.its_plain.specs.Operator.Jobs.{on_job, with_core, is_barred, any_barred, barred_in, words_barred, with_page_protected_in, with_page_protected}
use Rattle.its_plain.specs.Operator.Lines.{operate, Done, lined}
use Rattle.its_stepped.specs.State.{State, plain}
use Rattle.its_stepped.specs.Unwind.{unwound}
use Rattle.its_stepped.specs.Lines.{after_calm}
use Rattle.its_stepped.proofs.Lining.RefusalLaws.{error_of, page_alike, barred_plain, barred_first}
use Rattle.its_stepped.proofs.Unwinding.UnwindLaws.{unwound_plain}
use Rattle.its_world.specs.World.{alarm_at, state_of, CoreBecomes}
use Rattle.its_world.specs.declared.world.World.{World}
use Rattle.its_world.proofs.StateLaws.{raw_job, job_of}
use Rattle.its_records.specs.Refusals.{reason_of}
use Rattle.its_monitor.specs.Kept.{Kept, Lands, Refused, Calmed}
use Rattle.its_monitor.proofs.KeptLaws.{refused_by, Made, made_plain, Lasts, kept_lasts}
use Rattle.its_tick.proofs.WaitsLaws.{raw_is, raw_is_none}
use Rattle.its_monitor.proofs.RegisterLaws.{disturbed, block_of}
use Rattle.its_monitor.proofs.WordLaws.{core_lands, core_lasts, core_kept}

-- a page that is there has a mark
pub marked_some : (o : Option Page) → is_some (mark_of o) ≡ is_some o
marked_some (Some p) = refl
marked_some None = refl

-- RO by whether the page is there
page_on : (w : World) (s k : ℕ) (j : Job) → job_at w.jobs s ≡ Some j
    → with_page_protected (state_of w).raw s k ≡ with_page_protected_in (state_of w).raw s k
    (raw_job w.files (core_at w.core s) j (superior_at w.jobs s) (alarm_at w.alarms.items s)) (page_of (core_at w.core s) k)
unfolding with_page_protected
page_on w s k j h = ap (on_job (state_of w).raw s (λ q. with_page_protected_in (state_of w).raw s k q (page_of q.core k))) (raw_is w s j h)

page_here : (m : Machine) (s k : ℕ) (q : Whole) (o : Option Page) → is_some o ≡ true
    → with_page_protected_in m s k q o ≡ with_core m s q (Ok (with_page q.core k (marked (page_of q.core k) false)))
page_here m s k q (Some p) h = refl
page_here m s k q None h = cc

page_gone : (m : Machine) (s k : ℕ) (q : Whole) (o : Option Page) → is_some o ≡ false → with_page_protected_in m s k q o ≡ Err reasons.NoPage
page_gone m s k q (Some p) h = cc
page_gone m s k q None h = refl

page_fine : (m : Machine) (s k : ℕ) (q : Whole) (o : Option Page) → is_some o ≡ true → error_of (with_page_protected_in m s k q o) ≡ None
page_fine m s k q (Some p) h = refl
page_fine m s k q None h = cc

page_by : (m : Machine) (s k : ℕ) (q : Whole) (o : Option Page) → error_of (with_page_protected_in m s k q o) ≡ None → is_some o ≡ true
page_by m s k q (Some p) h = refl
page_by m s k q None h = cc

-- a page that was there before unwinding is there afterwards
pub page_there : (old mid : World) (s k : ℕ) (b : Bool) → Kept old → is_some (job_at old.jobs s) ≡ true → Calmed old mid s
    → b ≡ is_some (page_of (core_at old.core s) k) → b ≡ true
    → is_some (page_of (core_at mid.core s) k) ≡ true
page_there old mid s k b kept some c is t =
    let had = job_of (job_at old.jobs s) some in
    page_by (state_of mid).raw s k (raw_job mid.files (core_at mid.core s) c.job (superior_at mid.jobs s) (alarm_at mid.alarms.items s))
    (page_of (core_at mid.core s) k)
    (ap error_of (sym (page_on mid s k c.job c.calm.job)) ∙ sym (page_alike (state_of mid) s k)
    ∙ ap (λ (v : State). error_of (with_page_protected (plain v) s k)) c.calm.unwinds
    ∙ ap (λ m. error_of (with_page_protected m s k)) (unwound_plain (state_of old) s kept.sound)
    ∙ page_alike (state_of old) s k ∙ ap error_of (page_on old s k had.0 had.1)
    ∙ page_fine (state_of old).raw s k (raw_job old.files (core_at old.core s) had.0 (superior_at old.jobs s) (alarm_at old.alarms.items s))
    (page_of (core_at old.core s) k) (sym is ∙ t))

page_lasts_in : (m n : Machine) (s k : ℕ) (q : Whole) (o : Option Page) → m.jobs s ≡ Some q → with_page_protected_in m s k q o ≡ Ok n → Lasts m → Lasts n
page_lasts_in m n s k q (Some p) at e h = core_lasts m n s q (Ok (with_page q.core k (marked (page_of q.core k) false))) at e h
page_lasts_in m n s k q None at e h = absurd cc

page_lasts : (m n : Machine) (s k : ℕ) → with_page_protected m s k ≡ Ok n → Lasts m → Lasts n
unfolding with_page_protected
page_lasts m n s k is h = go (m.jobs s) refl is
  where
    go : (o : Option Whole) → m.jobs s ≡ o → on_job m s (λ q. with_page_protected_in m s k q (page_of q.core k)) o ≡ Ok n → Lasts n
    go (Some q) at e = page_lasts_in m n s k q (page_of q.core k) at e h
    go None at e = absurd cc

-- a page that becomes read only
abbrev guarded : World → ℕ → ℕ → Core
guarded w s k = with_page (core_at w.core s) k (marked (page_of (core_at w.core s) k) false)

module _ (old mid new : World) (s k : ℕ) where
  pub read_only_done : Kept old → Calmed old mid s → is_some (page_of (core_at mid.core s) k) ≡ true → CoreBecomes mid new s (guarded mid s k)
      → Lands (unwound (state_of old) s) (state_of new) (with_page_protected (unwound (state_of old) s).raw s k)
  read_only_done kept c there r = core_lands old mid new s c.job (guarded mid s k) (λ v. with_page_protected v.raw s k) c.calm r
      (page_on mid s k c.job c.calm.job
      ∙ page_here (state_of mid).raw s k (raw_job mid.files (core_at mid.core s) c.job (superior_at mid.jobs s)
      (alarm_at mid.alarms.items s)) (page_of (core_at mid.core s) k) there)

  read_only_made : Kept old → Calmed old mid s → is_some (page_of (core_at mid.core s) k) ≡ true → CoreBecomes mid new s (guarded mid s k)
      → Made (state_of old) (state_of new) (block_of s) (events.ReadOnly k)
  unfolding after_calm lined operate
  read_only_made kept c there r =
      let l = read_only_done kept c there r in
      record { out = []; touched = only s; block = block_of s; is = ap (λ m. Done (disturbs s (block_of s) m)) l.is; rest = l.rest }

  pub read_only_plain : Kept old → Calmed old mid s → is_some (page_of (core_at mid.core s) k) ≡ true → CoreBecomes mid new s (guarded mid s k)
      → with_page_protected (plain (state_of old)) s k ≡ Ok (plain (state_of new))
  unfolding lined operate
  read_only_plain kept c there r =
      let m = read_only_made kept c there r in
      disturbed s (block_of s) (with_page_protected (plain (state_of old)) s k) (plain (state_of new)) m.out m.touched m.block
      (made_plain (state_of old) (state_of new) (block_of s) (events.ReadOnly k) kept.sound m)

  pub read_only_kept : Kept old → Calmed old mid s → is_some (page_of (core_at mid.core s) k) ≡ true → CoreBecomes mid new s (guarded mid s k) → Kept new
  read_only_kept kept c there r = core_kept (events.ReadOnly k) (block_of s) old mid new s c.job (guarded mid s k) kept c.calm r
      (read_only_made kept c there r)
      (page_lasts (plain (state_of old)) (plain (state_of new)) s k (read_only_plain kept c there r) (kept_lasts old kept))

pub read_only_absent : (w : World) (s k : ℕ) (b : Bool) → is_some (job_at w.jobs s) ≡ true → b ≡ is_some (page_of (core_at w.core s) k) → b ≡ false → Kept w
    → Refused (state_of w) (unwound (state_of w) s) (λ m. with_page_protected m s k) refusals.NoPage
read_only_absent w s k b some is f kept =
    let had = job_of (job_at w.jobs s) some in
    refused_by (λ m. with_page_protected m s k) (state_of w) s refusals.NoPage (λ u. page_alike u s k) kept.sound
    (page_on w s k had.0 had.1 ∙ page_gone (state_of w).raw s k
    (raw_job w.files (core_at w.core s) had.0 (superior_at w.jobs s) (alarm_at w.alarms.items s)) (page_of (core_at w.core s) k) (sym is ∙ f))

pub read_only_none : (w : World) (s k : ℕ) (r : Refusal) → r ≡ refusals.NoJob → job_at w.jobs s ≡ None → Kept w
    → Refused (state_of w) (unwound (state_of w) s) (λ m. with_page_protected m s k) r
unfolding with_page_protected
read_only_none w s k r is h kept = refused_by (λ m. with_page_protected m s k) (state_of w) s r (λ u. page_alike u s k) kept.sound
    (ap (on_job (state_of w).raw s (λ q. with_page_protected_in (state_of w).raw s k q (page_of q.core k))) (raw_is_none w s h)
    ∙ ap (λ y. Err (reason_of y)) (sym is))

-- a word on a read-only page
pub barred_read_only : (c : Core) (a : ℕ) → refused c a ≡ Some Wro → true ≡ is_barred c a
barred_read_only c a h = go (can_store c a) (word_at c a) h
  where
    go : (can : Bool) (o : Option ℕ) → refusal can o ≡ Some Wro → true ≡ (is_some o && not can)
    go true o e = cc
    go false (Some v) e = refl
    go false None e = cc

pub barred_absent : (c : Core) (a : ℕ) (f : Fault) → refused c a ≡ Some f → f ≢ Wro → false ≡ is_barred c a
barred_absent c a f h n = go (can_store c a) (word_at c a) h
  where
    go : (can : Bool) (o : Option ℕ) → refusal can o ≡ Some f → false ≡ (is_some o && not can)
    go true o e = cc
    go false (Some v) e = absurd (n (let is : f ≡ Wro = cc in is))
    go false None e = refl

pub barred_free : (c : Core) (a : ℕ) → refused c a ≡ None → false ≡ is_barred c a
barred_free c a h = go (can_store c a) (word_at c a) h
  where
    go : (can : Bool) (o : Option ℕ) → refusal can o ≡ None → false ≡ (is_some o && not can)
    go true (Some v) e = refl
    go true None e = refl
    go false (Some v) e = cc
    go false None e = cc

-- of the raw machine of a world, and so of the one that the line finds and of the plain one
raw_some : (w : World) (s a n : ℕ) (b : Bool) → is_some (job_at w.jobs s) ≡ true → b ≡ any_barred (core_at w.core s) a n
    → b ≡ words_barred (state_of w).raw s a n
raw_some w s a n b some is =
    let had = job_of (job_at w.jobs s) some in
    is ∙ sym (ap (λ (o : Option Whole). barred_in o a n) (raw_is w s had.0 had.1))

raw_none : (w : World) (s a n : ℕ) → job_at w.jobs s ≡ None → false ≡ words_barred (state_of w).raw s a n
raw_none w s a n h = sym (ap (λ (o : Option Whole). barred_in o a n) (raw_is_none w s h))

pub calm_some : (w : World) (s a n : ℕ) (b : Bool) → Kept w → is_some (job_at w.jobs s) ≡ true → b ≡ any_barred (core_at w.core s) a n
    → b ≡ words_barred (unwound (state_of w) s).raw s a n
calm_some w s a n b kept some is = raw_some w s a n b some is ∙ barred_first (state_of w) s a n kept.sound

pub calm_none : (w : World) (s a n : ℕ) → Kept w → job_at w.jobs s ≡ None → false ≡ words_barred (unwound (state_of w) s).raw s a n
calm_none w s a n kept h = raw_none w s a n h ∙ barred_first (state_of w) s a n kept.sound

pub plain_some : (w : World) (s a n : ℕ) (b : Bool) → Kept w → is_some (job_at w.jobs s) ≡ true → b ≡ any_barred (core_at w.core s) a n
    → b ≡ words_barred (plain (state_of w)) s a n
plain_some w s a n b kept some is = raw_some w s a n b some is ∙ sym (barred_plain (state_of w) s a n)

pub plain_none : (w : World) (s a n : ℕ) → Kept w → job_at w.jobs s ≡ None → false ≡ words_barred (plain (state_of w)) s a n
plain_none w s a n kept h = raw_none w s a n h ∙ sym (barred_plain (state_of w) s a n)
