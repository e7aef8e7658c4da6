-- EXAM, DEPOSIT and the words of a LOAD block: a word of a job that was unwound is read or stored,
-- if it can be.
use Rattle.std.specs.Prelude.{◌≡◌, ◌≢◌, ℕ, Bool, true, false, Option, Some, None, [], Result, Ok, Err, option_map, is_some, refl}
use Rattle.std.proofs.Common.{sym, ◌∙◌, ap, subst}
use Rattle.its_word.specs.Core.{Core, word_at, can_store, store, got, get}
use Rattle.its_word.specs.Stores.{refusal, refused}
use Rattle.its_word.specs.declared.access.Fault.{Fault}
use Rattle.its_word.specs.declared.access.Fault.TheVariants.{Wro}
use Rattle.its_word.specs.declared.access.NoAccess.{NoAccess}
use Rattle.its_word.specs.declared.access.NoAccess.TheVariants.{Absent}
use Rattle.its_records.specs.declared.jobs.Job.{Job}
use Rattle.its_records.specs.declared.session.Event.{Event}
use Rattle.its_records.specs.declared.session.Event.TheVariants as events
use Rattle.its_records.specs.declared.session.Reason.{Reason}
use Rattle.its_records.specs.declared.session.Refusal.{Refusal}
use Rattle.its_records.specs.declared.session.Refusal.TheVariants as refusals
use Rattle.its_frame.specs.declared.frame.Frame.{Frame}
use Rattle.its_core.specs.Cores.{core_at, clear_at}
use Rattle.its_jobs.specs.Table.{job_at, superior_at}
use Rattle.its_plain.specs.Machine.{Whole, Machine, with_job}
use Rattle.its_plain.specs.Operator.{Block, no_block, only, disturbs}
use Rattle.its_plain.specs.Operator.Jobs.{on_job, seen_word, word_seen, with_core, after_deposit_in, after_deposit}
use Rattle.its_plain.specs.Operator.Lines.{operate, Done, lined}
use Rattle.its_stepped.specs.State.{State, plain, seen}
use Rattle.its_stepped.specs.Unwind.{unwound}
use Rattle.its_stepped.specs.Lines.{after_calm}
use Rattle.its_stepped.proofs.Frame.FrameLaws.{seen_present}
use Rattle.its_stepped.proofs.Lining.LineLaws.{job_here}
use Rattle.its_stepped.proofs.Lining.RefusalLaws.{error_of, deposited_alike}
use Rattle.its_stepped.proofs.Unwinding.UnwindLaws.{unwound_plain, unwound_none}
use Rattle.its_world.specs.World.{alarm_at, state_of, in_raw, frame_at, Becomes, CoreBecomes}
use Rattle.its_world.specs.declared.world.World.{World}
use Rattle.its_world.proofs.StateLaws.{raw_job, job_of, changed_state}
use Rattle.its_commit.proofs.TidyLaws.{tidy_core}
use Rattle.its_records.specs.Refusals.{reason_of}
use Rattle.its_monitor.specs.Kept.{Kept, Lands, Refused, Calm, Calmed, refusal_of, undepositable}
use Rattle.its_monitor.proofs.KeptLaws.{refused_by, Made, made_sound, made_plain, made_forest, made_timed, made_alarmed, Lasts, kept_lasts, put_lasts, lasts_address, lasts_console}
use Rattle.its_monitor.proofs.RegisterLaws.{placed_lands, disturbed}
use Rattle.its_tick.proofs.WaitsLaws.{kept_is, raw_is, raw_is_none}

-- EXAM is refused alike, with a frame and without
word_error : (x y : Option ℕ) → is_some x ≡ is_some y → error_of (seen_word x) ≡ error_of (seen_word y)
word_error (Some v) (Some w) e = refl
word_error None None e = refl
word_error (Some v) None e = cc
word_error None (Some w) e = cc

seen_of_alike : (m n : Machine) (s a : ℕ) (f : Option Frame) (o : Option Whole)
    → error_of (on_job m s (λ q. seen_word (word_at q.core a)) (option_map (seen f) o)) ≡ error_of (on_job n s (λ q. seen_word (word_at q.core a)) o)
seen_of_alike m n s a f (Some q) = word_error (word_at (seen f q).core a) (word_at q.core a) (seen_present f q a)
seen_of_alike m n s a f None = refl

word_seen_alike : (u : State) (s a : ℕ) → error_of (word_seen (plain u) s a) ≡ error_of (word_seen u.raw s a)
unfolding word_seen plain
word_seen_alike u s a = seen_of_alike (plain u) u.raw s a (u.frames s) (u.raw.jobs s)

-- a word of a slot that has a job
seen_on : (w : World) (s a : ℕ) (j : Job) → job_at w.jobs s ≡ Some j → word_seen (state_of w).raw s a ≡ seen_word (word_at (core_at w.core s) a)
unfolding word_seen
seen_on w s a j h = ap (on_job (state_of w).raw s (λ q. seen_word (word_at q.core a))) (raw_is w s j h)

got_ok : (o : Option ℕ) (v : ℕ) → got o ≡ Ok v → seen_word o ≡ Ok v
got_ok (Some x) v h = cc
got_ok None v h = cc

got_absent : (o : Option ℕ) (e : NoAccess) → got o ≡ Err e → seen_word o ≡ Err (reason_of (refusal_of e))
got_absent (Some x) e h = cc
got_absent None e h = let k : Absent ≡ e = cc in ap (λ x. Err (reason_of (refusal_of x))) k

pub exam_refused : (w : World) (s a : ℕ) (e : NoAccess) (x : Refusal) → is_some (job_at w.jobs s) ≡ true → get (core_at w.core s) a ≡ Err e
    → x ≡ refusal_of e → Kept w
    → Refused (state_of w) (unwound (state_of w) s) (λ m. word_seen m s a) x
exam_refused w s a e x some g is kept = let had = job_of (job_at w.jobs s) some in refused_by (λ m. word_seen m s a) (state_of w) s x
    (λ u. word_seen_alike u s a) kept.sound
    (seen_on w s a had.0 had.1 ∙ got_absent (word_at (core_at w.core s) a) e g ∙ ap (λ y. Err (reason_of y)) (sym is))

pub exam_none : (w : World) (s a : ℕ) (x : Refusal) → x ≡ refusals.NoJob → job_at w.jobs s ≡ None → Kept w
    → Refused (state_of w) (unwound (state_of w) s) (λ m. word_seen m s a) x
unfolding word_seen
exam_none w s a x is h kept = refused_by (λ m. word_seen m s a) (state_of w) s x (λ u. word_seen_alike u s a) kept.sound
    (ap (on_job (state_of w).raw s (λ q. seen_word (word_at q.core a))) (raw_is_none w s h) ∙ ap (λ y. Err (reason_of y)) (sym is))

-- a word that was there before unwinding is there afterwards
error_some : {X : Type 0} (x : Result X Reason) (r : Reason) → error_of x ≡ None → x ≡ Err r → ⊥
error_some x r e h = let some : None ≡ Some r = sym e ∙ ap error_of h in cc

exam_alike : (old mid : World) (s a : ℕ) → Kept old → state_of mid ≡ unwound (state_of old) s
    → error_of (word_seen (state_of mid).raw s a) ≡ error_of (word_seen (state_of old).raw s a)
exam_alike old mid s a kept e =
    sym (word_seen_alike (state_of mid) s a) ∙ ap (λ (v : State). error_of (word_seen (plain v) s a)) e
    ∙ ap (λ m. error_of (word_seen m s a)) (unwound_plain (state_of old) s kept.sound) ∙ word_seen_alike (state_of old) s a

pub exam_there : (old mid : World) (s a v : ℕ) (e : NoAccess) → Kept old → is_some (job_at old.jobs s) ≡ true → Calmed old mid s
    → get (core_at old.core s) a ≡ Ok v
    → get (core_at mid.core s) a ≡ Err e → ⊥
exam_there old mid s a v e kept some c before after =
    let had = job_of (job_at old.jobs s) some in
    error_some (word_seen (state_of mid).raw s a) (reason_of (refusal_of e))
    (exam_alike old mid s a kept c.calm.unwinds ∙ ap error_of (seen_on old s a had.0 had.1 ∙ got_ok (word_at (core_at old.core s) a) v before))
    (seen_on mid s a c.job c.calm.job ∙ got_absent (word_at (core_at mid.core s) a) e after)

pub exam_found : (old mid : World) (s a v : ℕ) → Calmed old mid s → get (core_at mid.core s) a ≡ Ok v → word_seen (unwound (state_of old) s).raw s a ≡ Ok v
exam_found old mid s a v c g = ap (λ (u : State). word_seen u.raw s a) (sym c.calm.unwinds) ∙ seen_on mid s a c.job c.calm.job
    ∙ got_ok (word_at (core_at mid.core s) a) v g

exam_calm : (v : State) (s a : ℕ) → v.frames s ≡ None → word_seen (plain v) s a ≡ word_seen v.raw s a
unfolding word_seen
exam_calm v s a e = ap (on_job (plain v) s (λ q. seen_word (word_at q.core a))) (job_here v s e) ∙ go (v.raw.jobs s)
  where
    go : (o : Option Whole) → on_job (plain v) s (λ q. seen_word (word_at q.core a)) o ≡ on_job v.raw s (λ q. seen_word (word_at q.core a)) o
    go (Some q) = refl
    go None = refl

pub exam_plain : (old mid : World) (s a v : ℕ) → Kept old → Calmed old mid s → get (core_at mid.core s) a ≡ Ok v → word_seen (plain (state_of old)) s a ≡ Ok v
exam_plain old mid s a v kept c g =
    ap (λ m. word_seen m s a) (sym (unwound_plain (state_of old) s kept.sound))
    ∙ exam_calm (unwound (state_of old) s) s a (unwound_none (state_of old) s kept.sound) ∙ exam_found old mid s a v c g

-- a store into the core of a job that was unwound
stored_becomes : (mid new : World) (s : ℕ) (j : Job) (c : Core) → job_at mid.jobs s ≡ Some j → CoreBecomes mid new s c
    → state_of new ≡ in_raw (state_of mid) s (λ q. record q { core = c })
stored_becomes mid new s j c h b =
    changed_state mid new s c j j (λ q. record q { core = c })
    (subst (λ (o : Option Job). Becomes mid new s c o (frame_at mid.frames.items s) (clear_at mid.core s)) h b) h refl

pub core_lands : (old mid new : World) (s : ℕ) (j : Job) (c : Core) (r : State → Result Machine Reason) → Calm old mid s j → CoreBecomes mid new s c
    → r (state_of mid) ≡ with_core (state_of mid).raw s (raw_job mid.files (core_at mid.core s) j (superior_at mid.jobs s)
    (alarm_at mid.alarms.items s)) (Ok c) → Lands (unwound (state_of old) s) (state_of new) (r (unwound (state_of old) s))
core_lands old mid new s j c r calm b is =
    subst (λ (v : State). Lands v (state_of new) (r v)) calm.unwinds
    (placed_lands (state_of mid) (state_of new) s (raw_job mid.files (core_at mid.core s) j (superior_at mid.jobs s)
    (alarm_at mid.alarms.items s)) (λ q. record q { core = c }) (r (state_of mid)) (raw_is mid s j calm.job)
    (stored_becomes mid new s j c calm.job b) is)

pub core_lasts : (m n : Machine) (s : ℕ) (q : Whole) (r : Result Core Reason) → m.jobs s ≡ Some q → with_core m s q r ≡ Ok n → Lasts m → Lasts n
core_lasts m n s q (Ok c) at h a =
    let e : with_job m s (record q { core = c }) ≡ n = cc in
    subst Lasts e (put_lasts m s (record q { core = c }) (lasts_address m s q at a) (lasts_console m s q at a) a)
core_lasts m n s q (Err x) at h a = absurd cc

pub core_kept : (e : Event) (b : Block) (old mid new : World) (s : ℕ) (j : Job) (c : Core) → Kept old → Calm old mid s j → CoreBecomes mid new s c
    → Made (state_of old) (state_of new) b e → Lasts (plain (state_of new)) → Kept new
core_kept e b old mid new s j c kept calm r made a =
    kept_is new
    (made_sound (state_of old) (state_of new) b e kept.sound made)
    (made_forest (state_of old) (state_of new) b e kept.sound kept.forest made)
    (tidy_core mid new s c _ _ (ap is_some calm.job) r calm.kept.tidy)
    a.addressed
    a.consoled
    (made_timed (state_of old) (state_of new) b e kept.sound kept.timed made)
    (made_alarmed (state_of old) (state_of new) b e kept.sound kept.forest kept.alarmed made)

-- DEPOSIT
deposited_on : (w : World) (s a x : ℕ) (j : Job) → job_at w.jobs s ≡ Some j
    → after_deposit (state_of w).raw s a x
    ≡ with_core (state_of w).raw s (raw_job w.files (core_at w.core s) j (superior_at w.jobs s) (alarm_at w.alarms.items s))
    (after_deposit_in (core_at w.core s) a x (can_store (core_at w.core s) a) (is_some (word_at (core_at w.core s) a)))
unfolding after_deposit
deposited_on w s a x j h =
    ap (on_job (state_of w).raw s (λ q. with_core (state_of w).raw s q
    (after_deposit_in q.core a x (can_store q.core a) (is_some (word_at q.core a))))) (raw_is w s j h)

deposited_lasts : (m n : Machine) (s a x : ℕ) → after_deposit m s a x ≡ Ok n → Lasts m → Lasts n
unfolding after_deposit
deposited_lasts m n s a x is h = go (m.jobs s) refl is
  where
    go : (o : Option Whole) → m.jobs s ≡ o → on_job m s (λ q. with_core m s q
        (after_deposit_in q.core a x (can_store q.core a) (is_some (word_at q.core a)))) o ≡ Ok n → Lasts n
    go (Some q) at e = core_lasts m n s q (after_deposit_in q.core a x (can_store q.core a) (is_some (word_at q.core a))) at e h
    go None at e = absurd cc

module _ (old mid new : World) (s a x : ℕ) where
  pub deposit_done : Kept old → Calmed old mid s → can_store (core_at mid.core s) a ≡ true → CoreBecomes mid new s (store (core_at mid.core s) a x)
      → Lands (unwound (state_of old) s) (state_of new) (after_deposit (unwound (state_of old) s).raw s a x)
  deposit_done kept c can r = core_lands old mid new s c.job (store (core_at mid.core s) a x) (λ v. after_deposit v.raw s a x) c.calm r
      (deposited_on mid s a x c.job c.calm.job
      ∙ ap (λ b. with_core (state_of mid).raw s (raw_job mid.files (core_at mid.core s) c.job (superior_at mid.jobs s)
      (alarm_at mid.alarms.items s)) (after_deposit_in (core_at mid.core s) a x b (is_some (word_at (core_at mid.core s) a)))) can)

  deposit_made : Kept old → Calmed old mid s → can_store (core_at mid.core s) a ≡ true → CoreBecomes mid new s (store (core_at mid.core s) a x)
      → Made (state_of old) (state_of new) no_block (events.Deposit s a x)
  unfolding after_calm lined operate
  deposit_made kept c can r =
      let l = deposit_done kept c can r in
      record { out = []; touched = only s; block = no_block; is = ap (λ m. Done (disturbs s no_block m)) l.is; rest = l.rest }

  pub deposit_plain : Kept old → Calmed old mid s → can_store (core_at mid.core s) a ≡ true → CoreBecomes mid new s (store (core_at mid.core s) a x)
      → after_deposit (plain (state_of old)) s a x ≡ Ok (plain (state_of new))
  unfolding lined operate
  deposit_plain kept c can r =
      let m = deposit_made kept c can r in
      disturbed s no_block (after_deposit (plain (state_of old)) s a x) (plain (state_of new)) m.out m.touched m.block
      (made_plain (state_of old) (state_of new) no_block (events.Deposit s a x) kept.sound m)

  pub deposit_kept : Kept old → Calmed old mid s → can_store (core_at mid.core s) a ≡ true → CoreBecomes mid new s (store (core_at mid.core s) a x) → Kept new
  deposit_kept kept c can r = core_kept (events.Deposit s a x) no_block old mid new s c.job (store (core_at mid.core s) a x) kept c.calm r
      (deposit_made kept c can r)
      (deposited_lasts (plain (state_of old)) (plain (state_of new)) s a x (deposit_plain kept c can r) (kept_lasts old kept))

-- why a word cannot be deposited
pub bar_none : (c : Core) (a : ℕ) → refused c a ≡ None → None ≡ undepositable (can_store c a) (is_some (word_at c a))
bar_none c a h = go (can_store c a) (word_at c a) h
  where
    go : (can : Bool) (o : Option ℕ) → refusal can o ≡ None → None ≡ undepositable can (is_some o)
    go true o e = refl
    go false (Some v) e = cc
    go false None e = cc

pub bar_read_only : (c : Core) (a : ℕ) → refused c a ≡ Some Wro → Some refusals.ReadOnly ≡ undepositable (can_store c a) (is_some (word_at c a))
bar_read_only c a h = go (can_store c a) (word_at c a) h
  where
    go : (can : Bool) (o : Option ℕ) → refusal can o ≡ Some Wro → Some refusals.ReadOnly ≡ undepositable can (is_some o)
    go true o e = cc
    go false (Some v) e = refl
    go false None e = cc

pub bar_absent : (c : Core) (a : ℕ) (f : Fault) → refused c a ≡ Some f → f ≢ Wro
    → Some refusals.NoPage ≡ undepositable (can_store c a) (is_some (word_at c a))
bar_absent c a f h n = go (can_store c a) (word_at c a) h
  where
    go : (can : Bool) (o : Option ℕ) → refusal can o ≡ Some f → Some refusals.NoPage ≡ undepositable can (is_some o)
    go true o e = cc
    go false (Some v) e = absurd (n (let is : f ≡ Wro = cc in is))
    go false None e = refl

barred : (m : Machine) (s : ℕ) (q : Whole) (c : Core) (a x : ℕ) (can there : Bool) (r : Refusal) → undepositable can there ≡ Some r
    → with_core m s q (after_deposit_in c a x can there) ≡ Err (reason_of r)
barred m s q c a x true there r h = cc
barred m s q c a x false true r h = let is : refusals.ReadOnly ≡ r = cc in ap (λ y. Err (reason_of y)) is
barred m s q c a x false false r h = let is : refusals.NoPage ≡ r = cc in ap (λ y. Err (reason_of y)) is

pub deposit_refused : (w : World) (s a x : ℕ) (o : Option Refusal) (r : Refusal) → is_some (job_at w.jobs s) ≡ true
    → o ≡ undepositable (can_store (core_at w.core s) a) (is_some (word_at (core_at w.core s) a)) → o ≡ Some r → Kept w
    → Refused (state_of w) (unwound (state_of w) s) (λ m. after_deposit m s a x) r
deposit_refused w s a x o r some is e kept =
    let had = job_of (job_at w.jobs s) some in
    refused_by (λ m. after_deposit m s a x) (state_of w) s r (λ u. deposited_alike u s a x) kept.sound
    (deposited_on w s a x had.0 had.1 ∙ barred (state_of w).raw s
    (raw_job w.files (core_at w.core s) had.0 (superior_at w.jobs s) (alarm_at w.alarms.items s)) (core_at w.core s) a x
    (can_store (core_at w.core s) a) (is_some (word_at (core_at w.core s) a)) r (sym is ∙ e))

pub deposit_none : (w : World) (s a x : ℕ) (r : Refusal) → r ≡ refusals.NoJob → job_at w.jobs s ≡ None → Kept w
    → Refused (state_of w) (unwound (state_of w) s) (λ m. after_deposit m s a x) r
unfolding after_deposit
deposit_none w s a x r is h kept = refused_by (λ m. after_deposit m s a x) (state_of w) s r (λ u. deposited_alike u s a x) kept.sound
    (ap (on_job (state_of w).raw s (λ q. with_core (state_of w).raw s q
    (after_deposit_in q.core a x (can_store q.core a) (is_some (word_at q.core a))))) (raw_is_none w s h) ∙ ap (λ y. Err (reason_of y)) (sym is))

allowed : (m : Machine) (s : ℕ) (q : Whole) (c : Core) (a x : ℕ) (can there : Bool) → undepositable can there ≡ None
    → error_of (with_core m s q (after_deposit_in c a x can there)) ≡ None
allowed m s q c a x true there h = refl
allowed m s q c a x false true h = cc
allowed m s q c a x false false h = cc

can_by : (m : Machine) (s : ℕ) (q : Whole) (c : Core) (a x : ℕ) (can there : Bool)
    → error_of (with_core m s q (after_deposit_in c a x can there)) ≡ None → can ≡ true
can_by m s q c a x true there h = refl
can_by m s q c a x false true h = cc
can_by m s q c a x false false h = cc

pub deposit_can : (old mid : World) (s a : ℕ) (o : Option Refusal) → Kept old → is_some (job_at old.jobs s) ≡ true → Calmed old mid s
    → o ≡ undepositable (can_store (core_at old.core s) a) (is_some (word_at (core_at old.core s) a)) → o ≡ None → can_store (core_at mid.core s) a ≡ true
deposit_can old mid s a o kept some c is e =
    let had = job_of (job_at old.jobs s) some in
    can_by (state_of mid).raw s (raw_job mid.files (core_at mid.core s) c.job (superior_at mid.jobs s) (alarm_at mid.alarms.items s))
    (core_at mid.core s) a 0 (can_store (core_at mid.core s) a) (is_some (word_at (core_at mid.core s) a))
    (ap error_of (sym (deposited_on mid s a 0 c.job c.calm.job)) ∙ sym (deposited_alike (state_of mid) s a 0)
    ∙ ap (λ (v : State). error_of (after_deposit (plain v) s a 0)) c.calm.unwinds
    ∙ ap (λ m. error_of (after_deposit m s a 0)) (unwound_plain (state_of old) s kept.sound)
    ∙ deposited_alike (state_of old) s a 0 ∙ ap error_of (deposited_on old s a 0 had.0 had.1)
    ∙ allowed (state_of old).raw s (raw_job old.files (core_at old.core s) had.0 (superior_at old.jobs s) (alarm_at old.alarms.items s))
    (core_at old.core s) a 0 (can_store (core_at old.core s) a) (is_some (word_at (core_at old.core s) a)) (sym is ∙ e))
