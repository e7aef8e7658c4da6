-- JOB, REGS, ALARM, UNDER and TTY: what each makes of the state and of the plain machine, that both
-- refuse it alike, and that it keeps what holds between calls.
use Rattle.std.specs.Prelude.{◌≡◌, ◌<◌, ◌^◌, ◌++◌, ◌&&◌, not, ℕ, Bool, true, false, Option, Some, None, IfSome, List, [], ◌∷◌, Ok, Err, is_some, is_none, option_map, nat_lt, slice_index_or, refl}
use Rattle.std.proofs.Common.{sym, ◌∙◌, ap, subst, inl, inr, lit<}
use Rattle.std.proofs.lemmas.Bool.{and_parts, lt-ltb, ltb-true}
use Rattle.std.proofs.lemmas.Nat.{mod_below}
use Rattle.its_word.specs.Limits.{slots, limit_of}
use Rattle.its_word.specs.Only.{Only}
use Rattle.its_records.specs.Refusals.{reason_of}
use Rattle.its_records.specs.Tree.{climbs_to, fresh_job}
use Rattle.its_records.specs.declared.jobs.Job.{Job}
use Rattle.its_records.specs.declared.jobs.Channel.{Channel}
use Rattle.its_records.specs.declared.session.Reason.{Reason}
use Rattle.its_records.specs.declared.session.Reason.TheVariants.{Range, NoJob, Exists, Unfit}
use Rattle.its_records.specs.declared.session.Refusal.{Refusal}
use Rattle.its_records.specs.declared.session.Refusal.TheVariants as refusals
use Rattle.its_records.specs.declared.state_line.Registers.{Registers}
use Rattle.its_core.specs.Cores.{core_at}
use Rattle.its_jobs.specs.Table.{job_at, IsTree}
use Rattle.its_frame.specs.declared.frame.Frame.{Frame}
use Rattle.its_frame.specs.declared.change.Change.TheVariants as changes
use Rattle.its_plain.specs.Call.Basic.{is_shut}
use Rattle.its_plain.specs.Machine.{Chan, Shut, Whole, Machine, limit, with_new}
use Rattle.its_plain.specs.Machine.Change.{in_job, channel_in, superiors, console_in, with_alarm, effect}
use Rattle.its_plain.specs.Machine.Own as own
use Rattle.its_plain.specs.Machine.Own.{on_channel}
use Rattle.its_plain.specs.Operator.Clock.{clock_end}
use Rattle.its_plain.specs.Operator.Jobs.{new_job, on_registers}
use Rattle.its_plain.specs.Operator.State.{provided, has_job, with_job_made, after_registers, may_come, with_alarm_set, under, with_superior_set, can_open, on_tty, with_tty}
use Rattle.its_plain.proofs.ProvidedLaws.{AllHold, FirstFails, provided_refused}
use Rattle.its_stepped.specs.Alarmed.{Coming, Alarmed}
use Rattle.its_stepped.specs.Forest.{Forest}
use Rattle.its_stepped.specs.Lines.{with_raw}
use Rattle.its_stepped.specs.Sound.{Sound}
use Rattle.its_stepped.specs.State.{State, seen, plain}
use Rattle.its_stepped.specs.Unwind.{unwound}
use Rattle.its_stepped.proofs.Committing.EffectLaws.{channel_seen, console_seen, superiors_plain}
use Rattle.its_stepped.proofs.Keeping.AlarmLaws.{job_alarmed}
use Rattle.its_stepped.proofs.Lining.LiftLaws.{job_here, lift, some_alike, free_frame}
use Rattle.its_stepped.proofs.Lining.RestoredLaws.{has_job_plain}
use Rattle.its_stepped.proofs.Lining.LineLaws.{registers_lifted}
use Rattle.its_stepped.proofs.Unwinding.UnwindLaws.{unwound_plain, unwound_none}
use Rattle.its_shared.specs.Across.{IsElsewhere}
use Rattle.its_world.specs.Contents.{contents}
use Rattle.its_world.specs.Made.{JobMade}
use Rattle.its_world.specs.Storage.{HasJob, chan_in}
use Rattle.its_world.specs.Tidy.{channel_at, Tidy}
use Rattle.its_world.specs.World.{chan_of, state_of, in_raw, JobBecomes, AlarmBecomes}
use Rattle.its_world.specs.declared.world.World.{World}
use Rattle.its_world.proofs.AlarmLaws.{alarm_state, alarm_tidy}
use Rattle.its_world.proofs.MadeLaws.{made_state, made_tidy}
use Rattle.its_world.proofs.StateLaws.{changed_state}
use Rattle.its_world.proofs.StorageLaws.{raw_has, job_missing}
use Rattle.its_commit.proofs.ChangeLaws.{closed_elsewhere}
use Rattle.its_commit.proofs.TidyLaws.{tidy_put}
use Rattle.its_tick.proofs.WaitsLaws.{kept_is, raw_is, raw_is_none}
use Rattle.its_monitor.specs.Kept.{Kept, Lands, Refused, Calm, Calmed}
use Rattle.its_monitor.specs.Restoring.{SuperiorBecomes}
use Rattle.its_monitor.proofs.GivenLaws.{given_state, given_tidy}
use Rattle.its_monitor.proofs.KeptLaws.{plain_has, calmed_same, Lasts, kept_lasts, put_lasts}
use Rattle.its_monitor.proofs.OneJobLaws.{job_sound, new_sound, job_plain, new_plain, slot_each, calm_forest, new_forest, new_alarmed, coming_of, armed_alarmed, under_forest, tty_forest}
use Rattle.its_monitor.proofs.RegisterLaws.{registers_land}
use Rattle.its_monitor.proofs.TestsLaws.{first_more, all_more, fails_after, tested_lands, tested_calm, tested_plain, tested_refused, tested_refused_here}

-- a world whose plain machine is another, of which all holds that holds between calls
pub machine_kept : (old new : World) (m : Machine) → Kept old → plain (state_of new) ≡ m → Sound (state_of new) → Forest m → Alarmed m → Lasts m
    → m.clock ≡ (plain (state_of old)).clock → Tidy new → Kept new
machine_kept old new m kept is sound forest alarmed lasts clock tidy =
    let l : Lasts (plain (state_of new)) = subst Lasts (sym is) lasts in
    kept_is new sound (subst Forest (sym is) forest) tidy l.addressed l.consoled
    (subst (λ (x : Machine). x.clock < clock_end) (sym is) (subst (λ (t : ℕ). t < clock_end) (sym clock) kept.timed))
    (subst Alarmed (sym is) alarmed)

-- a job that changes in its slot
job_lasts : (m : Machine) (s : ℕ) (h : Whole → Whole) → ((q : Whole) → q.job.pc < 2 ^ 18 → (h q).job.pc < 2 ^ 18)
    → ((q : Whole) → (h q).job.console ≡ q.job.console) → Lasts m → Lasts (in_job m s h)
job_lasts m s h keeps same a = record {
  addressed = λ k. slot_each (λ (q : Whole). q.job.pc < 2 ^ 18) h _ (m.jobs k) keeps (a.addressed k);
  consoled = λ k. slot_each (λ (q : Whole). IfSome q.job.console (λ c. c < 8)) h _ (m.jobs k)
      (λ q x. subst (λ (o : Option ℕ). IfSome o (λ c. c < 8)) (sym (same q)) x) (a.consoled k);
}

-- a slot that was unwound is in user mode
calmed_none : (old mid : World) (s : ℕ) → Kept old → Calmed old mid s → (state_of mid).frames s ≡ None
calmed_none old mid s kept c = ap (λ (v : State). v.frames s) c.calm.unwinds ∙ unwound_none (state_of old) s kept.sound

-- the job of a slot that was unwound is changed
module _ (old mid new : World) (s : ℕ) (h : Whole → Whole) (kept : Kept old) (c : Calmed old mid s)
    (is : state_of new ≡ with_raw (state_of mid) (in_job (state_of mid).raw s h)) where
  changed_machine : plain (state_of new) ≡ in_job (plain (state_of old)) s h
  changed_machine = ap plain is ∙ job_plain (state_of mid) s h (calmed_none old mid s kept c)
      ∙ ap (λ (m : Machine). in_job m s h) (calmed_same old mid s kept c)

  changed_kept : Forest (in_job (plain (state_of old)) s h) → Alarmed (in_job (plain (state_of old)) s h) → Lasts (in_job (plain (state_of old)) s h)
      → Tidy new → Kept new
  changed_kept forest alarmed lasts tidy =
      machine_kept old new (in_job (plain (state_of old)) s h) kept changed_machine
      (subst Sound (sym is) (job_sound (state_of mid) s h c.calm.kept.sound (calmed_none old mid s kept c))) forest alarmed lasts refl tidy

-- what is read of a slot through its frame
none_seen : (f : Option Frame) (o : Option Whole) → is_none (option_map (seen f) o) ≡ is_none o
none_seen f (Some q) = refl
none_seen f None = refl

-- a slot has a job, or it has none
pub has_one : (w : World) (s : ℕ) → is_some (job_at w.jobs s) ≡ true → has_job (state_of w).raw s ≡ true
has_one w s some = raw_has w s ∙ some

pub has_none : (w : World) (s : ℕ) → job_at w.jobs s ≡ None → has_job (state_of w).raw s ≡ false
has_none w s none = raw_has w s ∙ ap is_some none

pub no_job_is : (e : Refusal) → e ≡ refusals.NoJob → NoJob ≡ reason_of e
no_job_is e is = sym (ap reason_of is)

pub none_of_some : {X : Type 0} (o : Option X) → is_some o ≡ true → is_none o ≡ false
none_of_some (Some x) h = refl
none_of_some None h = cc

-- JOB
abbrev job_tests : ℕ → Machine → List (Bool × Reason)
job_tests s m = (nat_lt s (limit m), Range) ∷ (is_none (m.jobs s), Exists) ∷ []

job_alike : (s : ℕ) (u : State) → job_tests s (plain u) ≡ job_tests s u.raw
unfolding plain
job_alike s u = ap (λ (b : Bool). (nat_lt s (limit u.raw), Range) ∷ (b, Exists) ∷ []) (none_seen (u.frames s) (u.raw.jobs s))

limit_plain : (u : State) → limit (plain u) ≡ limit u.raw
unfolding plain
limit_plain u = refl

version_raw : (w : World) → limit (state_of w).raw ≡ limit_of w.version
unfolding state_of
version_raw w = refl

-- a job is made in an empty slot
pub made_at : (old new : World) (s u j : ℕ) (console : Option ℕ) → IsTree old.jobs.jobs old.jobs.superiors → is_some (job_at old.jobs s) ≡ false
    → Only (job_at old.jobs) (job_at new.jobs) s (Some (fresh_job u j console)) → new.jobs.superiors ≡ old.jobs.superiors
    → contents new ≡ record (contents old) { jobs = new.jobs } → JobMade old new s u j None console
made_at old new s u j console tree empty job superiors rest = record {
  job = job;
  superior = record {
    here = ap (λ l. slice_index_or l s None) superiors ∙ tree.owned s (job_missing old s empty);
    others = λ k ne. ap (λ l. slice_index_or l k None) superiors;
  };
  rest = rest;
}

module _ (old new : World) (s u j : ℕ) (console : Option ℕ) (kept : Kept old) (can has : Bool) (fits : can ≡ nat_lt s (limit_of old.version)) (t : can ≡ true)
    (taken : has ≡ is_some (job_at old.jobs s)) (f : has ≡ false) (made : JobMade old new s u j None console) where
  empty : job_at old.jobs s ≡ None
  empty = job_missing old s (sym taken ∙ f)

  job_state : state_of new ≡ with_raw (state_of old) (with_new (state_of old).raw s (new_job u j console))
  job_state = made_state old new s u j None console made (kept.tidy.blank s empty) (kept.tidy.quiet s empty) (kept.tidy.nameless s empty)

  bare_raw : (state_of old).raw.jobs s ≡ None
  bare_raw = raw_is_none old s empty

  bare_plain : (plain (state_of old)).jobs s ≡ None
  bare_plain = job_here (state_of old) s (free_frame (state_of old) s kept.sound bare_raw) ∙ bare_raw

  below_raw : nat_lt s (limit (state_of old).raw) ≡ true
  below_raw = ap (nat_lt s) (version_raw old) ∙ sym fits ∙ t

  job_holds : AllHold (job_tests s (state_of old).raw)
  job_holds = (below_raw, (ap is_none bare_raw, tt))

  pub made_lands : Lands (state_of old) (state_of new) (with_job_made (state_of old).raw s u j console)
  unfolding with_job_made
  made_lands = tested_lands (job_tests s) (λ m. with_new m s (new_job u j console)) (job_alike s) (state_of old) (state_of old) (state_of new) refl
      job_holds job_state

  made_machine : plain (state_of new) ≡ with_new (plain (state_of old)) s (new_job u j console)
  made_machine = ap plain job_state ∙ new_plain (state_of old) s (new_job u j console) (free_frame (state_of old) s kept.sound bare_raw)

  pub made_plain : with_job_made (plain (state_of old)) s u j console ≡ Ok (plain (state_of new))
  unfolding with_job_made
  made_plain = tested_plain (job_tests s) (λ m. with_new m s (new_job u j console)) (job_alike s) (state_of old) (plain (state_of new))
      job_holds made_machine

  made_lasts : IfSome console (λ c. c < 8) → Lasts (with_new (plain (state_of old)) s (new_job u j console))
  unfolding fresh_job
  made_lasts eight =
      let l = put_lasts (plain (state_of old)) s (new_job u j console) (lit< tt) eight (kept_lasts old kept) in
      record { addressed = l.addressed; consoled = l.consoled }

  pub made_kept : IfSome console (λ c. c < 8) → Kept new
  made_kept eight =
      machine_kept old new (with_new (plain (state_of old)) s (new_job u j console)) kept made_machine
      (subst Sound (sym job_state) (new_sound (state_of old) s (new_job u j console) kept.sound bare_raw))
      (new_forest (plain (state_of old)) s (new_job u j console)
      (ltb-true s (limit (plain (state_of old))) (ap (nat_lt s) (limit_plain (state_of old)) ∙ below_raw)) bare_plain refl (λ i. refl) kept.forest)
      (new_alarmed (plain (state_of old)) s (new_job u j console) refl kept.alarmed) (made_lasts eight) refl
      (made_tidy old new s u j None console made empty kept.tidy)

module _ (w : World) (s u j : ℕ) (console : Option ℕ) (can : Bool) (fits : can ≡ nat_lt s (limit_of w.version)) where
  limit_here : nat_lt s (limit (state_of w).raw) ≡ can
  limit_here = ap (nat_lt s) (version_raw w) ∙ sym fits

  pub made_past : can ≡ false → Refused (state_of w) (state_of w) (λ m. with_job_made m s u j console) refusals.Range
  unfolding with_job_made
  made_past f = tested_refused_here (job_tests s) (λ m. with_new m s (new_job u j console)) (job_alike s) (state_of w) refusals.Range
      (inl (limit_here ∙ f, refl))

  pub made_there : (has : Bool) → can ≡ true → has ≡ is_some (job_at w.jobs s) → has ≡ true
      → Refused (state_of w) (state_of w) (λ m. with_job_made m s u j console) refusals.Exists
  unfolding with_job_made
  made_there has t taken is = tested_refused_here (job_tests s) (λ m. with_new m s (new_job u j console)) (job_alike s) (state_of w) refusals.Exists
      (inr (limit_here ∙ t, inl (none_of_some ((state_of w).raw.jobs s) (has_one w s (sym taken ∙ is)), refl)))

-- REGS
module _ (old mid new : World) (s : ℕ) (j : Job) (r : Registers) (kept : Kept old) (c : Calm old mid s j)
    (b : JobBecomes mid new s (after_registers r j)) where
  set_calmed : Calmed old mid s
  set_calmed = record { job = j; calm = c }

  pub set_lands : Lands (unwound (state_of old) s) (state_of new) (on_registers (unwound (state_of old) s).raw s (after_registers r))
  set_lands = registers_land (after_registers r) old mid new s j (λ x c sup a. refl) c b

  set_state : state_of new ≡ with_raw (state_of mid) (in_job (state_of mid).raw s (own.with_registers (after_registers r)))
  set_state = changed_state mid new s (core_at mid.core s) (after_registers r j) j (own.with_registers (after_registers r)) b c.job refl

  pub set_plain : on_registers (plain (state_of old)) s (after_registers r) ≡ Ok (plain (state_of new))
  set_plain =
      let v : State = unwound (state_of old) s in
      ap (λ (m : Machine). on_registers m s (after_registers r)) (sym (unwound_plain (state_of old) s kept.sound))
      ∙ registers_lifted v s (after_registers r) (unwound_none (state_of old) s kept.sound)
      ∙ ap (lift v) set_lands.is ∙ ap (λ (x : State). Ok (plain x)) (sym set_lands.rest)

  pub set_kept : Kept new
  set_kept =
      let m = plain (state_of old) in
      let h = own.with_registers (after_registers r) in
      changed_kept old mid new s h kept set_calmed set_state
      (calm_forest m s h (λ q. refl) (λ q. refl) (λ q. refl) kept.forest)
      (job_alarmed m s h (λ q. refl) kept.alarmed)
      (job_lasts m s h (λ q x. mod_below r.pc (2 ^ 18) (lit< tt)) (λ q. refl) (kept_lasts old kept))
      (tidy_put mid new s _ j (after_registers r j) _ _ c.job refl b c.kept.tidy)

-- ALARM
abbrev alarm_tests : ℕ → ℕ → ℕ → Machine → List (Bool × Reason)
alarm_tests s period next m = (may_come m.clock period next, Range) ∷ (has_job m s, NoJob) ∷ []

alarm_alike : (s period next : ℕ) (u : State) → alarm_tests s period next (plain u) ≡ alarm_tests s period next u.raw
unfolding plain
alarm_alike s period next u = ap (λ (b : Bool). (may_come u.raw.clock period next, Range) ∷ (b, NoJob) ∷ []) (some_alike (u.frames s) (u.raw.jobs s))

clock_raw : (w : World) → (state_of w).raw.clock ≡ w.clock
unfolding state_of
clock_raw w = refl

clock_plain : (w : World) → (plain (state_of w)).clock ≡ w.clock
unfolding plain state_of
clock_plain w = refl

abbrev arm : ℕ → ℕ → ℕ → Machine → Machine
arm s period next m = effect (changes.Arm (Some (period, next))) s m

module _ (old mid new : World) (s period next : ℕ) (b : Bool) (may : b ≡ may_come old.clock period next) (t : b ≡ true)
    (some : is_some (job_at old.jobs s) ≡ true)
    (kept : Kept old) (c : Calmed old mid s) (a : AlarmBecomes mid new s (Some (period, next))) where
  comes : may_come old.clock period next ≡ true
  comes = sym may ∙ t

  alarm_holds : AllHold (alarm_tests s period next (state_of old).raw)
  alarm_holds = (ap (λ (t : ℕ). may_come t period next) (clock_raw old) ∙ comes, (has_one old s some, tt))

  armed_state : state_of new ≡ with_raw (state_of mid) (in_job (state_of mid).raw s (with_alarm (Some (period, next))))
  armed_state = alarm_state mid new s (Some (period, next)) a

  pub alarm_lands : Lands (unwound (state_of old) s) (state_of new) (with_alarm_set (unwound (state_of old) s).raw s period next)
  unfolding with_alarm_set effect
  alarm_lands = tested_calm (alarm_tests s period next) (arm s period next) (alarm_alike s period next) (state_of old) (state_of mid) (state_of new) s
      kept.sound c.calm.unwinds alarm_holds armed_state

  pub alarm_plain : with_alarm_set (plain (state_of old)) s period next ≡ Ok (plain (state_of new))
  unfolding with_alarm_set effect
  alarm_plain = tested_plain (alarm_tests s period next) (arm s period next) (alarm_alike s period next) (state_of old) (plain (state_of new)) alarm_holds
      (changed_machine old mid new s (with_alarm (Some (period, next))) kept c armed_state)

  alarm_comes : Coming (plain (state_of old)).clock (period, next)
  alarm_comes = coming_of (plain (state_of old)).clock period next (ap (λ (t : ℕ). may_come t period next) (clock_plain old) ∙ comes)

  pub alarm_kept : Kept new
  alarm_kept =
      let m = plain (state_of old) in
      changed_kept old mid new s (with_alarm (Some (period, next))) kept c armed_state
      (calm_forest m s (with_alarm (Some (period, next))) (λ q. refl) (λ q. refl) (λ q. refl) kept.forest)
      (armed_alarmed m s (period, next) alarm_comes kept.alarmed)
      (job_lasts m s (with_alarm (Some (period, next))) (λ q x. x) (λ q. refl) (kept_lasts old kept))
      (alarm_tidy mid new s (Some (period, next)) a (λ none. let wrong : Some c.job ≡ None = sym c.calm.job ∙ none in absurd cc) c.calm.kept.tidy)

pub alarm_early : (w : World) (s period next : ℕ) (b : Bool) → b ≡ may_come w.clock period next → b ≡ false → Kept w
    → Refused (state_of w) (unwound (state_of w) s) (λ m. with_alarm_set m s period next) refusals.Range
unfolding with_alarm_set
alarm_early w s period next b is late kept =
    tested_refused (alarm_tests s period next) (arm s period next) (alarm_alike s period next) (state_of w) s refusals.Range kept.sound
    (inl (ap (λ (t : ℕ). may_come t period next) (clock_raw w) ∙ sym is ∙ late, refl))

pub alarm_none : (w : World) (s period next : ℕ) (b : Bool) (e : Refusal) → b ≡ may_come w.clock period next → b ≡ true → e ≡ refusals.NoJob
    → job_at w.jobs s ≡ None → Kept w → Refused (state_of w) (unwound (state_of w) s) (λ m. with_alarm_set m s period next) e
unfolding with_alarm_set
alarm_none w s period next b e is comes missing none kept =
    tested_refused (alarm_tests s period next) (arm s period next) (alarm_alike s period next) (state_of w) s e kept.sound
    (inr (ap (λ (t : ℕ). may_come t period next) (clock_raw w) ∙ sym is ∙ comes, inl (has_none w s none, no_job_is e missing)))

-- UNDER
abbrev under_tests : ℕ → ℕ → Machine → List (Bool × Reason)
under_tests s t m =
    (has_job m s && has_job m t, NoJob) ∷ (is_none (superiors m s), Exists) ∷ (not (climbs_to (superiors m) s slots (Some t)), Unfit) ∷ []

under_alike : (s t : ℕ) (u : State) → under_tests s t (plain u) ≡ under_tests s t u.raw
under_alike s t u = λ i. (has_job_plain u s i && has_job_plain u t i, NoJob) ∷ (is_none (superiors_plain u i s), Exists)
    ∷ (not (climbs_to (superiors_plain u i) s slots (Some t)), Unfit) ∷ []

both_true : (a b : Bool) → a ≡ true → b ≡ true → (a && b) ≡ true
both_true true true x y = refl
both_true true false x y = cc
both_true false b x y = cc

pub none_is : {X : Type 0} (o : Option X) (b : Bool) → b ≡ is_some o → b ≡ false → o ≡ None
none_is (Some x) b e f = let wrong : true ≡ false = sym e ∙ f in absurd cc
none_is None b e f = refl

module _ (old mid : World) (s t : ℕ) (kept : Kept old) (c : Calmed old mid s) where
  -- of the state that was unwound all is as before
  pub calmed_has : (k : ℕ) → is_some (job_at old.jobs k) ≡ true → is_some (job_at mid.jobs k) ≡ true
  calmed_has k some = sym (plain_has mid k) ∙ ap (λ (m : Machine). is_some (m.jobs k)) (calmed_same old mid s kept c) ∙ plain_has old k ∙ some

  calmed_superiors : superiors (state_of mid).raw ≡ superiors (state_of old).raw
  calmed_superiors = sym (superiors_plain (state_of mid)) ∙ ap superiors (calmed_same old mid s kept c) ∙ superiors_plain (state_of old)

  pub calmed_alone : (b : Bool) → b ≡ is_some (superiors (state_of old).raw s) → b ≡ false → superiors (state_of mid).raw s ≡ None
  calmed_alone b is f = ap (λ (g : ℕ → Option ℕ). g s) calmed_superiors ∙ none_is (superiors (state_of old).raw s) b is f

  pub calmed_apart : (b : Bool) → b ≡ climbs_to (superiors (state_of old).raw) s slots (Some t) → b ≡ false
      → climbs_to (superiors (state_of mid).raw) s slots (Some t) ≡ false
  calmed_apart b is f = ap (λ (g : ℕ → Option ℕ). climbs_to g s slots (Some t)) calmed_superiors ∙ sym is ∙ f

  module _ (new : World) (both has above : Bool) (jobs : both ≡ (is_some (job_at old.jobs s) && is_some (job_at old.jobs t))) (there : both ≡ true)
      (superior : has ≡ is_some (superiors (state_of old).raw s)) (alone : has ≡ false)
      (reached : above ≡ climbs_to (superiors (state_of old).raw) s slots (Some t)) (apart : above ≡ false) (b : SuperiorBecomes mid new s t) where
    has_two : (is_some (job_at old.jobs s) ≡ true) × (is_some (job_at old.jobs t) ≡ true)
    has_two = and_parts (is_some (job_at old.jobs s)) (is_some (job_at old.jobs t)) (sym jobs ∙ there)

    no_superior : superiors (state_of old).raw s ≡ None
    no_superior = none_is (superiors (state_of old).raw s) has superior alone

    under_holds : AllHold (under_tests s t (state_of old).raw)
    under_holds = (both_true _ _ (has_one old s has_two.0) (has_one old t has_two.1), (ap is_none no_superior, (ap not (sym reached ∙ apart), tt)))

    under_state : state_of new ≡ with_raw (state_of mid) (in_job (state_of mid).raw s (under t))
    under_state = given_state mid new s t b

    pub under_lands : Lands (unwound (state_of old) s) (state_of new) (with_superior_set (unwound (state_of old) s).raw s t)
    unfolding with_superior_set
    under_lands = tested_calm (under_tests s t) (λ m. in_job m s (under t)) (under_alike s t) (state_of old) (state_of mid) (state_of new) s
        kept.sound c.calm.unwinds under_holds under_state

    pub under_plain : with_superior_set (plain (state_of old)) s t ≡ Ok (plain (state_of new))
    unfolding with_superior_set
    under_plain = tested_plain (under_tests s t) (λ m. in_job m s (under t)) (under_alike s t) (state_of old) (plain (state_of new)) under_holds
        (changed_machine old mid new s (under t) kept c under_state)

    pub under_kept : Kept new
    under_kept =
        let m = plain (state_of old) in
        changed_kept old mid new s (under t) kept c under_state
        (under_forest m s t (plain_has old s ∙ has_two.0) (plain_has old t ∙ has_two.1)
        (ap (λ (f : ℕ → Option ℕ). f s) (superiors_plain (state_of old)) ∙ no_superior)
        (ap (λ (f : ℕ → Option ℕ). climbs_to f s slots (Some t)) (superiors_plain (state_of old)) ∙ sym reached ∙ apart) kept.forest)
        (job_alarmed m s (under t) (λ q. refl) kept.alarmed)
        (job_lasts m s (under t) (λ q x. x) (λ q. refl) (kept_lasts old kept))
        (given_tidy mid new s t b c.calm.kept.tidy)

module _ (w : World) (s t : ℕ) (kept : Kept w) where
  under_refused : (e : Refusal) → FirstFails (under_tests s t (state_of w).raw) (reason_of e)
      → Refused (state_of w) (unwound (state_of w) s) (λ m. with_superior_set m s t) e
  unfolding with_superior_set
  under_refused e h = tested_refused (under_tests s t) (λ m. in_job m s (under t)) (under_alike s t) (state_of w) s e kept.sound h

  module _ (both : Bool) (jobs : both ≡ (is_some (job_at w.jobs s) && is_some (job_at w.jobs t))) where
    both_raw : (has_job (state_of w).raw s && has_job (state_of w).raw t) ≡ both
    both_raw = (λ i. raw_has w s i && raw_has w t i) ∙ sym jobs

    pub under_missing : both ≡ false → Refused (state_of w) (unwound (state_of w) s) (λ m. with_superior_set m s t) refusals.NoJob
    under_missing f = under_refused refusals.NoJob (inl (both_raw ∙ f, refl))

    module _ (there : both ≡ true) (has : Bool) (superior : has ≡ is_some (superiors (state_of w).raw s)) where
      pub under_has : has ≡ true → Refused (state_of w) (unwound (state_of w) s) (λ m. with_superior_set m s t) refusals.Exists
      under_has h = under_refused refusals.Exists
          (inr (both_raw ∙ there, inl (none_of_some (superiors (state_of w).raw s) (sym superior ∙ h), refl)))

      pub under_below : (above : Bool) → has ≡ false → above ≡ climbs_to (superiors (state_of w).raw) s slots (Some t) → above ≡ true
          → Refused (state_of w) (unwound (state_of w) s) (λ m. with_superior_set m s t) refusals.Unfit
      under_below above alone reached h = under_refused refusals.Unfit
          (inr (both_raw ∙ there, inr (ap is_none (none_is (superiors (state_of w).raw s) has superior alone), inl (ap not (sym reached ∙ h), refl))))

-- of two slots that have jobs each has one
pub first_of : (a b c : Bool) → c ≡ (a && b) → c ≡ true → a ≡ true
first_of a b c e t = (and_parts a b (sym e ∙ t)).0

pub second_of : (a b c : Bool) → c ≡ (a && b) → c ≡ true → b ≡ true
second_of a b c e t = (and_parts a b (sym e ∙ t)).1

-- a channel that a line opens
open_alike : (s n : ℕ) (u : State) → can_open (plain u) s n ≡ can_open u.raw s n
unfolding plain
open_alike s n u = λ i. (nat_lt n 16, Range) ∷ (some_alike (u.frames s) (u.raw.jobs s) i, NoJob)
    ∷ (is_shut (channel_seen (u.frames s) (u.raw.jobs s) n i), Exists) ∷ []

module _ (w : World) (s n : ℕ) (channel : n < 16) where
  pub can_open_holds : HasJob (state_of w) s → chan_in (state_of w) s n ≡ Shut → AllHold (can_open (state_of w).raw s n)
  can_open_holds some shut = (lt-ltb n 16 channel, (some, (ap is_shut shut, tt)))

-- TTY
abbrev tty_tests : ℕ → ℕ → Machine → List (Bool × Reason)
tty_tests s n m = can_open m s n ++ (is_some (console_in (m.jobs s)), Unfit) ∷ []

console_some : (u : State) (s : ℕ) → is_some (console_in ((plain u).jobs s)) ≡ is_some (console_in (u.raw.jobs s))
unfolding plain
console_some u s = ap is_some (console_seen (u.frames s) (u.raw.jobs s))

tty_alike : (s n : ℕ) (u : State) → tty_tests s n (plain u) ≡ tty_tests s n u.raw
tty_alike s n u = λ i. open_alike s n u i ++ (console_some u s i, Unfit) ∷ []

-- what a channel of the job is on, once that is unwound
module _ (old mid : World) (s n : ℕ) (kept : Kept old) (c : Calmed old mid s) where
  chan_plain : (w : World) → channel_in ((plain (state_of w)).jobs s) n ≡ chan_in (state_of w) s n
  unfolding plain
  chan_plain w = channel_seen ((state_of w).frames s) ((state_of w).raw.jobs s) n

  pub calmed_chan : chan_in (state_of mid) s n ≡ chan_in (state_of old) s n
  calmed_chan = sym (chan_plain mid) ∙ ap (λ (m : Machine). channel_in (m.jobs s) n) (calmed_same old mid s kept c) ∙ chan_plain old

  pub calmed_elsewhere : chan_in (state_of old) s n ≡ Shut → IsElsewhere (channel_at mid.jobs s n)
  calmed_elsewhere shut = closed_elsewhere mid s n (calmed_chan ∙ shut)

  module _ (new : World) (write : Bool) (x : Channel) (channel : n < 16) (some : HasJob (state_of old) s) (shut : chan_in (state_of old) s n ≡ Shut)
      (console : is_some (console_in ((state_of old).raw.jobs s)) ≡ true) (on : chan_of mid.files x ≡ on_tty write)
      (row : state_of new ≡ in_raw (state_of mid) s (on_channel n (λ y. chan_of mid.files x))) where
    tty_holds : AllHold (tty_tests s n (state_of old).raw)
    tty_holds = all_more (can_open (state_of old).raw s n) ((is_some (console_in ((state_of old).raw.jobs s)), Unfit) ∷ [])
        (can_open_holds old s n channel some shut) (console, tt)

    tty_state : state_of new ≡ with_raw (state_of mid) (in_job (state_of mid).raw s (on_channel n (λ y. on_tty write)))
    tty_state = row ∙ ap (λ (z : Chan). in_raw (state_of mid) s (on_channel n (λ y. z))) on

    pub tty_lands : Lands (unwound (state_of old) s) (state_of new) (with_tty (unwound (state_of old) s).raw s n write)
    unfolding with_tty
    tty_lands = tested_calm (tty_tests s n) (λ m. in_job m s (on_channel n (λ y. on_tty write))) (tty_alike s n) (state_of old) (state_of mid)
        (state_of new) s kept.sound c.calm.unwinds tty_holds tty_state

    pub tty_plain : with_tty (plain (state_of old)) s n write ≡ Ok (plain (state_of new))
    unfolding with_tty
    tty_plain = tested_plain (tty_tests s n) (λ m. in_job m s (on_channel n (λ y. on_tty write))) (tty_alike s n) (state_of old) (plain (state_of new))
        tty_holds (changed_machine old mid new s (on_channel n (λ y. on_tty write)) kept c tty_state)

    pub tty_kept : Tidy new → Kept new
    tty_kept tidy =
        let m = plain (state_of old) in
        let h = on_channel n (λ y. on_tty write) in
        changed_kept old mid new s h kept c tty_state
        (tty_forest m s n write (console_some (state_of old) s ∙ console) (chan_plain old ∙ shut) kept.forest)
        (job_alarmed m s h (λ q. refl) kept.alarmed)
        (job_lasts m s h (λ q x. x) (λ q. refl) (kept_lasts old kept)) tidy

module _ (w : World) (s n : ℕ) (write : Bool) (kept : Kept w) where
  pub tty_closed : (e : Refusal) → ((m : Machine) → provided (can_open (state_of w).raw s n) m ≡ Err (reason_of e))
      → Refused (state_of w) (unwound (state_of w) s) (λ m. with_tty m s n write) e
  unfolding with_tty
  tty_closed e h = tested_refused (tty_tests s n) (λ m. in_job m s (on_channel n (λ y. on_tty write))) (tty_alike s n) (state_of w) s e kept.sound
      (first_more (can_open (state_of w).raw s n) ((is_some (console_in ((state_of w).raw.jobs s)), Unfit) ∷ []) (reason_of e)
      (provided_refused (can_open (state_of w).raw s n) (state_of w).raw (reason_of e) (h (state_of w).raw)))

  pub tty_unfit : (b : Bool) → n < 16 → HasJob (state_of w) s → chan_in (state_of w) s n ≡ Shut
      → b ≡ is_some (console_in ((state_of w).raw.jobs s)) → b ≡ false
      → Refused (state_of w) (unwound (state_of w) s) (λ m. with_tty m s n write) refusals.Unfit
  unfolding with_tty
  tty_unfit b channel some shut is f =
      tested_refused (tty_tests s n) (λ m. in_job m s (on_channel n (λ y. on_tty write))) (tty_alike s n) (state_of w) s refusals.Unfit kept.sound
      (fails_after (can_open (state_of w).raw s n) ((is_some (console_in ((state_of w).raw.jobs s)), Unfit) ∷ []) Unfit
      (can_open_holds w s n channel some shut) (inl (sym is ∙ f, refl)))

-- whether a slot's job has a console
pub has_console_is : (w : World) (s : ℕ) (j : Job) → job_at w.jobs s ≡ Some j → is_some j.console ≡ is_some (console_in ((state_of w).raw.jobs s))
has_console_is w s j is = sym (ap (λ (o : Option Whole). is_some (console_in o)) (raw_is w s j is))

pub no_console_is : (w : World) (s : ℕ) → job_at w.jobs s ≡ None → false ≡ is_some (console_in ((state_of w).raw.jobs s))
no_console_is w s none = sym (ap (λ (o : Option Whole). is_some (console_in o)) (raw_is_none w s none))
