-- CLOCK: the jobs whose alarm is due are unwound, slot after slot, and then their alarms go, slot
-- after slot.
use Rattle.std.specs.Prelude.{◌==◌, ◌≡◌, ◌≤◌, ◌<◌, ◌+◌, ◌-◌, ◌&&◌, ℕ, suc, Bool, true, false, Option, Some, None, IfSome, is_some, List, ◌∷◌, filter, refl}
use Rattle.std.specs.List.{range_with_len}
use Rattle.std.proofs.Common.{sym, ◌∙◌, ap, subst, inl, inr, arith}
use Rattle.std.proofs.lemmas.Bool.{cases_eq, eq-eqb, eqb-true, ne_eqb, lt-ltb, le-ltb, le-leb, lt-leb}
use Rattle.its_word.specs.Limits.{slots}
use Rattle.its_records.specs.declared.jobs.Job.{Job}
use Rattle.its_core.specs.Cores.{core_at, clear_at}
use Rattle.its_jobs.specs.Table.{job_at}
use Rattle.its_plain.specs.Machine.Alarm.{is_due, time_after}
use Rattle.its_plain.specs.Machine.Change.{with_alarm}
use Rattle.its_plain.specs.Machine.Registers.{ALR, with_pending}
use Rattle.its_plain.specs.Machine.{Whole, Machine}
use Rattle.its_plain.specs.Operator.Clock.{alarm_in, due, due_slots, after_alarm_if, at_clock, clock_end}
use Rattle.its_plain.specs.Machine.Own.{with_registers}
use Rattle.its_stepped.specs.Alarmed.{Periodic, Alarmed}
use Rattle.its_stepped.specs.Lines.{with_raw}
use Rattle.its_stepped.specs.Sound.{Sound}
use Rattle.its_stepped.specs.State.{State, plain}
use Rattle.its_stepped.specs.Unwind.{unwound, all_unwound}
use Rattle.its_shared.proofs.TimeLaws.{rung_slot, below_next}
use Rattle.its_stepped.proofs.Keeping.AlarmLaws.{coming_periodic}
use Rattle.its_stepped.proofs.Lining.DueLaws.{alarm_plain, due_same}
use Rattle.its_stepped.proofs.Unwinding.UnwindLaws.{all_unwound_slot, all_unwound_end}
use Rattle.its_files.specs.Files.{Store}
use Rattle.its_world.specs.Tidy.{Across, Tidy}
use Rattle.its_world.specs.World.{alarm_at, symbols_at, raw_machine, frame_at, mark_of, state_of, in_raw, frames_after, JobBecomes, AlarmBecomes, ClockBecomes}
use Rattle.its_world.specs.declared.world.World.{World}
use Rattle.its_world.proofs.AlarmLaws.{alarm_state, alarm_tidy}
use Rattle.its_world.proofs.StateLaws.{changed_state}
use Rattle.its_pclsr.specs.Pages.{pages_unwound}
use Rattle.its_commit.proofs.TidyLaws.{tidy_put}
use Rattle.its_commit.proofs.RemovalLaws.{alarm_shown}
use Rattle.its_monitor.specs.Rung.{Rousing, RangAt, RangBelow}
use Rattle.its_world.proofs.ContentsLaws.{core_as, jobs_as, files_as, clock_as, symbols_as, alarms_as}

-- slot after slot is unwound
range_from : (n : ℕ) → n < slots → range_with_len n (slots - n) ≡ n ∷ range_with_len (n + 1) (slots - (n + 1))
range_from n l = let e : slots - n ≡ suc (slots - (n + 1)) = omega arith in ap (range_with_len n) e

pub rousing_start : (c : ℕ) (w : World) → Sound (state_of w) → Tidy w → Rousing c 0 w w
unfolding due_slots
rousing_start c w sound tidy = record { sound = sound; tidy = tidy; same = refl; rest = refl; pages = refl }

-- whether a slot is due is the same of the world that is unwound
due_at : (c n : ℕ) (old mid : World) (b : Bool) → n < slots → Rousing c n old mid → b ≡ is_due c (alarm_at mid.alarms.items n)
    → due c (state_of old).raw.jobs n ≡ b
due_at c n old mid b l r e =
    ap (λ (f : ℕ → Bool). f n) (sym (due_same (state_of old) (state_of mid) c r.same))
    ∙ ap (λ (t : Bool). t && is_due c (alarm_in ((state_of mid).raw.jobs n))) (lt-ltb n slots l)
    ∙ ap (is_due c) (sym (alarm_shown mid n r.tidy)) ∙ sym e

kept_first : (p : ℕ → Bool) (n : ℕ) (xs : List ℕ) → p n ≡ true → filter p (n ∷ xs) ≡ n ∷ filter p xs
kept_first p n xs h = rw h refl

dropped_first : (p : ℕ → Bool) (n : ℕ) (xs : List ℕ) → p n ≡ false → filter p (n ∷ xs) ≡ filter p xs
dropped_first p n xs h = rw h refl

pub rousing_more : (c n : ℕ) (old mid new : World) (b : Bool) → n < slots → Rousing c n old mid → b ≡ is_due c (alarm_at mid.alarms.items n)
    → b ≡ true → state_of new ≡ unwound (state_of mid) n
    → plain (state_of new) ≡ plain (state_of mid) → Sound (state_of new) → Tidy new
    → new.core.frames ≡ frames_after ((state_of mid).reserved n) None n mid.core.frames → Rousing c (n + 1) old new
rousing_more c n old mid new b l r e t is same sound tidy g =
    let p : ℕ → Bool = due c (state_of old).raw.jobs in
    let xs : List ℕ = filter p (range_with_len (n + 1) (slots - (n + 1))) in
    let first : filter p (range_with_len n (slots - n)) ≡ n ∷ xs =
    ap (filter p) (range_from n l) ∙ kept_first p n (range_with_len (n + 1) (slots - (n + 1))) (due_at c n old mid b l r e ∙ t) in
    record {
      sound = sound;
      tidy = tidy;
      same = same ∙ r.same;
      rest = ap (all_unwound xs) is ∙ all_unwound_slot n xs (state_of mid) ∙ ap (λ ys. all_unwound ys (state_of mid)) (sym first) ∙ r.rest;
      pages = (λ i. pages_unwound xs (is i) (g i)) ∙ ap (λ ys. pages_unwound ys (state_of mid) mid.core.frames) (sym first) ∙ r.pages;
    }

pub rousing_skip : (c n : ℕ) (old mid : World) (b : Bool) → n < slots → Rousing c n old mid → b ≡ is_due c (alarm_at mid.alarms.items n)
    → b ≡ false → Rousing c (n + 1) old mid
rousing_skip c n old mid b l r e f =
    let p : ℕ → Bool = due c (state_of old).raw.jobs in
    let xs : List ℕ = filter p (range_with_len (n + 1) (slots - (n + 1))) in
    let none : filter p (range_with_len n (slots - n)) ≡ xs =
    ap (filter p) (range_from n l) ∙ dropped_first p n (range_with_len (n + 1) (slots - (n + 1))) (due_at c n old mid b l r e ∙ f) in
    record {
      sound = r.sound;
      tidy = r.tidy;
      same = r.same;
      rest = ap (λ ys. all_unwound ys (state_of mid)) (sym none) ∙ r.rest;
      pages = ap (λ ys. pages_unwound ys (state_of mid) mid.core.frames) (sym none) ∙ r.pages;
    }

pub roused_all : (c : ℕ) (old new : World) → Rousing c slots old new → state_of new ≡ all_unwound (due_slots c (state_of old).raw.jobs) (state_of old)
roused_all c old new r = sym (all_unwound_end (state_of new)) ∙ r.rest

pub roused_pages : (c : ℕ) (old new : World) → Rousing c slots old new
    → new.core.frames ≡ pages_unwound (due_slots c (state_of old).raw.jobs) (state_of old) old.core.frames
roused_pages c old new r = r.pages

-- one alarm goes: ALR is set, and the next time is another
pub alr_set : (old new : World) (s : ℕ) (i j : Job) (o : Option Job) → o ≡ job_at old.jobs s → o ≡ Some j → i ≡ with_pending j ALR → JobBecomes old new s i
    → state_of new ≡ in_raw (state_of old) s (with_registers (λ k. with_pending k ALR))
alr_set old new s i j o e is same b =
    changed_state old new s _ (with_pending j ALR) j (with_registers (λ k. with_pending k ALR))
    (subst (λ (x : Job). JobBecomes old new s x) same b) (sym e ∙ is) refl

-- of a state another with other jobs
other_jobs : (v u x : State) → u ≡ x → x ≡ with_raw v (record v.raw { jobs = x.raw.jobs }) → u ≡ with_raw v (record v.raw { jobs = u.raw.jobs })
other_jobs v u x e h = e ∙ h ∙ ap (λ (y : State). with_raw v (record v.raw { jobs = y.raw.jobs })) (sym e)

alarm_here : (w : World) (s k : ℕ) (a : Option (ℕ × ℕ)) → Tidy w → alarm_at w.alarms.items s ≡ a → (k == s) ≡ true → alarm_in ((state_of w).raw.jobs k) ≡ a
alarm_here w s k a tidy e at = let is : k ≡ s = eqb-true k s at in sym (alarm_shown w k tidy) ∙ ap (alarm_at w.alarms.items) is ∙ e

pub went : (c p t : ℕ) (old mid new : World) (s : ℕ) → Tidy old → Some (p, t) ≡ alarm_at old.alarms.items s → t ≤ c
    → state_of mid ≡ in_raw (state_of old) s (with_registers (λ k. with_pending k ALR))
    → AlarmBecomes mid new s (Some (p, time_after c (p, t))) → RangAt c s (state_of old) (state_of new)
went c p t old mid new s tidy has late set put =
    let g : Whole → Whole = with_alarm (Some (p, time_after c (p, t))) in
    let e : state_of new ≡ in_raw (in_raw (state_of old) s (with_registers (λ k. with_pending k ALR))) s g =
    alarm_state mid new s (Some (p, time_after c (p, t))) put ∙ ap (λ (v : State). in_raw v s g) set in
    record {
      jobs = λ k. ap (λ (v : State). v.raw.jobs k) e
          ∙ rung_slot c p t (k == s) ((state_of old).raw.jobs k) (alarm_here old s k (Some (p, t)) tidy (sym has)) (le-leb t c late);
      rest = other_jobs (state_of old) (state_of new) (in_raw (in_raw (state_of old) s (with_registers (λ k. with_pending k ALR))) s g) e refl;
    }

-- a slot that is not due
stays_by : (c : ℕ) (b : Bool) (o : Option Whole) → (b ≡ true → is_due c (alarm_in o) ≡ false) → o ≡ after_alarm_if c (b && is_due c (alarm_in o)) o
stays_by c false o h = refl
stays_by c true o h = sym (ap (λ (x : Bool). after_alarm_if c x o) (h refl))

still : (c s : ℕ) (w : World) (a : Option (ℕ × ℕ)) → Tidy w → alarm_at w.alarms.items s ≡ a → is_due c a ≡ false → RangAt c s (state_of w) (state_of w)
still c s w a tidy e no_more = record {
  jobs = λ k. stays_by c (k == s) ((state_of w).raw.jobs k) (λ at. ap (is_due c) (alarm_here w s k a tidy e at) ∙ no_more);
  rest = refl;
}

pub still_none : (c s : ℕ) (w : World) → Tidy w → None ≡ alarm_at w.alarms.items s → RangAt c s (state_of w) (state_of w)
still_none c s w tidy e = still c s w None tidy (sym e) refl

pub still_some : (c s p t : ℕ) (w : World) → Tidy w → Some (p, t) ≡ alarm_at w.alarms.items s → c < t → RangAt c s (state_of w) (state_of w)
still_some c s p t w tidy e early = still c s w (Some (p, t)) tidy (sym e) (lt-leb t c early)

-- slot after slot
pub rang_start : (c : ℕ) (v : State) → RangBelow c 0 v v
rang_start c v = record {
  jobs = λ k. sym (ap (λ (b : Bool). after_alarm_if c (b && is_due c (alarm_in (v.raw.jobs k))) (v.raw.jobs k))
      (le-ltb k 0 (omega arith)));
  rest = refl;
}

pub rang_more : (c n : ℕ) (old mid new : State) → RangBelow c n old mid → RangAt c n mid new → RangBelow c (n + 1) old new
rang_more c n old mid new a b = record {
  jobs = λ k. elim (cases_eq k n) [
    | inl e ↦
        let same : mid.raw.jobs k ≡ old.raw.jobs k =
        a.jobs k ∙ ap (λ (t : Bool). after_alarm_if c (t && is_due c (alarm_in (old.raw.jobs k))) (old.raw.jobs k)) (le-ltb k n (omega arith)) in
        b.jobs k
        ∙ ap (λ (t : Bool). after_alarm_if c (t && is_due c (alarm_in (mid.raw.jobs k))) (mid.raw.jobs k)) (eq-eqb k n e)
        ∙ ap (λ (o : Option Whole). after_alarm_if c (is_due c (alarm_in o)) o) same
        ∙ sym (ap (λ (t : Bool). after_alarm_if c (t && is_due c (alarm_in (old.raw.jobs k))) (old.raw.jobs k)) (lt-ltb k (n + 1) (omega arith)))
    | inr ne ↦
        b.jobs k
        ∙ ap (λ (t : Bool). after_alarm_if c (t && is_due c (alarm_in (mid.raw.jobs k))) (mid.raw.jobs k)) (ne_eqb k n ne)
        ∙ a.jobs k
        ∙ ap (λ (t : Bool). after_alarm_if c (t && is_due c (alarm_in (old.raw.jobs k))) (old.raw.jobs k)) (below_next k n ne)
  ];
  rest = b.rest ∙ ap (λ (u : State). with_raw u (record u.raw { jobs = new.raw.jobs })) a.rest;
}

-- all of them, once the clock is the new one
pub rang_all : (c : ℕ) (v u new : State) → u ≡ with_raw v (record v.raw { clock = c }) → RangBelow c slots u new → new ≡ with_raw v (at_clock c v.raw)
rang_all c v u new e r =
    let r2 : RangBelow c slots (with_raw v (record v.raw { clock = c })) new = subst (λ (x : State). RangBelow c slots x new) e r in
    r2.rest ∙ (λ t. with_raw v (record v.raw { jobs = λ k. r2.jobs k t; clock = c }))

-- alarms have periods
pub put_periods : (old new : World) (s : ℕ) (a : ℕ × ℕ) → AlarmBecomes old new s (Some a) → Periodic a
    → ((k : ℕ) → IfSome (alarm_at old.alarms.items k) Periodic)
    → (k : ℕ) → IfSome (alarm_at new.alarms.items k) Periodic
put_periods old new s a b h all k = elim (cases_eq k s) [
  | inl e ↦ subst (λ (o : Option (ℕ × ℕ)). IfSome o Periodic) (sym (ap (alarm_at new.alarms.items) e ∙ b.alarms.here)) h
  | inr ne ↦ subst (λ (o : Option (ℕ × ℕ)). IfSome o Periodic) (sym (b.alarms.others k ne)) (all k)
]

pub kept_periods : (old new : World) → Alarmed (plain (state_of old)) → plain (state_of new) ≡ plain (state_of old) → Tidy new → (k : ℕ)
    → IfSome (alarm_at new.alarms.items k) Periodic
kept_periods old new a same tidy k =
    let e : alarm_at new.alarms.items k ≡ alarm_in ((plain (state_of old)).jobs k) =
    alarm_shown new k tidy ∙ sym (alarm_plain (state_of new) k) ∙ ap (λ (m : Machine). alarm_in (m.jobs k)) same in
    subst (λ (o : Option (ℕ × ℕ)). IfSome o Periodic) (sym e)
    (coming_periodic (plain (state_of old)).clock (alarm_in ((plain (state_of old)).jobs k)) (a.each k))

-- the clock is set
pub clock_state : (old new : World) (c : ℕ) → ClockBecomes old new c → state_of new ≡ with_raw (state_of old) (record (state_of old).raw { clock = c })
unfolding state_of
clock_state old new c b = λ t. let p = b.rest t in record {
  raw = raw_machine p.files p.core p.jobs p.alarms.items p.consoles.items p.holders p.clock p.version p.symbols.items p.pipes;
  frames = frame_at p.frames.items;
  reserved = clear_at p.core;
  mark = mark_of p.files;
}

pub clock_tidy : (old new : World) (c : ℕ) → ClockBecomes old new c → c < clock_end → Tidy old → Tidy new
clock_tidy old new c b below tidy = record {
  blank = λ k h. ap (λ x. core_at x k) (core_as b.rest) ∙ tidy.blank k (sym (ap (λ t. job_at t k) (jobs_as b.rest)) ∙ h);
  quiet = λ k h. ap (λ l. alarm_at l.items k) (alarms_as b.rest) ∙ tidy.quiet k (sym (ap (λ t. job_at t k) (jobs_as b.rest)) ∙ h);
  nameless = λ k h. ap (λ l. symbols_at l.items k) (symbols_as b.rest) ∙ tidy.nameless k (sym (ap (λ t. job_at t k) (jobs_as b.rest)) ∙ h);
  timed = subst (λ t. t < clock_end) (sym (clock_as b.rest)) below;
  across = subst (λ (x : Store). Across x new.jobs) (sym (files_as b.rest)) (subst (Across old.files) (sym (jobs_as b.rest)) tidy.across);
  on_lists = b.on_lists tidy.on_lists;
}

-- the clock of a world whose plain machine is the same
pub clock_still : (old new : World) (c n : ℕ) → plain (state_of new) ≡ plain (state_of old) → c ≡ old.clock + n → new.clock ≤ c
unfolding plain state_of
clock_still old new c n same e = let t : new.clock ≡ old.clock = ap (λ (m : Machine). m.clock) same in omega arith

-- a slot with an alarm has a job
pub alarm_has : (w : World) (s : ℕ) (o : Option Job) → Tidy w → is_some (alarm_at w.alarms.items s) ≡ true → o ≡ job_at w.jobs s → o ≡ None → ⊥
alarm_has w s o tidy some e none = let wrong : true ≡ false = sym some ∙ ap is_some (tidy.quiet s (sym e ∙ none)) in cc

pub alr_tidy : (old new : World) (s : ℕ) (i j : Job) (o : Option Job) → o ≡ job_at old.jobs s → o ≡ Some j → i ≡ with_pending j ALR
    → JobBecomes old new s i → Tidy old → Tidy new
alr_tidy old new s i j o e is same b tidy = tidy_put old new s _ j i _ _ (sym e ∙ is) (ap (λ (k : Job). k.channels) same) b tidy

pub gone_tidy : (old new : World) (s : ℕ) (a : Option (ℕ × ℕ)) → is_some (job_at old.jobs s) ≡ true → AlarmBecomes old new s a → Tidy old → Tidy new
gone_tidy old new s a some b tidy = alarm_tidy old new s a b (λ none. let wrong : true ≡ false = sym some ∙ ap is_some none in absurd cc) tidy
