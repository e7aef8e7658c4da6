-- CLOCK: the alarms that are due go, slot after slot.
use Rattle.std.specs.Prelude.{◌==◌, ◌≡◌, ◌≢◌, ◌≤◌, ◌<◌, ◌+◌, ◌&&◌, ◌||◌, ℕ, Bool, true, false, Option, Some, None, IfSome, is_some, List, option_map, Ok, Err, length, nat_lt, slice_set, slice_index_or, refl}
use Rattle.std.proofs.Common.{sym, ◌∙◌, ap, subst, inl, inr, arith}
use Rattle.std.proofs.lemmas.Bool.{cases_eq, eq-eqb, eqb-true, ne_eqb, lt-ltb, le-ltb, le-leb, lt-leb}
use Rattle.std.proofs.lemmas.List.{get_or-set_same, get_or-set_other}
use Rattle.its_word.specs.Limits.{slots}
use Rattle.its_records.specs.declared.jobs.Job.{Job}
use Rattle.its_records.specs.declared.session.Reason.TheVariants as reasons
use Rattle.its_core.specs.Cores.{core_at, clear_at}
use Rattle.its_files.specs.Files.{Store, directory}
use Rattle.its_jobs.specs.Table.{job_at, superior_at}
use Rattle.its_pipes.specs.Pipes.{piped}
use Rattle.its_plain.specs.Machine.Alarm.{is_due, time_after}
use Rattle.its_plain.specs.Machine.Change.{in_job, with_alarm}
use Rattle.its_plain.specs.Machine.Registers.{ALR, with_pending}
use Rattle.its_plain.specs.Machine.{Machine}
use Rattle.its_plain.specs.Operator.Clock.{alarm_in, due, after_alarm_if, at_clock, after_clock_if, after_clock, clock_end}
use Rattle.its_plain.proofs.MachineLaws.{machine_is}
use Rattle.its_stepped.specs.Alarmed.{Periodic, Alarmed}
use Rattle.its_stepped.proofs.Keeping.AlarmLaws.{coming_periodic}
use Rattle.its_shared.specs.Across.{Across}
use Rattle.its_shared.specs.Parts.{alarm_at, console_at, holder_at, symbols_at, raw_of}
use Rattle.its_shared.proofs.PartLaws.{slot_at}
use Rattle.its_direct.specs.Plain.{machine_of, is_touched, no_slots, Tidy, JobBecomes}
use Rattle.its_plain.specs.Machine.Own.{with_registers}
use Rattle.its_shared.proofs.TimeLaws.{rung_slot, below_next}
use Rattle.its_direct.specs.Clock.{AlarmBecomes, Clocks, Periods, RangAt, RangBelow}
use Rattle.its_direct.specs.declared.plain.Plain.{Plain}
use Rattle.its_direct.proofs.SlotLaws.{IsPlaced, placed_at, slot_machine, slot_tidy, touched_machine, touched_tidy}
use Rattle.its_direct.proofs.TouchLaws.{none_touched}
use Rattle.its_direct.proofs.ContentsLaws.{core_as, jobs_as, consoles_as, holders_as, files_as, clock_as, alarms_as, version_as, symbols_as, pipes_as, place_as, touched_as}

-- the alarm of a job of the machine is that of its slot
alarm_by : (s : Store) (q : Plain) (k : ℕ) (o : Option Job) → (o ≡ None → alarm_at q.alarms.items k ≡ None)
    → alarm_at q.alarms.items k ≡ alarm_in (raw_of s (core_at q.core k) (superior_at q.jobs k) (alarm_at q.alarms.items k) o)
alarm_by s q k (Some j) quiet = refl
alarm_by s q k None quiet = quiet refl

pub alarm_shown : (p : Plain) (k : ℕ) → Tidy p → alarm_at p.alarms.items k ≡ alarm_in ((machine_of p).jobs k)
unfolding machine_of
alarm_shown p k tidy = alarm_by p.files p k (job_at p.jobs k) (tidy.quiet k)

pub periods_kept : (p new : Plain) → Alarmed (machine_of p) → Tidy p → new.alarms ≡ p.alarms → Periods new
periods_kept p new a tidy same k =
    subst (λ (o : Option (ℕ × ℕ)). IfSome o Periodic) (sym (ap (λ l. alarm_at l.items k) same ∙ alarm_shown p k tidy))
    (coming_periodic (machine_of p).clock (alarm_in ((machine_of p).jobs k)) (a.each k))

-- the alarm of a slot is written
alarmed_as : (s : Store) (q : Plain) (k : ℕ) (a : Option (ℕ × ℕ)) (o : Option Job)
    → raw_of s (core_at q.core k) (superior_at q.jobs k) a o ≡ option_map (with_alarm a)
    (raw_of s (core_at q.core k) (superior_at q.jobs k) (alarm_at q.alarms.items k) o)
alarmed_as s q k a (Some j) = refl
alarmed_as s q k a None = refl

pub alarm_machine : (old new : Plain) (s : ℕ) (a : Option (ℕ × ℕ)) → AlarmBecomes old new s a → machine_of new ≡ in_job (machine_of old) s (with_alarm a)
unfolding machine_of
alarm_machine old new s a b = machine_is _ _
    (slot_at _ _ s (with_alarm a)
    ((λ t. raw_of (b.rest t).files (core_at (b.rest t).core s) (superior_at (b.rest t).jobs s) (b.alarms.here t) (job_at (b.rest t).jobs s))
    ∙ alarmed_as old.files old s a (job_at old.jobs s))
    (λ k ne t. raw_of (b.rest t).files (core_at (b.rest t).core k) (superior_at (b.rest t).jobs k) (b.alarms.others k ne t) (job_at (b.rest t).jobs k)))
    (λ k. ap (λ l. console_at l.items k) (consoles_as b.rest)) (λ k. ap (λ l. holder_at l k) (holders_as b.rest))
    (ap directory (files_as b.rest)) (clock_as b.rest) (version_as b.rest) (λ k. ap (λ l. symbols_at l.items k) (symbols_as b.rest))
    (λ k. ap (λ l. piped l k) (pipes_as b.rest))

pub alarm_tidy : (old new : Plain) (s : ℕ) (a : Option (ℕ × ℕ)) → is_some (job_at old.jobs s) ≡ true → AlarmBecomes old new s a → Tidy old → Tidy new
alarm_tidy old new s a some b tidy = record {
  unreserved = λ k. ap (λ m. clear_at m k) (core_as b.rest) ∙ tidy.unreserved k;
  unmarked = ap (λ (x : Store). x.mark) (files_as b.rest) ∙ tidy.unmarked;
  across = subst (λ (x : Store). Across x new.jobs) (sym (files_as b.rest)) (subst (Across old.files) (sym (jobs_as b.rest)) tidy.across);
  blank = λ k h. ap (λ m. core_at m k) (core_as b.rest) ∙ tidy.blank k (was k h);
  quiet = λ k h. b.alarms.others k (apart k h) ∙ tidy.quiet k (was k h);
  nameless = λ k h. ap (λ l. symbols_at l.items k) (symbols_as b.rest) ∙ tidy.nameless k (was k h);
  addressed = λ k. subst IsPlaced (sym (ap (λ t. job_at t k) (jobs_as b.rest))) (tidy.addressed k);
  timed = subst (λ t. t < clock_end) (sym (clock_as b.rest)) tidy.timed;
}
  where
    was : (k : ℕ) → job_at new.jobs k ≡ None → job_at old.jobs k ≡ None
    was k h = sym (ap (λ t. job_at t k) (jobs_as b.rest)) ∙ h

    apart : (k : ℕ) → job_at new.jobs k ≡ None → k ≢ s
    apart k h e = let wrong : true ≡ false = sym some ∙ ap is_some (sym (ap (job_at old.jobs) e) ∙ was k h) in cc

-- one alarm goes: ALR is set, and the next time is another
other_jobs : (v u x : Machine) → u ≡ x → x ≡ record v { jobs = x.jobs } → u ≡ record v { jobs = u.jobs }
other_jobs v u x e h = e ∙ h ∙ ap (λ (y : Machine). record v { jobs = y.jobs }) (sym e)

marked_by : (ts : List Bool) (s k : ℕ) (d : Bool) → s < length ts → (k ≡ s → d ≡ true)
    → slice_index_or (slice_set ts s true) k false ≡ (slice_index_or ts k false || ((k == s) && d))
marked_by ts s k d l due = elim (cases_eq k s) [
  | inl e ↦ ap (λ n. slice_index_or (slice_set ts s true) n false) e ∙ get_or-set_same ts s true false l
      ∙ sym (rw (eq-eqb k s e, due e) (or_true (slice_index_or ts k false)))
  | inr ne ↦ get_or-set_other ts s k true false ne ∙ sym (rw (ne_eqb k s ne) (or_none (slice_index_or ts k false)))
]
  where
    or_true : (b : Bool) → (b || true) ≡ true
    or_true true = refl
    or_true false = refl

    or_none : (b : Bool) → (b || false) ≡ b
    or_none true = refl
    or_none false = refl

module _ (c p t : ℕ) (old mid put new : Plain) (s : ℕ) (i : Job) (tidy : Tidy old) (had : job_at old.jobs s ≡ Some i)
    (has : Some (p, t) ≡ alarm_at old.alarms.items s) (late : t ≤ c)
    (set : JobBecomes old mid s (with_pending i ALR)) (next : AlarmBecomes mid put s (Some (p, time_after c (p, t))))
    (mark : new ≡ record put { touched = slice_set put.touched s true }) where
  gone : machine_of new ≡ in_job (in_job (machine_of old) s (with_registers (λ j. with_pending j ALR))) s (with_alarm (Some (p, time_after c (p, t))))
  gone = touched_machine put new (slice_set put.touched s true) mark ∙ alarm_machine mid put s (Some (p, time_after c (p, t))) next
      ∙ ap (λ m. in_job m s (with_alarm (Some (p, time_after c (p, t)))))
      (slot_machine old mid s (core_at old.core s) i (with_pending i ALR) (with_registers (λ j. with_pending j ALR)) set had refl)

  same_alarms : mid.alarms ≡ old.alarms
  same_alarms = alarms_as set.aside.is

  alarm_here : (k : ℕ) → (k == s) ≡ true → alarm_in ((machine_of old).jobs k) ≡ Some (p, t)
  alarm_here k at = sym (alarm_shown old k tidy) ∙ ap (alarm_at old.alarms.items) (eqb-true k s at) ∙ sym has

  due_here : (k : ℕ) → k ≡ s → is_due c (alarm_at old.alarms.items k) ≡ true
  due_here k e = ap (λ n. is_due c (alarm_at old.alarms.items n)) e ∙ ap (is_due c) (sym has) ∙ le-leb t c late

  new_alarms : new.alarms ≡ put.alarms
  new_alarms = ap (λ (q : Plain). q.alarms) mark

  pub went : s < length old.touched → RangAt c s old new
  went l = record {
    jobs = λ k. ap (λ (m : Machine). m.jobs k) gone ∙ rung_slot c p t (k == s) ((machine_of old).jobs k) (alarm_here k) (le-leb t c late)
        ∙ ap (λ o. after_alarm_if c ((k == s) && is_due c o) ((machine_of old).jobs k)) (sym (alarm_shown old k tidy));
    rest = other_jobs (machine_of old) (machine_of new) (in_job (in_job (machine_of old) s (with_registers (λ j. with_pending j ALR))) s
        (with_alarm (Some (p, time_after c (p, t))))) gone refl;
    touched = λ k. let ts : put.touched ≡ old.touched = touched_as next.rest ∙ touched_as set.aside.is in
        ap (λ (q : Plain). is_touched q k) mark ∙ ap (λ xs. slice_index_or (slice_set xs s true) k false) ts
        ∙ marked_by old.touched s k (is_due c (alarm_at old.alarms.items k)) l (due_here k);
    alarms = λ k f. ap (λ l. alarm_at l.items k) new_alarms ∙ next.alarms.others k
        (λ e. let wrong : true ≡ false = sym (eq-eqb k s e) ∙ f in cc) ∙ ap (λ l. alarm_at l.items k) same_alarms;
    place = ap (λ (q : Plain). q.place) mark ∙ place_as next.rest ∙ place_as set.aside.is;
  }

  pub went_periods : Periods old → Periods new
  went_periods all k = elim (cases_eq k s) [
    | inl e ↦
        let h : IfSome (Some (p, t)) Periodic = subst (λ (o : Option (ℕ × ℕ)). IfSome o Periodic) (sym has) (all s) in
        subst (λ (o : Option (ℕ × ℕ)). IfSome o Periodic) (sym
        (ap (λ l. alarm_at l.items k) new_alarms ∙ ap (alarm_at put.alarms.items) e ∙ next.alarms.here)) (record { some = h.some; most = h.most })
    | inr ne ↦ subst (λ (o : Option (ℕ × ℕ)). IfSome o Periodic)
        (sym (ap (λ l. alarm_at l.items k) new_alarms ∙ next.alarms.others k ne ∙ ap (λ l. alarm_at l.items k) same_alarms)) (all k)
  ]

  pub went_tidy : Tidy new
  went_tidy = touched_tidy put new (slice_set put.touched s true) mark
      (alarm_tidy mid put s (Some (p, time_after c (p, t))) (ap is_some set.job.here) next
      (slot_tidy old mid s (core_at old.core s) i (with_pending i ALR) set had refl (placed_at old s (job_at old.jobs s) i refl had tidy) tidy))

pub alarm_has : (p : Plain) (s a b : ℕ) (o : Option Job) → Tidy p → Some (a, b) ≡ alarm_at p.alarms.items s → o ≡ job_at p.jobs s → o ≡ None → ⊥
alarm_has p s a b o tidy has e none = let wrong : true ≡ false = ap is_some (has ∙ tidy.quiet s (sym e ∙ none)) in cc

-- a slot that is not due
and_none : (b d : Bool) → (b ≡ true → d ≡ false) → (b && d) ≡ false
and_none true d h = h refl
and_none false d h = refl

or_no : (b d : Bool) → d ≡ false → b ≡ (b || d)
or_no true d e = refl
or_no false d e = sym e

still : (c s : ℕ) (p : Plain) (a : Option (ℕ × ℕ)) → alarm_at p.alarms.items s ≡ a → is_due c a ≡ false → RangAt c s p p
still c s p a e no_more =
    let none : (k : ℕ) → ((k == s) && is_due c (alarm_at p.alarms.items k)) ≡ false =
    λ k. and_none (k == s) (is_due c (alarm_at p.alarms.items k))
    (λ at. ap (λ n. is_due c (alarm_at p.alarms.items n)) (eqb-true k s at) ∙ ap (is_due c) e ∙ no_more) in
    record {
      jobs = λ k. sym (ap (λ (b : Bool). after_alarm_if c b ((machine_of p).jobs k)) (none k));
      rest = refl;
      touched = λ k. or_no (is_touched p k) ((k == s) && is_due c (alarm_at p.alarms.items k)) (none k);
      alarms = λ k f. refl;
      place = refl;
    }

pub still_none : (c s : ℕ) (p : Plain) → None ≡ alarm_at p.alarms.items s → RangAt c s p p
still_none c s p e = still c s p None (sym e) refl

pub still_some : (c s a b : ℕ) (p : Plain) → Some (a, b) ≡ alarm_at p.alarms.items s → c < b → RangAt c s p p
still_some c s a b p e early = still c s p (Some (a, b)) (sym e) (lt-leb b c early)

-- slot after slot
pub rang_starts : (c : ℕ) (p : Plain) → RangBelow c 0 p p
rang_starts c p = record {
  jobs = λ k. sym (ap (λ (b : Bool). after_alarm_if c (b && is_due c (alarm_at p.alarms.items k)) ((machine_of p).jobs k)) (le-ltb k 0 (omega arith)));
  rest = refl;
  touched = λ k. or_no (is_touched p k) (nat_lt k 0 && is_due c (alarm_at p.alarms.items k))
      (ap (λ (b : Bool). b && is_due c (alarm_at p.alarms.items k)) (le-ltb k 0 (omega arith)));
  alarms = λ k f. refl;
  place = refl;
}

below_not : (k n : ℕ) → nat_lt k (n + 1) ≡ false → (nat_lt k n ≡ false) × ((k == n) ≡ false)
below_not k n h = elim (cases_eq k n) [
  | inl e ↦ let wrong : true ≡ false = sym (lt-ltb k (n + 1) (omega arith)) ∙ h in absurd cc
  | inr ne ↦ (below_next k n ne ∙ h, ne_eqb k n ne)
]

or_both : (b c d : Bool) → c ≡ false → ((b || c) || d) ≡ (b || d)
or_both true c d e = refl
or_both false true d e = cc
or_both false false d e = refl

or_left : (b c d : Bool) → d ≡ false → ((b || c) || d) ≡ (b || c)
or_left true c d e = refl
or_left false true d e = refl
or_left false false d e = e

module _ (c n : ℕ) (old mid new : Plain) (a : RangBelow c n old mid) (b : RangAt c n mid new) where
  alarm_mid : (k : ℕ) → k ≡ n → alarm_at mid.alarms.items k ≡ alarm_at old.alarms.items k
  alarm_mid k e = a.alarms k (le-ltb k n (omega arith))

  pub rang_more : RangBelow c (n + 1) old new
  rang_more = record {
    jobs = λ k. elim (cases_eq k n) [
      | inl e ↦
          b.jobs k
          ∙ ap (λ (t : Bool). after_alarm_if c (t && is_due c (alarm_at mid.alarms.items k)) ((machine_of mid).jobs k)) (eq-eqb k n e)
          ∙ ap (λ (o : Option (ℕ × ℕ)). after_alarm_if c (is_due c o) ((machine_of mid).jobs k)) (alarm_mid k e)
          ∙ ap (after_alarm_if c (is_due c (alarm_at old.alarms.items k)))
          (a.jobs k ∙ ap (λ (t : Bool). after_alarm_if c (t && is_due c (alarm_at old.alarms.items k)) ((machine_of old).jobs k)) (le-ltb k n (omega arith)))
          ∙ sym (ap (λ (t : Bool). after_alarm_if c (t && is_due c (alarm_at old.alarms.items k)) ((machine_of old).jobs k)) (lt-ltb k (n + 1) (omega arith)))
      | inr ne ↦
          b.jobs k
          ∙ ap (λ (t : Bool). after_alarm_if c (t && is_due c (alarm_at mid.alarms.items k)) ((machine_of mid).jobs k)) (ne_eqb k n ne)
          ∙ a.jobs k
          ∙ ap (λ (t : Bool). after_alarm_if c (t && is_due c (alarm_at old.alarms.items k)) ((machine_of old).jobs k)) (below_next k n ne)
    ];
    rest = b.rest ∙ ap (λ (u : Machine). record u { jobs = (machine_of new).jobs }) a.rest;
    touched = λ k. b.touched k ∙ ap (λ (t : Bool). t || ((k == n) && is_due c (alarm_at mid.alarms.items k))) (a.touched k) ∙ elim (cases_eq k n) [
      | inl e ↦
          or_both (is_touched old k) (nat_lt k n && is_due c (alarm_at old.alarms.items k)) ((k == n) && is_due c (alarm_at mid.alarms.items k))
          (ap (λ (t : Bool). t && is_due c (alarm_at old.alarms.items k)) (le-ltb k n (omega arith)))
          ∙ ap (λ (t : Bool). is_touched old k || (t && is_due c (alarm_at mid.alarms.items k))) (eq-eqb k n e)
          ∙ ap (λ (o : Option (ℕ × ℕ)). is_touched old k || is_due c o) (alarm_mid k e)
          ∙ sym (ap (λ (t : Bool). is_touched old k || (t && is_due c (alarm_at old.alarms.items k))) (lt-ltb k (n + 1) (omega arith)))
      | inr ne ↦
          or_left (is_touched old k) (nat_lt k n && is_due c (alarm_at old.alarms.items k)) ((k == n) && is_due c (alarm_at mid.alarms.items k))
          (ap (λ (t : Bool). t && is_due c (alarm_at mid.alarms.items k)) (ne_eqb k n ne))
          ∙ ap (λ (t : Bool). is_touched old k || (t && is_due c (alarm_at old.alarms.items k))) (below_next k n ne)
    ];
    alarms = λ k f. let h = below_not k n f in b.alarms k h.1 ∙ a.alarms k h.0;
    place = b.place ∙ a.place;
  }

-- all of them, once the clock is the new one
module _ (old put new : Plain) (n c : ℕ) (tidy : Tidy old) (later : c ≡ old.clock + n)
    (set : put ≡ record old { clock = c; touched = no_slots }) (r : RangBelow c slots put new) where
  set_machine : machine_of put ≡ record (machine_of old) { clock = c }
  unfolding machine_of
  set_machine = ap machine_of set

  set_alarms : (k : ℕ) → alarm_at put.alarms.items k ≡ alarm_in ((machine_of old).jobs k)
  set_alarms k = ap (λ (p : Plain). alarm_at p.alarms.items k) set ∙ alarm_shown old k tidy

  rang_machine : machine_of new ≡ at_clock c (machine_of old)
  rang_machine =
      r.rest ∙ ap (λ (m : Machine). record m { jobs = (machine_of new).jobs }) set_machine
      ∙ (λ t. record (machine_of old) {
        jobs = λ k. (r.jobs k
            ∙ ap (λ (o : Option (ℕ × ℕ)). after_alarm_if c (nat_lt k slots && is_due c o) ((machine_of put).jobs k)) (set_alarms k)
            ∙ ap (λ (m : Machine). after_alarm_if c (due c (machine_of old).jobs k) (m.jobs k)) set_machine) t;
        clock = c;
      })

  clock_is : (machine_of old).clock ≡ old.clock
  unfolding machine_of
  clock_is = refl

  is_clocked : nat_lt (old.clock + n) clock_end ≡ true → after_clock (machine_of old) n ≡ Ok (at_clock c (machine_of old))
  unfolding after_clock machine_of
  is_clocked t = ap (after_clock_if (machine_of old) n) t ∙ ap (λ (x : ℕ). Ok (at_clock x (machine_of old))) (sym later)

  pub clock_done : (b : Bool) → b ≡ nat_lt (old.clock + n) clock_end → b ≡ true → Clocks old new n (after_clock (machine_of old) n)
  clock_done b is fits = record {
    is = is_clocked (sym is ∙ fits) ∙ ap Ok (sym rang_machine);
    touched = λ k.
        r.touched k
        ∙ ap (λ (t : Bool). t || (nat_lt k slots && is_due c (alarm_at put.alarms.items k))) (none_touched put.touched (ap (λ (p : Plain). p.touched) set) k)
        ∙ ap (λ (o : Option (ℕ × ℕ)). nat_lt k slots && is_due c o) (set_alarms k)
        ∙ ap (λ (x : ℕ). due x (machine_of old).jobs k) (later ∙ ap (λ (x : ℕ). x + n) (sym clock_is));
    place = r.place ∙ ap (λ (p : Plain). p.place) set;
  }

pub set_tidy : (old put : Plain) (c : ℕ) → put ≡ record old { clock = c; touched = no_slots } → c < clock_end → Tidy old → Tidy put
set_tidy old put c set below tidy = subst Tidy (sym set) (record {
  unreserved = tidy.unreserved;
  unmarked = tidy.unmarked;
  across = tidy.across;
  blank = tidy.blank;
  quiet = tidy.quiet;
  nameless = tidy.nameless;
  addressed = tidy.addressed;
  timed = below;
})

pub clock_refused : (p : Plain) (n : ℕ) (b : Bool) → b ≡ nat_lt (p.clock + n) clock_end → b ≡ false → after_clock (machine_of p) n ≡ Err reasons.Range
unfolding after_clock machine_of
clock_refused p n b is past = ap (after_clock_if (machine_of p) n) (sym is ∙ past)
