-- Units of a slot's job, one after another, are so many steps of its machine.
use Rattle.std.specs.Prelude.{◌≡◌, ◌≢◌, ◌<◌, ◌≤◌, ◌^◌, is_some, ℕ, zero, suc, Bool, true, false, Option, Some, None, option_map, refl, not, ◌&&◌}
use Rattle.std.proofs.Common.{arith, ap, sym, subst, ◌∙◌, inl, inr}
use Rattle.std.proofs.lemmas.Bool.{cases_eq, and_right}
use Rattle.its_word.specs.Core.{Core}
use Rattle.its_records.specs.declared.jobs.Job.{Job}
use Rattle.its_plain.specs.Call.Step.{quiet_step, with_core_and_job, with_fault, step, transition}
use Rattle.its_plain.specs.Machine.Change.{in_job, on_slot}
use Rattle.its_plain.specs.Unit.Interrupt.{deliverable}
use Rattle.its_plain.specs.Machine.Registers.{bit_of, with_pending}
use Rattle.its_plain.specs.Machine.{Whole, Machine}
use Rattle.its_plain.specs.Unit.{Outcome, Changed, Faulted, Called, unit}
use Rattle.its_plain.proofs.MachineLaws.{machine_is}
use Rattle.its_plain.proofs.StepLaws.{step_by, transition_unit}
use Rattle.its_plain.proofs.UnitLaws.{unit_keeps}
use Rattle.its_shared.specs.Parts.{bare}
use Rattle.its_shared.proofs.BareLaws.{bare_outcome, deliverable_bare, unit_bare}
use Rattle.its_shared.proofs.PartLaws.{on_slot_here, on_slot_other}
use Rattle.pdp_exec.proofs.SeriesLaws.{no_units, units_keep}
use Rattle.pdp_exec.specs.Units.{Left, after_outcome, after_unit, after_units, left, unit_unless}
use Rattle.its_core.specs.Cores.{core_at}
use Rattle.its_jobs.specs.Table.{job_at, superior_at}
use Rattle.its_shared.specs.Parts.{alarm_at}
use Rattle.its_direct.specs.Plain.{machine_of, is_touched, no_slots, Tidy, SlotBecomes, CoreBecomes, JobBecomes}
use Rattle.its_direct.specs.Events.{Kept, SpotFits}
use Rattle.its_direct.specs.Series.{Series, is_due, unit_due}
use Rattle.its_direct.specs.Steps.{SteppedBy}
use Rattle.pdp_exec.specs.Answer.{IsCalled}
use Rattle.its_stepped.specs.Alarmed.{Alarmed}
use Rattle.its_stepped.specs.Consoled.{Consoled}
use Rattle.its_stepped.specs.Forest.{Forest}
use Rattle.its_direct.specs.declared.plain.Plain.{Plain}
use Rattle.its_direct.specs.declared.plain.Spot.TheVariants as spots
use Rattle.its_stepped.proofs.Duties.FitLaws.{forest_steps}
use Rattle.its_stepped.proofs.Keeping.AlarmLaws.{step_alarmed}
use Rattle.its_stepped.proofs.Keeping.ConsoledLaws.{step_consoled}
use Rattle.its_direct.proofs.ActLaws.{twice}
use Rattle.its_direct.proofs.SlotLaws.{put_then, slot_machine, slot_tidy, touched_machine, touched_tidy}
use Rattle.its_direct.proofs.TouchLaws.{or_none, slot_some}
use Rattle.its_direct.proofs.UserLaws.{becomes_raw, nobody_is, own_is, own_of}
use Rattle.its_direct.proofs.ContentsLaws.{place_as}

-- what is left of a job
abbrev pub with_left : Left → Whole → Whole
with_left l = with_core_and_job l.core (bare l.job)

-- the job of slot j has this core and these registers, and it runs
pub record Runs (m : Machine) (j : ℕ) (q : Whole) (l : Left) : Type 0 where
  pub had : m.jobs j ≡ Some q
  pub core : q.core ≡ l.core
  pub job : q.job ≡ bare l.job
  pub going : l.job.stopped ≡ false

-- nothing is written if the value is the one that is there
written_same : (m : Machine) (j : ℕ) (q : Whole) (f : Whole → Whole) → m.jobs j ≡ Some q → f q ≡ q → in_job m j f ≡ m
written_same m j q f had e = machine_is _ _ (λ k. elim (cases_eq k j) [
  | inl h ↦ ap (on_slot m.jobs j f) h ∙ on_slot_here m.jobs j f ∙ ap (option_map f) had ∙ ap Some e ∙ sym (ap m.jobs h ∙ had)
  | inr ne ↦ on_slot_other m.jobs j k f ne
]) (λ k. refl) (λ k. refl) refl refl refl (λ k. refl) (λ k. refl)

-- two ways to write the same
written_alike : (m : Machine) (j : ℕ) (q : Whole) (f g : Whole → Whole) → m.jobs j ≡ Some q → f q ≡ g q → in_job m j f ≡ in_job m j g
written_alike m j q f g had e = machine_is _ _ (λ k. elim (cases_eq k j) [
  | inl h ↦
      ap (on_slot m.jobs j f) h ∙ on_slot_here m.jobs j f ∙ ap (option_map f) had ∙ ap Some e
      ∙ sym (ap (on_slot m.jobs j g) h ∙ on_slot_here m.jobs j g ∙ ap (option_map g) had)
  | inr ne ↦ on_slot_other m.jobs j k f ne ∙ sym (on_slot_other m.jobs j k g ne)
]) (λ k. refl) (λ k. refl) refl refl refl (λ k. refl) (λ k. refl)

own_here : (m : Machine) (j : ℕ) (q : Whole) (l : Left) → Runs m j q l → with_left l q ≡ q
own_here m j q l r = λ t. record q { core = sym r.core t; job = sym r.job t }

-- one unit of it
record OneMore (m : Machine) (j : ℕ) (k : Left) : Type 0 where
  is : transition m j ≡ Some (quiet_step (in_job m j (with_left k)))
  going : k.job.stopped ≡ false

module _ (m : Machine) (j : ℕ) (q : Whole) (l : Left) (r : Runs m j q l) (quiet : deliverable l.job ≡ false) where
  unit_here : (o : Outcome) → unit l.core l.job ≡ o → unit q.core q.job ≡ bare_outcome o
  unit_here o u = ap (λ (c : Core). unit c q.job) r.core ∙ ap (unit l.core) r.job ∙ unit_bare l.core l.job ∙ ap bare_outcome u

  quiet_here : deliverable q.job ≡ false
  quiet_here = ap deliverable r.job ∙ deliverable_bare l.job ∙ quiet

  runs_here : q.job.stopped ≡ false
  runs_here = ap (λ (i : Job). i.stopped) r.job ∙ r.going

  outcome_more : (o : Outcome) (k : Left) → unit l.core l.job ≡ o → after_outcome o l.core l.job ≡ Some k → OneMore m j k
  outcome_more (Changed c i) k u e =
      let is : left c i ≡ k = cc in
      subst (OneMore m j) is (record {
        is = transition_unit m j q (bare_outcome (Changed c i)) r.had runs_here quiet_here (unit_here (Changed c i) u);
        going = (unit_keeps l.core l.job c i u).registers.stopped ∙ r.going;
      })
  outcome_more (Faulted f) k u e =
      let is : left l.core (with_pending l.job (bit_of f)) ≡ k = cc in
      subst (OneMore m j) is (record {
        is =
            transition_unit m j q (bare_outcome (Faulted f)) r.had runs_here quiet_here (unit_here (Faulted f) u)
            ∙ ap (λ n. Some (quiet_step n)) (written_alike m j q (with_fault f) (with_left (left l.core (with_pending l.job (bit_of f))))
            r.had (fault_here f));
        going = r.going;
      })
    where
      fault_here : (f : Rattle.its_word.specs.declared.access.Fault.Fault) → with_fault f q ≡ with_left (left l.core (with_pending l.job (bit_of f))) q
      fault_here f = λ t. record q { core = r.core t; job = with_pending (r.job t) (bit_of f) }
  outcome_more (Called s) k u e = absurd cc

unless_more : (m : Machine) (j : ℕ) (q : Whole) (l k : Left) (b : Bool) → Runs m j q l → deliverable l.job ≡ b → unit_unless b l ≡ Some k → OneMore m j k
unless_more m j q l k true r d e = absurd cc
unless_more m j q l k false r d e = outcome_more m j q l r d (unit l.core l.job) k refl e

runs_on : (m : Machine) (j : ℕ) (q : Whole) (l k : Left) → Runs m j q l → k.job.stopped ≡ false → Runs (in_job m j (with_left k)) j (with_left k q) k
runs_on m j q l k r going = record {
  had = on_slot_here m.jobs j (with_left k) ∙ ap (option_map (with_left k)) r.had;
  core = refl;
  job = refl;
  going = going;
}

then_series : (n : ℕ) (m : Machine) (j : ℕ) (q : Whole) (l r : Left) → Runs m j q l
    → ((p : Machine) (w : Whole) (k : Left) → Runs p j w k → after_units n (Some k) ≡ Some r → Series n p j (in_job p j (with_left r)))
    → (o : Option Left) → after_unit (Some l) ≡ o → after_units n o ≡ Some r → Series (suc n) m j (in_job m j (with_left r))
then_series n m j q l r runs rest (Some k) is e =
    let one = unless_more m j q l k (deliverable l.job) runs refl is in
    let p = in_job m j (with_left k) in
    let more = rest p (with_left k q) k (runs_on m j q l k runs one.going) e in
    (p, one.is, slot_some m.jobs j (with_left k), subst (Series n p j) (twice m j (with_left k) (with_left r)) more)
then_series n m j q l r runs rest None is e = let z = no_units n in absurd cc

pub units_series : (n : ℕ) (m : Machine) (j : ℕ) (q : Whole) (l r : Left) → Runs m j q l → after_units n (Some l) ≡ Some r
    → Series n m j (in_job m j (with_left r))
units_series zero m j q l r runs e =
    let is : l ≡ r = cc in
    subst (λ (k : Left). in_job m j (with_left k) ≡ m) is (written_same m j q (with_left l) runs.had (own_here m j q l runs))
units_series (suc n) m j q l r runs e = then_series n m j q l r runs (λ p w k h u. units_series n p j w k r h u) (after_unit (Some l)) refl e

-- the units of a slot's job are made, on its core and its registers
module _ (old mid put new : Plain) (s n : ℕ) (i k : Job) (c : Core) (had : job_at old.jobs s ≡ Some i) (running : i.stopped ≡ false)
    (a : CoreBecomes old mid s c)
    (b : JobBecomes mid put s k) (e : new ≡ record put { touched = no_slots })
    (units : after_units n (Some (left (core_at old.core s) i)) ≡ Some (left c k)) where
  both : SlotBecomes old put s c (Some k)
  both = put_then old mid put s c k a b

  channels_kept : k.channels ≡ i.channels
  channels_kept = (units_keep n (left (core_at old.core s) i) (left c k) units).channels

  pub series_machine : machine_of new ≡ in_job (machine_of old) s (with_left (left c k))
  series_machine = touched_machine put new no_slots e
      ∙ slot_machine old put s c i k (with_left (left c k)) both had
      (becomes_raw old.files (core_at old.core s) c (superior_at old.jobs s) (alarm_at old.alarms.items s) i k channels_kept)

  pub series_made : Series n (machine_of old) s (machine_of new)
  series_made = subst (Series n (machine_of old) s) (sym series_machine)
      (units_series n (machine_of old) s (own_of old s i) (left (core_at old.core s) i) (left c k)
      (record { had = own_is old s i had; core = refl; job = refl; going = running }) units)

  pub series_tidy : k.pc < 2 ^ 18 → Tidy old → Tidy new
  series_tidy placed tidy = touched_tidy put new no_slots e (slot_tidy old put s c i k both had channels_kept placed tidy)

  pub series_jobs : (x : ℕ) → is_some ((machine_of new).jobs x) ≡ is_some ((machine_of old).jobs x)
  series_jobs x = ap (λ (m : Machine). is_some (m.jobs x)) series_machine ∙ slot_some (machine_of old).jobs s (with_left (left c k)) x

  pub series_place : new.place ≡ old.place
  series_place = ap (λ (p : Plain). p.place) e ∙ place_as both.aside.is

-- one of them is the step of the job
pub one_stepped : (old new : Plain) (s n : ℕ) → Series n (machine_of old) s (machine_of new) → n ≡ 1
    → ((k : ℕ) → is_some ((machine_of new).jobs k) ≡ is_some ((machine_of old).jobs k))
    → (n ≢ 0 → (k : ℕ) → is_touched new k ≡ false) → new.place ≡ old.place → SteppedBy old new (transition (machine_of old) s)
one_stepped old new s n made one jobs touched place =
    let h : Series 1 (machine_of old) s (machine_of new) = subst (λ k. Series k (machine_of old) s (machine_of new)) one made in
    record {
      transition = quiet_step h.0;
      is = h.1;
      steps = record {
        machine = h.3;
        touched = λ k. touched (λ z. let w : 1 ≡ 0 = sym one ∙ z in absurd cc) k ∙ or_none false (machine_of old) h.0 k (h.2 k);
        place = place;
      };
    }

pub none_made : (n : ℕ) → n ≤ 1 → n ≢ 1 → n ≡ 0
none_made n few ne = omega (arith, few, ne)

-- if none is made, the unit is a call
outcome_called : (o : Outcome) (c : Core) (i : Job) → after_outcome o c i ≡ None → IsCalled o
outcome_called (Changed d k) c i e = absurd cc
outcome_called (Faulted f) c i e = absurd cc
outcome_called (Called x) c i e = tt

pub none_called : (c : Core) (i : Job) → after_unit (Some (left c i)) ≡ None → deliverable i ≡ false → IsCalled (unit c i)
none_called c i e quiet = outcome_called (unit c i) c i (sym (ap (λ b. unit_unless b (left c i)) quiet) ∙ e)

-- what holds of a machine between two steps
record Holds (m : Machine) : Type 0 where
  forest : Forest m
  alarmed : Alarmed m
  consoled : Consoled m

holds_on : (m n : Machine) (j : ℕ) → Holds m → step m j ≡ Some n → Holds n
holds_on m n j h e = record {
  forest = forest_steps m n j h.forest e;
  alarmed = step_alarmed m n j h.forest h.alarmed e;
  consoled = step_consoled m n j h.consoled e;
}

holds_after : (j k : ℕ) (m o : Machine) → Series k m j o → Holds m → Holds o
holds_after j zero m o e h = subst Holds (sym e) h
holds_after j (suc k) m o s h = holds_after j k s.0 o s.3 (holds_on m s.0 j h (step_by m j (Some (quiet_step s.0)) s.1))

pub series_kept : (old new : Plain) (s k : ℕ) → old.place ≡ spots.Plain → Kept old → Series k (machine_of old) s (machine_of new)
    → new.place ≡ old.place → Tidy new → Kept new
series_kept old new s k outside kept made place tidy =
    let h = holds_after s k (machine_of old) (machine_of new) made (record { forest = kept.forest; alarmed = kept.alarmed; consoled = kept.consoled }) in
    record {
      tidy = tidy;
      forest = h.forest;
      alarmed = h.alarmed;
      consoled = h.consoled;
      placed = subst (SpotFits (machine_of new)) (sym (place ∙ outside)) tt;
    }

-- if no other unit can be made, none is due
outcome_none : (o : Outcome) (c : Core) (i : Job) → after_outcome o c i ≡ None → after_outcome (bare_outcome o) c (bare i) ≡ None
outcome_none (Changed d k) c i e = absurd cc
outcome_none (Faulted f) c i e = absurd cc
outcome_none (Called x) c i e = refl

none_bare : (b : Bool) (c : Core) (i : Job) → deliverable i ≡ b → unit_unless b (left c i) ≡ None → after_unit (Some (left c (bare i))) ≡ None
none_bare true c i d e = ap (λ b. unit_unless b (left c (bare i))) (deliverable_bare i ∙ d)
none_bare false c i d e =
    ap (λ b. unit_unless b (left c (bare i))) (deliverable_bare i ∙ d) ∙ ap (λ o. after_outcome o c (bare i)) (unit_bare c i) ∙ outcome_none (unit c i) c i e

due_none : (q : Whole) → after_unit (Some (left q.core q.job)) ≡ None → is_due (Some q) ≡ false
due_none q e = ap (λ o. not q.job.stopped && is_some o) e ∙ and_right (not q.job.stopped) false refl

pub due_spent : (p : Plain) (s : ℕ) (i : Job) → job_at p.jobs s ≡ Some i → after_unit (Some (left (core_at p.core s) i)) ≡ None
    → unit_due (machine_of p) s ≡ false
unfolding unit_due
due_spent p s i had none = ap is_due (own_is p s i had) ∙ due_none (own_of p s i) (none_bare (deliverable i) (core_at p.core s) i refl none)

pub due_absent : (p : Plain) (s : ℕ) (o : Option Job) → o ≡ job_at p.jobs s → o ≡ None → unit_due (machine_of p) s ≡ false
unfolding unit_due
due_absent p s o is none = ap is_due (nobody_is p s (sym is ∙ none))

pub due_stopped : (p : Plain) (s : ℕ) (i : Job) (o : Option Job) → o ≡ job_at p.jobs s → o ≡ Some i → i.stopped ≡ true → unit_due (machine_of p) s ≡ false
unfolding unit_due
due_stopped p s i o is some stopped = ap is_due (own_is p s i (sym is ∙ some))
    ∙ ap (λ b. not b && is_some (after_unit (Some (left (core_at p.core s) (bare i))))) stopped

-- the core and the registers that the units leave
pub due_left : (old mid put new : Plain) (s : ℕ) (k : Job) (c : Core) → CoreBecomes old mid s c → JobBecomes mid put s k
    → new ≡ record put { touched = no_slots } → after_unit (Some (left c k)) ≡ None → unit_due (machine_of new) s ≡ false
due_left old mid put new s k c a b e none =
    ap (λ m. unit_due m s) (touched_machine put new no_slots e)
    ∙ due_spent put s k b.job.here (ap (λ (d : Core). after_unit (Some (left d k))) (b.core.here ∙ a.core.here) ∙ none)
