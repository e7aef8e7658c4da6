-- The step of a slot's job in user mode, by its cases.
use Rattle.std.specs.Prelude.{◌≡◌, ◌≢◌, ◌<◌, ◌^◌, ◌||◌, ℕ, Bool, true, false, Option, Some, None, is_some, List, [], option_map, slice_index_or, slice_set, refl}
use Rattle.std.proofs.Common.{ap, sym, subst, ◌∙◌, inl, inr}
use Rattle.std.proofs.lemmas.Bool.{cases_eq, both_ways, eq-eqb}
use Rattle.its_word.specs.Core.{Core}
use Rattle.its_word.specs.Limits.{slots}
use Rattle.its_records.specs.Tree.{climbs_to}
use Rattle.its_records.specs.declared.calls.Site.{Site}
use Rattle.its_records.specs.declared.jobs.Channel.TheVariants.{Closed}
use Rattle.its_records.specs.declared.jobs.Job.{Job}
use Rattle.its_core.specs.Cores.{Cores, core_at}
use Rattle.its_files.specs.Files.{Store}
use Rattle.its_jobs.specs.Table.{IsTree, Table, job_at, superior_at, superior_in}
use Rattle.its_plain.specs.Call.Step.{quiet_step, with_core_and_job, delivery, informs, informed_slots, transition, transition_of, unless_stopped, is_made}
use Rattle.its_plain.specs.Machine.Change.{effect, effects, in_job, on_slot, with_inf}
use Rattle.its_plain.specs.Call.Footprint.{among}
use Rattle.its_plain.specs.Unit.Interrupt.{Delivered, deliverable, delivered}
use Rattle.its_plain.specs.Machine.Registers.{INF, with_pending}
use Rattle.its_plain.specs.Machine.{Whole, Machine}
use Rattle.its_plain.specs.Unit.{Outcome, Called, unit}
use Rattle.its_plain.proofs.DeliveryLaws.{delivered_placed}
use Rattle.its_plain.proofs.MachineLaws.{machine_is}
use Rattle.its_plain.proofs.StepLaws.{transition_delivers, transition_unit}
use Rattle.its_shared.specs.Parts.{bare, alarm_at, chan_of}
use Rattle.its_shared.proofs.BareLaws.{bare_delivered, bare_outcome, deliverable_bare, delivered_bare, delivered_channels, unit_bare}
use Rattle.its_shared.proofs.PartLaws.{raw_job, raw_some, raw_none, on_slot_here, on_slot_other}
use Rattle.its_direct.specs.Plain.{machine_of, is_touched, no_slots, Tidy, SlotBecomes, CoreBecomes, JobBecomes}
use Rattle.its_direct.specs.Steps.{CallsAt, SteppedBy}
pub use Rattle.its_direct.specs.Steps.{own_of}
use Rattle.its_direct.specs.declared.plain.Plain.{Plain}
use Rattle.its_direct.proofs.SlotLaws.{placed_at, put_then, slot_machine, slot_tidy, touched_machine, touched_tidy}
use Rattle.its_direct.proofs.TouchLaws.{none_touched, one_touched, or_none, slot_some, step_touched}
use Rattle.its_direct.proofs.ContentsLaws.{place_as}

pub own_is : (p : Plain) (s : ℕ) (j : Job) → job_at p.jobs s ≡ Some j → (machine_of p).jobs s ≡ Some (own_of p s j)
unfolding machine_of
own_is p s j h = raw_some p.files p.core p.jobs p.alarms.items s j h

pub nobody_is : (p : Plain) (s : ℕ) → job_at p.jobs s ≡ None → (machine_of p).jobs s ≡ None
unfolding machine_of
nobody_is p s h = raw_none p.files p.core p.jobs p.alarms.items s h

-- there is no step
pub absent : (p : Plain) (s : ℕ) (o : Option Job) → o ≡ job_at p.jobs s → o ≡ None → transition (machine_of p) s ≡ None
unfolding transition
absent p s o is none = ap (transition_of (machine_of p) s) (nobody_is p s (sym is ∙ none))

pub stopped : (p : Plain) (s : ℕ) (o : Option Job) (j : Job) → o ≡ job_at p.jobs s → o ≡ Some j → j.stopped ≡ true → transition (machine_of p) s ≡ None
unfolding transition
stopped p s o j is some h = ap (transition_of (machine_of p) s) (own_is p s j (sym is ∙ some)) ∙ ap (unless_stopped (machine_of p) s (own_of p s j)) h

-- what a job is that was left with this core and these registers
pub becomes_raw : (s : Store) (c d : Core) (superior : Option ℕ) (a : Option (ℕ × ℕ)) (i k : Job) → k.channels ≡ i.channels
    → with_core_and_job d (bare k) (raw_job s c i superior a) ≡ raw_job s d k superior a
becomes_raw s c d superior a i k h = λ t. record {
  core = d;
  job = bare k;
  superior = superior;
  channels = λ n. chan_of s (slice_index_or (sym h t) n Closed);
  alarm = a;
}

-- a step of one job alone
pub stepped_alone : (old put new : Plain) (s : ℕ) (c : Core) (i k : Job) (f : Whole → Whole) → SlotBecomes old put s c (Some k) → job_at old.jobs s ≡ Some i
    → f (own_of old s i) ≡ raw_job old.files c k (superior_at old.jobs s) (alarm_at old.alarms.items s)
    → transition (machine_of old) s ≡ Some (quiet_step (in_job (machine_of old) s f)) → new ≡ record put { touched = no_slots }
    → SteppedBy old new (transition (machine_of old) s)
stepped_alone old put new s c i k f b had is row e = record {
  transition = quiet_step (in_job (machine_of old) s f);
  is = row;
  steps = record {
    machine = touched_machine put new no_slots e ∙ slot_machine old put s c i k f b had is;
    touched = step_touched new.touched (machine_of old) (in_job (machine_of old) s f) []
        (none_touched new.touched (ap (λ (p : Plain). p.touched) e)) (slot_some (machine_of old).jobs s f);
    place = ap (λ (p : Plain). p.place) e ∙ place_as b.aside.is;
  };
}

-- bits that are set leave PC
pc_kept : (n : ℕ) (i k : Job) → k ≡ with_pending i n → i.pc < 2 ^ 18 → k.pc < 2 ^ 18
pc_kept n i k is h = subst (λ (j : Job). j.pc < 2 ^ 18) (sym is) h

-- a unit
pub unit_is : (p : Plain) (s : ℕ) (i : Job) (o : Outcome) → unit (core_at p.core s) i ≡ o → unit (own_of p s i).core (own_of p s i).job ≡ bare_outcome o
unit_is p s i o u = unit_bare (core_at p.core s) i ∙ ap bare_outcome u

pub quiet_is : (p : Plain) (s : ℕ) (i : Job) (b : Bool) → deliverable i ≡ b → deliverable (own_of p s i).job ≡ b
quiet_is p s i b h = deliverable_bare i ∙ h

pub calls_at : (p : Plain) (c : Cores) (s : ℕ) (i : Job) (x : Site) → job_at p.jobs s ≡ Some i → i.stopped ≡ false → deliverable i ≡ false → c ≡ p.core
    → unit (core_at c s) i ≡ Called x → CallsAt (machine_of p) s x (transition (machine_of p) s)
calls_at p c s i x had runs quiet same u = record {
  own = own_of p s i;
  had = own_is p s i had;
  unit = unit_is p s i (Called x) (ap (λ (k : Cores). unit (core_at k s) i) (sym same) ∙ u);
  is = transition_unit (machine_of p) s (own_of p s i) (Called x) (own_is p s i had) runs (quiet_is p s i false quiet)
      (unit_is p s i (Called x) (ap (λ (k : Cores). unit (core_at k s) i) (sym same) ∙ u));
}

-- a delivery: the machine after it, before a superior gets its report
module _ (old mid put new : Plain) (s : ℕ) (i k : Job) (had : job_at old.jobs s ≡ Some i) (a : CoreBecomes old mid s (delivered (core_at old.core s) i).core)
    (b : JobBecomes mid put s k) (is : k ≡ (delivered (core_at old.core s) i).job) (e : new ≡ record put { touched = no_slots }) where
  abbrev came : Delivered
  came = delivered (core_at old.core s) i

  written : SlotBecomes old put s came.core (Some came.job)
  written = subst (λ (j : Job). SlotBecomes old put s came.core (Some j)) is (put_then old mid put s came.core k a b)

  pub delivery_machine : machine_of new ≡ in_job (machine_of old) s (with_core_and_job came.core (bare came.job))
  delivery_machine = touched_machine put new no_slots e ∙ slot_machine old put s came.core i came.job
      (with_core_and_job came.core (bare came.job)) written had
      (becomes_raw old.files (core_at old.core s) came.core (superior_at old.jobs s) (alarm_at old.alarms.items s) i came.job
      (delivered_channels (core_at old.core s) i))

  pub delivery_tidy : Tidy old → Tidy new
  delivery_tidy tidy = touched_tidy put new no_slots e (slot_tidy old put s came.core i came.job written had
      (delivered_channels (core_at old.core s) i) (delivered_placed (core_at old.core s) i (placed_at old s (job_at old.jobs s) i refl had tidy)) tidy)

  pub delivery_superior : superior_at new.jobs s ≡ superior_at old.jobs s
  delivery_superior = ap (λ (p : Plain). superior_at p.jobs s) e ∙ ap (λ (us : List (Option ℕ)). slice_index_or us s None) written.superiors

  pub delivery_place : new.place ≡ old.place
  delivery_place = ap (λ (p : Plain). p.place) e ∙ place_as written.aside.is

-- the step that it is
module _ (old new : Plain) (s : ℕ) (i : Job) (had : job_at old.jobs s ≡ Some i) (runs : i.stopped ≡ false) (due : deliverable i ≡ true) where
  abbrev made : Delivered
  made = delivered (core_at old.core s) i

  abbrev told : Bool → Machine
  told b = in_job (effects (informs b (superior_at old.jobs s)) s (machine_of old)) s (with_core_and_job made.core (bare made.job))

  delivers : transition (machine_of old) s ≡ Some (delivery (machine_of old) s (own_of old s i) (bare_delivered made))
  delivers = transition_delivers (machine_of old) s (own_of old s i) (own_is old s i had) runs (quiet_is old s i true due)
      ∙ ap (λ (d : Delivered). Some (delivery (machine_of old) s (own_of old s i) d)) (delivered_bare (core_at old.core s) i)

  informs_some : (b : Bool) (o : Option ℕ) (k : ℕ) → is_some ((effects (informs b o) s (machine_of old)).jobs k) ≡ is_some ((machine_of old).jobs k)
  unfolding effect
  informs_some true (Some u) k = slot_some (machine_of old).jobs u with_inf k
  informs_some true None k = refl
  informs_some false o k = refl

  told_some : (b : Bool) (k : ℕ) → is_some ((told b).jobs k) ≡ is_some ((machine_of old).jobs k)
  told_some b k = slot_some (effects (informs b (superior_at old.jobs s)) s (machine_of old)).jobs s
      (with_core_and_job made.core (bare made.job)) k ∙ informs_some b (superior_at old.jobs s) k

  pub delivery_step : (b : Bool) → made.stops ≡ b → machine_of new ≡ told b
      → ((k : ℕ) → is_touched new k ≡ among k (informed_slots b (superior_at old.jobs s))) → new.place ≡ old.place
      → SteppedBy old new (transition (machine_of old) s)
  delivery_step b stops machine touched place = record {
    transition = delivery (machine_of old) s (own_of old s i) (bare_delivered made);
    is = delivers;
    steps = record {
      machine = machine ∙ ap told (sym stops);
      touched = λ k. touched k ∙ ap (λ (x : Bool). among k (informed_slots x (superior_at old.jobs s))) (sym stops)
          ∙ step_touched_made k;
      place = place;
    };
  }
    where
      step_touched_made : (k : ℕ) → among k (informed_slots made.stops (superior_at old.jobs s)) ≡
          (among k (informed_slots made.stops (superior_at old.jobs s)) || is_made (machine_of old) (told made.stops) k)
      step_touched_made k = or_none (among k (informed_slots made.stops (superior_at old.jobs s))) (machine_of old) (told made.stops) k
          (told_some made.stops k)

-- a superior is another job
pub superior_apart : (t : Table) (s : ℕ) → IsTree t.jobs t.superiors → superior_at t s ≢ Some s
unfolding climbs_to
superior_apart t s tree e =
    both_ways (climbs_to (superior_in t.superiors) s slots (Some s))
    (ap (climbs_to (superior_in t.superiors) s slots) (sym e) ∙ tree.circle s) (rw (eq-eqb s s refl) refl)

-- the report to the superior, and what the job itself becomes, in either order
told_apart : (m : Machine) (s u : ℕ) (f : Whole → Whole) → u ≢ s → in_job (in_job m s f) u with_inf ≡ in_job (in_job m u with_inf) s f
told_apart m s u f ne = machine_is _ _ (λ k. elim (cases_eq k s) [
  | inl e ↦ at_own k e
  | inr apart ↦ elim (cases_eq k u) [
    | inl e ↦ at_superior k e apart
    | inr other ↦
        on_slot_other (on_slot m.jobs s f) u k with_inf other ∙ on_slot_other m.jobs s k f apart
        ∙ sym (on_slot_other (on_slot m.jobs u with_inf) s k f apart ∙ on_slot_other m.jobs u k with_inf other)
  ]
]) (λ k. refl) (λ k. refl) refl refl refl (λ k. refl) (λ k. refl)
  where
    at_own : (k : ℕ) → k ≡ s → on_slot (on_slot m.jobs s f) u with_inf k ≡ on_slot (on_slot m.jobs u with_inf) s f k
    at_own k e =
        ap (on_slot (on_slot m.jobs s f) u with_inf) e ∙ on_slot_other (on_slot m.jobs s f) u s with_inf (λ h. ne (sym h)) ∙ on_slot_here m.jobs s f
        ∙ sym (ap (on_slot (on_slot m.jobs u with_inf) s f) e ∙ on_slot_here (on_slot m.jobs u with_inf) s f
        ∙ ap (option_map f) (on_slot_other m.jobs u s with_inf (λ h. ne (sym h))))

    at_superior : (k : ℕ) → k ≡ u → k ≢ s → on_slot (on_slot m.jobs s f) u with_inf k ≡ on_slot (on_slot m.jobs u with_inf) s f k
    at_superior k e apart =
        ap (on_slot (on_slot m.jobs s f) u with_inf) e ∙ on_slot_here (on_slot m.jobs s f) u with_inf
        ∙ ap (option_map with_inf) (on_slot_other m.jobs s u f ne)
        ∙ sym (ap (on_slot (on_slot m.jobs u with_inf) s f) e ∙ on_slot_other (on_slot m.jobs u with_inf) s u f ne ∙ on_slot_here m.jobs u with_inf)

pub told_either : (m : Machine) (s : ℕ) (o : Option ℕ) (f : Whole → Whole) → o ≢ Some s
    → effects (informs true o) s (in_job m s f) ≡ in_job (effects (informs true o) s m) s f
unfolding effect
told_either m s (Some u) f ne = told_apart m s u f (λ e. ne (ap Some e))
told_either m s None f ne = refl

-- INF is set in a job
pub inform_row : (old put new : Plain) (s : ℕ) (i k : Job) (ts : List Bool) → job_at old.jobs s ≡ Some i → k ≡ with_pending i INF
    → JobBecomes old put s k → new ≡ record put { touched = ts }
    → machine_of new ≡ in_job (machine_of old) s with_inf
inform_row old put new s i k ts had is b e =
    touched_machine put new ts e
    ∙ slot_machine old put s (core_at old.core s) i k with_inf b had
    (ap (λ (j : Job). raw_job old.files (core_at old.core s) j (superior_at old.jobs s) (alarm_at old.alarms.items s)) (sym is))

pub inform_tidy : (old put new : Plain) (s : ℕ) (i k : Job) (ts : List Bool) → job_at old.jobs s ≡ Some i → k ≡ with_pending i INF
    → JobBecomes old put s k → new ≡ record put { touched = ts }
    → Tidy old → Tidy new
inform_tidy old put new s i k ts had is b e tidy = touched_tidy put new ts e
    (slot_tidy old put s (core_at old.core s) i k b had (ap (λ (j : Job). j.channels) is)
    (pc_kept _ i k is (placed_at old s (job_at old.jobs s) i refl had tidy)) tidy)

pub told_row : (m n : Machine) (j s : ℕ) (o : Option ℕ) → Some s ≡ o → n ≡ in_job m s with_inf → n ≡ effects (informs true o) j m
unfolding effect
told_row m n j s o e h = h ∙ ap (λ (x : Option ℕ). effects (informs true x) j m) e

pub told_touched : (new old : List Bool) (s : ℕ) (o : Option ℕ) → Some s ≡ o → s < slots → new ≡ slice_set old s true → old ≡ no_slots
    → (k : ℕ) → slice_index_or new k false ≡ among k (informed_slots true o)
told_touched new old s o e l h none k = one_touched new old s l h none k ∙ ap (λ (x : Option ℕ). among k (informed_slots true x)) e

pub untold_touched : (old : List Bool) (o : Option ℕ) → None ≡ o → old ≡ no_slots → (k : ℕ) → slice_index_or old k false ≡ among k (informed_slots true o)
untold_touched old o e none k = none_touched old none k ∙ ap (λ (x : Option ℕ). among k (informed_slots true x)) e

pub still_touched : (old : List Bool) (o : Option ℕ) → old ≡ no_slots → (k : ℕ) → slice_index_or old k false ≡ among k (informed_slots false o)
still_touched old o none k = none_touched old none k

pub told_machine : (old mid new : Plain) (s : ℕ) (f : Whole → Whole) → superior_at mid.jobs s ≡ superior_at old.jobs s → superior_at old.jobs s ≢ Some s
    → machine_of mid ≡ in_job (machine_of old) s f → machine_of new ≡ effects (informs true (superior_at mid.jobs s)) s (machine_of mid)
    → machine_of new ≡ in_job (effects (informs true (superior_at old.jobs s)) s (machine_of old)) s f
told_machine old mid new s f up apart put told =
    told ∙ ap (λ (o : Option ℕ). effects (informs true o) s (machine_of mid)) up ∙ ap (effects (informs true (superior_at old.jobs s)) s) put
    ∙ told_either (machine_of old) s (superior_at old.jobs s) f apart

pub told_slots : {o p : Option ℕ} (k : ℕ) → o ≡ p → among k (informed_slots true o) ≡ among k (informed_slots true p)
told_slots k e = ap (λ (x : Option ℕ). among k (informed_slots true x)) e
