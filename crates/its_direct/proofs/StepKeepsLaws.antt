-- No slot loses its job by a step, except the slot that takes the step and those that the step
-- disturbs.
use Rattle.std.specs.Prelude.{if◌then◌else◌, ◌==◌, ◌≡◌, ◌≢◌, ◌⊎◌, ℕ, Bool, true, false, Option, Some, None, is_some, List, [], ◌∷◌, Result, Ok, Err, refl}
use Rattle.std.proofs.Common.{sym, ◌∙◌, ap, subst, inl, inr}
use Rattle.std.proofs.lemmas.Bool.{cases_Bool, cases_eq}
use Rattle.its_word.specs.declared.access.Fault.{Fault}
use Rattle.its_records.specs.declared.calls.Ask.{Ask}
use Rattle.its_records.specs.declared.calls.Site.{Site}
use Rattle.its_frame.specs.declared.change.Change.{Change}
use Rattle.its_frame.specs.declared.change.Change.TheVariants as changes
use Rattle.its_frame.specs.declared.decision.Decision.{Decision}
use Rattle.its_frame.specs.declared.decision.Decision.TheVariants.{Waits, Goes, Ends, Gone}
use Rattle.its_frame.specs.declared.frame.Frame.{Frame}
use Rattle.its_plain.specs.Call.Decode.{ask}
use Rattle.its_plain.specs.Call.Step.{Transition, acted, among, with_core_and_job, by_ask, by_delivery, by_unit, decision, after_end, with_fault, informs, after_moves, transition, transition_of, unless_stopped}
use Rattle.its_plain.specs.Machine.Change.{effect, effects, is_gone, after_removal, superiors}
use Rattle.its_plain.specs.Call.Decide.{reach}
use Rattle.its_plain.specs.Call.Footprint.{Stands}
use Rattle.its_plain.specs.Unit.Interrupt.{deliverable, delivered}
use Rattle.its_plain.specs.Machine.{Machine, Whole}
use Rattle.its_plain.specs.Machine.Own.{after_leave}
use Rattle.its_plain.specs.Unit.{Called, Changed, Faulted, Outcome, unit}
use Rattle.its_plain.proofs.StepLaws.{AllOf}
use Rattle.its_stepped.specs.Commit.{effect_on, effects_on}
use Rattle.its_stepped.specs.Duty.{Duty}
use Rattle.its_stepped.specs.Forest.{Forest}
use Rattle.its_stepped.specs.Quiet.{AllQuiet, IsStill, Quiet}
use Rattle.its_stepped.specs.State.{State, entered}
use Rattle.its_stepped.specs.Tick.{reserves}
use Rattle.its_stepped.proofs.Frame.DecodingLaws.{decoding}
use Rattle.its_stepped.proofs.Keeping.ForestLaws.{left_some}
use Rattle.its_stepped.proofs.Duties.GivenLaws.{decision_duty}
use Rattle.its_direct.proofs.CallingLaws.{all_alike, beginning, calling, page_for}
use Rattle.its_direct.proofs.TouchLaws.{slot_some}

-- a call does its duty wherever other jobs are in calls, except for those that it reaches. Here all
-- the others are: so it removes none of them
abbrev crowd_by : Site → Bool → Option Whole → Option Frame
crowd_by s false (Some q) = Some (entered s)
crowd_by s false None = None
crowd_by s true o = None

abbrev crowd : Machine → List ℕ → Site → ℕ → Option Frame
crowd m ks s k = crowd_by s (among k ks) (m.jobs k)

crowd_none : (s : Site) (b : Bool) (o : Option Whole) → o ≡ None → crowd_by s b o ≡ None
crowd_none s true o e = refl
crowd_none s false None e = refl
crowd_none s false (Some q) e = cc

crowd_some : (s : Site) (b : Bool) (o : Option Whole) → b ≡ false → is_some o ≡ true → crowd_by s b o ≡ Some (entered s)
crowd_some s false (Some q) e h = refl
crowd_some s false None e h = cc
crowd_some s true o e h = cc

crowd_still : (s : Site) (b : Bool) (o : Option Whole) → IsStill (crowd_by s b o)
crowd_still s true o = tt
crowd_still s false (Some q) = tt
crowd_still s false None = tt

-- slot k has a job, which is in this call
record Stays (w : State) (k : ℕ) (f : Frame) : Type 0 where
  job : is_some (w.raw.jobs k) ≡ true
  frame : w.frames k ≡ Some f

made_some : (b : Bool) (q : Whole) (o : Option Whole) → is_some o ≡ true → is_some (if b then Some q else o) ≡ true
made_some true q o h = refl
made_some false q o h = h

not_gone : (w : State) (j s k : ℕ) (f : Frame) → Quiet (changes.Remove s) j w → k ≢ j → w.frames k ≡ Some f → is_gone (superiors w.raw) s k ≡ false
not_gone w j s k f quiet ne at = elim (cases_Bool (is_gone (superiors w.raw) s k)) [
  | inl t ↦ absurd (let none = quiet k t ne in cc)
  | inr t ↦ t
]

stays_one : (c : Change) (j k : ℕ) (w : State) (f : Frame) → Quiet c j w → k ≢ j → Stays w k f → Stays (effect_on c j w) k f
unfolding effect_on effect after_removal
stays_one (changes.Take c) j k w f quiet ne h = record { job = h.job; frame = h.frame }
stays_one (changes.Put c b) j k w f quiet ne h = record { job = h.job; frame = h.frame }
stays_one (changes.Hold c s) j k w f quiet ne h = record { job = h.job; frame = h.frame }
stays_one (changes.Poke s a x) j k w f quiet ne h = record { job = slot_some w.raw.jobs s _ k ∙ h.job; frame = h.frame }
stays_one (changes.Set s v x) j k w f quiet ne h = record { job = slot_some w.raw.jobs s _ k ∙ h.job; frame = h.frame }
stays_one (changes.Map s n) j k w f quiet ne h = record { job = slot_some w.raw.jobs s _ k ∙ h.job; frame = h.frame }
stays_one (changes.Unmap s n) j k w f quiet ne h = record { job = slot_some w.raw.jobs s _ k ∙ h.job; frame = h.frame }
stays_one (changes.Protect s n on) j k w f quiet ne h = record { job = slot_some w.raw.jobs s _ k ∙ h.job; frame = h.frame }
stays_one (changes.Make s u n) j k w f quiet ne h = record { job = made_some (k == s) _ (w.raw.jobs k) h.job; frame = h.frame }
stays_one (changes.Remove s) j k w f quiet ne h =
    let left = not_gone w j s k f quiet ne h.frame in
    record {
      job = left_some (is_gone (superiors w.raw) s) (is_gone (superiors w.raw) s k) (w.raw.jobs k) left h.job;
      frame = rw left h.frame;
    }
stays_one (changes.Inform s) j k w f quiet ne h = record { job = slot_some w.raw.jobs s _ k ∙ h.job; frame = h.frame }
stays_one (changes.Delete d x y) j k w f quiet ne h = record { job = h.job; frame = h.frame }
stays_one (changes.Rename d x y u v) j k w f quiet ne h = record { job = h.job; frame = h.frame }
stays_one (changes.Send l x) j k w f quiet ne h = record { job = h.job; frame = h.frame }
stays_one (changes.Receive l) j k w f quiet ne h = record { job = h.job; frame = h.frame }
stays_one _ j k w f quiet ne h = record { job = slot_some w.raw.jobs j _ k ∙ h.job; frame = h.frame }

stays : (cs : List Change) (j k : ℕ) (w : State) (f : Frame) → AllQuiet cs j w → k ≢ j → Stays w k f → is_some ((effects_on cs j w).raw.jobs k) ≡ true
stays [] j k w f quiet ne h = h.job
stays (c ∷ cs) j k w f quiet ne h = stays cs j k (effect_on c j w) f quiet.1 ne (stays_one c j k w f quiet.0 ne h)

-- what a step keeps of slot k
abbrev Keeps : Machine → ℕ → ℕ → Transition → Type 0
Keeps m j k t = is_some (m.jobs k) ≡ true → k ≢ j → among k t.disturbs ≡ false → is_some (t.machine.jobs k) ≡ true

-- a call
module _ (m : Machine) (j k : ℕ) (s : Site) (a : Ask) (ks : List ℕ) (r : Option ℕ) where
  abbrev crowded : State
  crowded = beginning m (crowd m ks s) r

  changes_keep : (cs : List Change) → AllQuiet cs j crowded → is_some (m.jobs k) ≡ true → k ≢ j → among k ks ≡ false
      → is_some ((effects cs j m).jobs k) ≡ true
  changes_keep cs quiet some ne apart =
      ap (λ (jobs : ℕ → Option Whole). is_some (jobs k)) (sym (all_alike cs j crowded m refl))
      ∙ stays cs j k crowded (entered s) quiet ne (record { job = some; frame = crowd_some s (among k ks) (m.jobs k) apart some })

  acted_keeps : (q : Whole) (d : Decision) → Duty crowded j q s a 0 d → AllOf (Keeps m j k) (acted m j a ks d)
  unfolding acted
  acted_keeps q (Waits x) duty = tt
  acted_keeps q (Goes cs h vs) duty = λ some ne apart. slot_some (effects cs.items j m).jobs j (after_moves a h vs.items) k
      ∙ changes_keep cs.items duty.quiet some ne apart
  acted_keeps q (Ends cs ss e) duty = λ some ne apart. slot_some (effects cs.items j m).jobs j (after_end ss.items (after_leave e)) k
      ∙ changes_keep cs.items duty.quiet some ne apart
  acted_keeps q (Gone cs) duty = λ some ne apart. changes_keep (changes.Remove j ∷ cs.items) duty.quiet some ne apart

call_keeps : (m : Machine) (j k : ℕ) (q : Whole) (s : Site) (a : Ask) → Forest m → m.jobs j ≡ Some q → Stands q.core q.job s a
    → AllOf (Keeps m j k) (acted m j a (reach m j q a) (decision m j q a))
call_keeps m j k q s a forest here st =
    let ks : List ℕ = reach m j q a in
    let r : Option ℕ = page_for (reserves a) in
    acted_keeps m j k s a ks r q (decision m j q a)
    (decision_duty decoding m (beginning m (crowd m ks s) r) j q s a 0
    (calling m j q s a (crowd m ks s) forest here st (crowd_still s (among j ks) (m.jobs j)) (λ i h. ap (λ (b : Bool). crowd_by s b (m.jobs i)) h)
    (λ i e. crowd_none s (among i ks) (m.jobs i) e)))

-- the other cases of a step remove no job
told_some : (b : Bool) (o : Option ℕ) (m : Machine) (j k : ℕ) → is_some ((effects (informs b o) j m).jobs k) ≡ is_some (m.jobs k)
unfolding effect
told_some true (Some u) m j k = slot_some m.jobs u _ k
told_some true None m j k = refl
told_some false o m j k = refl

module _ (m : Machine) (j k : ℕ) (q : Whole) (forest : Forest m) (here : m.jobs j ≡ Some q) where
  ask_keeps : (s : Site) (r : Result Ask Fault) → unit q.core q.job ≡ Called s → ask q.core s ≡ r → AllOf (Keeps m j k) (by_ask m j q r)
  ask_keeps s (Ok a) u e = call_keeps m j k q s a forest here (record { unit_is = u; ask_is = e })
  ask_keeps s (Err f) u e = λ some ne apart. slot_some m.jobs j (with_fault f) k ∙ some

  unit_keeps : (o : Outcome) → unit q.core q.job ≡ o → AllOf (Keeps m j k) (by_unit m j q o)
  unit_keeps (Changed c i) u = λ some ne apart. slot_some m.jobs j (with_core_and_job c i) k ∙ some
  unit_keeps (Faulted f) u = λ some ne apart. slot_some m.jobs j (with_fault f) k ∙ some
  unit_keeps (Called s) u = ask_keeps s (ask q.core s) u refl

  delivery_keeps : (b : Bool) → AllOf (Keeps m j k) (by_delivery m j q b)
  delivery_keeps true = λ some ne apart.
      let d = delivered q.core q.job in
      slot_some (effects (informs d.stops q.superior) j m).jobs j (with_core_and_job d.core d.job) k ∙ told_some d.stops q.superior m j k ∙ some
  delivery_keeps false = unit_keeps (unit q.core q.job) refl

  running_keeps : (b : Bool) → AllOf (Keeps m j k) (unless_stopped m j q b)
  running_keeps true = tt
  running_keeps false = delivery_keeps (deliverable q.job)

slot_keeps : (m : Machine) (j k : ℕ) (o : Option Whole) → Forest m → m.jobs j ≡ o → AllOf (Keeps m j k) (transition_of m j o)
slot_keeps m j k (Some q) forest here = running_keeps m j k q forest here q.job.stopped
slot_keeps m j k None forest here = tt

-- a job stays if the step does not disturb it and it is not the one that takes the step
pub step_keeps : (m : Machine) (j k : ℕ) (t : Transition) → Forest m → transition m j ≡ Some t → is_some (m.jobs k) ≡ true → k ≢ j
    → among k t.disturbs ≡ false → is_some (t.machine.jobs k) ≡ true
unfolding transition
step_keeps m j k t forest e = subst (AllOf (Keeps m j k)) e (slot_keeps m j k (m.jobs j) forest refl)

pub step_loses : (m : Machine) (j : ℕ) (t : Transition) → Forest m → transition m j ≡ Some t → (k : ℕ) → t.machine.jobs k ≡ None
    → (m.jobs k ≡ None) ⊎ ((k ≡ j) ⊎ (among k t.disturbs ≡ true))
step_loses m j t forest e k none = elim (cases_Bool (is_some (m.jobs k))) [
  | inl some ↦ elim (cases_eq k j) [
    | inl same ↦ inr (inl same)
    | inr ne ↦ elim (cases_Bool (among k t.disturbs)) [
      | inl b ↦ inr (inr b)
      | inr apart ↦ absurd (let kept = step_keeps m j k t forest e some ne apart in let lost : is_some (t.machine.jobs k) ≡ false = ap is_some none in cc)
    ]
  ]
  | inr empty ↦ inl (nobody (m.jobs k) empty)
]
  where
    nobody : (o : Option Whole) → is_some o ≡ false → o ≡ None
    nobody None h = refl
    nobody (Some q) h = cc
