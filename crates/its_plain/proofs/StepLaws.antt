-- A step by its cases: what holds of each case holds of every step; and the step of a job whose
-- case is known.
use Rattle.std.specs.Prelude.{◌≡◌, ℕ, Bool, true, false, Option, Some, None, Result, Ok, Err, option_map, refl}
use Rattle.std.proofs.Common.{◌∙◌, ap, subst}
use Rattle.std.proofs.lemmas.Option.{same_Some}
use Rattle.its_word.specs.Core.{Core}
use Rattle.its_word.specs.declared.access.Fault.{Fault}
use Rattle.its_records.specs.declared.calls.Ask.{Ask}
use Rattle.its_records.specs.declared.calls.Site.{Site}
use Rattle.its_records.specs.declared.jobs.Job.{Job}
use Rattle.its_plain.specs.Call.Decode.{ask}
use Rattle.its_plain.specs.Call.Step.{Transition, quiet_step, acted, decision, with_fault, by_ask, with_core_and_job, by_unit, delivery, by_delivery, unless_stopped, transition_of, transition, step}
use Rattle.its_plain.specs.Machine.Change.{in_job}
use Rattle.its_plain.specs.Call.Decide.{reach}
use Rattle.its_plain.specs.Unit.Interrupt.{deliverable, delivered}
use Rattle.its_plain.specs.Machine.{Whole, Machine}
use Rattle.its_plain.specs.Unit.{Outcome, Changed, Faulted, Called, unit}

-- this holds of a step, if there is one
abbrev pub AllOf : (Transition → Type 0) → Option Transition → Type 0
AllOf P (Some t) = P t
AllOf P None = Unit {0}

-- this holds in each case of the step of job q
pub record EachCase (P : Transition → Type 0) (m : Machine) (j : ℕ) (q : Whole) : Type 0 where
  pub delivers : P (delivery m j q (delivered q.core q.job))
  pub changes : (c : Core) (k : Job) → unit q.core q.job ≡ Changed c k → P (quiet_step (in_job m j (with_core_and_job c k)))
  pub faults : (f : Fault) → P (quiet_step (in_job m j (with_fault f)))
  pub calls : (a : Ask) → AllOf P (acted m j a (reach m j q a) (decision m j q a))

asks_has : (P : Transition → Type 0) (m : Machine) (j : ℕ) (q : Whole) (r : Result Ask Fault) → EachCase P m j q → AllOf P (by_ask m j q r)
asks_has P m j q (Ok a) h = h.calls a
asks_has P m j q (Err f) h = h.faults f

unit_has : (P : Transition → Type 0) (m : Machine) (j : ℕ) (q : Whole) (o : Outcome) → unit q.core q.job ≡ o → EachCase P m j q → AllOf P (by_unit m j q o)
unit_has P m j q (Changed c k) e h = h.changes c k e
unit_has P m j q (Faulted f) e h = h.faults f
unit_has P m j q (Called s) e h = asks_has P m j q (ask q.core s) h

delivery_has : (P : Transition → Type 0) (m : Machine) (j : ℕ) (q : Whole) (b : Bool) → EachCase P m j q → AllOf P (by_delivery m j q b)
delivery_has P m j q true h = h.delivers
delivery_has P m j q false h = unit_has P m j q (unit q.core q.job) refl h

running_has : (P : Transition → Type 0) (m : Machine) (j : ℕ) (q : Whole) (b : Bool) → EachCase P m j q → AllOf P (unless_stopped m j q b)
running_has P m j q true h = tt
running_has P m j q false h = delivery_has P m j q (deliverable q.job) h

slot_has : (P : Transition → Type 0) (m : Machine) (j : ℕ) (o : Option Whole) → m.jobs j ≡ o → ((q : Whole) → m.jobs j ≡ Some q → EachCase P m j q)
    → AllOf P (transition_of m j o)
slot_has P m j (Some q) is h = running_has P m j q q.job.stopped (h q is)
slot_has P m j None is h = tt

pub transition_has : (P : Transition → Type 0) (m : Machine) (j : ℕ) → ((q : Whole) → m.jobs j ≡ Some q → EachCase P m j q) → AllOf P (transition m j)
unfolding transition
transition_has P m j h = slot_has P m j (m.jobs j) refl h

-- and the machine after a step has it
pub step_has : (P : Machine → Type 0) (m n : Machine) (j : ℕ) → ((q : Whole) → m.jobs j ≡ Some q → EachCase (λ t. P t.machine) m j q)
    → step m j ≡ Some n → P n
unfolding step
step_has P m n j h e = go (transition m j) (transition_has (λ t. P t.machine) m j h) e
  where
    go : (o : Option Transition) → AllOf (λ t. P t.machine) o → option_map (λ (t : Transition). t.machine) o ≡ Some n → P n
    go (Some t) p e = subst P (same_Some t.machine n e) p
    go None p e = absurd cc

-- the step of a job that runs, by its case
pub transition_delivers : (m : Machine) (j : ℕ) (q : Whole) → m.jobs j ≡ Some q → q.job.stopped ≡ false → deliverable q.job ≡ true
    → transition m j ≡ Some (delivery m j q (delivered q.core q.job))
unfolding transition
transition_delivers m j q is runs d = ap (transition_of m j) is ∙ ap (unless_stopped m j q) runs ∙ ap (by_delivery m j q) d

pub transition_unit : (m : Machine) (j : ℕ) (q : Whole) (o : Outcome) → m.jobs j ≡ Some q → q.job.stopped ≡ false
    → deliverable q.job ≡ false → unit q.core q.job ≡ o
    → transition m j ≡ by_unit m j q o
unfolding transition
transition_unit m j q o is runs quiet e = ap (transition_of m j) is ∙ ap (unless_stopped m j q) runs ∙ ap (by_delivery m j q) quiet ∙ ap (by_unit m j q) e

pub transition_called : (m : Machine) (j : ℕ) (q : Whole) (s : Site) (r : Result Ask Fault) → m.jobs j ≡ Some q → q.job.stopped ≡ false
    → deliverable q.job ≡ false
    → unit q.core q.job ≡ Called s → ask q.core s ≡ r → transition m j ≡ by_ask m j q r
transition_called m j q s r is runs quiet u e = transition_unit m j q (Called s) is runs quiet u ∙ ap (by_ask m j q) e

pub step_by : (m : Machine) (j : ℕ) (o : Option Transition) → transition m j ≡ o → step m j ≡ option_map (λ (t : Transition). t.machine) o
unfolding step
step_by m j o e = ap (option_map (λ (t : Transition). t.machine)) e
