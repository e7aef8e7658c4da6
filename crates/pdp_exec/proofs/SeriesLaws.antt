-- Units of one job, one after another.
use Rattle.std.specs.Prelude.{if◌then◌else◌, ◌≡◌, ◌+◌, ℕ, zero, suc, Bool, true, false, Option, Some, None, refl}
use Rattle.std.proofs.Common.{◌∙◌, ap, arith, subst}
use Rattle.its_records.specs.declared.jobs.Job.{Job}
use Rattle.its_plain.specs.Unit.Interrupt.{deliverable}
use Rattle.its_plain.specs.Machine.Registers.{bit_of, with_pending}
use Rattle.its_plain.specs.Unit.{Outcome, Changed, Faulted, Called, unit}
use Rattle.its_plain.proofs.UnitLaws.{unit_keeps}
use Rattle.pdp_exec.specs.Units.{Left, after_outcome, after_unit, after_units, left, unit_unless}

-- n units and then one more are n + 1
pub units_start : (l : Left) → after_units 0 (Some l) ≡ Some l
units_start l = refl

more_units : (n : ℕ) (o : Option Left) → after_units (suc n) o ≡ after_unit (after_units n o)
more_units zero o = refl
more_units (suc n) o = more_units n (after_unit o)

pub units_next : (n : ℕ) (l m k : Left) → after_units n (Some l) ≡ Some m → after_unit (Some m) ≡ Some k → after_units (n + 1) (Some l) ≡ Some k
units_next n l m k e u =
    let one : n + 1 ≡ suc n = omega arith in
    ap (λ x. after_units x (Some l)) one ∙ more_units n (Some l) ∙ ap after_unit e ∙ u

pub none_due : (l : Left) → deliverable l.job ≡ true → after_unit (Some l) ≡ None
none_due l d = ap (λ b. unit_unless b l) d

pub unit_made : (l : Left) (o : Option Left) → deliverable l.job ≡ false → after_outcome (unit l.core l.job) l.core l.job ≡ o → after_unit (Some l) ≡ o
unit_made l o d e = ap (λ b. unit_unless b l) d ∙ e

-- a unit that is not made leaves all as it was
pub none_left : (l m : Left) (b : Bool) → after_unit (Some l) ≡ (if b then Some m else None) → b ≡ false → m ≡ l → after_unit (Some m) ≡ None
none_left l m b e f same = ap (λ x. after_unit (Some x)) same ∙ e ∙ ap (λ c. if c then Some m else None) f

pub no_units : (n : ℕ) → after_units n None ≡ None
no_units zero = refl
no_units (suc n) = no_units n

-- a unit keeps the channels of a job, and that it runs
pub record Keeps (i j : Job) : Type 0 where
  pub channels : j.channels ≡ i.channels
  pub stopped : j.stopped ≡ i.stopped

outcome_keeps : (l m : Left) (o : Outcome) → unit l.core l.job ≡ o → after_outcome o l.core l.job ≡ Some m → Keeps l.job m.job
outcome_keeps l m (Changed d k) u e =
    let h = (unit_keeps l.core l.job d k u).registers in
    let is : left d k ≡ m = cc in
    subst (λ (x : Left). Keeps l.job x.job) is (record { channels = h.channels; stopped = h.stopped })
outcome_keeps l m (Faulted f) u e =
    let is : left l.core (with_pending l.job (bit_of f)) ≡ m = cc in
    subst (λ (x : Left). Keeps l.job x.job) is (record { channels = refl; stopped = refl })
outcome_keeps l m (Called s) u e = absurd cc

pub unless_keeps : (b : Bool) (l m : Left) → unit_unless b l ≡ Some m → Keeps l.job m.job
unless_keeps true l m e = absurd cc
unless_keeps false l m e = outcome_keeps l m (unit l.core l.job) refl e

then_keeps : (n : ℕ) (l m : Left) → ((k : Left) → after_units n (Some k) ≡ Some m → Keeps k.job m.job) → (o : Option Left)
    → after_unit (Some l) ≡ o → after_units n o ≡ Some m → Keeps l.job m.job
then_keeps n l m rest (Some k) is e =
    let a = unless_keeps (deliverable l.job) l k is in
    let b = rest k e in
    record { channels = b.channels ∙ a.channels; stopped = b.stopped ∙ a.stopped }
then_keeps n l m rest None is e = let z = no_units n in absurd cc

pub units_keep : (n : ℕ) (l m : Left) → after_units n (Some l) ≡ Some m → Keeps l.job m.job
units_keep zero l m e =
    let is : l ≡ m = cc in
    subst (λ (x : Left). Keeps l.job x.job) is (record { channels = refl; stopped = refl })
units_keep (suc n) l m e = then_keeps n l m (λ k h. units_keep n k m h) (after_unit (Some l)) refl e
