-- Units of one job, one after another.
-- No promise rests on this.
use Rattle.std.specs.Prelude.{ℕ, zero, suc, Bool, true, false, Option, Some, None}
use Rattle.its_word.specs.Core.{Core}
use Rattle.its_records.specs.declared.jobs.Job.{Job}
use Rattle.its_plain.specs.Unit.Interrupt.{deliverable}
use Rattle.its_plain.specs.Machine.Registers.{bit_of, with_pending}
use Rattle.its_plain.specs.Unit.{Outcome, Changed, Faulted, Called, unit}

-- a core and registers
pub record Left : Type 0 where
  pub core : Core
  pub job : Job

abbrev pub left : Core → Job → Left
left c j = record { core = c; job = j }

-- the core and the registers that a unit leaves, or its fault; none if it is a call
abbrev pub after_outcome : Outcome → Core → Job → Option Left
after_outcome (Changed c k) d j = Some (left c k)
after_outcome (Faulted f) d j = Some (left d (with_pending j (bit_of f)))
after_outcome (Called s) d j = None

-- those after a unit; none if an interrupt is deliverable before it, or it is a call
abbrev pub unit_unless : Bool → Left → Option Left
unit_unless true l = None
unit_unless false l = after_outcome (unit l.core l.job) l.core l.job

abbrev pub after_unit : Option Left → Option Left
after_unit (Some l) = unit_unless (deliverable l.job) l
after_unit None = None

-- those after n units
abbrev pub after_units : ℕ → Option Left → Option Left
after_units zero o = o
after_units (suc n) o = after_units n (after_unit o)
