-- Parts of one call, one after another.
-- No promise rests on this.
use Rattle.std.specs.Prelude.{◌≡◌, ◌+◌, ◌%◌, ◌^◌, ℕ, zero, suc, Bool, true, false, Option, Some, [], None, slice_set, slice_index_or}
use Rattle.its_word.specs.Core.{Core, word_at}
use Rattle.its_word.specs.Word.{right_of}
use Rattle.its_records.specs.declared.calls.Ask.{Ask}
use Rattle.its_records.specs.declared.calls.Operand.{Operand}
use Rattle.its_records.specs.declared.calls.Site.{Site}
use Rattle.its_records.specs.declared.jobs.Job.{Job}
use Rattle.its_frame.specs.Calls.{call_named, is_siot}
use Rattle.its_frame.specs.declared.decision.Decision.{Decision}
use Rattle.its_plain.specs.Call.Step.{Transition, decision, is_made, transition}
use Rattle.its_plain.specs.Call.Decide.{reach}
use Rattle.its_plain.specs.Call.Footprint.{Stands}
use Rattle.its_plain.specs.Unit.Interrupt.{deliverable}
use Rattle.its_plain.specs.Machine.{Machine, Whole}
use Rattle.its_direct.specs.Plain.{machine_of}
use Rattle.its_direct.specs.declared.plain.Plain.{Plain}

-- a call with another value of an input
abbrev pub no_input : Operand
no_input = record { value = 0; place = None }

abbrev pub with_input : Ask → ℕ → ℕ → Ask
with_input a k v = record a { inputs = record { items = slice_set a.inputs.items k (record (slice_index_or a.inputs.items k no_input) { value = v }) } }

-- whether the word after the one to which the word at a PC points names SIOT. No other call has
-- parts
abbrev pub is_name : Option ℕ → Bool
is_name (Some n) = is_siot (call_named n)
is_name None = false

abbrev pub named_after : Core → Option ℕ → Bool
named_after c (Some w) = is_name (word_at c ((right_of w + 1) % 2 ^ 18))
named_after c None = false

abbrev pub names_siot : Core → ℕ → Bool
names_siot c pc = named_after c (word_at c pc)

-- whether the word after the one to which the word at the PC of a job points names SIOT; false if
-- there is no job
abbrev pub siot_of : Core → Option Job → Bool
siot_of c (Some j) = names_siot c j.pc
siot_of c None = false

-- the step of slot j's job is that of a call that asks for this
pub record AtCall (m : Machine) (j : ℕ) (a : Ask) : Type 0 where
  pub own : Whole
  pub site : Site
  pub had : m.jobs j ≡ Some own
  pub runs : own.job.stopped ≡ false
  pub quiet : deliverable own.job ≡ false
  pub stands : Stands own.core own.job site a

-- the call decides this, and its commit disturbs nobody
pub record Decides (m : Machine) (j : ℕ) (a : Ask) (d : Decision) : Type 0 where
  pub own : Whole
  pub had : m.jobs j ≡ Some own
  pub is : decision m j own a ≡ d
  pub alone : reach m j own a ≡ []

-- a step of slot j's job leads from machine m to machine o. It is a part of a call that goes on,
-- disturbs nobody, and makes no job
pub record OnePart (m : Machine) (j : ℕ) (o : Machine) : Type 0 where
  pub step : Transition
  pub is : transition m j ≡ Some step
  pub machine : o ≡ step.machine
  pub part : step.part ≡ true
  pub alone : step.disturbs ≡ []
  pub unmade : (k : ℕ) → is_made m o k ≡ false

-- n of them
abbrev pub InParts : ℕ → Machine → ℕ → Machine → Type 0
InParts zero m j o = o ≡ m
InParts (suc n) m j o = (p : Machine) × OnePart m j p × InParts n p j o

-- whether one was made, after which the call goes on; else nothing has changed
abbrev pub PartIf : Bool → Plain → Plain → ℕ → Ask → Type 0
PartIf true old new j a = OnePart (machine_of old) j (machine_of new) × AtCall (machine_of new) j a
PartIf false old new j a = new ≡ old
