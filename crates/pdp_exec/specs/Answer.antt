-- What the answer of a unit says.
-- No promise rests on this.
use Rattle.std.specs.Prelude.{◌≡◌, ◌≢◌, ◌<◌, ◌^◌, ℕ}
use Rattle.its_word.specs.Core.{Core}
use Rattle.its_word.specs.declared.access.Fault.{Fault}
use Rattle.its_records.specs.declared.jobs.Job.{Job}
use Rattle.its_core.specs.Cores.{Cores, core_at}
use Rattle.its_plain.specs.Machine.Registers.{bit_of}
use Rattle.its_plain.specs.Unit.{Outcome, Changed, Faulted, Called}
use Rattle.pdp_exec.specs.declared.units.Ended.{Ended}
use Rattle.pdp_exec.specs.declared.units.Ended.TheVariants as ends
use Rattle.pdp_exec.specs.declared.units.Outcome.{Outcome as Answer}
use Rattle.pdp_exec.specs.declared.units.Outcome.TheVariants.{Done, Fault as FaultBit, Call}

-- a unit that faults, with its bit of pending word 1
pub record FaultsWith (o : Outcome) (b : ℕ) : Type 0 where
  pub fault : Fault
  pub is : o ≡ Faulted fault
  pub bit : b ≡ bit_of fault

-- a unit with this answer results in o, with this core and these registers after it
abbrev pub Answers : Answer → Outcome → Core → Job → Type 0
Answers Done o c j = o ≡ Changed c j
Answers (FaultBit b) o c j = FaultsWith o b
Answers (Call s) o c j = o ≡ Called s

-- a unit that is not done leaves all as it was
abbrev pub Unchanged : Answer → Cores → Cores → Job → Job → Type 0
Unchanged Done old new j k = Unit {0}
Unchanged (FaultBit b) old new j k = (new ≡ old) × (k ≡ j)
Unchanged (Call s) old new j k = (new ≡ old) × (k ≡ j)

-- a unit that is a call
abbrev pub IsCalled : Outcome → Type 0
IsCalled (Changed c j) = ⊥
IsCalled (Faulted f) = ⊥
IsCalled (Called s) = Unit {0}

-- how a unit ends, by an answer that leaves the site of a call out
abbrev pub UnitEnds : Ended → Outcome → Core → Job → Type 0
UnitEnds ends.Done o c j = o ≡ Changed c j
UnitEnds (ends.Fault b) o c j = FaultsWith o b
UnitEnds ends.Call o c j = IsCalled o

abbrev pub EndsSame : Ended → Cores → Cores → Job → Job → Type 0
EndsSame ends.Done old new j k = Unit {0}
EndsSame (ends.Fault b) old new j k = (new ≡ old) × (k ≡ j)
EndsSame ends.Call old new j k = (new ≡ old) × (k ≡ j)

-- the unit of a slot's job, made in place: it is answered so, and nothing else changes
pub record InPlace (e : Ended) (o : Outcome) (old new : Cores) (slot : ℕ) (j k : Job) : Type 0 where
  pub unit : UnitEnds e o (core_at new slot) k
  pub pc : k.pc < 2 ^ 18
  pub others : (i : ℕ) → i ≢ slot → core_at new i ≡ core_at old i
  pub reserved : new.reserved ≡ old.reserved
  pub frames : new.frames ≡ old.frames
  pub same : EndsSame e old new j k
