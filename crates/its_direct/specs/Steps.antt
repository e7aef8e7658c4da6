-- The effect of a step of a slot's job on the second machine.
-- No promise rests on this.
use Rattle.std.specs.Prelude.{◌≡◌, ◌⊎◌, ◌&&◌, ◌||◌, ℕ, Bool, true, false, not, Option, Some, None, List, is_some, slice_index_or}
use Rattle.std.specs.List.{list_any}
use Rattle.its_records.specs.declared.calls.Site.{Site}
use Rattle.its_records.specs.declared.jobs.Job.{Job}
use Rattle.its_core.specs.Cores.{core_at}
use Rattle.its_jobs.specs.Table.{job_at, superior_at}
use Rattle.its_frame.specs.declared.change.Change.{Change}
use Rattle.its_frame.specs.declared.change.Change.TheVariants.{Make}
use Rattle.its_frame.specs.declared.decision.Decision.{Decision}
use Rattle.its_frame.specs.declared.decision.Decision.TheVariants.{Waits, Goes, Ends, Gone}
use Rattle.its_plain.specs.Call.Decode.{ask}
use Rattle.its_plain.specs.Call.Step.{Transition, among, is_made, by_ask}
use Rattle.its_plain.specs.Machine.{Whole, Machine}
use Rattle.its_plain.specs.Unit.{Called, unit}
use Rattle.its_shared.specs.Parts.{alarm_at, bare, chans_of}
use Rattle.its_decide.specs.declared.caller.Seen.{Seen}
use Rattle.its_direct.specs.Effects.{Becomes}
use Rattle.its_direct.specs.Plain.{machine_of, is_touched}
use Rattle.its_direct.specs.declared.plain.Plain.{Plain}
use Rattle.its_direct.specs.declared.step.user_mode.Begun.{Begun}
use Rattle.its_direct.specs.declared.step.user_mode.Begun.TheVariants.{Still, Stepped, Calls}

-- a step from a machine disturbs the job of slot k, which is not its own, or makes it
abbrev pub touches : Machine → Transition → ℕ → Bool
touches m t k = among k t.disturbs || is_made m t.machine k

-- the step was taken
pub record Steps (old new : Plain) (t : Transition) : Type 0 where
  pub machine : machine_of new ≡ t.machine
  pub touched : (k : ℕ) → is_touched new k ≡ touches (machine_of old) t k
  pub place : new.place ≡ old.place

pub record SteppedBy (old new : Plain) (o : Option Transition) : Type 0 where
  pub transition : Transition
  pub is : o ≡ Some transition
  pub steps : Steps old new transition

-- the step of a job is that of its call at a site, to which its unit comes
pub record CallsAt (m : Machine) (j : ℕ) (s : Site) (o : Option Transition) : Type 0 where
  pub own : Whole
  pub had : m.jobs j ≡ Some own
  pub unit : unit own.core own.job ≡ Called s
  pub is : o ≡ by_ask m j own (ask own.core s)

-- the step of slot j's job, as far as it is made before its call is decoded: there is none; it was
-- made; or it is that of a call, and nothing has changed
abbrev pub StepBegins : Begun → Option Transition → Plain → Plain → ℕ → Type 0
StepBegins Still o old new j = (o ≡ None) × (new ≡ old)
StepBegins Stepped o old new j = SteppedBy old new o
StepBegins (Calls s) o old new j = CallsAt (machine_of old) j s o × (new ≡ old)

-- the job of a slot that has these registers, in the form that it has in the machine
abbrev pub own_of : Plain → ℕ → Job → Whole
own_of p s j = record {
  core = core_at p.core s;
  job = bare j;
  superior = superior_at p.jobs s;
  channels = chans_of p.files j;
  alarm = alarm_at p.alarms.items s;
}

-- the parts of a machine, borrowed
pub record Lent (p : Plain) (s : Seen) : Type 0 where
  pub core : s.core.now ≡ p.core
  pub jobs : s.jobs.now ≡ p.jobs
  pub consoles : s.consoles.now ≡ p.consoles
  pub holders : s.holders.now ≡ p.holders
  pub files : s.files.now ≡ p.files
  pub clock : s.clock ≡ p.clock
  pub alarms : s.alarms.now ≡ p.alarms
  pub version : s.version ≡ p.version
  pub symbols : s.symbols.now ≡ p.symbols
  pub pipes : s.pipes.now ≡ p.pipes

-- the machine is that of a transition, before the slots that it touches are marked; or there is
-- none, and nothing has changed
abbrev pub Acts : Bool → Option Transition → Plain → Plain → Type 0
Acts true (Some t) old new = Becomes old new t.machine
Acts false None old new = new ≡ old
Acts true None old new = ⊥
Acts false (Some t) old new = ⊥

-- a slot is marked, if one list says that the step disturbs it, or if it has a job now and another
-- says that it had none
abbrev pub marked_by : List Bool → List Bool → Plain → ℕ → Bool
marked_by disturbed stood p k =
    slice_index_or disturbed k false || (not (slice_index_or stood k false) && is_some (job_at p.jobs k))

-- a change makes a job, and a decision does
abbrev pub is_making : Change → Bool
is_making (Make s u n) = true
is_making _ = false

abbrev pub makes_job : Decision → Bool
makes_job (Waits r) = false
makes_job (Goes cs h vs) = list_any is_making cs.items
makes_job (Ends cs ss e) = list_any is_making cs.items
makes_job (Gone cs) = list_any is_making cs.items

-- a step is taken, or there is none and nothing has changed
abbrev pub Makes : Bool → Option Transition → Plain → Plain → Type 0
Makes true o old new = SteppedBy old new o
Makes false o old new = (o ≡ None) × (new ≡ old)

-- no slot loses its job but slot s and those that are touched
abbrev pub LosesOnly : Plain → Plain → ℕ → Type 0
LosesOnly old new s =
    (k : ℕ) → (machine_of new).jobs k ≡ None → ((machine_of old).jobs k ≡ None) ⊎ ((k ≡ s) ⊎ (is_touched new k ≡ true))
