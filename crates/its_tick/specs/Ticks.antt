-- What the parts of a tick do to a world.
-- No promise rests on this.
use Rattle.std.specs.Prelude.{if◌then◌else◌, ◌≡◌, ◌==◌, ◌<◌, ℕ, Bool, true, false, Option, Some, None, IfSome, Result, Ok, Err, List, [], ◌∷◌, ◌++◌}
use Rattle.its_records.specs.Tree.{slots_below}
use Rattle.its_word.specs.declared.access.Fault.{Fault}
use Rattle.its_records.specs.declared.jobs.Channel.{Channel}
use Rattle.its_records.specs.declared.jobs.Job.{Job}
use Rattle.its_records.specs.declared.calls.Ask.{Ask}
use Rattle.its_records.specs.declared.calls.Pace.{Pace}
use Rattle.its_records.specs.declared.calls.Pace.TheVariants.{Step, Work}
use Rattle.its_core.specs.Cores.{core_at, clear_at}
use Rattle.its_jobs.specs.Table.{job_at}
use Rattle.its_frame.specs.declared.frame.Frame.{Frame}
use Rattle.its_frame.specs.declared.frame.Frame.TheVariants as frames
pub use Rattle.its_commit.specs.Carried.{pace_of}
pub use Rattle.pdp_exec.specs.Units.{Left, left, after_outcome, unit_unless, after_unit, after_units}
use Rattle.its_frame.specs.declared.name.CallName.{CallName}
use Rattle.its_frame.specs.declared.name.CallName.TheVariants.{Logout, Uclose}
use Rattle.its_plain.specs.Call.Step.{with_fault}
use Rattle.its_plain.specs.Machine.Change.{superiors}
use Rattle.its_plain.specs.Call.Decide.{call_named, listed, with_below}
use Rattle.its_plain.specs.Machine.{Machine, Whole}
use Rattle.its_plain.specs.Unit.Interrupt.{deliverable}
use Rattle.its_plain.specs.Unit.{Outcome, Changed, Faulted, Called, unit}
use Rattle.its_stepped.specs.State.{State, with_slot}
use Rattle.its_stepped.specs.Tick.{Ticked}
use Rattle.its_world.specs.Filed.{Blocked}
use Rattle.its_world.specs.World.{frame_at, Becomes}
use Rattle.its_world.specs.declared.world.World.{World}
use Rattle.its_tick.specs.declared.reach.Reach.{Reach}
use Rattle.its_tick.specs.declared.reach.Reach.TheVariants.{Nobody, Job as OneJob, Branch, Tree}

-- a tick that leads to this state and has this letter
abbrev pub ticked : State → Pace → Ticked
ticked w p = record { state = w; pace = p }

-- registers with other channels
abbrev pub with_channels : List Channel → Job → Job
with_channels cs j = record j { channels = cs }

-- the unit of the job of slot s is made
pub record Made (old new : World) (s : ℕ) (o : Job → Outcome) : Type 0 where
  pub job : Job
  pub left : Left
  pub had : job_at old.jobs s ≡ Some job
  pub is : after_outcome (o job) (core_at old.core s) job ≡ Some left
  pub becomes : Becomes old new s left.core (Some left.job) (frame_at old.frames.items s) (clear_at old.core s)

-- n units of the job of slot s are executed, of k at most; if they are fewer, no other is possible
pub record UnitsMade (old new : World) (s n k : ℕ) : Type 0 where
  pub job : Job
  pub left : Left
  pub had : job_at old.jobs s ≡ Some job
  pub is : after_units n (Some (record { core = core_at old.core s; job = job })) ≡ Some left
  pub becomes : Becomes old new s left.core (Some left.job) (frame_at old.frames.items s) (clear_at old.core s)
  pub most : n < k → after_unit (Some left) ≡ None

-- whether the next tick of a slot executes a unit: its job runs in user mode, no interrupt is
-- deliverable, and the unit is no call
abbrev pub is_made : Outcome → Bool
is_made (Changed c k) = true
is_made (Faulted f) = true
is_made (Called s) = false

abbrev pub due_of : Option Whole → Option Frame → Bool
due_of (Some q) None = if q.job.stopped then false else (if deliverable q.job then false else is_made (unit q.core q.job))
due_of (Some q) (Some f) = false
due_of None f = false

unfoldable pub unit_due : State → ℕ → Bool
unit_due w s = due_of (w.raw.jobs s) (w.frames s)

-- it is a call, and nothing is changed
pub record Called_in (old new : World) (s : ℕ) (o : Job → Outcome) : Type 0 where
  pub same : new ≡ old
  pub called : IfSome (job_at old.jobs s) (λ j. after_outcome (o j) (core_at old.core s) j ≡ None)

abbrev pub UnitIn : World → World → ℕ → (Job → Outcome) → Bool → Type 0
UnitIn old new s o true = Made old new s o
UnitIn old new s o false = Called_in old new s o

-- what a call asks for that is to be prepared
abbrev pub asked_in : Option Frame → Option Ask
asked_in (Some (frames.Asked f)) = Some f.ask
asked_in _ = None

-- a part of the decoding, whose frame is there: at a fault its bit is set
abbrev pub state_decoded : State → ℕ → Result (Unit {0}) Fault → State
state_decoded w s (Ok u) = w
state_decoded w s (Err f) = with_slot w s (with_fault f) None

abbrev pub pace_decoded : Result (Unit {0}) Fault → Pace
pace_decoded (Ok u) = Work
pace_decoded (Err f) = Step

-- a frame of a call that was found not ready
abbrev pub is_waiting : Option Frame → Bool
is_waiting (Some (frames.Waiting f)) = true
is_waiting _ = false

-- the call of slot s was found not ready, and the slot is on a wait list, whether it belongs there
-- or not
pub record OnWaitList (w : World) (s : ℕ) : Type 0 where
  pub waits : is_waiting (frame_at w.frames.items s) ≡ true
  pub stands : Blocked w s

-- a call that is held has so many quarters of its page clear, and so many pending words
abbrev pub IsClearing : Option Frame → ℕ → ℕ → Type 0
IsClearing (Some (frames.Holding f)) clear owes = (f.page ≡ Some clear) × (f.owes ≡ owes)
IsClearing _ clear owes = ⊥

-- the slots that a call reaches, whose caller has slot j and this superior
abbrev pub slots_in : Reach → Machine → ℕ → Option ℕ → List ℕ
slots_in Nobody m j superior = []
slots_in (OneJob s) m j superior = s ∷ []
slots_in (Branch s) m j superior = with_below m (Some s)
slots_in Tree m j superior = slots_below (superiors m) j ++ listed superior

-- the call that is asked for; none if its decoding gave an error
abbrev pub call_asked : Ask → Option CallName
call_asked a = if a.fail == 0 then call_named a.name else None

-- a call that is UCLOSE, and one that is LOGOUT
abbrev pub closes_job : CallName → Bool
closes_job Uclose = true
closes_job _ = false

abbrev pub logs_out : CallName → Bool
logs_out Logout = true
logs_out _ = false
