-- A tick of a slot on the stepped machine, with its letter (docs/STEPS.md, "A tick").
-- No promise rests on this.
use Rattle.std.specs.Prelude.{if◌then◌else◌, ◌==◌, ◌&&◌, ℕ, ◌+◌, Bool, true, false, Option, Some, None, List, Result, Ok, Err, nat_lt}
use Rattle.its_word.specs.declared.access.Fault.{Fault}
use Rattle.its_records.specs.declared.calls.Ask.{Ask}
use Rattle.its_records.specs.declared.calls.Pace.{Pace}
use Rattle.its_records.specs.declared.calls.Pace.TheVariants.{Step, Work, Wait, Off}
use Rattle.its_records.specs.declared.calls.Site.{Site}
use Rattle.its_frame.specs.declared.decision.Decision.{Decision}
use Rattle.its_frame.specs.declared.decision.Decision.TheVariants.{Waits, Goes, Ends, Gone}
use Rattle.its_frame.specs.declared.frame.Frame.{Frame}
use Rattle.its_frame.specs.declared.frame.Frame.TheVariants.{Entered, Parsed, Asked, Holding, Waiting, Moving, Ending}
use Rattle.its_frame.specs.declared.name.CallName.{CallName}
use Rattle.its_frame.specs.declared.name.OnFiles.{OnFiles}
use Rattle.its_frame.specs.declared.name.OnFiles.TheVariants.{Never, ByDevice, ByChannel, Always}
use Rattle.its_plain.specs.Unit.Interrupt.{Delivered, deliverable, delivered}
use Rattle.its_plain.specs.Unit.{Outcome, Changed, Faulted, Called, unit}
use Rattle.its_plain.specs.Machine.{Chan, Reads, Writes, Whole}
use Rattle.its_stepped.specs.TwoParts.{parse, fetch}
use Rattle.its_plain.specs.Call.Arguments.{input}
use Rattle.its_plain.specs.Call.Basic.{channel_at}
use Rattle.its_plain.specs.Call.File.{disk_device}
use Rattle.its_plain.specs.Call.Decide.{call_row, call_named, reach}
use Rattle.its_plain.specs.Call.Step.{with_core_and_job, with_fault, informs, decision, informed_slots}
use Rattle.its_stepped.specs.State.{State, plain, seen, with_slot, same, reserving, entered, parsed, asked, holding}
use Rattle.its_stepped.specs.Unwind.{unwind_one, all_unwound, help}
use Rattle.its_stepped.specs.Commit.{effects_on, after_commit}

pub record Ticked : Type 0 where
  pub state : State
  pub pace : Pace

abbrev pub steps : State → Ticked
steps w = record { state = w; pace = Step }

abbrev pub works : State → Ticked
works w = record { state = w; pace = Work }

abbrev pub waits : State → Ticked
waits w = record { state = w; pace = Wait }

abbrev pub off : State → Ticked
off w = record { state = w; pace = Off }

-- a fault of the unit or of the decoding sets its bit and drops the frame
abbrev pub faults_on : State → ℕ → Fault → Ticked
faults_on w j f = steps (with_slot w j (with_fault f) None)

-- user mode
abbrev pub after_delivery : State → ℕ → Whole → Delivered → State
after_delivery w j q d =
    with_slot (effects_on (informs d.stops q.superior) j (all_unwound (informed_slots d.stops q.superior) w)) j (with_core_and_job d.core d.job) None

abbrev pub unit_on : State → ℕ → Outcome → Ticked
unit_on w j (Changed c k) = steps (with_slot w j (with_core_and_job c k) None)
unit_on w j (Faulted f) = faults_on w j f
unit_on w j (Called s) = works (with_slot w j same (Some (entered s)))

abbrev pub user_on : State → ℕ → Whole → Bool → Ticked
user_on w j q true = steps (after_delivery w j q (delivered q.core q.job))
user_on w j q false = unit_on w j (unit q.core q.job)

-- the decoding in its two ticks
abbrev pub parsed_on : State → ℕ → Site → Result (List ℕ) Fault → Ticked
parsed_on w j s (Ok b) = works (with_slot w j same (Some (parsed s b)))
parsed_on w j s (Err f) = faults_on w j f

abbrev pub fetched_on : State → ℕ → Site → Result Ask Fault → Ticked
fetched_on w j s (Ok a) = works (with_slot w j same (Some (asked s a)))
fetched_on w j s (Err f) = faults_on w j f

-- a call that makes a page, by its operation 1, and whose decoding gave no error, reserves a page,
-- which is cleared a quarter at a tick
abbrev pub makes_page : Option CallName → ℕ → Bool
makes_page (Some n) operation = (call_row n).reserves && (operation == 1)
makes_page None operation = false

unfoldable pub reserves : Ask → Bool
reserves a = (a.fail == 0) && makes_page (call_named a.name) (input a 0)

abbrev pub after_preparation : State → ℕ → Site → Ask → Bool → State
after_preparation w j s a true = reserving (with_slot w j same (Some (holding s a (Some 0) 0))) j (Some 0)
after_preparation w j s a false = with_slot w j same (Some (holding s a None 0))

-- a call on files, before whose commit the pending parts of a marked close are performed
abbrev pub is_disk : Chan → Bool
is_disk (Reads f at) = true
is_disk (Writes f) = true
is_disk _ = false

abbrev pub is_on_files : Whole → Ask → OnFiles → Bool
is_on_files q a Never = false
is_on_files q a ByDevice = input a 1 == disk_device
is_on_files q a ByChannel = is_disk (channel_at q.channels (input a 0))
is_on_files q a Always = true

abbrev pub helps_by : Whole → Ask → Option CallName → Bool
helps_by q a (Some n) = is_on_files q a (call_row n).files
helps_by q a None = false

unfoldable pub helps : Whole → Ask → Bool
helps q a = if a.fail == 0 then helps_by q a (call_named a.name) else false

abbrev pub after_help_if : Bool → State → State
after_help_if true w = help w
after_help_if false w = w

-- what a commit finds: the jobs that it reaches are in user mode, and a marked close is helped by a
-- call on files
unfoldable pub with_preparation : State → ℕ → Whole → Ask → State
with_preparation w j own a = after_help_if (helps own a) (all_unwound (reach (plain w) j own a) w)

-- a call is tried: it waits, or is carried out
abbrev pub tried : State → State → ℕ → Site → Ask → ℕ → Decision → Ticked
tried w v j s a n (Waits r) = waits (after_commit w j s a n (Waits r))
tried w v j s a n (Goes cs h vs) = steps (after_commit v j s a n (Goes cs h vs))
tried w v j s a n (Ends cs ss e) = steps (after_commit v j s a n (Ends cs ss e))
tried w v j s a n (Gone cs) = steps (after_commit v j s a n (Gone cs))

abbrev pub tried_by : State → ℕ → Whole → Site → Ask → ℕ → Ticked
tried_by w j own s a n = tried w (with_preparation w j own a) j s a n (decision (plain w) j own a)

-- a call that has reserved a page is tried once all four quarters are clear
abbrev pub quarters : ℕ
quarters = 4

abbrev pub held_on : State → ℕ → Whole → Site → Ask → Option ℕ → ℕ → Ticked
held_on w j own s a None n = tried_by w j own s a n
held_on w j own s a (Some p) n =
    if nat_lt p quarters then works (reserving (with_slot w j same (Some (holding s a (Some (p + 1)) n))) j (Some (p + 1)))
    else tried_by w j own s a n

abbrev pub tick_in : State → ℕ → Whole → Option Frame → Ticked
tick_in w j q None = user_on w j q (deliverable q.job)
tick_in w j q (Some (Entered f)) = parsed_on w j f.site (parse q.core f.site)
tick_in w j q (Some (Parsed f)) = fetched_on w j f.site (fetch q.core f.site f.block.items)
tick_in w j q (Some (Asked f)) = works (after_preparation w j f.site f.ask (reserves f.ask))
tick_in w j q (Some (Holding f)) = held_on w j (seen (Some (Holding f)) q) f.site f.ask f.page f.owes
tick_in w j q (Some (Waiting f)) = tried_by w j (seen (Some (Waiting f)) q) f.site f.ask f.owes
tick_in w j q (Some (Moving f)) = works (unwind_one w j)
tick_in w j q (Some (Ending f)) = works (unwind_one w j)

abbrev pub tick_unless : State → ℕ → Whole → Bool → Ticked
tick_unless w j q true = off w
tick_unless w j q false = tick_in w j q (w.frames j)

abbrev pub tick_of : State → ℕ → Option Whole → Ticked
tick_of w j (Some q) = tick_unless w j q q.job.stopped
tick_of w j None = off w

-- a tick of a slot
unfoldable pub tick : State → ℕ → Ticked
tick w j = tick_of w j (w.raw.jobs j)
