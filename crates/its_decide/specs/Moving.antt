-- What SIOT moves next, or why it moves nothing, as decisions; and which decision moves what.
-- No promise rests on this.
use Rattle.std.specs.Prelude.{if◌then◌else◌, ◌==◌, ◌&&◌, ℕ, Bool, true, false, List, Option, Some, None, Result, Ok, Err, [], ◌∷◌, option_map}
use Rattle.its_records.specs.declared.calls.Ask.{Ask}
use Rattle.its_records.specs.declared.jobs.Channel.{Channel}
use Rattle.its_records.specs.declared.jobs.Channel.TheVariants.{Usr}
use Rattle.its_frame.specs.declared.decision.Decision.{Decision}
use Rattle.its_frame.specs.declared.decision.Decision.TheVariants as decisions
use Rattle.its_frame.specs.declared.decision.Held.{Held}
use Rattle.its_frame.specs.Calls.{is_siot}
use Rattle.its_plain.specs.Call.Step.{decision}
use Rattle.its_plain.specs.Call.Decide.{call_named, reach}
use Rattle.its_plain.specs.Machine.{Machine, Whole}
use Rattle.its_plain.specs.Call.Tests.{fails, faults, finishes, goes}
use Rattle.its_plain.specs.Machine.View.{View}
use Rattle.its_decide.specs.declared.moving.Halt.{Halt}
use Rattle.its_decide.specs.declared.moving.Halt.TheVariants as halts
use Rattle.its_decide.specs.declared.moving.NextMove.{NextMove}
use Rattle.its_decide.specs.declared.moving.Shift.{Shift}
use Rattle.its_decide.specs.declared.moving.Shift.TheVariants as shifts
use Rattle.its_frame.specs.declared.change.Change.{Change}
use Rattle.its_frame.specs.declared.change.Change.TheVariants as changes

-- the change of a part
abbrev pub change_of : Shift → Change
change_of (shifts.Move n at) = changes.Move n at
change_of (shifts.Append n w) = changes.Append n w
change_of (shifts.Take c) = changes.Take c
change_of (shifts.Put c b) = changes.Put c b
change_of (shifts.Send l w) = changes.Send l w
change_of (shifts.Receive l) = changes.Receive l

abbrev pub moving : NextMove → Decision
moving m = goes (change_of m.shift ∷ []) m.held (m.next ∷ m.left ∷ [])

abbrev pub halted : View → Ask → Halt → Decision
halted v a (halts.Error n) = fails v a n
halted v a (halts.Bit f) = faults v f
halted v a halts.Over = finishes v [] []
halted v a (halts.Later r) = decisions.Waits r

abbrev pub outcome : View → Ask → Result NextMove Halt → Decision
outcome v a (Ok m) = moving m
outcome v a (Err h) = halted v a h

abbrev pub halted_by : View → Ask → Option Halt → Option Decision
halted_by v a (Some h) = Some (halted v a h)
halted_by v a None = None

abbrev pub found : Result NextMove Halt → Option NextMove
found (Ok m) = Some m
found (Err h) = None

-- the part that a change is; none if SIOT has no such change
abbrev pub shift_of : Change → Option Shift
shift_of (changes.Move n at) = Some (shifts.Move n at)
shift_of (changes.Append n w) = Some (shifts.Append n w)
shift_of (changes.Take c) = Some (shifts.Take c)
shift_of (changes.Put c b) = Some (shifts.Put c b)
shift_of (changes.Send l w) = Some (shifts.Send l w)
shift_of (changes.Receive l) = Some (shifts.Receive l)
shift_of _ = None

-- what a decision moves: a call that goes on moves something if it makes one such change and gives
-- two arguments new values. No other decision moves anything
abbrev pub moved_of : List Change → Option Held → List ℕ → Option NextMove
moved_of (c ∷ []) h (next ∷ left ∷ []) = option_map (λ s. record { next = next; left = left; held = h; shift = s }) (shift_of c)
moved_of _ h _ = None

abbrev pub moved_by : Decision → Option NextMove
moved_by (decisions.Goes cs h vs) = moved_of cs.items h vs.items
moved_by _ = None

-- what SIOT moves through a channel: what its decision moves, but nothing if the channel is on an
-- inferior
abbrev pub moved_on : Channel → Decision → Option NextMove
moved_on (Usr s write at) d = None
moved_on _ d = moved_by d

-- what a call moves next: what its decision moves, if it is SIOT, its decoding gave no error, and
-- it reaches no other job
abbrev pub moved_alone : List ℕ → Decision → Option NextMove
moved_alone [] d = moved_by d
moved_alone (k ∷ ks) d = None

unfoldable pub next_moved : Machine → ℕ → Whole → Ask → Option NextMove
next_moved m j q a = if (a.fail == 0) && is_siot (call_named a.name) then moved_alone (reach m j q a) (decision m j q a) else None
