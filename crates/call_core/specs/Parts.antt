-- Which decision does what part of SIOT, and which part of the call of a slot's job is done next.
-- No promise rests on this.
use Rattle.std.specs.Prelude.{if◌then◌else◌, ◌==◌, ◌&&◌, ℕ, Bool, true, false, List, [], ◌∷◌, Option, Some, None, option_map}
use Rattle.its_records.specs.declared.calls.Ask.{Ask}
use Rattle.its_records.specs.declared.jobs.Channel.{Channel}
use Rattle.its_records.specs.declared.jobs.Channel.TheVariants.{Usr}
use Rattle.its_files.specs.declared.entry.Mark.{Mark}
use Rattle.its_frame.specs.declared.change.Change.{Change}
use Rattle.its_frame.specs.declared.change.Change.TheVariants as changes
use Rattle.its_frame.specs.declared.decision.Decision.{Decision}
use Rattle.its_frame.specs.declared.decision.Decision.TheVariants.{Goes}
use Rattle.its_frame.specs.declared.decision.Held.{Held}
use Rattle.its_plain.specs.Call.Step.{decision}
use Rattle.its_frame.specs.Calls.{is_siot}
use Rattle.its_plain.specs.Call.Decide.{call_named, reach}
use Rattle.its_plain.specs.Machine.{Machine, Whole}
use Rattle.call_basic.specs.declared.transfer.Moved.{Moved}
use Rattle.call_basic.specs.declared.transfer.Moved.TheVariants as moved
use Rattle.call_basic.specs.declared.transfer.NextByte.{NextByte}

-- whether a channel is on an inferior
abbrev pub is_usr : Channel → Bool
is_usr (Usr s w a) = true
is_usr _ = false

-- the change of a part that a change is; none if SIOT has no such change
abbrev pub moved_of : Change → Option Moved
moved_of (changes.Move n at) = Some (moved.Move n at)
moved_of (changes.Append n w) = Some (moved.Append n w)
moved_of (changes.Take c) = Some (moved.Take c)
moved_of (changes.Put c b) = Some (moved.Put c b)
moved_of (changes.Send l w) = Some (moved.Send l w)
moved_of (changes.Receive l) = Some (moved.Receive l)
moved_of _ = None

-- the part that a decision does: a call that goes on does one if it makes one such change and gives
-- two arguments new values. No other decision does one
abbrev pub going_part : List Change → Option Held → List ℕ → Option NextByte
going_part (c ∷ []) h (next ∷ left ∷ []) = option_map (λ m. record { moved = m; held = h; next = next; left = left }) (moved_of c)
going_part _ h _ = None

abbrev pub part_by : Decision → Option NextByte
part_by (Goes cs h vs) = going_part cs.items h vs.items
part_by _ = None

-- the call is SIOT, and its decoding gave no error
abbrev pub asks_siot : Ask → Bool
asks_siot a = (a.fail == 0) && is_siot (call_named a.name)

-- the part of a call that is done next: that of its decision, if it is such a SIOT, it reaches no
-- other job, and no close is half made
abbrev pub going_alone : List ℕ → Decision → Option NextByte
going_alone [] d = part_by d
going_alone (k ∷ ks) d = None

unfoldable pub next_part : Option Mark → Machine → ℕ → Whole → Ask → Option NextByte
next_part (Some k) m j q a = None
next_part None m j q a = if asks_siot a then going_alone (reach m j q a) (decision m j q a) else None
