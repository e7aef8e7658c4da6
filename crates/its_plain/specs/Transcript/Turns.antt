-- Turns in a circle: which job runs, whose turn comes next, and how many turns a line asks for
-- (docs/MACHINE.md, "Turns in a circle").
-- A promise rests on this.
use Rattle.std.specs.Prelude.{ℕ, ◌-◌, Bool, false, not, Option, Some, None}
use Rattle.its_robin.specs.Robin.{robin}
use Rattle.its_word.specs.Limits.{slots}
use Rattle.its_records.specs.declared.session.Event.{Event}
use Rattle.its_records.specs.declared.session.Event.TheVariants as events
use Rattle.its_records.specs.declared.state_line.StateLine.TheVariants as states
use Rattle.its_plain.specs.Machine.{Whole, Machine}

-- the job of a slot runs
abbrev pub is_running : Option Whole → Bool
is_running (Some q) = not q.job.stopped
is_running None = false

abbrev pub runs : Machine → ℕ → Bool
runs m k = is_running (m.jobs k)

-- whose turn comes after that of the last slot: the first slot after it whose job runs, around the
-- circle of all slots, with the last slot itself as the final one; nobody's if no job runs
abbrev pub turn_after : Machine → ℕ → Option ℕ
turn_after m last = robin slots (runs m) last

-- before the first turn of a session the highest slot counts as the last one
abbrev pub highest : ℕ
highest = slots - 1

-- the slot that counts as that of the last turn after a line: TURN names it
abbrev pub turn_kept : ℕ → Event → ℕ
turn_kept last (events.Restore (states.Turn s)) = s
turn_kept last _ = last

-- RUN n q asks for n turns of q ticks, and no other line asks for any
abbrev pub turns_asked : Event → ℕ
turns_asked (events.Run n q) = n
turns_asked _ = 0

abbrev pub ticks_asked : Event → ℕ
ticks_asked (events.Run n q) = q
ticks_asked _ = 0
