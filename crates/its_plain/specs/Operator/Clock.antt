-- The line CLOCK, and the alarms that it makes go (docs/SESSION.md, "The lines").
-- A promise rests on this.
use Rattle.std.specs.Prelude.{ℕ, ◌+◌, ◌&&◌, Bool, true, false, Option, Some, None, List, filter, option_map, Result, Ok, Err, nat_lt}
use Rattle.std.specs.List.{range_with_len}
use Rattle.its_word.specs.Limits.{slots}
use Rattle.its_records.specs.declared.session.Reason.{Reason}
use Rattle.its_records.specs.declared.session.Reason.TheVariants.{Range}
use Rattle.its_plain.specs.Machine.Alarm.{is_due, alarm_renewed}
use Rattle.its_plain.specs.Machine.Registers.{ALR, with_pending}
use Rattle.its_plain.specs.Machine.{Whole, Machine}

-- the alarm of the job of a slot
abbrev pub alarm_in : Option Whole → Option (ℕ × ℕ)
alarm_in (Some q) = q.alarm
alarm_in None = None

-- the slots of the jobs whose alarm is due at clock c, and the same in their order
abbrev pub due : ℕ → (ℕ → Option Whole) → ℕ → Bool
due c jobs k = nat_lt k slots && is_due c (alarm_in (jobs k))

unfoldable pub due_slots : ℕ → (ℕ → Option Whole) → List ℕ
due_slots c jobs = filter (due c jobs) (range_with_len 0 slots)

-- the alarm of a job goes at clock c: ALR is set in it, once, and the alarm has its next time
abbrev pub after_alarm : ℕ → Whole → Whole
after_alarm c q = record q { job = with_pending q.job ALR; alarm = alarm_renewed c q.alarm }

abbrev pub after_alarm_if : ℕ → Bool → Option Whole → Option Whole
after_alarm_if c true o = option_map (after_alarm c) o
after_alarm_if c false o = o

-- the clock becomes c, and the alarms that are due go
abbrev pub at_clock : ℕ → Machine → Machine
at_clock c m = record m { jobs = λ k. after_alarm_if c (due c m.jobs k) (m.jobs k); clock = c }

-- CLOCK: the clock gains n, and remains below 2 ^ 34
abbrev pub clock_end : ℕ
clock_end = 0o200000000000

abbrev pub after_clock_if : Machine → ℕ → Bool → Result Machine Reason
after_clock_if m n true = Ok (at_clock (m.clock + n) m)
after_clock_if m n false = Err Range

unfoldable pub after_clock : Machine → ℕ → Result Machine Reason
after_clock m n = after_clock_if m n (nat_lt (m.clock + n) clock_end)
