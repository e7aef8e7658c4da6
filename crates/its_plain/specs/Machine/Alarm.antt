-- Alarms of jobs (docs/CALLS.md, "REALT").
-- A promise rests on this.
use Rattle.std.specs.Prelude.{ℕ, ◌+◌, ◌-◌, ◌*◌, ◌/◌, Bool, false, Option, Some, None, nat_le, option_map}

-- an alarm is a pair: its period, and its next time, in thirtieths. It is due at a clock that has
-- reached its next time
abbrev pub is_due : ℕ → Option (ℕ × ℕ) → Bool
is_due c (Some a) = nat_le a.1 c
is_due c None = false

-- the next time of an alarm that goes at clock c: it gains the least multiple of the period that
-- brings it above c
unfoldable pub time_after : ℕ → ℕ × ℕ → ℕ
time_after c a = a.1 + ((c - a.1) / a.0 + 1) * a.0

-- the alarm of a job after it went at clock c
abbrev pub alarm_renewed : ℕ → Option (ℕ × ℕ) → Option (ℕ × ℕ)
alarm_renewed c o = option_map (λ (a : ℕ × ℕ). (a.0, time_after c a)) o
