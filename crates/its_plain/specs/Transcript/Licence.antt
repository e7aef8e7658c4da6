-- The letters of ticks: when each is licensed, and the dots after it (docs/MACHINE.md, "Ticks and
-- letters").
-- A promise rests on this.
use Rattle.std.specs.Prelude.{if◌then◌else◌, ◌≡◌, ◌==◌, ℕ, ◌+◌, Bool, true, false, ◌||◌, Option, Some, None}
use Rattle.its_records.specs.declared.calls.Pace.{Pace}
use Rattle.its_records.specs.declared.calls.Pace.TheVariants.{Step, Work, Wait, Off}
use Rattle.its_plain.specs.Call.Step.{step, disturbed, makes}
use Rattle.its_plain.specs.Machine.{Whole, Machine}

-- the job of a slot runs
abbrev pub IsRunning : Option Whole → Type 0
IsRunning (Some q) = q.job.stopped ≡ false
IsRunning None = ⊥

-- the slot is empty, or its job is stopped
abbrev pub IsOff : Option Whole → Type 0
IsOff (Some q) = q.job.stopped ≡ true
IsOff None = Unit {0}

-- a letter is licensed for slot i of machine m, and n is the machine afterwards: `*` is the step of
-- its job; `.` and `w` leave the machine as it is, and its job runs; `w` occurs only if the job has
-- no step; `-` occurs only if the slot is empty or its job is stopped
abbrev pub Licensed : Machine → ℕ → Pace → Machine → Type 0
Licensed m i Step n = step m i ≡ Some n
Licensed m i Work n = IsRunning (m.jobs i) × (n ≡ m)
Licensed m i Wait n = IsRunning (m.jobs i) × (step m i ≡ None) × (n ≡ m)
Licensed m i Off n = IsOff (m.jobs i) × (n ≡ m)

-- how many `.` came for each slot since its last `*`, its last disturbance or its making
abbrev pub Dots : Type 0
Dots = ℕ → ℕ

-- no more than this come in a row
abbrev pub most_dots : ℕ
most_dots = 16

-- the dots after a letter of slot i: one more after `.`, and none after `*` for its job, for those
-- that it disturbed and for one that it made
abbrev pub dots_after : Machine → Dots → ℕ → Pace → Dots
dots_after m d i Step k = if (k == i) || disturbed m i k || makes m i k then 0 else d k
dots_after m d i Work k = if k == i then d k + 1 else d k
dots_after m d i Wait k = d k
dots_after m d i Off k = d k

-- the dots after a line: none for the slots that it disturbs or fills
abbrev pub dots_after_line : Dots → (ℕ → Bool) → Dots
dots_after_line d touched k = if touched k then 0 else d k
