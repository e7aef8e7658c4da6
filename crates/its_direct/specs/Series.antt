-- Steps of one job, one after another, that are its own alone.
-- No promise rests on this.
use Rattle.std.specs.Prelude.{◌≡◌, ◌&&◌, ℕ, zero, suc, Bool, false, not, Option, Some, None, is_some}
use Rattle.its_plain.specs.Call.Step.{quiet_step, transition}
use Rattle.its_plain.specs.Machine.{Whole, Machine}
use Rattle.pdp_exec.specs.Units.{after_unit, left}

-- n steps of slot j's job lead from machine m to machine o, each of which moves no byte, disturbs
-- nobody, and makes and removes no job
abbrev pub Series : ℕ → Machine → ℕ → Machine → Type 0
Series zero m j o = o ≡ m
Series (suc n) m j o =
    (p : Machine) × (transition m j ≡ Some (quiet_step p)) × ((k : ℕ) → is_some (p.jobs k) ≡ is_some (m.jobs k)) × Series n p j o

-- a unit of the job of a slot is due: it runs, no interrupt is deliverable, and its unit is no call
abbrev pub is_due : Option Whole → Bool
is_due (Some q) = not q.job.stopped && is_some (after_unit (Some (left q.core q.job)))
is_due None = false

unfoldable pub unit_due : Machine → ℕ → Bool
unit_due m j = is_due (m.jobs j)
