-- The alarms of the jobs of a machine (docs/STEPS.md, "Soundness").
-- No promise rests on this.
use Rattle.std.specs.Prelude.{◌≤◌, ◌<◌, ℕ, IfSome}
use Rattle.its_plain.specs.Call.Basic.{longest_period}
use Rattle.its_plain.specs.Machine.{Machine}
use Rattle.its_plain.specs.Operator.Clock.{alarm_in}

-- an alarm that is to come at clock c: its period is at least 1 and at most 2 ^ 34, and its next
-- time is above the clock
pub record Coming (c : ℕ) (a : ℕ × ℕ) : Type 0 where
  pub some : 1 ≤ a.0
  pub most : a.0 ≤ longest_period
  pub next : c < a.1

-- an alarm whose next time can be found
pub record Periodic (a : ℕ × ℕ) : Type 0 where
  pub some : 1 ≤ a.0
  pub most : a.0 ≤ longest_period

-- each alarm is to come; an alarm is that of a job, so that a slot without a job has none
pub record Alarmed (m : Machine) : Type 0 where
  pub each : (k : ℕ) → IfSome (alarm_in (m.jobs k)) (λ a. Coming m.clock a)
