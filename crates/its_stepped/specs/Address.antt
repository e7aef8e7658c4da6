-- The PC of each job of a machine is an address.
-- No promise rests on this.
use Rattle.std.specs.Prelude.{◌<◌, ℕ, ◌^◌, IfSome}
use Rattle.its_plain.specs.Machine.{Machine}

pub record Addressed (m : Machine) : Type 0 where
  pub each : (k : ℕ) → IfSome (m.jobs k) (λ q. q.job.pc < 2 ^ 18)
