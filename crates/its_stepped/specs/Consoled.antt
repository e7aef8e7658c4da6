-- The console of each job of a machine is one of eight.
-- No promise rests on this.
use Rattle.std.specs.Prelude.{◌<◌, ℕ, IfSome}
use Rattle.its_plain.specs.Machine.{Machine}

pub record Consoled (m : Machine) : Type 0 where
  pub each : (k : ℕ) → IfSome (m.jobs k) (λ q. IfSome q.job.console (λ c. c < 8))
