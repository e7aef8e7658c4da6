-- One value of many changes.
-- No promise rests on this.
use Rattle.std.specs.Prelude.{◌≡◌, ◌≢◌, ℕ}

-- new is old, except for the value at i, which is x
pub record Only {X : Type 0} (old new : ℕ → X) (i : ℕ) (x : X) : Type 0 where
  pub here : new i ≡ x
  pub others : (k : ℕ) → k ≢ i → new k ≡ old k

-- nothing changes
pub record Same {X : Type 0} (old new : ℕ → X) : Type 0 where
  pub each : (k : ℕ) → new k ≡ old k
