-- What a slot keeps.
-- No promise rests on this.
use Rattle.std.specs.Prelude.{◌≡◌, ℕ}
use Rattle.its_stepped.specs.State.{State}

-- what a step leaves of all else, sound or not: other slots, and what slots share
pub record SlotSame (w v : State) (k : ℕ) : Type 0 where
  pub job : v.raw.jobs k ≡ w.raw.jobs k
  pub frame : v.frames k ≡ w.frames k
  pub page : v.reserved k ≡ w.reserved k
