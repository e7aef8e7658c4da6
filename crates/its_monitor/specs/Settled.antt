-- A state in which nothing is half done: its raw machine is the plain machine.
-- No promise rests on this.
use Rattle.std.specs.Prelude.{◌≡◌, ℕ, None}
use Rattle.its_stepped.specs.State.{State, plain}

-- no job is inside a call, and no close is half made
pub record IsSettled (w : State) : Type 0 where
  pub frames : (k : ℕ) → w.frames k ≡ None
  pub mark : w.mark ≡ None
  pub machine : w.raw ≡ plain w
