-- The next part of a marked close, made; and the first pending step of a call, taken.
-- No promise rests on this.
use Rattle.std.specs.Prelude.{◌≡◌, ℕ, Some, List, ◌∷◌}
use Rattle.its_records.specs.declared.calls.Ask.{Ask}
use Rattle.its_records.specs.declared.calls.Owed.{Owed}
use Rattle.its_records.specs.declared.calls.Site.{Site}
use Rattle.its_stepped.specs.State.{ending, mine}
use Rattle.its_stepped.specs.Unwind.{due, with_part}
use Rattle.its_world.specs.World.{state_of, frame_at, FrameBecomes}
use Rattle.its_world.specs.declared.world.World.{World}

pub record NextMade (old new : World) : Type 0 where
  pub row : state_of new ≡ with_part (state_of old).mark (state_of old)
  pub core : new.core ≡ old.core
  pub jobs : new.jobs ≡ old.jobs
  pub symbols : new.symbols ≡ old.symbols
  pub pipes : new.pipes ≡ old.pipes

-- the call of slot s has ended; o is the first of its pending steps that is still due, and these
-- are the rest
pub record Taken (old new : World) (s : ℕ) (o : Owed) : Type 0 where
  pub site : Site
  pub ask : Ask
  pub owed : List Owed
  pub rest : List Owed
  pub here : frame_at old.frames.items s ≡ Some (ending site ask owed)
  pub first : due (mine (state_of old).mark s) owed ≡ o ∷ rest
  pub frame : FrameBecomes old new s (Some (ending site ask rest))
