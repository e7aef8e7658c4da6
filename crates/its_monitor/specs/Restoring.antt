-- What the lines of the state part write in a world.
-- No promise rests on this.
use Rattle.std.specs.Prelude.{◌≡◌, ◌≤◌, ℕ, Bool, Some, List, ◌++◌, length}
use Rattle.its_word.specs.Console.{most_waiting}
use Rattle.its_word.specs.Only.{Only}
use Rattle.its_jobs.specs.Table.{superior_at}
use Rattle.its_plain.specs.Machine.Change.{on_console}
use Rattle.its_plain.specs.Operator.State.{bytes_of, with_bytes}
use Rattle.its_stepped.specs.Lines.{with_raw}
use Rattle.its_world.specs.Contents.{contents}
use Rattle.its_world.specs.Tidy.{Tidy}
use Rattle.its_world.specs.World.{state_of}
use Rattle.its_world.specs.declared.world.World.{World}

-- of the world only the superior of slot s's job is another: that of slot t
pub record SuperiorBecomes (old new : World) (s t : ℕ) : Type 0 where
  pub superior : Only (superior_at old.jobs) (superior_at new.jobs) s (Some t)
  pub jobs : new.jobs.jobs ≡ old.jobs.jobs
  pub rest : contents new ≡ record (contents old) { jobs = new.jobs }

-- bytes are written at a console one by one: those that are left have room, and once they are
-- written, the state is that with all of them
pub record BytesLeft (c : ℕ) (out : Bool) (bytes left : List ℕ) (old w : World) : Type 0 where
  pub rest : with_raw (state_of w) (on_console (state_of w).raw c (with_bytes out left))
      ≡ with_raw (state_of old) (on_console (state_of old).raw c (with_bytes out bytes))
  pub room : length (bytes_of out ((state_of w).raw.consoles c) ++ left) ≤ most_waiting
  pub tidy : Tidy w
