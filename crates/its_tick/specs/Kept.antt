-- What holds of a world between two calls.
-- No promise rests on this.
use Rattle.std.specs.Prelude.{◌<◌, ◌^◌, ℕ, IfSome}
use Rattle.its_plain.specs.Operator.Clock.{clock_end}
use Rattle.its_stepped.specs.State.{plain}
use Rattle.its_stepped.specs.Sound.{Sound}
use Rattle.its_stepped.specs.Alarmed.{Alarmed}
use Rattle.its_stepped.specs.Forest.{Forest}
use Rattle.its_world.specs.World.{state_of}
use Rattle.its_world.specs.Tidy.{Tidy}
use Rattle.its_world.specs.declared.world.World.{World}
use Rattle.its_tick.specs.Waits.{WaitListsHold}

-- the state is sound, and the jobs of its plain machine are a forest; files and drafts have the
-- channels that they say, and the core of an empty slot is that of no job; the PC of each job of
-- the plain machine is an address, and its console is one of eight; the clock is below its end, and
-- each alarm is to come; and the lists of those that wait hold the slots that the plain machine
-- says
pub record Kept (w : World) : Type 0 where
  pub sound : Sound (state_of w)
  pub forest : Forest (plain (state_of w))
  pub tidy : Tidy w
  pub addressed : (k : ℕ) → IfSome ((plain (state_of w)).jobs k) (λ q. q.job.pc < 2 ^ 18)
  pub consoled : (k : ℕ) → IfSome ((plain (state_of w)).jobs k) (λ q. IfSome q.job.console (λ c. c < 8))
  pub timed : (plain (state_of w)).clock < clock_end
  pub alarmed : Alarmed (plain (state_of w))
  pub wait_lists : WaitListsHold w
