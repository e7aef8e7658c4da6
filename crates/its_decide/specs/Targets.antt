-- The inferior that a call reaches through the channel that one of its arguments names.
-- No promise rests on this.
use Rattle.std.specs.Prelude.{◌≡◌, ◌<◌, ℕ}
use Rattle.its_word.specs.Limits.{slots}
use Rattle.its_core.specs.Cores.{core_at}
use Rattle.its_plain.specs.Call.Usr.{other_core}
use Rattle.its_decide.specs.Called.{looks}
use Rattle.its_decide.specs.declared.caller.Caller.{Caller}

-- the other core that a call sees is that of slot k, and n is the number of a channel
pub record Targets (c : Caller) (n k : ℕ) : Type 0 where
  pub number : n < 16
  pub few : k < slots
  pub core : other_core (looks c) ≡ core_at c.seen.now.core.now k
