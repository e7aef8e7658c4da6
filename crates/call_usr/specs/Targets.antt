-- The inferior that a call reaches.
-- No promise rests on this.
use Rattle.std.specs.Prelude.{◌≡◌, ◌<◌, ℕ, true, Some, is_some}
use Rattle.its_word.specs.Limits.{slots}
use Rattle.its_records.specs.declared.calls.Ask.{Ask}
use Rattle.its_records.specs.declared.jobs.Job.{Job}
use Rattle.its_jobs.specs.Table.{job_at}
use Rattle.its_plain.specs.Call.Arguments.{input}
use Rattle.its_plain.specs.Call.Decide.{target}
use Rattle.its_world.specs.declared.world.World.{World}
use Rattle.call_basic.specs.Seen.{raw_with}

-- the call of slot s with these registers reaches the job of slot k, and its first argument can be
-- that of a channel
pub record Targets (w : World) (s : ℕ) (j : Job) (a : Ask) (k : ℕ) : Type 0 where
  pub number : input a 0 < 16
  pub few : k < slots
  pub job : is_some (job_at w.jobs k) ≡ true
  pub target : target (raw_with w s j) a ≡ Some k
