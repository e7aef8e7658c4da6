-- What holds of a world whatever its state is: facts on numbers of files and drafts, and on slots
-- without a job.
-- No promise rests on this.
use Rattle.std.specs.Prelude.{◌≡◌, ◌<◌, ℕ, None, []}
use Rattle.its_word.specs.Core.{no_core}
use Rattle.its_core.specs.Cores.{core_at}
use Rattle.its_jobs.specs.Table.{job_at}
pub use Rattle.its_shared.specs.Across.{channel_by, channel_at, of_slot, tally, reads_file, writes_draft, writers, Across}
use Rattle.its_world.specs.Filed.{OnLists}
use Rattle.its_plain.specs.Operator.Clock.{clock_end}
use Rattle.its_world.specs.World.{alarm_at, symbols_at}
use Rattle.its_world.specs.declared.world.World.{World}

-- the core of a slot without a job is that of no job, and it has no symbols and no alarm; the clock
-- is below its end; the channels fit the files and drafts that exist; and each slot is on the wait
-- list to which it belongs
pub record Tidy (w : World) : Type 0 where
  pub blank : (k : ℕ) → job_at w.jobs k ≡ None → core_at w.core k ≡ no_core
  pub quiet : (k : ℕ) → job_at w.jobs k ≡ None → alarm_at w.alarms.items k ≡ None
  pub timed : w.clock < clock_end
  pub across : Across w.files w.jobs
  pub on_lists : OnLists w
  pub nameless : (k : ℕ) → job_at w.jobs k ≡ None → symbols_at w.symbols.items k ≡ []
