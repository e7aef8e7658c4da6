-- How the parts of a machine fit each other when no call is in progress.
-- No promise rests on this.
use Rattle.std.specs.Prelude.{◌≡◌, ◌≤◌, ℕ, true, None, is_some}
use Rattle.its_word.specs.Core.{no_core}
use Rattle.its_word.specs.Limits.{slots, limit_of}
use Rattle.its_records.specs.declared.jobs.Channel.{Channel}
use Rattle.its_records.specs.declared.jobs.Channel.TheVariants.{Usr}
use Rattle.its_core.specs.Cores.{core_at}
use Rattle.its_jobs.specs.Table.{Table, job_at}
use Rattle.its_shared.specs.Across.{Across, channel_at}
use Rattle.its_decide.specs.declared.caller.Seen.{Seen}

-- a channel on a job is on one that exists
abbrev pub OnJob : Table → Channel → Type 0
OnJob t (Usr s write at) = is_some (job_at t s) ≡ true
OnJob t _ = Unit {0}

-- the numbers in channels fit the files and drafts, of which none is being closed, and the jobs,
-- which have slots; a slot without a job has no page; and the limit of jobs is that of the version
pub record SeenFits (s : Seen) : Type 0 where
  pub across : Across s.files.now s.jobs.now
  pub unmarked : s.files.now.mark ≡ None
  pub aimed : (k n : ℕ) → OnJob s.jobs.now (channel_at s.jobs.now k n)
  pub few : (k : ℕ) → slots ≤ k → job_at s.jobs.now k ≡ None
  pub blank : (k : ℕ) → job_at s.jobs.now k ≡ None → core_at s.core.now k ≡ no_core
  pub limited : s.jobs.now.limit ≡ limit_of s.version
