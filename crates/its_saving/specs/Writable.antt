-- What has to hold of a world so that its lines are those of its machine: each channel is on
-- something that is there, consoles and holders have numbers that there are, and alarms are those
-- of jobs.
-- No promise rests on this.
use Rattle.std.specs.Prelude.{◌≡◌, ◌≤◌, ◌<◌, ℕ, true, None, IfSome, is_some}
use Rattle.its_word.specs.Limits.{slots}
use Rattle.its_records.specs.declared.jobs.Channel.{Channel}
use Rattle.its_records.specs.declared.jobs.Channel.TheVariants.{Reading, Writing, Usr}
use Rattle.its_jobs.specs.Table.{job_at}
use Rattle.its_files.specs.Files.{Store, entry_at}
use Rattle.its_shared.specs.Across.{channel_at}
use Rattle.its_shared.specs.Parts.{alarm_at, holder_at}
use Rattle.its_world.specs.declared.world.World.{World}

-- a channel is on a file or a draft that there is, or on a slot that can have a job
abbrev pub Stands : Store → Channel → Type 0
Stands s (Reading f at) = is_some (entry_at s f) ≡ true
Stands s (Writing d) = is_some (entry_at s d) ≡ true
Stands s (Usr k w at) = k < slots
Stands s _ = Unit {0}

pub record Writable (w : World) : Type 0 where
  pub consoles : (k : ℕ) → IfSome (job_at w.jobs k) (λ j. IfSome j.console (λ c. c ≤ 7))
  pub quiet : (k : ℕ) → job_at w.jobs k ≡ None → alarm_at w.alarms.items k ≡ None
  pub channels : (k n : ℕ) → Stands w.files (channel_at w.jobs k n)
  pub holders : (c : ℕ) → IfSome (holder_at w.holders c) (λ s. s < slots)
