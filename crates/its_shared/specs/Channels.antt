-- One channel of one job is another; and what a machine shows of files and channels.
-- No promise rests on this.
use Rattle.std.specs.Prelude.{◌≡◌, ◌≢◌, ℕ, true, is_some, option_map}
use Rattle.its_records.specs.declared.jobs.Channel.{Channel}
use Rattle.its_files.specs.Files.{Store, directory}
use Rattle.its_jobs.specs.Table.{Table, job_at}
use Rattle.its_plain.specs.Machine.{Machine}
use Rattle.its_plain.specs.Operator.Files.{channels_of}
use Rattle.its_shared.specs.Across.{channel_at}
use Rattle.its_shared.specs.Parts.{bare, chan_of}

-- of the jobs only that of slot s is another, if there is one, and of its channels only channel n
pub record OnlyChannel (old new : Table) (s n : ℕ) (x : Channel) : Type 0 where
  pub here : is_some (job_at old s) ≡ true → channel_at new s n ≡ x
  pub row : (m : ℕ) → m ≢ n → channel_at new s m ≡ channel_at old s m
  pub job : option_map bare (job_at new s) ≡ option_map bare (job_at old s)
  pub rows : (k : ℕ) → k ≢ s → job_at new k ≡ job_at old k
  pub superiors : new.superiors ≡ old.superiors

-- a machine has the files of a store, and its channels are on what those of the jobs are
pub record Shows (m : Machine) (s : Store) (t : Table) : Type 0 where
  pub files : m.files ≡ directory s
  pub chans : channels_of m ≡ (λ k n. chan_of s (channel_at t k n))
