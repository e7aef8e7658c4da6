-- How the numbers of files and drafts in the channels of all jobs fit the files and drafts that
-- exist.
-- No promise rests on this.
use Rattle.std.specs.Prelude.{if◌then◌else◌, ◌≡◌, ◌==◌, ◌≤◌, ℕ, Bool, true, false, Option, Some, None, sum_by, slice_index_or}
use Rattle.std.specs.List.{range_with_len}
use Rattle.its_word.specs.Limits.{slots}
use Rattle.its_records.specs.declared.jobs.Channel.{Channel}
use Rattle.its_records.specs.declared.jobs.Channel.TheVariants.{Closed, TtyIn, TtyOut, Reading, Writing, Usr, Link}
use Rattle.its_records.specs.declared.jobs.Job.{Job}
use Rattle.its_jobs.specs.Table.{Table, job_at}
use Rattle.its_files.specs.Files.{Store, entry_at, readers_at, is_marked}
use Rattle.its_files.specs.declared.entry.Entry.{Entry}
use Rattle.its_files.specs.declared.entry.Entry.TheVariants.{File, Draft}

-- channel n of the job of slot k; closed if the slot is empty
abbrev pub channel_by : Option Job → ℕ → Channel
channel_by (Some j) n = slice_index_or j.channels n Closed
channel_by None n = Closed

abbrev pub channel_at : Table → ℕ → ℕ → Channel
channel_at t k n = channel_by (job_at t k) n

-- a sum over the 16 channels of all slots
abbrev pub of_slot : (Channel → ℕ) → (ℕ → ℕ → Channel) → ℕ → ℕ
of_slot weight cs k = sum_by (λ n. weight (cs k n)) (range_with_len 0 16)

unfoldable pub tally : (Channel → ℕ) → (ℕ → ℕ → Channel) → ℕ
tally weight cs = sum_by (of_slot weight cs) (range_with_len 0 slots)

-- a channel that reads the file of a number, and one that writes the draft of a number
abbrev pub reads_file : ℕ → Channel → ℕ
reads_file f (Reading g at) = if g == f then 1 else 0
reads_file f _ = 0

abbrev pub writes_draft : ℕ → Channel → ℕ
writes_draft d (Writing e) = if e == d then 1 else 0
writes_draft d _ = 0

-- a channel that is on no file and on no draft
abbrev pub IsElsewhere : Channel → Type 0
IsElsewhere Closed = Unit {0}
IsElsewhere TtyIn = Unit {0}
IsElsewhere TtyOut = Unit {0}
IsElsewhere (Usr s write at) = Unit {0}
IsElsewhere (Link l write) = Unit {0}
IsElsewhere (Reading f at) = ⊥
IsElsewhere (Writing d) = ⊥

-- how many channels write the entry of a number: one if it is a draft, but none if the draft is
-- marked
abbrev pub writers : Option Entry → Bool → ℕ
writers (Some (Draft names)) false = 1
writers (Some (Draft names)) true = 0
writers (Some (File names readers)) marked = 0
writers None marked = 0

-- the readers of a file are the channels that read it; and each draft except the marked one is that
-- of one channel. So a channel that reads is on a file that exists, and one that writes on a draft
-- that exists, is not marked, and belongs to no other. All channels are among the 16 of the slots
pub record Across (s : Store) (t : Table) : Type 0 where
  pub past_slots : (k n : ℕ) → slots ≤ k → channel_at t k n ≡ Closed
  pub past_numbers : (k n : ℕ) → 16 ≤ n → channel_at t k n ≡ Closed
  pub read : (f : ℕ) → tally (reads_file f) (channel_at t) ≡ readers_at s f
  pub written : (d : ℕ) → tally (writes_draft d) (channel_at t) ≡ writers (entry_at s d) (is_marked s d)

-- a channel on a job that is gone is closed
abbrev pub channel_left : (ℕ → Bool) → Channel → Channel
channel_left gone (Usr s w at) = if gone s then Closed else Usr s w at
channel_left gone Closed = Closed
channel_left gone TtyIn = TtyIn
channel_left gone TtyOut = TtyOut
channel_left gone (Reading f at) = Reading f at
channel_left gone (Writing d) = Writing d
channel_left gone (Link l w) = Link l w
