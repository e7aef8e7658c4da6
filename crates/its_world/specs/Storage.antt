-- What a change of a channel, a draft or a file needs of the state.
-- No promise rests on this.
use Rattle.std.specs.Prelude.{◌≡◌, ◌||◌, ℕ, true, false, is_some, length, nat_lt}
use Rattle.its_word.specs.Only.{Same}
use Rattle.its_records.specs.declared.jobs.Channel.{Channel}
use Rattle.its_plain.specs.Machine.{Names, Chan, Writes}
use Rattle.its_plain.specs.Machine.Change.{channel_in}
use Rattle.its_plain.specs.Call.File.{most_files, is_full, has_file, is_read}
use Rattle.its_plain.specs.Operator.Files.{channels_of}
use Rattle.its_stepped.specs.State.{State}
use Rattle.its_core.specs.Cores.{core_at, clear_at}
use Rattle.its_files.specs.Files.{Store}
pub use Rattle.its_shared.specs.Across.{IsElsewhere}
use Rattle.its_shared.specs.Channels.{OnlyChannel}
use Rattle.its_world.specs.World.{frame_at}
use Rattle.its_world.specs.Contents.{contents}
use Rattle.its_world.specs.Filed.{OnLists}
use Rattle.its_world.specs.declared.world.World.{World}

-- the slot has a job
abbrev pub HasJob : State → ℕ → Type 0
HasJob w j = is_some (w.raw.jobs j) ≡ true

-- what channel n of the job of slot j is on
abbrev pub chan_in : State → ℕ → ℕ → Chan
chan_in w j n = channel_in (w.raw.jobs j) n

-- a channel that writes a draft
abbrev pub IsDraft : Chan → Type 0
IsDraft (Writes f) = Unit {0}
IsDraft _ = ⊥

-- no channel reads a file with these names
abbrev pub Unread : State → Names → Type 0
Unread w names = is_read names (channels_of w.raw) ≡ false

-- there is room for a word more in the draft of a channel
abbrev pub HasRoom : State → Chan → Type 0
HasRoom w (Writes f) = is_full w.raw.files (channels_of w.raw) f.words ≡ false
HasRoom w _ = Unit {0}

-- the draft of a channel can become a file: in place of one that no channel reads, or of none if
-- there are fewer files than the most
abbrev pub CanClose : State → Chan → Type 0
CanClose w (Writes f) =
    Unread w f.names × ((has_file f.names w.raw.files || nat_lt (length w.raw.files) most_files) ≡ true)
CanClose w _ = Unit {0}

-- of the world only channel n of slot s's job changes, if it has one, and the store is t
pub record ChannelBecomes (old new : World) (s n : ℕ) (x : Channel) (t : Store) : Type 0 where
  pub jobs : OnlyChannel old.jobs new.jobs s n x
  pub core : Same (core_at old.core) (core_at new.core)
  pub reserved : Same (clear_at old.core) (clear_at new.core)
  pub pages : new.core.frames ≡ old.core.frames
  pub frames : Same (frame_at old.frames.items) (frame_at new.frames.items)
  pub rest : contents new ≡ record (contents old) { core = new.core; jobs = new.jobs; frames = new.frames; files = t; wait_lists = new.wait_lists }
  pub on_lists : OnLists old → OnLists new

-- channel n of slot s's job, which has one, was written, and all else, the lists too, is as it was
pub record ChannelWritten (old new : World) (s n : ℕ) (x : Channel) : Type 0 where
  pub jobs : OnlyChannel old.jobs new.jobs s n x
  pub rest : contents new ≡ record (contents old) { jobs = new.jobs }

-- of the world only the store is another: jobs, cores, the frames of their pages and all else are
-- as they were
pub record OnlyStore (old new : World) (t : Store) : Type 0 where
  pub is : contents new ≡ record (contents old) { files = t }
