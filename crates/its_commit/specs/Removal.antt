-- What a removal leaves of a slot.
-- No promise rests on this.
use Rattle.std.specs.Prelude.{if◌then◌else◌, ◌≡◌, ◌≢◌, ◌≤◌, ◌<◌, ℕ, Bool, true, false, None, option_map}
use Rattle.its_word.specs.Core.{no_core}
use Rattle.its_records.specs.declared.jobs.Channel.TheVariants as channels
use Rattle.its_core.specs.Cores.{core_at}
use Rattle.its_core.specs.Frames.{frames_drop_all}
use Rattle.its_word.specs.Limits.{slots}
use Rattle.its_jobs.specs.Table.{Table}
use Rattle.its_plain.specs.Machine.Change.{after_shut, superiors}
use Rattle.its_plain.specs.Machine.{Shut}
use Rattle.its_stepped.specs.SlotSame.{SlotSame}
use Rattle.its_stepped.specs.State.{State}
use Rattle.its_world.specs.Storage.{chan_in, IsElsewhere}
use Rattle.its_world.specs.Tidy.{channel_at}
pub use Rattle.its_shared.specs.Across.{channel_left}
use Rattle.its_world.specs.World.{alarm_at, state_of}
use Rattle.its_commit.specs.Pages.{pages_swept}
use Rattle.its_world.specs.declared.world.World.{World}

-- what slots share is as it was, and so are the superiors of jobs
pub record Shared (old new : State) : Type 0 where
  pub superiors : (k : ℕ) → superiors new.raw k ≡ superiors old.raw k
  pub consoles : new.raw.consoles ≡ old.raw.consoles
  pub holders : new.raw.holders ≡ old.raw.holders
  pub files : new.raw.files ≡ old.raw.files
  pub clock : new.raw.clock ≡ old.raw.clock
  pub version : new.raw.version ≡ old.raw.version
  pub symbols : new.raw.symbols ≡ old.raw.symbols
  pub links : new.raw.links ≡ old.raw.links
  pub mark : new.mark ≡ old.mark

-- nothing but slot s changes, and it keeps its page
pub record Alone (old new : State) (s : ℕ) : Type 0 where
  pub others : (k : ℕ) → k ≢ s → SlotSame old new k
  pub page : new.reserved s ≡ old.reserved s
  pub shared : Shared old new

-- the job of slot s has its channels below m closed, and all else is as it was
pub record Closes (old new : State) (s m : ℕ) : Type 0 where
  pub alone : Alone old new s
  pub frame : new.frames s ≡ old.frames s
  pub closed : (n : ℕ) → n < m → chan_in new s n ≡ Shut

-- the slot of a job that is to go: no page is left, no channel is open, it has no alarm and no
-- frame. The frames of its pages are free
pub record Bare (w : World) (k : ℕ) : Type 0 where
  pub core : core_at w.core k ≡ no_core
  pub channels : (n : ℕ) → channel_at w.jobs k n ≡ channels.Closed
  pub alarm : alarm_at w.alarms.items k ≡ None

pub record Empties (old new : World) (s : ℕ) : Type 0 where
  pub alone : Alone (state_of old) (state_of new) s
  pub frame : (state_of new).frames s ≡ None
  pub bare : Bare new s
  pub pages : new.core.frames ≡ frames_drop_all s old.core.frames

-- slot k: this is done to it if its job is to go; else its channels on jobs that go are closed
pub record SlotSwept (gone : ℕ → Bool) (old new : State) (k : ℕ) : Type 0 where
  pub job : gone k ≡ false → new.raw.jobs k ≡ option_map (after_shut gone) (old.raw.jobs k)
  pub frame : new.frames k ≡ (if gone k then None else old.frames k)
  pub page : new.reserved k ≡ old.reserved k

-- this is done in slot s alone
pub record Sweeps (gone : ℕ → Bool) (old new : World) (s : ℕ) : Type 0 where
  pub here : SlotSwept gone (state_of old) (state_of new) s
  pub bare : gone s ≡ true → Bare new s
  pub alone : Alone (state_of old) (state_of new) s
  pub pages : new.core.frames ≡ (if gone s then frames_drop_all s old.core.frames else old.core.frames)

-- it is done in the slots below n
pub record Swept (gone : ℕ → Bool) (old new : World) (n : ℕ) : Type 0 where
  pub done : (k : ℕ) → k < n → SlotSwept gone (state_of old) (state_of new) k
  pub bare : (k : ℕ) → k < n → gone k ≡ true → Bare new k
  pub rest : (k : ℕ) → n ≤ k → SlotSame (state_of old) (state_of new) k
  pub shared : Shared (state_of old) (state_of new)
  pub pages : new.core.frames ≡ pages_swept gone n old.core.frames

-- no channel of a job is on a file or a draft, and all channels are among the 16 of the slots
pub record Elsewhere (t : Table) : Type 0 where
  pub past_slots : (k n : ℕ) → slots ≤ k → channel_at t k n ≡ channels.Closed
  pub past_numbers : (k n : ℕ) → 16 ≤ n → channel_at t k n ≡ channels.Closed
  pub each : (k n : ℕ) → IsElsewhere (channel_at t k n)
