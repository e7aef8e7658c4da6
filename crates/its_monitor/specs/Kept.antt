-- The effect of a call of the operator on the state of a world.
-- No promise rests on this.
use Rattle.std.specs.Prelude.{if◌then◌else◌, ◌≡◌, ℕ, Bool, true, false, Option, Some, None, Result, Ok, Err}
use Rattle.its_records.specs.declared.session.Reason.{Reason}
use Rattle.its_records.specs.declared.session.Refusal.{Refusal}
use Rattle.its_records.specs.declared.session.Refusal.TheVariants as refusals
use Rattle.its_records.specs.declared.jobs.Job.{Job}
use Rattle.its_files.specs.Files.{after_help}
use Rattle.its_core.specs.Frames.{Frames, frames_map, frames_reserve}
use Rattle.its_jobs.specs.Table.{job_at}
use Rattle.its_plain.specs.Machine.{Machine}
use Rattle.its_stepped.specs.State.{State, plain}
use Rattle.its_stepped.specs.Lines.{with_raw}
use Rattle.its_stepped.specs.Unwind.{unwound, help}
use Rattle.its_records.specs.Refusals.{reason_of}
pub use Rattle.its_shared.specs.Refusals.{refusal_of}
use Rattle.its_world.specs.Filed.{OnLists}
use Rattle.its_world.specs.World.{state_of}
use Rattle.its_pclsr.specs.Apart.{CoresOff}
use Rattle.its_world.specs.Storage.{OnlyStore}
use Rattle.its_world.specs.declared.world.World.{World}
pub use Rattle.its_tick.specs.Kept.{Kept}

-- state v after a line that leads to a raw machine: its frames, reserved pages and mark are
-- unchanged
pub record Lands (v new : State) (r : Result Machine Reason) : Type 0 where
  pub is : r ≡ Ok new.raw
  pub rest : new ≡ with_raw v new.raw

-- the same of LOAD, which also answers a slot
pub record Loads (v new : State) (r : Result (Machine × ℕ) Reason) (s : ℕ) : Type 0 where
  pub is : r ≡ Ok (new.raw, s)
  pub rest : new ≡ with_raw v new.raw

-- what a line asks of the machine is refused by the plain machine of state w, by its raw machine,
-- and by that of the state v that the line would find
pub record Refused {X : Type 0} (w v : State) (f : Machine → Result X Reason) (e : Refusal) : Type 0 where
  pub plain : f (plain w) ≡ Err (reason_of e)
  pub raw : f w.raw ≡ Err (reason_of e)
  pub calmed : f v.raw ≡ Err (reason_of e)

-- the same of a line that looks at files: of the plain machine, and of the raw machine once the
-- pending parts of a close are performed, which they are even if the line is refused
pub record FileRefused {X : Type 0} (w : State) (f : Machine → Result X Reason) (e : Refusal) : Type 0 where
  pub plain : f (plain w) ≡ Err (reason_of e)
  pub calmed : f (help w).raw ≡ Err (reason_of e)

-- the frames of pages after a word of an a/ line of slot s: by whether page k is there, which else
-- is made
abbrev pub frames_loaded : Bool → ℕ → ℕ → Frames → Frames
frames_loaded true s k f = f
frames_loaded false s k f = frames_map s s k (frames_reserve s f)

-- a slot of a world was unwound, and has this job
pub record Calm (old mid : World) (s : ℕ) (j : Job) : Type 0 where
  pub kept : Kept mid
  pub cores : CoresOff old mid s
  pub unwinds : state_of mid ≡ unwound (state_of old) s
  pub job : job_at mid.jobs s ≡ Some j

pub record Calmed (old mid : World) (s : ℕ) : Type 0 where
  pub job : Job
  pub calm : Calm old mid s job

-- why a word cannot be deposited: by whether it can be stored, and whether its page is present
abbrev pub undepositable : Bool → Bool → Option Refusal
undepositable can there = if can then None else (if there then Some refusals.ReadOnly else Some refusals.NoPage)

-- why a word cannot be loaded: by whether it can be stored, whether its page is present, and
-- whether there is room
abbrev pub unloadable : Bool → Bool → Bool → Option Refusal
unloadable can there room = if can then None else (if there then Some refusals.ReadOnly else (if room then None else Some refusals.Full))

-- the raw machine of a world is another, with the same cores, jobs, files, clock and alarms
pub record Alters (old new : World) (m : Machine) : Type 0 where
  pub state : state_of new ≡ with_raw (state_of old) m
  pub core : new.core ≡ old.core
  pub jobs : new.jobs ≡ old.jobs
  pub files : new.files ≡ old.files
  pub symbols : new.symbols ≡ old.symbols
  pub pipes : new.pipes ≡ old.pipes
  pub clock : new.clock ≡ old.clock
  pub alarms : new.alarms ≡ old.alarms
  pub on_lists : OnLists old → OnLists new

-- the pending parts of a close of a world are performed, and nothing else: jobs, cores, pages and
-- their page frames are as they were
abbrev pub CloseMade : World → World → Type 0
CloseMade old new = OnlyStore old new (after_help old.files)

-- the pending parts of a close are performed
pub record Helped (old new : World) : Type 0 where
  pub alone : CloseMade old new
  pub files : new.files ≡ after_help old.files
  pub state : state_of new ≡ help (state_of old)
  pub kept : Kept new
