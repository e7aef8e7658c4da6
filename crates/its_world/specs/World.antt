-- The state of the stepped machine of a world.
-- No promise rests on this.
use Rattle.std.specs.Prelude.{◌≡◌, ℕ, Option, Some, None, List, [], ◌∷◌, ◌++◌, take, drop, unwrap_or}
use Rattle.std.specs.List.{last_or}
use Rattle.its_word.specs.Only.{Only, Same}
use Rattle.its_word.specs.Console.{Console, most_waiting}
use Rattle.its_word.specs.Core.{Core}
use Rattle.its_records.specs.declared.jobs.Job.{Job}
use Rattle.its_core.specs.Cores.{core_at, clear_at}
use Rattle.its_core.specs.Frames.{Frames, frames_reserve, frames_give_back}
use Rattle.its_jobs.specs.Table.{job_at}
use Rattle.its_files.specs.Files.{Store, file_at, directory}
use Rattle.its_files.specs.declared.entry.Mark.{Mark as FilesMark}
use Rattle.its_files.specs.declared.entry.Parts.{Parts}
use Rattle.its_files.specs.declared.entry.Parts.TheVariants.{Replace, Link, Free}
use Rattle.its_frame.specs.declared.frame.Frame.{Frame}
use Rattle.its_plain.specs.Machine.{Symbol, File, Machine, Pipe, Whole}
use Rattle.its_plain.specs.Machine.Change.{in_job}
use Rattle.its_stepped.specs.State.{Part, UnlinkOld, LinkNew, FreeOld, Mark, State, plain}
pub use Rattle.its_shared.specs.Parts.{chan_of, closed_channels, bare, chans_of, raw_of, alarm_at, raw_at, no_symbols, symbols_at, raw_machine}
use Rattle.its_pipes.specs.Pipes.{piped}
pub use Rattle.its_world.specs.Filed.{frame_at, console_at, holder_at}
use Rattle.its_world.specs.Contents.{contents}
use Rattle.its_world.specs.Filed.{OnLists}
use Rattle.its_world.specs.declared.world.World.{World}

-- a close that is half made: its draft becomes the last file; if that is done, it is the last file
abbrev pub no_file : File
no_file = record { names = []; words = [] }

abbrev pub parts_left : Parts → List Part
parts_left (Replace old draft) = UnlinkOld ∷ LinkNew ∷ FreeOld ∷ []
parts_left (Link (Some old) draft) = LinkNew ∷ FreeOld ∷ []
parts_left (Link None draft) = LinkNew ∷ []
parts_left (Free old) = FreeOld ∷ []

abbrev pub last_file : Store → File
last_file s = unwrap_or (last_or None (directory s)) no_file

abbrev pub draft_left : Store → Parts → File
draft_left s (Replace old draft) = file_at s draft
draft_left s (Link old draft) = file_at s draft
draft_left s (Free old) = last_file s

abbrev pub marking : Store → Option FilesMark → Option Mark
marking s (Some m) = Some (record { owner = m.owner; draft = draft_left s m.parts; parts = parts_left m.parts })
marking s None = None

unfoldable pub mark_of : Store → Option Mark
mark_of s = marking s s.mark

-- the state of a world
unfoldable pub state_of : World → State
state_of w = record {
  raw = raw_machine w.files w.core w.jobs w.alarms.items w.consoles.items w.holders w.clock w.version w.symbols.items w.pipes;
  frames = frame_at w.frames.items;
  reserved = clear_at w.core;
  mark = mark_of w.files;
}

-- the call in progress of a slot; its core and job in the raw machine; and the plain machine of a
-- world
abbrev pub call_in : World → ℕ → Option Frame
call_in w k = frame_at w.frames.items k

abbrev pub raw_in : World → ℕ → Option Whole
raw_in w k = raw_at w.files w.core w.jobs w.alarms.items k

abbrev pub plain_of : World → Machine
plain_of w = plain (state_of w)

-- the job of a slot changed, with the frame and the page that it has
abbrev pub in_raw : State → ℕ → (Whole → Whole) → State
in_raw w s h = record w { raw = in_job w.raw s h }

-- the frames of pages, as slot s reserves a page or gives back the one that it has; else they stay.
-- (The first is how many quarters of its reserved page were clear, the second how many are)
abbrev pub frames_after : Option ℕ → Option ℕ → ℕ → Frames → Frames
frames_after None (Some n) s f = frames_reserve s f
frames_after (Some n) None s f = frames_give_back s f
frames_after None None s f = f
frames_after (Some n) (Some k) s f = f

-- a world whose pages are in other page frames
abbrev pub with_frames : World → Frames → World
with_frames w f = record w { core = record w.core { frames = f } }

-- of the world only slot s changes: its core, its job with the same superior, its frame, and how
-- many quarters of its reserved page are clear. Each page stays in its page frame. If each slot was
-- on the list to which it belonged, it is again
pub record Becomes (old new : World) (s : ℕ) (c : Core) (j : Option Job) (f : Option Frame) (r : Option ℕ) : Type 0 where
  pub core : Only (core_at old.core) (core_at new.core) s c
  pub job : Only (job_at old.jobs) (job_at new.jobs) s j
  pub superiors : new.jobs.superiors ≡ old.jobs.superiors
  pub frame : Only (frame_at old.frames.items) (frame_at new.frames.items) s f
  pub reserved : Only (clear_at old.core) (clear_at new.core) s r
  pub pages : new.core.frames ≡ frames_after (clear_at old.core s) r s old.core.frames
  pub rest : contents new ≡ record (contents old) { core = new.core; jobs = new.jobs; frames = new.frames; wait_lists = new.wait_lists }
  pub on_lists : OnLists old → OnLists new

-- of the world only the core, only the registers, or only the frame of slot s changes
abbrev pub CoreBecomes : World → World → ℕ → Core → Type 0
CoreBecomes old new s c = Becomes old new s c (job_at old.jobs s) (frame_at old.frames.items s) (clear_at old.core s)

abbrev pub JobBecomes : World → World → ℕ → Job → Type 0
JobBecomes old new s j = Becomes old new s (core_at old.core s) (Some j) (frame_at old.frames.items s) (clear_at old.core s)

abbrev pub FrameBecomes : World → World → ℕ → Option Frame → Type 0
FrameBecomes old new s f = Becomes old new s (core_at old.core s) (job_at old.jobs s) f (clear_at old.core s)

abbrev pub PageBecomes : World → World → ℕ → Option ℕ → Type 0
PageBecomes old new s r = Becomes old new s (core_at old.core s) (job_at old.jobs s) (frame_at old.frames.items s) r

-- of the world only console c changes, or only its holder, or only link l with its words; and each
-- slot is on the list to which it belongs if it was before
pub record ConsoleBecomes (old new : World) (c : ℕ) (x : Console) : Type 0 where
  pub consoles : Only (console_at old.consoles.items) (console_at new.consoles.items) c x
  pub rest : contents new ≡ record (contents old) { consoles = new.consoles; wait_lists = new.wait_lists }
  pub on_lists : OnLists old → OnLists new

pub record HolderBecomes (old new : World) (c : ℕ) (h : Option ℕ) : Type 0 where
  pub holders : Only (holder_at old.holders) (holder_at new.holders) c h
  pub rest : contents new ≡ record (contents old) { holders = new.holders; wait_lists = new.wait_lists }
  pub on_lists : OnLists old → OnLists new

pub record LinkBecomes (old new : World) (l : ℕ) (p : Option Pipe) : Type 0 where
  pub links : Only (piped old.pipes) (piped new.pipes) l p
  pub rest : contents new ≡ record (contents old) { pipes = new.pipes; wait_lists = new.wait_lists }
  pub on_lists : OnLists old → OnLists new

-- the clock was set
pub record ClockBecomes (old new : World) (c : ℕ) : Type 0 where
  pub rest : contents new ≡ record (contents old) { clock = c; wait_lists = new.wait_lists }
  pub on_lists : OnLists old → OnLists new

-- of the world only the symbols of slot s change, or only its alarm
pub record SymbolsBecome (old new : World) (s : ℕ) (ss : List Symbol) : Type 0 where
  pub symbols : Only (symbols_at old.symbols.items) (symbols_at new.symbols.items) s ss
  pub rest : contents new ≡ record (contents old) { symbols = new.symbols; wait_lists = new.wait_lists }
  pub on_lists : OnLists old → OnLists new

pub record AlarmBecomes (old new : World) (s : ℕ) (a : Option (ℕ × ℕ)) : Type 0 where
  pub alarms : Only (alarm_at old.alarms.items) (alarm_at new.alarms.items) s a
  pub rest : contents new ≡ record (contents old) { alarms = new.alarms; wait_lists = new.wait_lists }
  pub on_lists : OnLists old → OnLists new

-- of the world only the version changes, and with it the limit of its jobs
pub record VersionBecomes (old new : World) (v : ℕ) : Type 0 where
  pub jobs : Same (job_at old.jobs) (job_at new.jobs)
  pub superiors : new.jobs.superiors ≡ old.jobs.superiors
  pub rest : contents new ≡ record (contents old) { version = v; jobs = new.jobs; wait_lists = new.wait_lists }
  pub on_lists : OnLists old → OnLists new

-- a console at which a byte was typed, if it has room, and one that a byte was drained from
abbrev pub typed_at : ℕ → Console → Console
typed_at b x = record x { input = take most_waiting (x.input ++ b ∷ []) }

abbrev pub drained_at : Console → Console
drained_at x = record x { output = drop 1 x.output }
