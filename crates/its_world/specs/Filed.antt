-- The lists of slots that wait: to which of them a slot of a world belongs.
-- No promise rests on this.
use Rattle.std.specs.Prelude.{if◌then◌else◌, ◌≡◌, ◌≢◌, ◌<◌, ℕ, Bool, true, false, Option, Some, None, List, nat_lt, slice_index_or, unwrap_or, ◌⊎◌}
use Rattle.its_links.specs.Lists.{list_at, count}
use Rattle.its_word.specs.Only.{Only}
use Rattle.its_records.specs.declared.calls.Ask.{Ask}
use Rattle.its_records.specs.declared.jobs.Channel.{Channel}
use Rattle.its_records.specs.declared.jobs.Channel.TheVariants as channels
use Rattle.its_records.specs.declared.jobs.Job.{Job}
use Rattle.its_jobs.specs.Table.{job_at}
use Rattle.its_frame.specs.declared.decision.Wait.{Wait}
use Rattle.its_frame.specs.declared.frame.Frame.{Frame}
use Rattle.its_frame.specs.declared.frame.Frame.TheVariants.{Waiting}
use Rattle.its_plain.specs.Machine.{Chan, Shut, TtyIn, TtyOut, Linked, Pipe}
use Rattle.its_plain.specs.Call.Arguments.{input}
use Rattle.its_plain.specs.Call.Decide.{call_named}
use Rattle.its_plain.specs.Call.Reasons.{Doors, held_up, reason_by}
use Rattle.its_pipes.specs.Pipes.{piped}
use Rattle.its_word.specs.Console.{Console}
pub use Rattle.its_shared.specs.Parts.{console_at, holder_at}
use Rattle.its_world.specs.Contents.{contents}
use Rattle.its_world.specs.WaitLists.{IsWaitList, awake_of, place_at, is_within, StandsIn, Filed, AwayFrom}
use Rattle.its_world.specs.declared.world.World.{World}

-- the frame of a slot
abbrev pub frame_at : List (Option Frame) → ℕ → Option Frame
frame_at frames k = slice_index_or frames k None

-- what a channel is on, as far as waiting goes: which file or draft it is does not matter
abbrev pub kind_of : Channel → Chan
kind_of channels.Closed = Shut
kind_of channels.TtyIn = TtyIn
kind_of channels.TtyOut = TtyOut
kind_of (channels.Reading f at) = Shut
kind_of (channels.Writing d) = Shut
kind_of (channels.Usr k w at) = Shut
kind_of (channels.Link l w) = Linked l w

abbrev pub channel_of : Job → ℕ → Channel
channel_of j n = if nat_lt n 16 then slice_index_or j.channels n channels.Closed else channels.Closed

-- the reason for which the call of a slot's job can have to wait; that of an empty slot is as of a
-- job with closed channels
abbrev pub wait_reason : Option Job → Ask → Option Wait
wait_reason (Some j) a = reason_by (unwrap_or j.console 0) (kind_of (channel_of j (input a 0))) (call_named a.name)
wait_reason None a = reason_by 0 Shut (call_named a.name)

-- the list in which the call of slot k belongs, whose first argument is n; none for a console or a
-- link that there is not
abbrev pub if_within : Bool → Option ℕ → Option ℕ
if_within true p = p
if_within false p = None

abbrev pub place_for : Doors → ℕ → ℕ → Option Wait → Option ℕ
place_for d k n (Some r) = if_within (is_within r) (place_at r (held_up d k n r))
place_for d k n None = None

-- that of slot k: if its frame is Waiting that of its reason, else none
abbrev pub place_by : Doors → ℕ → Option Job → Option Frame → Option ℕ
place_by d k o (Some (Waiting f)) = place_for d k (input f.ask 0) (wait_reason o f.ask)
place_by d k o _ = None

abbrev pub doors_of : World → Doors
doors_of w = record { consoles = console_at w.consoles.items; holders = holder_at w.holders; clock = w.clock; links = piped w.pipes }

unfoldable pub wait_list_of : World → ℕ → Option ℕ
wait_list_of w k = place_by (doors_of w) k (job_at w.jobs k) (frame_at w.frames.items k)

-- each slot is on the list to which it belongs, once, and on no other
abbrev pub OnLists : World → Type 0
OnLists w = Filed w.wait_lists.lists (wait_list_of w)

-- the Awake list of the console or the link at which slot k waits, if it waits at one
abbrev pub awake_for : Option Wait → Option ℕ
awake_for (Some r) = if_within (is_within r) (awake_of r)
awake_for None = None

abbrev pub awake_by : Option Job → Option Frame → Option ℕ
awake_by o (Some (Waiting f)) = awake_for (wait_reason o f.ask)
awake_by o _ = None

unfoldable pub awake_at : World → ℕ → Option ℕ
awake_at w k = awake_by (job_at w.jobs k) (frame_at w.frames.items k)

-- it is on a wait list
pub record Blocked (w : World) (k : ℕ) : Type 0 where
  pub list : ℕ
  pub within : IsWaitList list
  pub here : 0 < count k (list_at w.wait_lists.lists list)

-- of a world only the lists are others
pub record OnlyWaitLists (old new : World) : Type 0 where
  pub is : contents new ≡ record (contents old) { wait_lists = new.wait_lists }

-- slot s was put on the list to which it belongs
pub record Refiled (old new : World) (s : ℕ) : Type 0 where
  pub rest : OnlyWaitLists old new
  pub here : StandsIn new.wait_lists.lists s (wait_list_of new s)
  pub others : (k : ℕ) → k ≢ s → (h : ℕ) → count k (list_at new.wait_lists.lists h) ≡ count k (list_at old.wait_lists.lists h)

-- each slot that was on one of these lists was put on the list to which it belongs. (The other
-- slots are on the same lists as before, or on those to which they belong)
pub record Resettled (old new : World) (hs : List ℕ) : Type 0 where
  pub rest : OnlyWaitLists old new
  pub each : (k : ℕ) → StandsIn new.wait_lists.lists k (wait_list_of new k) ⊎ (AwayFrom old.wait_lists.lists k hs × ((h : ℕ) → count k (list_at new.wait_lists.lists h) ≡ count k (list_at old.wait_lists.lists h)))

-- of the job and the frame of slot s alone, j and f were written, and the lists are as they were
pub record SlotWritten (old new : World) (s : ℕ) (j : Option Job) (f : Option Frame) : Type 0 where
  pub job : Only (job_at old.jobs) (job_at new.jobs) s j
  pub superiors : new.jobs.superiors ≡ old.jobs.superiors
  pub frame : Only (frame_at old.frames.items) (frame_at new.frames.items) s f
  pub rest : contents new ≡ record (contents old) { jobs = new.jobs; frames = new.frames }

-- console c alone was written; or its holder; or link l; or the clock. The lists are as they were
pub record ConsoleWritten (old new : World) (c : ℕ) (x : Console) : Type 0 where
  pub consoles : Only (console_at old.consoles.items) (console_at new.consoles.items) c x
  pub rest : contents new ≡ record (contents old) { consoles = new.consoles }

pub record HolderWritten (old new : World) (c : ℕ) (h : Option ℕ) : Type 0 where
  pub holders : Only (holder_at old.holders) (holder_at new.holders) c h
  pub rest : contents new ≡ record (contents old) { holders = new.holders }

pub record LinkWritten (old new : World) (l : ℕ) (p : Option Pipe) : Type 0 where
  pub links : Only (piped old.pipes) (piped new.pipes) l p
  pub rest : contents new ≡ record (contents old) { pipes = new.pipes }

pub record ClockWritten (old new : World) (c : ℕ) : Type 0 where
  pub is : contents new ≡ record (contents old) { clock = c }
