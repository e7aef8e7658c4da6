-- The call of a slot, which is kept in one place, as a frame.
-- No promise rests on this.
use Rattle.std.specs.Prelude.{ℕ, Bool, Option, Some, None, drop, Result, Ok, Err}
use Rattle.its_word.specs.ArrayVec.{ArrayVec}
use Rattle.its_word.specs.declared.access.Fault.{Fault}
use Rattle.its_records.specs.declared.calls.Ask.{Ask}
use Rattle.its_records.specs.declared.calls.Owed.{Owed}
use Rattle.its_records.specs.declared.calls.Site.{Site}
use Rattle.its_frame.specs.declared.frame.Frame.{Frame}
use Rattle.its_frame.specs.declared.frame.Frame.TheVariants as frames
use Rattle.its_frame.specs.declared.frame.Ending.{Ending}
use Rattle.its_frame.specs.declared.frame.Parsed.{Parsed}
use Rattle.its_stepped.specs.State.{entered, parsed, asked, holding, waiting, moving, ending, held_at}
use Rattle.its_stepped.specs.Unwind.{due}
use Rattle.its_in_call.specs.declared.call.Stage.{Stage}
use Rattle.its_in_call.specs.declared.call.Stage.TheVariants as stages
use Rattle.its_in_call.specs.declared.call.Next.{Next}
use Rattle.its_in_call.specs.declared.call.Next.TheVariants as next
use Rattle.its_in_call.specs.declared.call.View.{View}
use Rattle.its_in_call.specs.declared.call.View.TheVariants as views

-- the frame of a call at a stage
abbrev pub frame_of : Stage → Site → ArrayVec ℕ → Ask → ArrayVec Owed → Option Frame
frame_of stages.User s b a os = None
frame_of stages.Entered s b a os = Some (entered s)
frame_of stages.Parsed s b a os = Some (parsed s b.items)
frame_of stages.Asked s b a os = Some (asked s a)
frame_of (stages.Holding page n) s b a os = Some (holding s a page n)
frame_of (stages.Waiting n) s b a os = Some (waiting s a n)
frame_of (stages.Moving place byte) s b a os = Some (moving s a (held_at place byte))
frame_of stages.Ending s b a os = Some (ending s a os.items)

-- the frame that is seen
abbrev pub frame_seen : View → Option Frame
frame_seen views.User = None
frame_seen (views.Entered s) = Some (entered s.now)
frame_seen (views.Parsed s b) = Some (parsed s.now b.now.items)
frame_seen (views.Asked s a) = Some (asked s.now a.now)
frame_seen (views.Holding s a page n) = Some (holding s.now a.now page n)
frame_seen (views.Waiting s a n) = Some (waiting s.now a.now n)
frame_seen (views.Moving s a place byte) = Some (moving s.now a.now (held_at place byte))
frame_seen (views.Ending s a os) = Some (ending s.now a.now os.now.items)

-- the site of a frame whose block is not read yet, and a frame whose block is read, but whose
-- arguments are not found
abbrev pub entered_in : Option Frame → Option Site
entered_in (Some (frames.Entered f)) = Some f.site
entered_in _ = None

abbrev pub parsed_in : Option Frame → Option Parsed
parsed_in (Some (frames.Parsed f)) = Some f
parsed_in _ = None

-- a call whose arguments are found: its site, and what it asks for
pub record Request : Type 0 where
  pub site : Site
  pub ask : Ask

abbrev pub request : Site → Ask → Request
request s a = record { site = s; ask = a }

abbrev pub request_in : Option Frame → Option Request
request_in (Some (frames.Entered f)) = None
request_in (Some (frames.Parsed f)) = None
request_in (Some (frames.Asked f)) = Some (request f.site f.ask)
request_in (Some (frames.Holding f)) = Some (request f.site f.ask)
request_in (Some (frames.Waiting f)) = Some (request f.site f.ask)
request_in (Some (frames.Moving f)) = Some (request f.site f.ask)
request_in (Some (frames.Ending f)) = Some (request f.site f.ask)
request_in None = None

abbrev pub ending_in : Option Frame → Option Ending
ending_in (Some (frames.Ending f)) = Some f
ending_in _ = None

-- the frame after its block was read, and after its arguments were found; none after a fault
abbrev pub after_parse : Site → Result (ArrayVec ℕ) Fault → Option Frame
after_parse s (Ok b) = Some (parsed s b.items)
after_parse s (Err f) = None

abbrev pub after_fetch : Site → Result Ask Fault → Option Frame
after_fetch s (Ok a) = Some (asked s a)
after_fetch s (Err f) = None

-- the fault of a part of the decoding
abbrev pub fault_of : {A : Type 0} → Result A Fault → Option Fault
fault_of (Ok x) = None
fault_of (Err f) = Some f

-- the frame to which a call goes
abbrev pub gone_to : Next → Request → Frame
gone_to next.Asked r = asked r.site r.ask
gone_to (next.Holding page n) r = holding r.site r.ask page n
gone_to (next.Waiting n) r = waiting r.site r.ask n
gone_to (next.Moving h) r = moving r.site r.ask h

-- a call that has ended, after its first pending step
abbrev pub after_step : Bool → Ending → Frame
after_step mine f = ending f.site f.ask (drop 1 (due mine f.owed.items))
