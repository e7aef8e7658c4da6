-- The lines of a session over the stepped machine: what PEEK shows, the jobs that a line finds in
-- user mode, and all lines that the monitor writes (docs/STEPS.md, "Lines").
-- No promise rests on this.
use Rattle.std.specs.Prelude.{Bool, true, false, ℕ, zero, suc, ◌+◌, Option, Some, None, List, [], ◌∷◌, ◌++◌, slice_get}
use Rattle.its_word.specs.Core.{Core, word_at}
use Rattle.its_records.specs.Item.{Item, Read, Unread, Beyond}
use Rattle.its_records.specs.declared.calls.Ask.{Ask}
use Rattle.its_records.specs.declared.calls.Pace.{Pace}
use Rattle.its_records.specs.declared.session.Event.{Event}
use Rattle.its_records.specs.declared.session.Event.TheVariants as events
use Rattle.its_records.specs.declared.session.Reason.{Reason}
use Rattle.its_records.specs.declared.state_line.StateLine.{StateLine}
use Rattle.its_records.specs.declared.state_line.StateLine.TheVariants as state_lines
use Rattle.its_records.specs.declared.show.Peek.{Peek}
use Rattle.its_records.specs.declared.show.PeekState.{PeekState}
use Rattle.its_records.specs.declared.show.PeekState.TheVariants as states
use Rattle.its_frame.specs.declared.frame.Frame.{Frame}
use Rattle.its_frame.specs.declared.frame.Frame.TheVariants.{Entered, Parsed, Asked, Holding, Waiting, Moving, Ending}
use Rattle.its_frame.specs.declared.name.CallName.{CallName}
use Rattle.its_frame.specs.declared.name.CallName.TheVariants.{Iot}
use Rattle.its_frame.specs.Calls.{sixbit}
use Rattle.its_print.specs.Printing.{Line}
use Rattle.its_print.specs.Printing as printed
use Rattle.its_plain.specs.Machine.{Machine, no_machine, core_of}
use Rattle.its_plain.specs.Call.Arguments.{place_of_input}
use Rattle.its_plain.specs.Call.Decide.{call_row, call_named}
use Rattle.its_plain.specs.Operator.Clock.{due_slots}
use Rattle.its_plain.specs.Operator.{Block, no_block, Operated, Refuses, Does, Ticks, nobody, Quits}
use Rattle.its_plain.specs.Transcript.{Fate, Ended, Open, Refused, TooLong}
use Rattle.its_plain.specs.Operator.Lines.{Lined, Done, Peeks, lined}
use Rattle.its_plain.specs.Transcript.Turns.{turn_after, highest, turn_kept, turns_asked, ticks_asked}
use Rattle.its_stepped.specs.State.{State, plain, no_state}
use Rattle.its_stepped.specs.Unwind.{left, unwound, all_unwound}
use Rattle.its_stepped.specs.Tick.{after_help_if, tick}

-- how far a job is inside a call
abbrev pub state_shown : Option Frame → PeekState
state_shown None = states.User
state_shown (Some (Entered f)) = states.Entered
state_shown (Some (Parsed f)) = states.Parsed
state_shown (Some (Asked f)) = states.Asked
state_shown (Some (Holding f)) = states.Holding
state_shown (Some (Waiting f)) = states.Waiting
state_shown (Some (Moving f)) = states.Moving
state_shown (Some (Ending f)) = states.Ending

-- the call that a frame is of, from ASKED on
abbrev pub ask_in : Option Frame → Option Ask
ask_in (Some (Asked f)) = Some f.ask
ask_in (Some (Holding f)) = Some f.ask
ask_in (Some (Waiting f)) = Some f.ask
ask_in (Some (Moving f)) = Some f.ask
ask_in (Some (Ending f)) = Some f.ask
ask_in (Some (Entered f)) = None
ask_in (Some (Parsed f)) = None
ask_in None = None

-- its name: that of `.IOT`, which has no block, or the second word of the block; none before that
-- is read
abbrev pub name_read : Option ℕ → List ℕ → Option ℕ
name_read (Some channel) block = Some (sixbit Iot)
name_read None block = slice_get block 1

abbrev pub name_asked : Option Ask → Option ℕ
name_asked (Some a) = Some a.name
name_asked None = None

abbrev pub name_shown : Option Frame → Option ℕ
name_shown (Some (Parsed f)) = name_read f.site.channel f.block.items
name_shown f = name_asked (ask_in f)

-- the inputs whose words in core are shown: SIOT's pointer and count, and SLEEP's time
abbrev pub first_shown : Option CallName → Option ℕ
first_shown (Some n) = (call_row n).shows_a
first_shown None = None

abbrev pub second_shown : Option CallName → Option ℕ
second_shown (Some n) = (call_row n).shows_b
second_shown None = None

-- the raw word at the place of such an input
abbrev pub word_placed : Core → Option ℕ → Option ℕ
word_placed c (Some p) = word_at c p
word_placed c None = None

abbrev pub word_of_input : Core → Ask → Option ℕ → Option ℕ
word_of_input c a (Some k) = word_placed c (place_of_input a k)
word_of_input c a None = None

abbrev pub word_shown : Core → (Option CallName → Option ℕ) → Option Ask → Option ℕ
word_shown c which (Some a) = word_of_input c a (which (call_named a.name))
word_shown c which None = None

-- the byte that a frame holds
abbrev pub byte_shown : Option Frame → Option ℕ
byte_shown (Some (Moving f)) = Some f.byte
byte_shown _ = None

-- what PEEK shows of a slot
unfoldable pub peeked : State → ℕ → Peek
peeked w s = record {
  state = state_shown (w.frames s);
  name = name_shown (w.frames s);
  left = left w s;
  a = word_shown (core_of (w.raw.jobs s)) first_shown (ask_in (w.frames s));
  b = word_shown (core_of (w.raw.jobs s)) second_shown (ask_in (w.frames s));
  h = byte_shown (w.frames s);
}

-- the slot of the one job that a line of the state part is about and finds in user mode
abbrev pub restored_on : Block → StateLine → Option ℕ
restored_on b (state_lines.CoreWords a ws) = Some b.slot
restored_on b (state_lines.ReadOnly p) = Some b.slot
restored_on b (state_lines.Regs r) = Some b.slot
restored_on b (state_lines.Alarm s p n) = Some s
restored_on b (state_lines.Under s t) = Some s
restored_on b (state_lines.Tty s n w) = Some s
restored_on b (state_lines.Disk s n d x y at) = Some s
restored_on b (state_lines.Draft s n d x y) = Some s
restored_on b (state_lines.Wrote s n ws) = Some s
restored_on b (state_lines.Usr s n t w at) = Some s
restored_on b (state_lines.Join s n l w x y) = Some s
restored_on b _ = None

-- the slot of the one job that a line names and finds in user mode
abbrev pub called_on : Block → Event → Option ℕ
called_on b (events.Words a words) = Some b.slot
called_on b (events.ReadOnly page) = Some b.slot
called_on b (events.Go a) = Some b.slot
called_on b (events.Int s v w) = Some s
called_on b (events.Exam s a n) = Some s
called_on b (events.List s a n) = Some s
called_on b (events.State s) = Some s
called_on b (events.Deposit s a w) = Some s
called_on b (events.Stop s) = Some s
called_on b (events.Cont s) = Some s
called_on b (events.Restore line) = restored_on b line
called_on b _ = None

abbrev pub unwound_at : Option ℕ → State → State
unwound_at (Some s) w = unwound w s
unwound_at None w = w

-- the state with what a line disturbs unwound: of CLOCK the jobs whose alarm is due at the new
-- clock, by slot number
abbrev pub unwound_for : State → Block → Event → State
unwound_for w b (events.Clock n) = all_unwound (due_slots (w.raw.clock + n) w.raw.jobs) w
unwound_for w b (events.Restore (state_lines.Clock n)) = all_unwound (due_slots (w.raw.clock + n) w.raw.jobs) w
unwound_for w b e = unwound_at (called_on b e) w

-- the lines of the state part that are about a file or a draft
abbrev pub restores_files : StateLine → Bool
restores_files (state_lines.File d x y) = true
restores_files (state_lines.FileWords ws) = true
restores_files (state_lines.Disk s n d x y at) = true
restores_files (state_lines.Draft s n d x y) = true
restores_files (state_lines.Wrote s n ws) = true
restores_files _ = false

-- a line that looks at the directory first performs the pending parts of a close; the job that is
-- in the close is not disturbed by it
abbrev pub looks_at_files : Event → Bool
looks_at_files (events.File d x y) = true
looks_at_files (events.Append words) = true
looks_at_files (events.Dir d) = true
looks_at_files (events.Show d x y) = true
looks_at_files (events.Restore line) = restores_files line
looks_at_files _ = false

-- the state that a line finds: what it looks at is whole, and then what it disturbs is unwound
unfoldable pub after_calm : State → Block → Event → State
after_calm w b e = unwound_for (after_help_if (looks_at_files e) w) b e

-- the state with another raw machine
abbrev pub with_raw : State → Machine → State
with_raw v m = record v { raw = m }

-- the state after a line. A line tests first whether it is refused. If it is, it leaves the state
-- as it was, except for the parts of a close that it has performed to look at the directory
abbrev pub state_after : State → State → Lined → State
state_after w v (Done (Does m out touched b)) = with_raw v m
state_after w v (Done (Refuses r)) = w
state_after w v (Done (Ticks s k)) = w
state_after w v (Done Quits) = w
state_after w v (Peeks s) = w

unfoldable pub after_line : State → Block → Event → State
after_line w b e = state_after (after_help_if (looks_at_files e) w) (after_calm w b e) (lined (after_calm w b e).raw b e)

-- the effect of a line of a state, as a line of its plain machine
abbrev pub lifted : State → Operated → Operated
lifted v (Does m out touched b) = Does (plain (with_raw v m)) out touched b
lifted v (Refuses r) = Refuses r
lifted v (Ticks s k) = Ticks s k
lifted v Quits = Quits

abbrev pub lifted_line : State → Lined → Lined
lifted_line v (Done o) = Done (lifted v o)
lifted_line v (Peeks s) = Peeks s

-- the plain machine after a line
abbrev pub machine_after : Machine → Lined → Machine
machine_after m (Done (Does n out touched b)) = n
machine_after m (Done (Refuses r)) = m
machine_after m (Done (Ticks s k)) = m
machine_after m (Done Quits) = m
machine_after m (Peeks s) = m

-- the slots that it disturbs
abbrev pub touched_by : Lined → ℕ → Bool
touched_by (Done (Does n out touched b)) = touched
touched_by (Done (Refuses r)) = nobody
touched_by (Done (Ticks s k)) = nobody
touched_by (Done Quits) = nobody
touched_by (Peeks s) = nobody

-- why a line is refused, if it is
abbrev pub refusal : Lined → Option Reason
refusal (Done (Refuses r)) = Some r
refusal (Done (Does m out touched b)) = None
refusal (Done (Ticks s k)) = None
refusal (Done Quits) = None
refusal (Peeks s) = None

-- n ticks: their letters, and the state afterwards
abbrev pub paces_of : State → ℕ → ℕ → List Pace
paces_of w i zero = []
paces_of w i (suc n) = (tick w i).pace ∷ paces_of (tick w i).state i n

abbrev pub after_ticks : State → ℕ → ℕ → State
after_ticks w i zero = w
after_ticks w i (suc n) = after_ticks (tick w i).state i n

-- the lines of a session and how it ends
pub record Told : Type 0 where
  pub lines : List Line
  pub fate : Fate

abbrev pub telling : List Line → Told → Told
telling out t = record { lines = out ++ t.lines; fate = t.fate }

-- line n, which has this effect in state v, and w is the state before it
abbrev pub told_by : ℕ → State → State → Block → Lined → (State → Block → Told) → Told
told_by n w v b (Done (Refuses r)) next = record { lines = printed.Refused n r ∷ []; fate = Refused }
told_by n w v b (Done (Does m out touched b')) next = telling out (next (with_raw v m) b')
told_by n w v b (Done (Ticks s k)) next = telling (printed.Ticks s (paces_of w s k) ∷ []) (next (after_ticks w s k) b)
told_by n w v b (Done Quits) next = record { lines = []; fate = Ended }
told_by n w v b (Peeks s) next = telling (printed.Peeked s (peeked w s) ∷ []) (next w b)

-- line n, and what follows it
abbrev pub line_told : ℕ → State → Block → Event → (State → Block → Told) → Told
line_told n w b e next = told_by n w (after_calm w b e) b (lined (after_calm w b e).raw b e) next

-- up to n turns of q ticks, the first after a turn of slot `last`, and what follows them
abbrev pub turned_by : Option ℕ → ℕ → State → (State → ℕ → Told) → Told → Told
turned_by (Some s) q w more done = telling (printed.Ticks s (paces_of w s q) ∷ []) (more (after_ticks w s q) s)
turned_by None q w more done = done

abbrev pub turned : ℕ → ℕ → State → ℕ → (State → ℕ → Told) → Told
turned zero q w last next = next w last
turned (suc n) q w last next = turned_by (turn_after w.raw last) q w (λ v s. turned n q v s next) (next w last)

-- the events from line number n on, after a turn of slot `last`
abbrev pub told : ℕ → State → Block → ℕ → List Item → Told
told n w b last [] = record { lines = []; fate = Open }
told n w b last (Read e ∷ es) =
    line_told n w b e
    (λ v b'. turned (turns_asked e) (ticks_asked e) v (turn_kept last e) (λ x l. told (n + 1) x b' l es))
told n w b last (Unread r ∷ es) = record { lines = printed.Refused n r ∷ []; fate = Refused }
told n w b last (Beyond ∷ es) = record { lines = []; fate = TooLong }

-- the lines of a session of these events
abbrev pub stepped : List Item → Told
stepped es = told 1 (no_state no_machine) no_block highest es
