-- The one run of a session's lines along the plain machine, as the list of its moments
-- (docs/MACHINE.md, "The ledger").
-- A promise rests on this.
use Rattle.std.specs.Prelude.{ℕ, zero, suc, Option, Some, None, List, [], ◌∷◌, length, drop, unwrap_or}
use Rattle.its_records.specs.Item.{Item, Read, Unread, Beyond}
use Rattle.its_records.specs.declared.calls.Pace.{Pace}
use Rattle.its_records.specs.declared.calls.Pace.TheVariants.{Step, Work, Wait, Off}
use Rattle.its_records.specs.declared.session.Event.{Event}
use Rattle.its_print.specs.Printing.{Line}
use Rattle.its_print.specs.Printing as printed
use Rattle.its_plain.specs.Call.Step.{step}
use Rattle.its_plain.specs.Transcript.Licence.{Dots}
use Rattle.its_plain.specs.Machine.{Machine}
use Rattle.its_plain.specs.Operator.{Block, Refuses, Does, Ticks, Quits}
use Rattle.its_plain.specs.Operator.Lines.{Lined, Done, Peeks, lined}
use Rattle.its_plain.specs.Transcript.{Walk, at_start, after_letter, walk_after, next_line}
use Rattle.its_plain.specs.Transcript.Turns.{turn_after, highest, turn_kept, turns_asked}

-- what happens at a moment of a run: a line of the session does something, a turn of RUN goes to a
-- slot, or a slot has a tick with this letter
pub data Deed : Type 0 where
  Lines : Event → Deed
  Turns : ℕ → Deed
  Letter : ℕ → Pace → Deed

-- the machine that it finds, the dots of each slot, what a block of lines is about, the number of
-- the line of the session, and what happens
pub record Moment : Type 0 where
  pub machine : Machine
  pub dots : Dots
  pub block : Block
  pub line : ℕ
  pub deed : Deed

-- a run: its moments in their order, and the machine at its end
pub record Course : Type 0 where
  pub moments : List Moment
  pub last : Machine

abbrev pub rests : Walk → Course
rests v = record { moments = []; last = v.machine }

abbrev pub moment_at : Walk → Deed → Moment
moment_at v d = record { machine = v.machine; dots = v.dots; block = v.block; line = v.line; deed = d }

abbrev pub onward : Walk → Deed → Course → Course
onward v d u = record u { moments = moment_at v d ∷ u.moments }

-- the machine after a letter of slot i: its job steps exactly at each `*`
abbrev pub after_step : Machine → ℕ → Machine
after_step m i = unwrap_or (step m i) m

abbrev pub machine_after : Machine → ℕ → Pace → Machine
machine_after m i Step = after_step m i
machine_after m i Work = m
machine_after m i Wait = m
machine_after m i Off = m

-- the letters of a `T` line of slot i
abbrev pub paced : Walk → ℕ → List Pace → (Walk → Course) → Course
paced v i [] next = next v
paced v i (p ∷ ps) next = onward v (Letter i p) (paced (after_letter v i p (machine_after v.machine i p)) i ps next)

-- the letters of the line that is shown next
abbrev pub letters : List Line → List Pace
letters (printed.Ticks s ps ∷ lines) = ps
letters _ = []

-- up to n turns, the first after a turn of slot `last`
abbrev pub turned_by : Option ℕ → Walk → List Line → (Walk → ℕ → List Line → Course) → Course → Course
turned_by (Some s) v lines more done = onward v (Turns s) (paced v s (letters lines) (λ w. more w s (drop 1 lines)))
turned_by None v lines more done = done

abbrev pub turned : ℕ → Walk → ℕ → List Line → (Walk → ℕ → List Line → Course) → Course
turned zero v last lines next = next v last lines
turned (suc n) v last lines next =
    turned_by (turn_after v.machine last) v lines (λ w s rest. turned n w s rest next) (next v last lines)

-- the run from a line of the session on, if these lines are shown from it on
abbrev pub past : Walk → Event → Lined → List Line → (Walk → List Line → Course) → Course
past v e (Done (Refuses r)) lines next = rests v
past v e (Done (Does n out touched b)) lines next =
    onward v (Lines e) (next (walk_after v n touched b) (drop (length out) lines))
past v e (Done (Ticks s k)) lines next = paced v s (letters lines) (λ w. next w (drop 1 lines))
past v e (Done Quits) lines next = rests v
past v e (Peeks s) lines next = next v (drop 1 lines)

-- the run of these events, which show these lines, from this state of a session on, after a turn of
-- slot `last`
abbrev pub course : Walk → ℕ → List Item → List Line → Course
course v last [] lines = rests v
course v last (Read e ∷ es) lines =
    past v e (lined v.machine v.block e) lines
    (λ w rest. turned (turns_asked e) w (turn_kept last e) rest (λ x l more. course (next_line x) l es more))
course v last (Unread r ∷ es) lines = rests v
course v last (Beyond ∷ es) lines = rests v

-- the slot of the last turn after a moment: a turn of RUN is that of its slot, and the line TURN
-- names one
abbrev pub turn_at : ℕ → Deed → ℕ
turn_at last (Lines e) = turn_kept last e
turn_at last (Turns s) = s
turn_at last (Letter i p) = last

abbrev pub turn_past : ℕ → List Moment → ℕ
turn_past last [] = last
turn_past last (t ∷ ts) = turn_past (turn_at last t.deed) ts

-- the slot of the last turn of a run; the highest one before the first turn
unfoldable pub last_turn : Course → ℕ
last_turn u = turn_past highest u.moments

-- the run of a session
abbrev pub run_of : List Item → List Line → Course
run_of es lines = course at_start highest es lines
