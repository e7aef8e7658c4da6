-- The ledger of the consoles: no byte is lost, doubled or out of its order (docs/MACHINE.md, "The
-- ledger").
-- A promise rests on this.
use Rattle.std.specs.Prelude.{if◌then◌else◌, ◌≡◌, ◌==◌, ◌&&◌, ℕ, ◌-◌, Bool, true, false, List, [], ◌∷◌, ◌++◌, length, take, flat_map}
use Rattle.its_word.specs.Console.{most_waiting}
use Rattle.its_records.specs.Item.{Item}
use Rattle.its_records.specs.declared.calls.Pace.TheVariants.{Step}
use Rattle.its_records.specs.declared.session.Event.{Event}
use Rattle.its_records.specs.declared.session.Event.TheVariants as events
use Rattle.its_records.specs.declared.state_line.StateLine.TheVariants as states
use Rattle.its_print.specs.Printing.{Line}
use Rattle.its_print.specs.Printing as printed
use Rattle.its_plain.specs.Machine.{Console, Machine}
use Rattle.its_plain.specs.Call.Step.{moves}
use Rattle.its_plain.specs.Transcript.Course.{Deed, Lines, Letter, Moment, Course, run_of}
use Rattle.its_plain.specs.Call.Moves.{Way, Inward, Outward, Device, AtConsole, AtLink, Move}

-- what this gives of the line of the session that a moment is; nothing of any other moment
abbrev pub at_line : (Event → List ℕ) → Deed → List ℕ
at_line f (Lines e) = f e
at_line f _ = []

-- of the bytes of a TYPE line those that are not dropped
abbrev pub taken_in : Console → List ℕ → List ℕ
taken_in x bytes = take (most_waiting - length x.input) bytes

-- the bytes that a line adds to a console's input: those of a line IN of the state part were typed
-- in the session that was saved
abbrev pub typed_by : ℕ → Machine → Event → List ℕ
typed_by c m (events.TypeIn d bytes) = if d == c then taken_in (m.consoles c) bytes.items else []
typed_by c m (events.Restore (states.Input d bytes)) = if d == c then bytes.items else []
typed_by c m _ = []

abbrev pub typed_at : ℕ → Moment → List ℕ
typed_at c t = at_line (typed_by c t.machine) t.deed

-- the bytes of the moves of a moment at a console, one way
abbrev pub is_console : ℕ → Device → Bool
is_console c (AtConsole d) = d == c
is_console c (AtLink l) = false

abbrev pub is_same : Way → Way → Bool
is_same Inward Inward = true
is_same Inward Outward = false
is_same Outward Inward = false
is_same Outward Outward = true

abbrev pub byte_of : ℕ → Way → Move → List ℕ
byte_of c way v = if is_console c v.device && is_same v.way way then v.byte ∷ [] else []

abbrev pub moved_at : ℕ → Way → Moment → List ℕ
moved_at c way t = moved_doing t.deed
  where
    moved_doing : Deed → List ℕ
    moved_doing (Letter i Step) = flat_map (byte_of c way) (moves t.machine i)
    moved_doing _ = []

-- the bytes that a line OUT of the state part adds to a console's output: they were moved out in
-- the session that was saved, and not drained
abbrev pub placed_by : ℕ → Event → List ℕ
placed_by c (events.Restore (states.Output d bytes)) = if d == c then bytes.items else []
placed_by c _ = []

-- the bytes that a moment adds to a console's output
abbrev pub put_out_at : ℕ → Moment → List ℕ
put_out_at c t = at_line (placed_by c) t.deed ++ moved_at c Outward t

-- the bytes that a line shows of a console's output
abbrev pub drained_by : ℕ → Line → List ℕ
drained_by c (printed.Drained d bytes) = if d == c then bytes else []
drained_by c _ = []

-- of a console: the bytes that were typed and not dropped are those that were moved in, in their
-- order, and then those that wait at the end; those that were moved out, or were waiting in the
-- system that was restored, are the bytes of its `D` lines, and then those that wait at the end
pub record Balanced (u : Course) (lines : List Line) (c : ℕ) : Type 0 where
  pub input : flat_map (typed_at c) u.moments ≡ flat_map (moved_at c Inward) u.moments ++ (u.last.consoles c).input
  pub output : flat_map (put_out_at c) u.moments ≡ flat_map (drained_by c) lines ++ (u.last.consoles c).output

pub record Ledger (es : List Item) (lines : List Line) : Type 0 where
  pub balanced : (c : ℕ) → Balanced (run_of es lines) lines c
