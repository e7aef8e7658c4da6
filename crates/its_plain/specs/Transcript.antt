-- The transcript of a session: which lines the plain machine shows for which events, by one rule
-- for each kind of event (docs/MACHINE.md, "The transcript").
-- A promise rests on this.
pub mod Licence
pub mod Course
pub mod Turns
use Rattle.std.specs.Prelude.{◌≡◌, ◌<◌, ℕ, suc, ◌+◌, Bool, Some, None, List, [], ◌∷◌, ◌++◌, length}
use Rattle.its_records.specs.Item.{Item, Read, Unread, Beyond}
use Rattle.its_records.specs.declared.calls.Pace.{Pace}
use Rattle.its_records.specs.declared.calls.Pace.TheVariants.{Work}
use Rattle.its_records.specs.declared.session.Event.{Event}
use Rattle.its_records.specs.declared.session.Reason.{Reason}
use Rattle.its_records.specs.declared.show.Peek.{Peek}
use Rattle.its_print.specs.Printing.{Line}
use Rattle.its_print.specs.Printing as printed
use Rattle.its_plain.specs.Operator.Lines.{Lined, Done, Peeks, lined}
use Rattle.its_plain.specs.Transcript.Licence.{Licensed, Dots, most_dots, dots_after, dots_after_line}
use Rattle.its_plain.specs.Machine.{Machine, no_machine}
use Rattle.its_plain.specs.Operator.{Block, no_block, Refuses, Does, Ticks, Quits}
use Rattle.its_plain.specs.Transcript.Turns.{turn_after, highest, turn_kept, turns_asked, ticks_asked}

-- how a session ends: at END, at the end of the events, with a refused line, or when a line past
-- the most that a session may have begins
pub data Fate : Type 0 where
  Ended : Fate
  Open : Fate
  Refused : Fate
  TooLong : Fate

-- the state of a session between two lines: its machine, the dots of each slot, the open block, and
-- the number of the line to come
pub record Walk : Type 0 where
  pub machine : Machine
  pub dots : Dots
  pub block : Block
  pub line : ℕ

abbrev pub at_start : Walk
at_start = record { machine = no_machine; dots = λ k. 0; block = no_block; line = 1 }

-- its state after a letter of slot i that leads to machine n
abbrev pub after_letter : Walk → ℕ → Pace → Machine → Walk
after_letter v i p n = record v { machine = n; dots = dots_after v.machine v.dots i p }

-- its state after a line that leads to machine n, disturbs or fills these slots, and leaves this
-- block
abbrev pub walk_after : Walk → Machine → (ℕ → Bool) → Block → Walk
walk_after v n touched b = record v { machine = n; dots = dots_after_line v.dots touched; block = b }

abbrev pub next_line : Walk → Walk
next_line v = record v { line = v.line + 1 }

-- the letters of a `T` line of slot i: each is licensed in its turn, and `.` occurs only if fewer
-- than the most came
pub data Paced (i : ℕ) : Walk → List Pace → Walk → Type 0 where
  none : {v : Walk} → Paced i v [] v
  letter : {v w : Walk} {p : Pace} {ps : List Pace} (n : Machine)
      → Licensed v.machine i p n
      → (p ≡ Work → v.dots i < most_dots)
      → Paced i (after_letter v i p n) ps w
      → Paced i v (p ∷ ps) w

-- the turns that a RUN line asks for, each of q ticks, the first after a turn of slot `last`: each
-- is a `T` line of the slot whose turn it is. They end early when no job runs. At their end slot
-- `l` had the last turn, and these lines are still to come
pub data Turned (q : ℕ) : ℕ → Walk → ℕ → List Line → Walk → ℕ → List Line → Type 0 where
  all_made : {v : Walk} {last : ℕ} {lines : List Line} → Turned q 0 v last lines v last lines
  none_runs : {n last : ℕ} {v : Walk} {lines : List Line}
      → turn_after v.machine last ≡ None
      → Turned q (suc n) v last lines v last lines
  a_turn : {n s last l : ℕ} {v w x : Walk} {ps : List Pace} {lines rest : List Line}
      → turn_after v.machine last ≡ Some s
      → length ps ≡ q
      → Paced s v ps w
      → Turned q n w s lines x l rest
      → Turned q (suc n) v last (printed.Ticks s ps ∷ lines) x l rest

-- the effect of event e in this state of the session
abbrev pub Comes : Walk → Event → Lined → Type 0
Comes v e o = lined v.machine v.block e ≡ o

-- from this state of a session on, after a turn of slot `last`: these events show these lines, no
-- more and no fewer, and this is the end of the session
pub data Shows : Walk → ℕ → List Item → List Line → Fate → Type 0 where
  -- END
  end_line : {v : Walk} {last : ℕ} {e : Event} {es : List Item}
      → Comes v e (Done Quits)
      → Shows v last (Read e ∷ es) [] Ended
  -- the input ends
  input_end : {v : Walk} {last : ℕ} → Shows v last [] [] Open
  -- a line past the most that a session may have
  too_long : {v : Walk} {last : ℕ} {es : List Item} → Shows v last (Beyond ∷ es) [] TooLong
  -- a line that is none of the session's grammar
  unread_line : {v : Walk} {last : ℕ} {r : Reason} {es : List Item}
      → Shows v last (Unread r ∷ es) (printed.Refused v.line r ∷ []) Refused
  -- a line that the machine refuses
  refused_line : {v : Walk} {last : ℕ} {e : Event} {r : Reason} {es : List Item}
      → Comes v e (Done (Refuses r))
      → Shows v last (Read e ∷ es) (printed.Refused v.line r ∷ []) Refused
  -- any other line: what it shows comes first, then the turns that it asks for, which RUN alone
  -- does. TURN says whose turn was the last
  obeyed_line : {v w : Walk} {last l : ℕ} {e : Event} {n : Machine} {out : List Line} {touched : ℕ → Bool} {b : Block}
      {es : List Item} {lines more rest : List Line} {fate : Fate}
      → Comes v e (Done (Does n out touched b))
      → lines ≡ out ++ more
      → Turned (ticks_asked e) (turns_asked e) (next_line (walk_after v n touched b)) (turn_kept last e) more w l rest
      → Shows w l es rest fate
      → Shows v last (Read e ∷ es) lines fate
  -- TICK: a `T` line with as many letters as there are ticks
  tick_line : {v w : Walk} {last : ℕ} {e : Event} {i k : ℕ} {ps : List Pace} {es : List Item} {rest : List Line} {fate : Fate}
      → Comes v e (Done (Ticks i k))
      → length ps ≡ k
      → Paced i v ps w
      → Shows (next_line w) last es rest fate
      → Shows v last (Read e ∷ es) (printed.Ticks i ps ∷ rest) fate
  -- PEEK: a `P` line, which may say anything
  peek_line : {v : Walk} {last : ℕ} {e : Event} {i : ℕ} {peek : Peek} {es : List Item} {rest : List Line} {fate : Fate}
      → Comes v e (Peeks i)
      → Shows (next_line v) last es rest fate
      → Shows v last (Read e ∷ es) (printed.Peeked i peek ∷ rest) fate

-- these lines are a transcript of a session of these events, which has this end
abbrev pub Transcript : List Item → List Line → Fate → Type 0
Transcript es lines fate = Shows at_start highest es lines fate
