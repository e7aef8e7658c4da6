-- Who may see what, along two sessions side by side: a job shows the same in both, if all else that
-- happens leaves what it sees, or is the same in both (docs/MACHINE.md, "Who may see what").
-- A promise rests on this.
use Rattle.std.specs.Prelude.{◌≡◌, ◌==◌, ℕ, Bool, true, false, Option, Some, None, List, [], ◌∷◌}
use Rattle.its_records.specs.declared.calls.Pace.{Pace}
use Rattle.its_records.specs.declared.calls.Pace.TheVariants.{Step, Work}
use Rattle.its_plain.specs.Call.Step.{moves}
use Rattle.its_plain.specs.Transcript.Course.{Deed, Lines, Turns, Letter, Moment}
use Rattle.its_plain.specs.Transcript.Licence.{Licensed}
use Rattle.its_plain.specs.Machine.{Whole, Machine}
use Rattle.its_plain.specs.Call.Moves.{Move}
use Rattle.its_plain.specs.Promise.Stretch.{machine_at}
use Rattle.its_security.specs.Alike.{Alike, SameTables}

-- the letter of a tick of job j, if a moment is one; except `.`, which is work of the monitor that
-- no job sees
abbrev pub tick_by : Bool → Pace → Option Pace
tick_by true Work = None
tick_by true p = Some p
tick_by false p = None

abbrev pub tick_at : ℕ → Deed → Option Pace
tick_at j (Letter i p) = tick_by (i == j) p
tick_at j (Lines e) = None
tick_at j (Turns s) = None

-- what such a tick shows: its letter, the job that has it, and at `*` the bytes and words that the
-- job moves
pub record Shown : Type 0 where
  pub letter : Pace
  pub job : Option Whole
  pub moves : List Move

abbrev pub moves_at : Pace → Machine → ℕ → List Move
moves_at Step m j = moves m j
moves_at _ m j = []

abbrev pub shown_at : Pace → Machine → ℕ → Shown
shown_at p m j = record { letter = p; job = m.jobs j; moves = moves_at p m j }

-- what some moments of a run show of job j: all of its ticks, except `.`
abbrev pub shown_then : Option Pace → Machine → ℕ → List Shown → List Shown
shown_then (Some p) m j xs = shown_at p m j ∷ xs
shown_then None m j xs = xs

abbrev pub shown_of : ℕ → List Moment → List Shown
shown_of j [] = []
shown_of j (t ∷ ts) = shown_then (tick_at j t.deed) t.machine j (shown_of j ts)

-- two parts of runs, side by side, which lead to these machines, for job j. A moment that is no
-- tick of the job comes in one of them alone, and then leaves what the job sees; or in both, and
-- then it keeps the machines alike, such as a line that is the same in both. A tick of the job
-- comes in both, each with a letter that is licensed there, and the tables that the job looks at
-- are the same. Nothing is asked of which letter it is
pub data SideBySide (j : ℕ) : List Moment → Machine → List Moment → Machine → Type 0 where
  at_end : {m n : Machine} → SideBySide j [] m [] n
  first_alone : {t : Moment} {ts us : List Moment} {m n : Machine}
      → tick_at j t.deed ≡ None
      → Alike j t.machine (machine_at ts m)
      → SideBySide j ts m us n
      → SideBySide j (t ∷ ts) m us n
  second_alone : {u : Moment} {ts us : List Moment} {m n : Machine}
      → tick_at j u.deed ≡ None
      → Alike j u.machine (machine_at us n)
      → SideBySide j ts m us n
      → SideBySide j ts m (u ∷ us) n
  in_both : {t u : Moment} {ts us : List Moment} {m n : Machine}
      → tick_at j t.deed ≡ None
      → tick_at j u.deed ≡ None
      → (Alike j t.machine u.machine → Alike j (machine_at ts m) (machine_at us n))
      → SideBySide j ts m us n
      → SideBySide j (t ∷ ts) m (u ∷ us) n
  tick_in_both : {t u : Moment} {ts us : List Moment} {m n : Machine} (p r : Pace)
      → tick_at j t.deed ≡ Some p
      → tick_at j u.deed ≡ Some r
      → Licensed t.machine j p (machine_at ts m)
      → Licensed u.machine j r (machine_at us n)
      → SameTables j t.machine u.machine
      → SideBySide j ts m us n
      → SideBySide j (t ∷ ts) m (u ∷ us) n

-- the job shows the same in both, and the machines look alike to it afterwards
pub record ShowSame (j : ℕ) (ts : List Moment) (m : Machine) (us : List Moment) (n : Machine) : Type 0 where
  pub shown : shown_of j us ≡ shown_of j ts
  pub alike : Alike j m n
