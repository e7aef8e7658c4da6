-- The confidentiality of a session: what the run of its lines lets a job see of others, beside any
-- other session (docs/MACHINE.md, "Who may see what").
-- A promise rests on this.
use Rattle.std.specs.Prelude.{◌≡◌, ◌≢◌, ◌++◌, ℕ, true, Some, List, ◌∷◌, is_some}
use Rattle.its_records.specs.Item.{Item}
use Rattle.its_records.specs.declared.session.Event.{Event}
use Rattle.its_print.specs.Printing.{Line}
use Rattle.its_plain.specs.Call.Step.{transition, step}
use Rattle.its_plain.specs.Transcript.Course.{Moment, Course, run_of}
use Rattle.its_plain.specs.Machine.{Machine}
use Rattle.its_plain.specs.Operator.{Block}
use Rattle.its_plain.specs.Promise.Stretch.{Section, begin_of, end_of}
use Rattle.its_security.specs.Alike.{Alike, SameTables}
use Rattle.its_security.specs.Looks.{LooksAlike, OwnBy}
use Rattle.its_security.specs.OperatorParts.{OnlyParts, touched}
use Rattle.its_security.specs.Respect.{Strangers, Respects, Unmet, Unseen}
use Rattle.its_security.specs.SideBySide.{SideBySide, ShowSame}
use Rattle.its_security.specs.Tables.{TablesKept, TablesAgree}

-- a moment of this run finds the machine
pub record Occurs (u : Course) (m : Machine) : Type 0 where
  pub before : List Moment
  pub moment : Moment
  pub after : List Moment
  pub whole : u.moments ≡ before ++ moment ∷ after
  pub is : moment.machine ≡ m

-- the run of these events, which show these lines, keeps this
pub record Confidential (es : List Item) (lines : List Line) : Type 0 where
  -- what a step of a job makes of the job depends on it and on what its call looks at alone, in
  -- this session and in any other
  pub looks : (fs : List Item) (shown : List Line) (m n : Machine) (j : ℕ) → Occurs (run_of es lines) m → Occurs (run_of fs shown) n
      → n.jobs j ≡ m.jobs j → LooksAlike j m n → OwnBy j (transition m j) (transition n j)
  -- a step of a stranger leaves what a job sees, except at a link or console at which the two meet
  pub respects : (m n : Machine) (j k : ℕ) → Occurs (run_of es lines) m → step m k ≡ Some n
      → j ≢ k → Strangers m j k → is_some (m.jobs j) ≡ true → Respects m n j k
  -- so the machines before and after it look alike to the job, if the two meet nowhere
  pub apart : (m n : Machine) (j k : ℕ) → Occurs (run_of es lines) m → step m k ≡ Some n
      → j ≢ k → Strangers m j k → is_some (m.jobs j) ≡ true → Unmet m n j k → Alike j m n
  -- a line of the operator that changes no part that a job sees leaves the machine alike to it
  pub operator : (m n : Machine) (j : ℕ) (b : Block) (e : Event) → OnlyParts (touched m b e) m n → Unseen (touched m b e) m j → Alike j m n
  -- each call changes only the shared tables that are listed for it
  pub tables : (m n : Machine) (j : ℕ) → Occurs (run_of es lines) m → step m j ≡ Some n → TablesKept m j n
  -- and it looks only at those that are listed for it
  pub seen : (m n : Machine) (j : ℕ) → TablesAgree j m n → SameTables j m n
  -- a part of it and a part of any other session that begin alike for a job, and differ only in
  -- what the job does not see, show the same of the job
  pub beside : (fs : List Item) (shown : List Line) (j : ℕ) (x : Section (run_of es lines)) (y : Section (run_of fs shown))
      → Alike j (begin_of (run_of es lines) x) (begin_of (run_of fs shown) y)
      → SideBySide j x.moments (end_of (run_of es lines) x) y.moments (end_of (run_of fs shown) y)
      → ShowSame j x.moments (end_of (run_of es lines) x) y.moments (end_of (run_of fs shown) y)
