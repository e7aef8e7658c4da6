-- Each byte once and in order, over a stretch of a session's run (docs/CALLS.md, "Each byte once").
-- A promise rests on this.
use Rattle.std.specs.Prelude.{◌≡◌, ◌==◌, ℕ, zero, suc, ◌+◌, Bool, true, false, Option, Some, None, List, [], ◌∷◌, ◌++◌}
use Rattle.its_word.specs.Core.{word_at}
use Rattle.its_records.specs.Item.{Item}
use Rattle.its_records.specs.declared.calls.Ask.{Ask}
use Rattle.its_records.specs.declared.calls.Pace.TheVariants.{Step}
use Rattle.its_records.specs.declared.calls.Site.{Site}
use Rattle.its_print.specs.Printing.{Line}
use Rattle.its_frame.specs.declared.change.Change.{Change}
use Rattle.its_frame.specs.declared.decision.Held.{Held}
use Rattle.its_frame.specs.declared.name.CallName.TheVariants.{Siot}
use Rattle.its_plain.specs.Call.Arguments.{input, place_of_input}
use Rattle.its_plain.specs.Call.Step.{steps_on}
use Rattle.its_plain.specs.Call.Transfer.{next_pointer}
use Rattle.its_plain.specs.Transcript.Course.{Deed, Letter, Moment, Course, run_of}
use Rattle.its_plain.specs.Call.Decide.{call_named}
use Rattle.its_plain.specs.Call.Footprint.{Stands}
use Rattle.its_plain.specs.Machine.{Whole, Machine}
use Rattle.its_plain.specs.Promise.OneByte.{rest_of_transfer, OneByte}

-- a moment of a run leaves a job with the core and the PC that it had
abbrev pub Untouched : Option Whole → Option Whole → Type 0
Untouched (Some p) (Some q) = (q.core ≡ p.core) × (q.job.pc ≡ p.job.pc)
Untouched (Some p) None = ⊥
Untouched None o = ⊥

-- the machine that some moments find, after which the machine is n
abbrev pub machine_at : List Moment → Machine → Machine
machine_at (t ∷ ts) n = t.machine
machine_at [] n = n

-- a moment is a step of the job of slot j
abbrev pub is_own : ℕ → Deed → Bool
is_own j (Letter i Step) = i == j
is_own j _ = false

-- a stretch of a run: each moment is a step of the job of slot j that is a part of its call, or
-- leaves its core and its PC as they are. Lines and steps of others may change everything else
abbrev pub StretchFits : Bool → ℕ → Machine → Machine → Type 0
StretchFits true j m n = steps_on m j ≡ true
StretchFits false j m n = Untouched (m.jobs j) (n.jobs j)

abbrev pub Stretch : ℕ → List Moment → Machine → Type 0
Stretch j [] n = Unit {0}
Stretch j (t ∷ ts) n = StretchFits (is_own j t.deed) j t.machine (machine_at ts n) × Stretch j ts n

-- how many steps the job makes in it
abbrev pub counted : Bool → ℕ → ℕ
counted true k = suc k
counted false k = k

abbrev pub parts_in : ℕ → List Moment → ℕ
parts_in j [] = 0
parts_in j (t ∷ ts) = counted (is_own j t.deed) (parts_in j ts)

-- a pointer incremented k times, and the arguments of a transfer after k bytes
abbrev pub incremented : ℕ → ℕ → ℕ
incremented zero p = p
incremented (suc k) p = incremented k (next_pointer p)

abbrev pub rest_after : ℕ → Ask → Ask
rest_after zero a = a
rest_after (suc k) a = rest_after k (rest_of_transfer a)

-- one byte of the transfer of slot j's job
pub record ByteOf (m : Machine) (j : ℕ) (s : Site) (a : Ask) (n : Machine) : Type 0 where
  pub job : Whole
  pub there : m.jobs j ≡ Some job
  pub changes : List Change
  pub held : Option Held
  pub byte : OneByte m j job s a changes held n

-- each of its steps moves one byte, at the pointer incremented once more than for the one before
abbrev pub InOrder_by : Bool → Machine → ℕ → Site → Ask → Machine → (Ask → Type 0) → Type 0
InOrder_by true m j s a n next = ByteOf m j s a n × next (rest_of_transfer a)
InOrder_by false m j s a n next = next a

abbrev pub InOrder : ℕ → Site → List Moment → Machine → Ask → Type 0
InOrder j s [] n a = Unit {0}
InOrder j s (t ∷ ts) n a = InOrder_by (is_own j t.deed) t.machine j s a (machine_at ts n) (InOrder j s ts n)

-- the job is at the call with these arguments, which are its words in core
pub record StandsAt (m : Machine) (j : ℕ) (s : Site) (a : Ask) : Type 0 where
  pub job : Whole
  pub there : m.jobs j ≡ Some job
  pub stands : Stands job.core job.job s a
  pub words : (k p : ℕ) → place_of_input a k ≡ Some p → word_at job.core p ≡ Some (input a k)

-- k bytes were moved in order; then the pointer is incremented k times, and the count is k less
pub record Transferred (j : ℕ) (s : Site) (a : Ask) (ts : List Moment) (n : Machine) : Type 0 where
  pub each : InOrder j s ts n a
  pub rest : StandsAt n j s (rest_after (parts_in j ts) a)
  pub pointer : input (rest_after (parts_in j ts) a) 1 ≡ incremented (parts_in j ts) (input a 1)
  pub count : input (rest_after (parts_in j ts) a) 2 + parts_in j ts ≡ input a 2

-- some moments of a run that follow each other: those before them, they themselves, and those after
-- them
pub record Section (u : Course) : Type 0 where
  pub before : List Moment
  pub moments : List Moment
  pub after : List Moment
  pub whole : u.moments ≡ before ++ moments ++ after

-- its two ends: the machine that its first moment finds, and the machine after its last
abbrev pub end_of : (u : Course) → Section u → Machine
end_of u x = machine_at x.after u.last

abbrev pub begin_of : (u : Course) → Section u → Machine
begin_of u x = machine_at x.moments (end_of u x)

-- a stretch of a transfer of slot j's job: at its beginning the job is at a SIOT
pub record TransferStretch (u : Course) (j : ℕ) : Type 0 where
  pub section : Section u
  pub job : Whole
  pub site : Site
  pub ask : Ask
  pub there : (begin_of u section).jobs j ≡ Some job
  pub stands : Stands job.core job.job site ask
  pub siot : call_named ask.name ≡ Some Siot
  pub stretch : Stretch j section.moments (end_of u section)

-- each stretch of a transfer, in the run of these events, which show these lines, moves its bytes
-- once and in order
pub record Stretches (es : List Item) (lines : List Line) : Type 0 where
  pub each : (j : ℕ) (x : TransferStretch (run_of es lines) j)
      → Transferred j x.site x.ask x.section.moments (end_of (run_of es lines) x.section)
