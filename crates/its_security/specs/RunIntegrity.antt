-- The integrity of a session: along the one run of its lines, every moment changes what it may and
-- nothing else, and what a reader reads stays (docs/MACHINE.md, "Who may touch what").
-- A promise rests on this.
use Rattle.std.specs.Prelude.{◌≡◌, ◌≢◌, ◌<◌, ℕ, false, Some, List, [], ◌∷◌}
use Rattle.its_records.specs.Item.{Item}
use Rattle.its_records.specs.declared.calls.Pace.TheVariants.{Step}
use Rattle.its_records.specs.declared.session.Event.TheVariants as events
use Rattle.its_records.specs.declared.state_line.StateLine.TheVariants as states
use Rattle.its_print.specs.Printing.{Line}
use Rattle.its_plain.specs.Call.File.{file_named}
use Rattle.its_plain.specs.Machine.Change.{channel_in, same_names}
use Rattle.its_plain.specs.Transcript.Course.{Deed, Lines, Turns, Letter, Moment, Course, run_of}
use Rattle.its_plain.specs.Machine.{Names, File, Reads, Machine}
use Rattle.its_plain.specs.Operator.{Block}
use Rattle.its_plain.specs.Promise.Stretch.{machine_at, Section, end_of, begin_of}
use Rattle.its_security.specs.Integrity.{MayStep, ReachesNobody, OnlyTells}
use Rattle.its_security.specs.OperatorParts.{OnlyParts, touched}

-- what happens at a moment of a run leads from machine m to machine n, and changes only what it
-- may: a `*` what a step may, a line what a line may, a turn and any other letter nothing. The step
-- of a job that reaches nobody changes no other job, except what it reports to its superior
pub record OwnStep (m : Machine) (j : ℕ) (n : Machine) : Type 0 where
  pub may : MayStep m j n
  pub stranger : ReachesNobody m j → (k : ℕ) → k ≢ j → OnlyTells m n j k

abbrev pub MayDo : Machine → Block → Deed → Machine → Type 0
MayDo m b (Lines e) n = OnlyParts (touched m b e) m n
MayDo m b (Turns s) n = n ≡ m
MayDo m b (Letter j Step) n = OwnStep m j n
MayDo m b (Letter j p) n = n ≡ m

abbrev pub EachMay : List Moment → Machine → Type 0
EachMay [] n = Unit {0}
EachMay (t ∷ ts) n = MayDo t.machine t.block t.deed (machine_at ts n) × EachMay ts n

-- channel n of the job of slot k reads the file with these names, at each of these moments
pub record IsReader (m : Machine) (k n : ℕ) (names : Names) : Type 0 where
  pub position : ℕ
  pub is : channel_in (m.jobs k) n ≡ Reads names position

abbrev pub ReadsOn : ℕ → ℕ → Names → List Moment → Type 0
ReadsOn k n names [] = Unit {0}
ReadsOn k n names (t ∷ ts) = IsReader t.machine k n names × ReadsOn k n names ts

-- and the operator adds no words to it by a `/` line. (In a session such lines come only after the
-- FILE line that made the file, before any job has a turn; in the state part a channel may be
-- opened on the file between them)
abbrev pub IsSpared : Names → Block → Deed → Type 0
IsSpared names b (Lines (events.Append words)) = same_names names b.file ≡ false
IsSpared names b (Lines (events.Restore (states.FileWords words))) = same_names names b.file ≡ false
IsSpared names b _ = Unit {0}

abbrev pub AllSpared : Names → List Moment → Type 0
AllSpared names [] = Unit {0}
AllSpared names (t ∷ ts) = IsSpared names t.block t.deed × AllSpared names ts

-- a stretch of a run in which a channel reads a file
pub record ReadingStretch (u : Course) : Type 0 where
  pub section : Section u
  pub slot : ℕ
  pub channel : ℕ
  pub real : channel < 16
  pub names : Names
  pub file : File
  pub there : file_named names (begin_of u section).files ≡ Some file
  pub reads : ReadsOn slot channel names section.moments
  pub spared : AllSpared names section.moments

-- the integrity of the run of these events, which show these lines: each moment changes what it
-- may; and as long as a channel reads a file, its words stay
pub record Integrity (es : List Item) (lines : List Line) : Type 0 where
  pub moments : EachMay (run_of es lines).moments (run_of es lines).last
  pub readers : (x : ReadingStretch (run_of es lines)) → file_named x.names (end_of (run_of es lines) x.section).files ≡ Some x.file
