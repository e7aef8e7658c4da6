-- The effect of an event on the second machine: the operator's line exactly.
-- No promise rests on this.
use Rattle.std.specs.Prelude.{◌≡◌, ◌<◌, ◌≤◌, ◌^◌, ℕ, false, None, List, [], ◌∷◌, length, Result, Ok, Err, is_some, true}
use Rattle.its_files.specs.Files.{entry_at, is_file, words_at}
use Rattle.its_plain.specs.Call.File.{has_file}
use Rattle.its_plain.specs.Machine.{Machine}
use Rattle.its_word.specs.Limits.{slots}
use Rattle.its_records.specs.declared.session.Event.{Event}
use Rattle.its_records.specs.declared.session.Event.TheVariants as events
use Rattle.its_records.specs.declared.session.Place.{Place}
use Rattle.its_records.specs.declared.session.Place.TheVariants as places
use Rattle.its_records.specs.declared.session.Refusal.{Refusal}
use Rattle.its_records.specs.declared.state_line.StateLine.{StateLine}
use Rattle.its_records.specs.declared.state_line.StateLine.TheVariants as states
use Rattle.its_print.specs.Printing.{Line}
use Rattle.its_print.specs.Printing as printed
use Rattle.its_session.specs.Events.{place_after}
use Rattle.its_session.specs.Fits.{place_of as event_place}
use Rattle.its_stepped.specs.Alarmed.{Alarmed}
use Rattle.its_stepped.specs.Consoled.{Consoled}
use Rattle.its_stepped.specs.Forest.{Forest}
use Rattle.its_plain.specs.Operator.{Block, Does, Refuses}
use Rattle.its_plain.specs.Operator.Files.{files_in, listing, shown_lines}
use Rattle.its_plain.specs.Operator.Lines.{Lined, Done, Peeks, lined}
use Rattle.its_direct.specs.Plain.{machine_of, is_touched, Tidy}
use Rattle.its_records.specs.Refusals.{reason_of}
use Rattle.its_direct.specs.declared.plain.Plain.{Plain}
use Rattle.its_direct.specs.declared.plain.Spot.{Spot}
use Rattle.its_direct.specs.declared.plain.Spot.TheVariants as spots
use Rattle.its_direct.specs.declared.lines.events.Answer.{Answer}
use Rattle.its_direct.specs.declared.lines.events.Answer.TheVariants as answers

-- a LOAD block is that of a job of the machine, in a slot that there is, and a FILE block that of a
-- file
abbrev pub SpotFits : Machine → Spot → Type 0
SpotFits m (spots.Load s) = (s < slots) × (is_some (m.jobs s) ≡ true)
SpotFits m spots.Plain = Unit {0}
SpotFits m (spots.System s names) = Unit {0}
SpotFits m (spots.File names) = has_file names m.files ≡ true

-- what holds between two events, and between two steps: the machine is tidy, its jobs are a forest,
-- the next time of each alarm is after the clock, the console of each job is one of eight, and the
-- open block of lines is that of a job or of a file
pub record Kept (p : Plain) : Type 0 where
  pub tidy : Tidy p
  pub forest : Forest (machine_of p)
  pub alarmed : Alarmed (machine_of p)
  pub consoled : Consoled (machine_of p)
  pub placed : SpotFits (machine_of p) p.place

-- the place of a line of a session, and what a block of lines is about there
abbrev pub spot_place : Spot → Place
spot_place spots.Plain = places.Plain
spot_place (spots.System s names) = places.System
spot_place (spots.Load s) = places.Load
spot_place (spots.File names) = places.File

abbrev pub Speaks : Spot → Block → Type 0
Speaks spots.Plain b = Unit {0}
Speaks (spots.System s names) b = (b.slot ≡ s) × (b.file ≡ names)
Speaks (spots.Load s) b = b.slot ≡ s
Speaks (spots.File names) b = b.file ≡ names

-- the events that the machine performs; the others are ticks and the turns of RUN, which are steps,
-- and END, which ends all
abbrev pub IsTold : Event → Type 0
IsTold (events.Tick s n) = ⊥
IsTold (events.Run n q) = ⊥
IsTold events.End = ⊥
IsTold _ = Unit {0}

-- the place of a line of the state part: SYSTEM begins it, outside any block
abbrev pub place_before : StateLine → Place
place_before (states.System v) = places.Plain
place_before _ = places.System

-- an event may occur at a place; the version is outside any block
abbrev pub MayStand : Place → Event → Type 0
MayStand place events.Nothing = Unit {0}
MayStand place (events.Version v) = place ≡ places.Plain
MayStand place (events.Restore line) = place ≡ place_before line
MayStand place e = place ≡ event_place e

-- the lines that an answer shows; files are read from the machine
abbrev pub lines_of : Answer → Plain → List Line
lines_of answers.Nothing p = []
lines_of (answers.Loaded s) p = printed.Loaded s ∷ []
lines_of (answers.Typed c n) p = printed.Typed c n ∷ []
lines_of (answers.Drained c bytes) p = printed.Drained c bytes.items ∷ []
lines_of (answers.Words s a words) p = printed.Words s a words.items ∷ []
lines_of (answers.Listed s a words) p = printed.listed s a words.items
lines_of (answers.State v s show) p = printed.State v s show ∷ []
lines_of answers.Peeked p = []
lines_of (answers.Files d) p = listing d (files_in d (machine_of p).files)
lines_of (answers.File id d x y) p = shown_lines d x y (words_at p.files id)

-- words that are listed are one or more, and begin at an address; a file that is shown exists. So
-- only Nothing and Peeked show no line
abbrev pub CanShow : Answer → Plain → Type 0
CanShow (answers.Listed s a words) p = (a < 2 ^ 18) × (1 ≤ length words.items)
CanShow (answers.File id d x y) p = is_file (entry_at p.files id) ≡ true
CanShow a p = Unit {0}

-- these are the lines that an answer shows; of a line of PEEK this machine says nothing
abbrev pub Says : Answer → Plain → List Line → Type 0
Says answers.Peeked p out = ⊥
Says a p out = out ≡ lines_of a p

-- an event that was performed had this result
abbrev pub Obeys : Answer → Plain → Plain → Lined → Type 0
Obeys a old new (Done (Does n out disturbs after)) =
    (machine_of new ≡ n) × ((k : ℕ) → is_touched new k ≡ disturbs k) × Speaks new.place after × Says a new out × CanShow a new
Obeys a old new (Peeks s) = (machine_of new ≡ machine_of old) × ((k : ℕ) → is_touched new k ≡ false) × (new.place ≡ old.place) × (a ≡ answers.Peeked)
Obeys a old new _ = ⊥

pub record Obeyed (e : Event) (a : Answer) (old new : Plain) (b : Block) : Type 0 where
  pub comes : Lined
  pub is : lined (machine_of old) b e ≡ comes
  pub obeys : Obeys a old new comes
  pub leads : spot_place new.place ≡ place_after (spot_place old.place) e

-- an event was obeyed, or it was refused
abbrev pub Told : Event → Plain → Plain → Result Answer Refusal → Type 0
Told e old new (Ok a) = (b : Block) → Speaks old.place b → Obeyed e a old new b
Told e old new (Err x) = (b : Block) → Speaks old.place b → lined (machine_of old) b e ≡ Done (Refuses (reason_of x))

-- no slot loses its job
abbrev pub JobsStay : Plain → Plain → Type 0
JobsStay old new = (k : ℕ) → (machine_of new).jobs k ≡ None → (machine_of old).jobs k ≡ None

-- a line without an answer
abbrev pub answered : Result (Unit {0}) Refusal → Result Answer Refusal
answered (Ok u) = Ok answers.Nothing
answered (Err z) = Err z
