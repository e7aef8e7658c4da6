-- What holds of a state between two calls of the monitor (docs/STEPS.md, "Soundness"). The facts of
-- a slot speak of that slot alone: of its raw job, its frame and its reserved page.
-- No promise rests on this.
use Rattle.std.specs.Prelude.{◌≡◌, ◌≢◌, ◌≤◌, ◌<◌, ℕ, ◌+◌, ◌^◌, Bool, true, false, Option, Some, None, IfSome, List, [], ◌∷◌, is_some, length, Ok}
use Rattle.its_word.specs.Byte.{has_size}
use Rattle.its_word.specs.Core.{Core, can_store}
use Rattle.its_records.specs.declared.calls.Ask.{Ask}
use Rattle.its_records.specs.declared.calls.Owed.{Owed}
use Rattle.its_records.specs.declared.calls.Owed.TheVariants as owed
use Rattle.its_records.specs.declared.calls.Owed.TheVariants.{GiveBack, Unlink, Link, Free, Leave}
use Rattle.its_records.specs.declared.jobs.Job.{Job}
use Rattle.its_word.specs.declared.plan.Store.{Store}
use Rattle.its_frame.specs.Left.{kept}
use Rattle.its_frame.specs.declared.frame.Frame.{Frame}
use Rattle.its_frame.specs.declared.frame.Frame.TheVariants.{Entered, Parsed, Asked, Holding, Waiting, Moving, Ending}
use Rattle.its_frame.specs.declared.name.CallName.{CallName}
use Rattle.its_frame.specs.declared.name.CallName.TheVariants.{Siot}
use Rattle.its_plain.specs.Unit.Interrupt.{deliverable}
use Rattle.its_plain.specs.Unit.{Called, unit}
use Rattle.its_word.specs.Stores.{place}
use Rattle.its_frame.specs.declared.decision.Decision.TheVariants.{Waits}
use Rattle.its_frame.specs.declared.decision.Wait.{Wait}
use Rattle.its_plain.specs.Machine.{Whole, Machine}
use Rattle.its_plain.specs.Call.Step.{decision}
use Rattle.its_plain.specs.Call.Reasons.{doors, held_up, reason_in}
use Rattle.its_plain.specs.Machine.Change.{poke}
use Rattle.its_plain.specs.Call.Arguments.{input, in_footprint, debts}
use Rattle.its_stepped.specs.TwoParts.{parse}
pub use Rattle.its_plain.specs.Call.Footprint.{Stands}
use Rattle.its_plain.specs.Call.Decide.{call_row, call_named}
use Rattle.its_stepped.specs.State.{Part, UnlinkOld, LinkNew, FreeOld, Mark, State, seen}
use Rattle.its_stepped.specs.Tick.{reserves}

-- what a frame says of the plain job of its slot
abbrev pub Standing : Frame → Core → Job → Type 0
Standing (Entered f) c j = unit c j ≡ Called f.site
Standing (Parsed f) c j = (unit c j ≡ Called f.site) × (parse c f.site ≡ Ok f.block.items)
Standing (Asked f) c j = Stands c j f.site f.ask
Standing (Holding f) c j = Stands c j f.site f.ask
Standing (Waiting f) c j = Stands c j f.site f.ask
Standing (Moving f) c j = Stands c j f.site f.ask
Standing (Ending f) c j = Unit {0}

-- each of these stores can be made
abbrev pub Stored : Core → List Store → Type 0
Stored c [] = Unit {0}
Stored c (s ∷ ss) = (can_store c (place s) ≡ true) × Stored c ss

-- how many arguments of a call can be pending: of SIOT its pointer and its count, of SLEEP its time
abbrev pub most_owed_by : Option CallName → ℕ
most_owed_by (Some n) = (call_row n).owes
most_owed_by None = 0

unfoldable pub most_owed : Ask → ℕ
most_owed a = most_owed_by (call_named a.name)

-- the last n arguments are words of core that can be stored
pub record Debts (c : Core) (a : Ask) (n : ℕ) : Type 0 where
  pub few : n ≤ most_owed a
  pub read : length (debts a n) ≡ n
  pub stored : Stored c (debts a n)

-- only a call that reserves has a page, of which at most four quarters are clear; none of its
-- arguments is pending
pub record Paged (a : Ask) (n clear : ℕ) : Type 0 where
  pub most : clear ≤ 4
  pub reserves : reserves a ≡ true
  pub owes : n ≡ 0

-- the calls that can be found not ready
abbrev pub Holds : Bool → Type 0
Holds true = Unit {0}
Holds false = ⊥

abbrev pub IsWaitable : Option CallName → Type 0
IsWaitable (Some n) = Holds (call_row n).waits
IsWaitable None = ⊥

-- the pending steps are possible, and Leave is the last of them
abbrev pub Owes : Core → List Owed → Type 0
Owes c [] = ⊥
Owes c (Leave e ∷ []) = Unit {0}
Owes c (Leave e ∷ o ∷ os) = ⊥
Owes c (owed.Store a w ∷ os) = (can_store c (place (poke a w)) ≡ true) × Owes c os
Owes c (GiveBack ∷ os) = Owes c os
Owes c (Unlink ∷ os) = Owes c os
Owes c (Link ∷ os) = Owes c os
Owes c (Free ∷ os) = Owes c os

-- the file steps among pending steps, as parts of a close
abbrev pub file_parts : List Owed → List Part
file_parts [] = []
file_parts (Unlink ∷ os) = UnlinkOld ∷ file_parts os
file_parts (Link ∷ os) = LinkNew ∷ file_parts os
file_parts (Free ∷ os) = FreeOld ∷ file_parts os
file_parts (GiveBack ∷ os) = file_parts os
file_parts (owed.Store a w ∷ os) = file_parts os
file_parts (Leave e ∷ os) = file_parts os

-- the parts of a close come before all else that is pending
abbrev pub FilesFirst : List Owed → Type 0
FilesFirst [] = Unit {0}
FilesFirst (Unlink ∷ os) = FilesFirst os
FilesFirst (Link ∷ os) = FilesFirst os
FilesFirst (Free ∷ os) = FilesFirst os
FilesFirst (GiveBack ∷ os) = file_parts os ≡ []
FilesFirst (owed.Store a w ∷ os) = file_parts os ≡ []
FilesFirst (Leave e ∷ os) = file_parts os ≡ []

-- how many pages are to be given back
abbrev pub backs : List Owed → ℕ
backs [] = 0
backs (GiveBack ∷ os) = 1 + backs os
backs (owed.Store a w ∷ os) = backs os
backs (Unlink ∷ os) = backs os
backs (Link ∷ os) = backs os
backs (Free ∷ os) = backs os
backs (Leave e ∷ os) = backs os

-- the pending stores of a frame are possible in the raw core; and the slot has a reserved page
-- exactly if the frame says so. A call that is held has a page exactly if it reserves one: it got
-- the page when it was prepared, and has it until it ends or is unwound. So a page that a call
-- makes is the one that it has reserved. (A call that waits or holds a byte reserves none)
pub record HoldingPays (c : Core) (r : Option ℕ) (a : Ask) (page : Option ℕ) (n : ℕ) : Type 0 where
  pub debts : Debts c a n
  pub page_is : r ≡ page
  pub paged : IfSome page (Paged a n)
  pub has : reserves a ≡ is_some page

pub record WaitingPays (c : Core) (r : Option ℕ) (a : Ask) (n : ℕ) : Type 0 where
  pub debts : Debts c a n
  pub page_is : r ≡ None
  pub waitable : IsWaitable (call_named a.name)

-- the call that can hold a byte: SIOT, whose decoding gave no error
pub record Transfers (a : Ask) : Type 0 where
  pub siot : call_named a.name ≡ Some Siot
  pub no_error : a.fail ≡ 0

pub record MovingPays (c : Core) (r : Option ℕ) (a : Ask) (at : ℕ) : Type 0 where
  pub transfers : Transfers a
  pub debts : Debts c a 2
  pub page_is : r ≡ None
  pub place : can_store c (place (poke at 0)) ≡ true
  pub within : at < 2 ^ 18
  pub size : has_size (input a 1) ≡ true
  pub apart : in_footprint at a ≡ false

pub record EndingPays (c : Core) (r : Option ℕ) (os : List Owed) : Type 0 where
  pub owes : Owes c os
  pub few : length os ≤ 4
  pub page_is : backs os ≡ kept r
  pub files_first : FilesFirst os

abbrev pub Pays : Frame → Core → Option ℕ → Type 0
Pays (Entered f) c r = r ≡ None
Pays (Parsed f) c r = r ≡ None
Pays (Asked f) c r = r ≡ None
Pays (Holding f) c r = HoldingPays c r f.ask f.page f.owes
Pays (Waiting f) c r = WaitingPays c r f.ask f.owes
Pays (Moving f) c r = MovingPays c r f.ask f.place
Pays (Ending f) c r = EndingPays c r f.owed.items

-- a call that was found not ready passes its other tests, whatever consoles and the clock do: it
-- waits wherever its one reason to wait holds
pub record Stuck (q : Whole) (a : Ask) : Type 0 where
  pub again : (m : Machine) (j : ℕ) (r : Wait) → reason_in q a ≡ Some r → held_up (doors m) j (input a 0) r ≡ true → decision m j q a ≡ Waits r

abbrev pub StuckBy : Frame → Whole → Type 0
StuckBy (Waiting f) q = Stuck q f.ask
StuckBy _ q = Unit {0}

-- a job with a frame runs, and has no deliverable interrupt
pub record SoundFrame (q : Whole) (f : Frame) (r : Option ℕ) : Type 0 where
  pub runs : q.job.stopped ≡ false
  pub quiet : deliverable q.job ≡ false
  pub standing : Standing f (seen (Some f) q).core (seen (Some f) q).job
  pub pays : Pays f q.core r
  pub stuck : StuckBy f (seen (Some f) q)

abbrev pub SoundBy : Option Whole → Option Frame → Option ℕ → Type 0
SoundBy None f r = (f ≡ None) × (r ≡ None)
SoundBy (Some q) None r = r ≡ None
SoundBy (Some q) (Some f) r = SoundFrame q f r

pub record SoundSlot (o : Option Whole) (f : Option Frame) (r : Option ℕ) : Type 0 where
  pub by : SoundBy o f r

abbrev pub parts_in_frame : Option Frame → List Part
parts_in_frame (Some (Ending f)) = file_parts f.owed.items
parts_in_frame _ = []

-- a marked close has at least one part pending, and its owner's frame has exactly these parts
-- pending
pub record MarkBy (m : Mark) (frames : ℕ → Option Frame) : Type 0 where
  pub some : m.parts ≢ []
  pub parts : parts_in_frame (frames m.owner) ≡ m.parts

pub record Sound (w : State) : Type 0 where
  pub each : (k : ℕ) → SoundSlot (w.raw.jobs k) (w.frames k) (w.reserved k)
  pub mark : IfSome w.mark (λ m. MarkBy m w.frames)
