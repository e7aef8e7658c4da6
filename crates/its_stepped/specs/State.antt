-- The stepped machine: a raw machine, and beside it the frames of calls in progress, the pages that
-- they reserve, and a close that is half made (docs/STEPS.md). It has a plain machine.
-- No promise rests on this.
use Rattle.std.specs.Prelude.{◌==◌, ℕ, Bool, true, false, Option, Some, None, List, [], ◌∷◌, ◌++◌, option_map}
use Rattle.its_records.specs.declared.calls.Ask.{Ask}
use Rattle.its_records.specs.declared.calls.Owed.{Owed}
use Rattle.its_records.specs.declared.calls.Owed.TheVariants.{Store, GiveBack, Unlink, Link, Free, Leave}
use Rattle.its_records.specs.declared.calls.Site.{Site}
use Rattle.its_frame.specs.declared.decision.Held.{Held}
use Rattle.its_frame.specs.declared.frame.Frame.{Frame}
use Rattle.its_frame.specs.declared.frame.Frame.TheVariants.{Entered, Parsed, Asked, Holding, Waiting, Moving, Ending}
use Rattle.its_plain.specs.Machine.{File, Chan, Writes, Whole, Machine, changed}
use Rattle.its_plain.specs.Machine.Own.{with_stores, after_leave}
use Rattle.its_plain.specs.Machine.Change.{in_job, poke, without_file}
use Rattle.its_plain.specs.Call.File.{has_file}
use Rattle.its_plain.specs.Call.Arguments.{debts}
use Rattle.its_plain.specs.Call.Step.{with_held}

-- the parts of a close: the old file leaves the directory, the draft becomes its last file, and the
-- blocks of the old one are given up
pub data Part : Type 0 where
  UnlinkOld : Part
  LinkNew : Part
  FreeOld : Part

-- a close that is half made: the slot that performs it, the draft, and the parts that are still
-- pending
pub record Mark : Type 0 where
  pub owner : ℕ
  pub draft : File
  pub parts : List Part

pub record State : Type 0 where
  pub raw : Machine
  pub frames : ℕ → Option Frame
  pub reserved : ℕ → Option ℕ
  pub mark : Option Mark

-- the directory after parts of a close
abbrev pub after_part : File → Part → List File → List File
after_part f UnlinkOld fs = without_file f.names fs
after_part f LinkNew fs = fs ++ f ∷ []
after_part f FreeOld fs = fs

abbrev pub after_parts : File → List Part → List File → List File
after_parts f [] fs = fs
after_parts f (p ∷ ps) fs = after_parts f ps (after_part f p fs)

-- the directory with all pending parts performed
unfoldable pub after_help : Option Mark → List File → List File
after_help (Some m) fs = after_parts m.draft m.parts fs
after_help None fs = fs

-- the close of a channel is begun: what is pending depends on whether a file has the draft's names
abbrev pub parts_of : Bool → List Part
parts_of true = UnlinkOld ∷ LinkNew ∷ FreeOld ∷ []
parts_of false = LinkNew ∷ []

abbrev pub mark_of_close : ℕ → Chan → List File → Option Mark
mark_of_close j (Writes f) fs = Some (record { owner = j; draft = f; parts = parts_of (has_file f.names fs) })
mark_of_close j _ fs = None

abbrev pub mine : Option Mark → ℕ → Bool
mine (Some m) j = m.owner == j
mine None j = false

-- what the pending steps of a call that has ended leave of its job
abbrev pub after_owed : List Owed → Whole → Whole
after_owed [] q = q
after_owed (Store a w ∷ os) q = after_owed os (with_stores (poke a w ∷ []) q)
after_owed (Leave e ∷ os) q = after_owed os (after_leave e q)
after_owed (GiveBack ∷ os) q = after_owed os q
after_owed (Unlink ∷ os) q = after_owed os q
after_owed (Link ∷ os) q = after_owed os q
after_owed (Free ∷ os) q = after_owed os q

-- the byte that a frame holds
abbrev pub held_at : ℕ → ℕ → Held
held_at place byte = record { place = place; byte = byte }

-- the plain job of a raw job with a frame: the pending steps of the frame are performed
unfoldable pub seen : Option Frame → Whole → Whole
seen None q = q
seen (Some (Entered f)) q = q
seen (Some (Parsed f)) q = q
seen (Some (Asked f)) q = q
seen (Some (Holding f)) q = with_stores (debts f.ask f.owes) q
seen (Some (Waiting f)) q = with_stores (debts f.ask f.owes) q
seen (Some (Moving f)) q = with_stores (debts f.ask 2) (with_held f.ask (Some (held_at f.place f.byte)) q)
seen (Some (Ending f)) q = after_owed f.owed.items q

abbrev pub seen_jobs : (ℕ → Option Frame) → (ℕ → Option Whole) → ℕ → Option Whole
seen_jobs frames jobs k = option_map (seen (frames k)) (jobs k)

-- the plain machine of a state
unfoldable pub plain : State → Machine
plain w = record w.raw { jobs = seen_jobs w.frames w.raw.jobs; files = after_help w.mark w.raw.files }

-- the state at the start of a session
unfoldable pub no_state : Machine → State
no_state m = record { raw = m; frames = λ _. None; reserved = λ _. None; mark = None }

-- the raw job and the frame of one slot changed: every row of a tick or of unwinding is such a
-- change
abbrev pub with_slot : State → ℕ → (Whole → Whole) → Option Frame → State
with_slot w j h f = record w { raw = in_job w.raw j h; frames = changed w.frames j f }

abbrev pub same : Whole → Whole
same q = q

-- the page that a slot has reserved
abbrev pub reserving : State → ℕ → Option ℕ → State
reserving w j r = record w { reserved = changed w.reserved j r }

-- frames made of their parts
abbrev pub entered : Site → Frame
entered s = Entered (record { site = s })

abbrev pub parsed : Site → List ℕ → Frame
parsed s b = Parsed (record { site = s; block = record { items = b } })

abbrev pub asked : Site → Ask → Frame
asked s a = Asked (record { site = s; ask = a })

abbrev pub holding : Site → Ask → Option ℕ → ℕ → Frame
holding s a page n = Holding (record { site = s; ask = a; page = page; owes = n })

abbrev pub waiting : Site → Ask → ℕ → Frame
waiting s a n = Waiting (record { site = s; ask = a; owes = n })

abbrev pub moving : Site → Ask → Held → Frame
moving s a h = Moving (record { site = s; ask = a; place = h.place; byte = h.byte })

abbrev pub ending : Site → Ask → List Owed → Frame
ending s a os = Ending (record { site = s; ask = a; owed = record { items = os } })
