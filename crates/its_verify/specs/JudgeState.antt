-- The state of a judge: the walk along a session that its machine and its counts represent.
-- No promise rests on this.
use Rattle.std.specs.Prelude.{◌≡◌, ◌&&◌, ℕ, Bool, true, false, Some, None, List, ◌++◌, nat_lt, slice_index_or}
use Rattle.its_records.specs.declared.calls.Pace.{Pace}
use Rattle.its_records.specs.declared.calls.Pace.TheVariants.{Wait, Off}
use Rattle.its_plain.specs.Transcript.Licence.{Dots, dots_after}
use Rattle.its_plain.specs.Operator.{Block}
use Rattle.its_plain.specs.Transcript.{Walk}
use Rattle.its_direct.specs.Plain.{machine_of, is_touched}
use Rattle.its_direct.specs.Events.{Kept}
use Rattle.its_direct.specs.declared.plain.Plain.{Plain}
use Rattle.its_verify.specs.Letters.{led_to, paced, ticked}
use Rattle.its_verify.specs.declared.judge.Judge.{Judge}

-- how many `.` came for each slot
abbrev pub dots_of : List ℕ → Dots
dots_of counts k = slice_index_or counts k 0

-- the walk, when block b is open and line n is to come
abbrev pub walk_of : Judge → Block → ℕ → Walk
walk_of j b n = record { machine = machine_of j.plain; dots = dots_of j.dots; block = b; line = n }

-- the machine holds together
pub record Sure (j : Judge) : Type 0 where
  pub kept : Kept j.plain

-- a count, when the slot is touched or not
abbrev pub forgotten : Bool → ℕ → ℕ
forgotten true d = 0
forgotten false d = d

-- none came since for the slots that are touched
abbrev pub Forgets : Plain → List ℕ → List ℕ → Type 0
Forgets p old new = (k : ℕ) → dots_of new k ≡ forgotten (is_touched p k) (dots_of old k)

-- the same of the first n slots
abbrev pub ForgetsBelow : ℕ → Plain → List ℕ → List ℕ → Type 0
ForgetsBelow n p old new = (k : ℕ) → dots_of new k ≡ forgotten (nat_lt k n && is_touched p k) (dots_of old k)

-- a letter of slot i led the judge on: it is licensed, and these are the machine and the counts
-- after it
pub record Led (old new : Judge) (i : ℕ) (p : Pace) : Type 0 where
  pub leads : (b : Block) (n : ℕ) → led_to (walk_of old b n) i p ≡ Some (machine_of new.plain)
  pub dots : dots_of new.dots ≡ dots_after (machine_of old.plain) (dots_of old.dots) i p
  pub place : new.plain.place ≡ old.plain.place

-- a letter that changes nothing is licensed, and then so is each further one
abbrev pub Again : Pace → Judge → ℕ → Type 0
Again Wait j i = Led j j i Wait
Again Off j i = Led j j i Off
Again p j i = Unit {0}

-- of so many letters that are like the one before them, those that are taken at once: all, if they
-- change nothing
abbrev pub at_once : Pace → ℕ → ℕ
at_once Wait n = n
at_once Off n = n
at_once p n = 0

-- whether it did; it is not licensed if it did not
abbrev pub LedIf : Bool → Judge → Judge → ℕ → Pace → Type 0
LedIf true old new i p = Led old new i p
LedIf false old new i p = (b : Block) (n : ℕ) → led_to (walk_of old b n) i p ≡ None

-- so many letters of one kind, and then any others: to what they lead
abbrev pub RunLed : Bool → Judge → Judge → ℕ → List Pace → Type 0
RunLed true old new i run = (b : Block) (n : ℕ) (ps : List Pace) → paced (walk_of old b n) i (run ++ ps) ≡ paced (walk_of new b n) i ps
RunLed false old new i run = (b : Block) (n : ℕ) (ps : List Pace) → paced (walk_of old b n) i (run ++ ps) ≡ None

-- to what all letters lead
abbrev pub RunsLed : Bool → Judge → Judge → ℕ → List Pace → Type 0
RunsLed true old new i ps = (b : Block) (n : ℕ) → paced (walk_of old b n) i ps ≡ Some (walk_of new b n)
RunsLed false old new i ps = (b : Block) (n : ℕ) → paced (walk_of old b n) i ps ≡ None

-- the letters of a run lead on from where the first of them led, and what others follow
abbrev pub RunOn : Judge → Judge → ℕ → List Pace → List Pace → Type 0
RunOn old now i all rest = (b : Block) (n : ℕ) (ps : List Pace) → paced (walk_of old b n) i (all ++ ps) ≡ paced (walk_of now b n) i (rest ++ ps)

abbrev pub LeadsOn : Judge → Judge → ℕ → List Pace → List Pace → Type 0
LeadsOn old now i all rest = (b : Block) (n : ℕ) → paced (walk_of old b n) i all ≡ paced (walk_of now b n) i rest

-- whether a line says so many letters of slot i, and they led the judge on
abbrev pub AllLed : Bool → Judge → Judge → List ℕ → ℕ → ℕ → Type 0
AllLed true old new text i k =
    Sure new × (new.ended ≡ false) × ((b : Block) (n : ℕ) → ticked (walk_of old b n) i k text ≡ Some (walk_of new b n))
AllLed false old new text i k = (b : Block) (n : ℕ) → ticked (walk_of old b n) i k text ≡ None
