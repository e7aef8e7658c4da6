-- The effect of a line of a session on the plain machine (docs/SESSION.md, "The lines").
-- A promise rests on this.
pub mod Symbols
pub mod Version
pub mod Jobs
pub mod Consoles
pub mod Files
pub mod Clock
pub mod State
pub mod Lines
use Rattle.std.specs.Prelude.{◌==◌, ℕ, Bool, false, List, [], Result, Ok, Err}
use Rattle.its_print.specs.Printing.{Line}
use Rattle.its_records.specs.declared.session.Reason.{Reason}
use Rattle.its_plain.specs.Machine.{Names, Machine}
use Rattle.its_plain.specs.Machine.Own.{names_of}

-- what a block of lines is about: the slot of the job that the last LOAD line made, and the names
-- of the file that the last FILE line made
pub record Block : Type 0 where
  pub slot : ℕ
  pub file : Names

abbrev pub no_block : Block
no_block = record { slot = 0; file = names_of 0 0 0 }

-- the effect of a line
pub data Operated : Type 0 where
  -- it is refused, and the session ends
  Refuses : Reason → Operated
  -- the machine after it, the lines that it shows, the slots that it disturbs or fills, and the
  -- block
  Does : Machine → List Line → (ℕ → Bool) → Block → Operated
  -- ticks of a slot, and how many
  Ticks : ℕ → ℕ → Operated
  -- the session ends
  Quits : Operated

abbrev pub nobody : ℕ → Bool
nobody k = false

abbrev pub only : ℕ → ℕ → Bool
only s k = k == s

-- a line without output that disturbs its job
abbrev pub disturbs : ℕ → Block → Result Machine Reason → Operated
disturbs s b (Ok m) = Does m [] (only s) b
disturbs s b (Err r) = Refuses r

-- a line of a block, which disturbs nobody
abbrev pub quietly : Block → Result Machine Reason → Operated
quietly b (Ok m) = Does m [] nobody b
quietly b (Err r) = Refuses r

-- this and then that, unless this is refused
abbrev pub and_then : {A B E : Type 0} → Result A E → (A → Result B E) → Result B E
and_then (Ok x) f = f x
and_then (Err e) f = Err e
