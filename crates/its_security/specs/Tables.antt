-- Who may see what: which calls change each table that all jobs share (docs/MACHINE.md, "Who may
-- see what"). So the list of the ways in which strangers can pass a bit through a table is
-- complete.
-- A promise rests on this.
use Rattle.std.specs.Prelude.{◌≡◌, ℕ, Bool, true, false, Option, Some, None, Result, Ok, Err, option_map}
use Rattle.its_word.specs.Core.{Core}
use Rattle.its_word.specs.declared.access.Fault.{Fault}
use Rattle.its_records.specs.declared.calls.Ask.{Ask}
use Rattle.its_frame.specs.declared.name.CallName.{CallName}
use Rattle.its_frame.specs.declared.name.CallName.TheVariants.{Logout, Open, Close, Iot, Siot, Ttylnd, Delete, Rename, Uclose, Corblk}
use Rattle.its_plain.specs.Call.File.{is_read, blocks_used}
use Rattle.its_plain.specs.Call.Decide.{call_named}
use Rattle.its_plain.specs.Call.Decode.{ask}
use Rattle.its_plain.specs.Unit.Interrupt.{deliverable}
use Rattle.its_plain.specs.Machine.Change.{superiors}
use Rattle.its_plain.specs.Machine.{Names, Whole, Machine, mapped, limit}
use Rattle.its_plain.specs.Operator.Files.{channels_of}
use Rattle.its_plain.specs.Unit.{Outcome, Changed, Faulted, Called, unit}

-- the tables: how many pages and how many blocks are in use; the directory; which files are read;
-- the names and the superior of the job of each slot; links; the bytes at consoles, and who holds
-- them; and the clock
pub data Table : Type 0 where
  Pages : Table
  Blocks : Table
  Directory : Table
  Readers : Table
  Slots : Table
  Links : Table
  Bytes : Table
  Holders : Table
  Clock : Table

-- who the job of a slot is, if there is one
pub record Identity : Type 0 where
  pub uname : ℕ
  pub jname : ℕ
  pub superior : Option ℕ

abbrev pub identity : Whole → Identity
identity q = record { uname = q.job.uname; jname = q.job.jname; superior = q.superior }

-- a table is the same in two machines
abbrev pub SameTable : Table → Machine → Machine → Type 0
SameTable Pages m n = mapped n ≡ mapped m
SameTable Blocks m n = blocks_used n.files (channels_of n) ≡ blocks_used m.files (channels_of m)
SameTable Directory m n = n.files ≡ m.files
SameTable Readers m n = (x : Names) → is_read x (channels_of n) ≡ is_read x (channels_of m)
SameTable Slots m n = (k : ℕ) → option_map identity (n.jobs k) ≡ option_map identity (m.jobs k)
SameTable Links m n = (l : ℕ) → n.links l ≡ m.links l
SameTable Bytes m n = (c : ℕ) → n.consoles c ≡ m.consoles c
SameTable Holders m n = (c : ℕ) → n.holders c ≡ m.holders c
SameTable Clock m n = n.clock ≡ m.clock

-- which calls can change it
abbrev pub changes : CallName → Table → Bool
changes Corblk Pages = true
changes Iot Blocks = true
changes Iot Links = true
changes Iot Bytes = true
changes Siot Blocks = true
changes Siot Links = true
changes Siot Bytes = true
changes Open Readers = true
changes Open Slots = true
changes Open Links = true
changes Close Blocks = true
changes Close Directory = true
changes Close Readers = true
changes Close Links = true
changes Delete Blocks = true
changes Delete Directory = true
changes Rename Directory = true
changes Ttylnd Holders = true
changes Uclose Pages = true
changes Uclose Blocks = true
changes Uclose Readers = true
changes Uclose Slots = true
changes Uclose Links = true
changes Uclose Holders = true
changes Logout Pages = true
changes Logout Blocks = true
changes Logout Readers = true
changes Logout Slots = true
changes Logout Links = true
changes Logout Holders = true
changes _ _ = false

-- which call the next step of a job is: none if it is a delivery or a unit, or if its decoding
-- faults
abbrev pub call_asked : Result Ask Fault → Option CallName
call_asked (Ok a) = call_named a.name
call_asked (Err f) = None

abbrev pub call_in : Core → Outcome → Option CallName
call_in c (Called s) = call_asked (ask c s)
call_in c (Changed d k) = None
call_in c (Faulted f) = None

abbrev pub call_unless : Whole → Bool → Option CallName
call_unless q true = None
call_unless q false = call_in q.core (unit q.core q.job)

abbrev pub call_of : Option Whole → Option CallName
call_of (Some q) = call_unless q (deliverable q.job)
call_of None = None

abbrev pub changed_by : Option CallName → Table → Bool
changed_by (Some c) t = changes c t
changed_by None t = false

-- a step of job j from machine m to machine n changes no other table than its call can change
abbrev pub TablesKept : Machine → ℕ → Machine → Type 0
TablesKept m j n = (t : Table) → changed_by (call_of (m.jobs j)) t ≡ false → SameTable t m n

-- which calls look at a table, apart from what a job sees through its channels and at its console
abbrev pub looks_at : CallName → Table → Bool
looks_at Corblk Pages = true
looks_at Iot Blocks = true
looks_at Siot Blocks = true
looks_at Open Directory = true
looks_at Open Slots = true
looks_at Open Links = true
looks_at Close Directory = true
looks_at Close Readers = true
looks_at Delete Directory = true
looks_at Delete Readers = true
looks_at Rename Directory = true
looks_at Rename Readers = true
looks_at Ttylnd Slots = true
looks_at Uclose Slots = true
looks_at _ _ = false

abbrev pub looked_at : Option CallName → Table → Bool
looked_at (Some c) t = looks_at c t
looked_at None t = false

-- the tables that the next call of job j looks at are the same in two machines, and so are the
-- inferiors of the job, and how many jobs there can be
pub record TablesAgree (j : ℕ) (m n : Machine) : Type 0 where
  pub tables : (t : Table) → looked_at (call_of (m.jobs j)) t ≡ true → SameTable t m n
  pub inferiors : (s : ℕ) → superiors m s ≡ Some j → n.jobs s ≡ m.jobs s
  pub most : limit n ≡ limit m
