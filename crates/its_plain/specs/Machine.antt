-- The plain machine: its jobs by slot, consoles with their holders, a directory, links and a clock.
-- No part is about a call in progress.
-- A promise rests on this.
pub mod Registers
pub mod Alarm
pub mod Own
pub mod Change
pub mod View
use Rattle.std.specs.Prelude.{if◌then◌else◌, ◌==◌, ℕ, zero, suc, ◌+◌, ◌%◌, ◌^◌, Bool, Option, Some, None, List, [], ◌∷◌}
use Rattle.its_word.specs.Core.{Core, no_core, word_at, pages_mapped}
use Rattle.its_word.specs.Limits.{limit_of}
use Rattle.its_records.specs.declared.jobs.Job.{Job}
pub use Rattle.its_word.specs.Console.{Console}
-- the names of a file: its directory, name 1 and name 2, in this order. A file or a draft has its
-- names and its words
pub use Rattle.its_word.specs.Directory.{File}
use Rattle.its_records.specs.declared.link.Link.{Link}

abbrev pub Names : Type 0
Names = List ℕ

-- what a channel is on. One that reads has the names of its file and a position; one that writes
-- has the draft itself; one on an inferior has its slot, whether it may be written, and a position;
-- one on a link has its number and whether it is at the writing end
pub data Chan : Type 0 where
  Shut : Chan
  TtyIn : Chan
  TtyOut : Chan
  Reads : Names → ℕ → Chan
  Writes : File → Chan
  On : ℕ → Bool → ℕ → Chan
  Linked : ℕ → Bool → Chan

-- a symbol: its name and its address
abbrev pub Symbol : Type 0
Symbol = ℕ × ℕ

-- a link and the words that were sent through it and not received, in the order in which they came
pub record Pipe : Type 0 where
  pub link : Link
  pub words : List ℕ

-- a job: its core, its registers, the slot of its superior if it has one, its 16 channels, and its
-- alarm if it has one, as a period and a next time. (The channels of its registers are the
-- monitor's own, and are closed here)
pub record Whole : Type 0 where
  pub core : Core
  pub job : Job
  pub superior : Option ℕ
  pub channels : ℕ → Chan
  pub alarm : Option (ℕ × ℕ)

-- jobs by slot, consoles and their holders by number, files in their order, the clock in
-- thirtieths, the version of the session text, 1 or 2, which determines how many jobs there can be,
-- the symbols of the job of each slot, in the order in which they were kept, and the links by
-- number
pub record Machine : Type 0 where
  pub jobs : ℕ → Option Whole
  pub consoles : ℕ → Console
  pub holders : ℕ → Option ℕ
  pub files : List File
  pub clock : ℕ
  pub version : ℕ
  pub symbols : ℕ → List Symbol
  pub links : ℕ → Option Pipe

-- no channel is open
abbrev pub all_shut : ℕ → Chan
all_shut n = Shut

abbrev pub no_bytes : Console
no_bytes = record { input = []; output = [] }

-- a job with these parts, closed channels and no alarm
abbrev pub whole : Core → Job → Option ℕ → Whole
whole c j superior = record { core = c; job = j; superior = superior; channels = all_shut; alarm = None }

-- a machine with these jobs, and else as at the start of a session
abbrev pub with_jobs : (ℕ → Option Whole) → Machine
with_jobs jobs =
    record { jobs = jobs; consoles = λ _. no_bytes; holders = λ _. None; files = []; clock = 0; version = 1; symbols = λ _. []; links = λ _. None }

-- the machine at the start of a session
unfoldable pub no_machine : Machine
no_machine = with_jobs (λ _. None)

-- f, but x at i
abbrev pub changed : {X : Type 0} → (ℕ → X) → ℕ → X → ℕ → X
changed f i x k = if k == i then x else f k

-- the machine with this job in a slot
abbrev pub with_job : Machine → ℕ → Whole → Machine
with_job m s q = record m { jobs = changed m.jobs s (Some q) }

-- the machine with a new job in a slot, which has no symbols
abbrev pub with_new : Machine → ℕ → Whole → Machine
with_new m s q = record m { jobs = changed m.jobs s (Some q); symbols = changed m.symbols s [] }

-- the core of a slot; that of an empty slot has no pages
abbrev pub core_of : Option Whole → Core
core_of (Some q) = q.core
core_of None = no_core

-- how many jobs it can have; they have the slots below
abbrev pub limit : Machine → ℕ
limit m = limit_of m.version

-- how many pages all jobs have
abbrev pub mapped : Machine → ℕ
mapped m = pages_mapped (λ k. core_of (m.jobs k))

abbrev pub joined : Option ℕ → Option (List ℕ) → Option (List ℕ)
joined (Some w) (Some ws) = Some (w ∷ ws)
joined (Some w) None = None
joined None ws = None

-- n words of a core from an address on, modulo 2 ^ 18, or none if one is absent
unfoldable pub words_at : Core → ℕ → ℕ → Option (List ℕ)
words_at c a zero = Some []
words_at c a (suc n) = joined (word_at c (a % 2 ^ 18)) (words_at c (a + 1) n)
