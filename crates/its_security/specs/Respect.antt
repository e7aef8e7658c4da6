-- Who may see what: what a step of a stranger leaves of what a job sees, and in which ways the two
-- can meet (docs/MACHINE.md, "Who may see what").
-- A promise rests on this.
use Rattle.std.specs.Prelude.{◌≡◌, ◌≢◌, ◌⊎◌, ◌<◌, ℕ, Bool, true, false, Option, Some, None}
use Rattle.its_records.specs.Tree.{is_below}
use Rattle.its_plain.specs.Call.File.{file_named, has_file}
use Rattle.its_plain.specs.Call.Link.{can_open}
use Rattle.its_plain.specs.Machine.Change.{channel_in, superiors, console_in}
use Rattle.its_plain.specs.Machine.{Names, File, Chan, Reads, On, Linked, Machine}
use Rattle.its_security.specs.Integrity.{IsOpenAt, AtEnd}
use Rattle.its_security.specs.OperatorParts.{Parts}

-- two jobs are strangers: neither is below the other
pub record Strangers (m : Machine) (j k : ℕ) : Type 0 where
  pub not_above : is_below (superiors m) j k ≡ false
  pub not_below : is_below (superiors m) k j ≡ false

-- how a step of job k from machine m to machine n can change link l: through its own channel on
-- one of its ends; by opening an end that nobody has opened; or by removing a job at which one of
-- its ends is open
pub data MeetsAtLink (m n : Machine) (k l : ℕ) : Type 0 where
  by_end : (i : ℕ) (write : Bool) → AtEnd m k i l write → MeetsAtLink m n k l
  by_name : (write : Bool) → can_open write (m.links l) ≡ true → MeetsAtLink m n k l
  by_removal : (g i : ℕ) (write : Bool) → IsOpenAt g i write (m.links l) → n.jobs g ≡ None → MeetsAtLink m n k l

-- how it can change the holder of console c: the console is also that of job k; or its holder is
-- removed
pub data MeetsAtConsole (m n : Machine) (k c : ℕ) : Type 0 where
  by_console : console_in (m.jobs k) ≡ Some c → MeetsAtConsole m n k c
  by_holder : (g : ℕ) → m.holders c ≡ Some g → n.jobs g ≡ None → MeetsAtConsole m n k c

-- what is seen through a channel stays: an inferior; a file, if there is one; and a link, unless
-- the two meet at it
abbrev pub StaysThrough : Machine → Machine → ℕ → Chan → Type 0
StaysThrough m n k (On s write at) = n.jobs s ≡ m.jobs s
StaysThrough m n k (Reads x at) = (f : File) → file_named x m.files ≡ Some f → file_named x n.files ≡ Some f
StaysThrough m n k (Linked l write) = (n.links l ≡ m.links l) ⊎ MeetsAtLink m n k l
StaysThrough m n k _ = Unit {0}

-- so do the bytes at a console, unless it is that of job k too, and its holder
abbrev pub StaysAt : Machine → Machine → ℕ → Option ℕ → Type 0
StaysAt m n k (Some c) = ((n.consoles c ≡ m.consoles c) ⊎ (console_in (m.jobs k) ≡ Some c)) × ((n.holders c ≡ m.holders c) ⊎ MeetsAtConsole m n k c)
StaysAt m n k None = Unit {0}

-- what a step of job k from machine m to machine n leaves of what its stranger j sees. It changes
-- no job and no clock that j sees
pub record Respects (m n : Machine) (j k : ℕ) : Type 0 where
  pub own : n.jobs j ≡ m.jobs j
  pub channels : (i : ℕ) → i < 16 → StaysThrough m n k (channel_in (m.jobs j) i)
  pub console : StaysAt m n k (console_in (m.jobs j))
  pub clock : n.clock ≡ m.clock

-- a step of job k from machine m to machine n meets job j nowhere: at no link on which j has a
-- channel, and not at its console. (The files that j reads are there)
pub record Unmet (m n : Machine) (j k : ℕ) : Type 0 where
  pub links : (i l : ℕ) (write : Bool) → channel_in (m.jobs j) i ≡ Linked l write → MeetsAtLink m n k l → ⊥
  pub console : (c : ℕ) → console_in (m.jobs j) ≡ Some c → console_in (m.jobs k) ≢ Some c
  pub holder : (c : ℕ) → console_in (m.jobs j) ≡ Some c → MeetsAtConsole m n k c → ⊥
  pub files : (i at : ℕ) (x : Names) → channel_in (m.jobs j) i ≡ Reads x at → (i < 16) × (has_file x m.files ≡ true)

-- a line of the operator that may change these parts changes nothing that job j sees: neither the
-- job nor an inferior or a link that a channel of it is on, nor its console, the files or the clock
pub record Unseen (p : Parts) (m : Machine) (j : ℕ) : Type 0 where
  pub own : p.jobs j ≡ false
  pub inferiors : (i s at : ℕ) (write : Bool) → channel_in (m.jobs j) i ≡ On s write at → p.jobs s ≡ false
  pub console : (c : ℕ) → console_in (m.jobs j) ≡ Some c → p.consoles c ≡ false
  pub holder : (c : ℕ) → console_in (m.jobs j) ≡ Some c → p.holders c ≡ false
  pub links : (i l : ℕ) (write : Bool) → channel_in (m.jobs j) i ≡ Linked l write → p.links l ≡ false
  pub files : p.files ≡ false
  pub clock : p.clock ≡ false
