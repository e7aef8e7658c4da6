-- The effect of a line of the operator on the second machine.
-- No promise rests on this.
use Rattle.std.specs.Prelude.{◌≡◌, ℕ, zero, suc, ◌+◌, ◌-◌, ◌/◌, Bool, true, false, List, is_some, nat_lt, Result, Ok, slice_set}
use Rattle.its_word.specs.Core.{Core, page_of}
use Rattle.its_word.specs.Only.{Only, Same}
use Rattle.its_records.specs.declared.jobs.Job.{Job}
use Rattle.its_records.specs.declared.session.Reason.{Reason}
use Rattle.its_jobs.specs.Table.{job_at}
use Rattle.its_plain.specs.Machine.Change.{in_job}
use Rattle.its_plain.specs.Machine.{Console, Symbol, Machine}
use Rattle.its_plain.specs.Operator.{nobody, only}
pub use Rattle.its_shared.specs.Refusals.{refusal_of}
use Rattle.its_shared.specs.Parts.{bare, console_at, symbols_at}
use Rattle.its_direct.specs.Contents.{contents}
use Rattle.its_direct.specs.Plain.{machine_of, is_touched, no_slots}
use Rattle.its_direct.specs.declared.plain.Plain.{Plain}
use Rattle.its_direct.specs.declared.plain.Spot.TheVariants as spots

-- one slot is touched, and no other
abbrev pub one_slot : ℕ → List Bool
one_slot s = slice_set no_slots s true

-- a line that changes the machine, and touches slot s
pub record Operates (old new : Plain) (s : ℕ) (r : Result Machine Reason) : Type 0 where
  pub is : r ≡ Ok (machine_of new)
  pub touched : (k : ℕ) → is_touched new k ≡ only s k
  pub place : new.place ≡ old.place

-- the registers of slot s's job are written, and it is touched
pub record Rewritten (old new : Plain) (s : ℕ) (j : Job) : Type 0 where
  pub machine : machine_of new ≡ in_job (machine_of old) s (λ q. record q { job = bare j })
  pub touched : (k : ℕ) → is_touched new k ≡ only s k
  pub place : new.place ≡ old.place

-- LOAD: a line that changes the machine and answers a slot, which it touches and whose LOAD block
-- begins
pub record Loads (old new : Plain) (s : ℕ) (r : Result (Machine × ℕ) Reason) : Type 0 where
  pub is : r ≡ Ok (machine_of new, s)
  pub touched : (k : ℕ) → is_touched new k ≡ only s k
  pub place : new.place ≡ spots.Load s

-- a line that touches nobody, and leaves this machine
pub record Stands (old new : Plain) (m : Machine) : Type 0 where
  pub machine : machine_of new ≡ m
  pub touched : (k : ℕ) → is_touched new k ≡ nobody k
  pub place : new.place ≡ old.place

-- a line that touches nobody, and that may be refused
pub record Keeps (old new : Plain) (r : Result Machine Reason) : Type 0 where
  pub is : r ≡ Ok (machine_of new)
  pub touched : (k : ℕ) → is_touched new k ≡ nobody k
  pub place : new.place ≡ old.place

-- only console c is another
pub record ConsoleBecomes (old new : Plain) (c : ℕ) (x : Console) : Type 0 where
  pub consoles : Only (console_at old.consoles.items) (console_at new.consoles.items) c x
  pub rest : contents new ≡ record (contents old) { consoles = new.consoles }

-- only the symbols of slot s are others
pub record SymbolsBecome (old new : Plain) (s : ℕ) (ss : List Symbol) : Type 0 where
  pub symbols : Only (symbols_at old.symbols.items) (symbols_at new.symbols.items) s ss
  pub rest : contents new ≡ record (contents old) { symbols = new.symbols }

-- only the version is another, and with it the limit of its jobs; slots may be touched
pub record VersionBecomes (old new : Plain) (v : ℕ) : Type 0 where
  pub jobs : Same (job_at old.jobs) (job_at new.jobs)
  pub superiors : new.jobs.superiors ≡ old.jobs.superiors
  pub rest : contents new ≡ record (contents old) { version = v; jobs = new.jobs; touched = new.touched }

-- how many of n pages of a core, from page k on, are absent
abbrev pub one_unless : Bool → ℕ
one_unless true = 0
one_unless false = 1

unfoldable pub pages_absent : Core → ℕ → ℕ → ℕ
pages_absent c k zero = 0
pages_absent c k (suc n) = one_unless (is_some (page_of c k)) + pages_absent c (k + 1) n

-- how many pages an a/ line makes for n words from address a on: the absent ones from that of its
-- first word to that of its last; none if all of them are accumulators
abbrev pub pages_made_if : Core → ℕ → ℕ → Bool → ℕ
pages_made_if c first last true = 0
pages_made_if c first last false = pages_absent c (first / 1024) (last / 1024 + 1 - first / 1024)

unfoldable pub pages_made : Core → ℕ → ℕ → ℕ
pages_made c a zero = 0
pages_made c a (suc n) = pages_made_if c a (a + n) (nat_lt (a + n) 16)
