-- What a line of the operator may change (docs/MACHINE.md, "Who may touch what").
-- A promise rests on this.
use Rattle.std.specs.Prelude.{◌≡◌, ◌+◌, ◌==◌, ◌&&◌, ℕ, Bool, true, false, Option, Some, None, is_none}
use Rattle.its_records.specs.Tree.{least_free}
use Rattle.its_records.specs.declared.session.Event.{Event}
use Rattle.its_records.specs.declared.session.Event.TheVariants as events
use Rattle.its_records.specs.declared.state_line.StateLine.{StateLine}
use Rattle.its_records.specs.declared.state_line.StateLine.TheVariants as states
use Rattle.its_plain.specs.Machine.{Machine, limit}
use Rattle.its_plain.specs.Operator.{Block}
use Rattle.its_plain.specs.Operator.Clock.{due}

-- the parts of a machine: jobs by slot, consoles and their holders by number, the directory, the
-- symbols of slots, the clock, the version, and the links by number
pub record Parts : Type 0 where
  pub jobs : ℕ → Bool
  pub consoles : ℕ → Bool
  pub holders : ℕ → Bool
  pub files : Bool
  pub symbols : ℕ → Bool
  pub clock : Bool
  pub version : Bool
  pub links : ℕ → Bool

abbrev pub no_part : Parts
no_part = record {
  jobs = λ k. false;
  consoles = λ c. false;
  holders = λ c. false;
  files = false;
  symbols = λ k. false;
  clock = false;
  version = false;
  links = λ l. false;
}

abbrev pub job_part : ℕ → Parts
job_part s = record no_part { jobs = λ k. k == s }

abbrev pub console_part : ℕ → Parts
console_part c = record no_part { consoles = λ d. d == c }

-- a number is the one that is given, if one is given
abbrev pub is_this : Option ℕ → ℕ → Bool
is_this (Some s) k = k == s
is_this None k = false

abbrev pub file_part : Parts
file_part = record no_part { files = true }

abbrev pub link_part : ℕ → Parts
link_part l = record no_part { links = λ k. k == l }

-- what a line of the state part may change: JOB makes a job, LNK a channel and a link; each other
-- line changes the one thing that it names
abbrev pub restored_parts : Machine → Block → StateLine → Parts
restored_parts m b (states.System v) = record no_part { version = true }
restored_parts m b (states.Clock n) = record no_part { jobs = due (m.clock + n) m.jobs; clock = true }
restored_parts m b (states.File d x y) = file_part
restored_parts m b (states.FileWords ws) = file_part
restored_parts m b (states.Job s u j c) = record (job_part s) { symbols = λ k. k == s }
restored_parts m b (states.CoreWords a ws) = job_part b.slot
restored_parts m b (states.ReadOnly p) = job_part b.slot
restored_parts m b (states.Symbol x a) = record no_part { symbols = λ k. k == b.slot }
restored_parts m b (states.Regs r) = job_part b.slot
restored_parts m b (states.Alarm s p n) = job_part s
restored_parts m b (states.Under s t) = job_part s
restored_parts m b (states.Tty s n w) = job_part s
restored_parts m b (states.Disk s n d x y at) = job_part s
restored_parts m b (states.Draft s n d x y) = job_part s
restored_parts m b (states.Wrote s n ws) = job_part s
restored_parts m b (states.Usr s n t w at) = job_part s
restored_parts m b (states.Join s n l w x y) = record (job_part s) { links = λ k. k == l }
restored_parts m b (states.Sent l ws) = link_part l
restored_parts m b (states.EndShut l w) = link_part l
restored_parts m b (states.Input c bs) = console_part c
restored_parts m b (states.Output c bs) = console_part c
restored_parts m b (states.Hold c s) = record no_part { holders = λ d. d == c }
restored_parts m b (states.Turn s) = no_part
restored_parts m b states.Ready = no_part

-- what a line of the operator may change. LOAD makes a job in the least free slot, which may become
-- the holder of the console of the line if nobody holds it; CLOCK changes the jobs whose alarm is
-- due. EXAM, LIST, STATE, PEEK, DIR and SHOW change nothing
abbrev pub touched : Machine → Block → Event → Parts
touched m b (events.Version v) = record no_part { version = true }
touched m b (events.Load u j console) =
    record no_part {
      jobs = is_this (least_free (limit m) m.jobs);
      holders = λ c. is_this console c && is_none (m.holders c);
      symbols = is_this (least_free (limit m) m.jobs);
    }
touched m b (events.Words a words) = job_part b.slot
touched m b (events.ReadOnly page) = job_part b.slot
touched m b (events.Symbol name a) = record no_part { symbols = λ k. k == b.slot }
touched m b (events.Go a) = job_part b.slot
touched m b (events.File d x y) = file_part
touched m b (events.Append words) = file_part
touched m b (events.TypeIn c bytes) = console_part c
touched m b (events.Drain c n) = console_part c
touched m b (events.Clock n) = record no_part { jobs = due (m.clock + n) m.jobs; clock = true }
touched m b (events.Int s v w) = job_part s
touched m b (events.Deposit s a w) = job_part s
touched m b (events.Stop s) = job_part s
touched m b (events.Cont s) = job_part s
touched m b (events.Restore line) = restored_parts m b line
touched m b _ = no_part

-- machine n is machine m except for these parts. Outside the state part no line changes a link
pub record OnlyParts (p : Parts) (m n : Machine) : Type 0 where
  pub jobs : (k : ℕ) → p.jobs k ≡ false → n.jobs k ≡ m.jobs k
  pub consoles : (c : ℕ) → p.consoles c ≡ false → n.consoles c ≡ m.consoles c
  pub holders : (c : ℕ) → p.holders c ≡ false → n.holders c ≡ m.holders c
  pub files : p.files ≡ false → n.files ≡ m.files
  pub symbols : (k : ℕ) → p.symbols k ≡ false → n.symbols k ≡ m.symbols k
  pub clock : p.clock ≡ false → n.clock ≡ m.clock
  pub version : p.version ≡ false → n.version ≡ m.version
  pub links : (l : ℕ) → p.links l ≡ false → n.links l ≡ m.links l
