-- The plain machine of a second machine, and what holds of it at any time.
-- No promise rests on this.
use Rattle.std.specs.Prelude.{◌≡◌, ◌<◌, ◌^◌, ℕ, Bool, false, Option, Some, None, IfSome, List, [], slice_index_or, replicate}
use Rattle.its_word.specs.Core.{Core, no_core}
use Rattle.its_word.specs.Limits.{slots}
use Rattle.its_word.specs.Only.{Only, Same}
use Rattle.its_records.specs.declared.jobs.Job.{Job}
use Rattle.its_core.specs.Cores.{core_at, clear_at}
use Rattle.its_jobs.specs.Table.{job_at}
use Rattle.its_plain.specs.Machine.{Machine}
use Rattle.its_plain.specs.Operator.Clock.{clock_end}
use Rattle.its_shared.specs.Across.{Across}
use Rattle.its_shared.specs.Parts.{alarm_at, symbols_at, raw_machine}
use Rattle.its_direct.specs.Contents.{contents}
use Rattle.its_direct.specs.declared.plain.Plain.{Plain}

-- the machine of its parts
unfoldable pub machine_of : Plain → Machine
machine_of p = raw_machine p.files p.core p.jobs p.alarms.items p.consoles.items p.holders p.clock p.version p.symbols.items p.pipes

-- whether a slot is marked as touched
abbrev pub is_touched : Plain → ℕ → Bool
is_touched p k = slice_index_or p.touched k false

-- no slot is
unfoldable pub no_slots : List Bool
no_slots = replicate slots false

-- no call is in progress: no page is reserved and no close is half made; the channels fit the files
-- and drafts that exist; a slot without a job has no page, no alarm and no symbol; the PC of each
-- job is an address; and the clock is below its end
pub record Tidy (p : Plain) : Type 0 where
  pub unreserved : (k : ℕ) → clear_at p.core k ≡ None
  pub unmarked : p.files.mark ≡ None
  pub across : Across p.files p.jobs
  pub blank : (k : ℕ) → job_at p.jobs k ≡ None → core_at p.core k ≡ no_core
  pub quiet : (k : ℕ) → job_at p.jobs k ≡ None → alarm_at p.alarms.items k ≡ None
  pub nameless : (k : ℕ) → job_at p.jobs k ≡ None → symbols_at p.symbols.items k ≡ []
  pub addressed : (k : ℕ) → IfSome (job_at p.jobs k) (λ j. j.pc < 2 ^ 18)
  pub timed : p.clock < clock_end

-- all but cores and jobs is as it was
pub record Aside (old new : Plain) : Type 0 where
  pub is : contents new ≡ record (contents old) { core = new.core; jobs = new.jobs }

-- only the core and the registers of slot s are others
pub record SlotBecomes (old new : Plain) (s : ℕ) (c : Core) (j : Option Job) : Type 0 where
  pub core : Only (core_at old.core) (core_at new.core) s c
  pub job : Only (job_at old.jobs) (job_at new.jobs) s j
  pub superiors : new.jobs.superiors ≡ old.jobs.superiors
  pub reserved : Same (clear_at old.core) (clear_at new.core)
  pub aside : Aside old new

-- only its core is, and only its registers are
abbrev pub CoreBecomes : Plain → Plain → ℕ → Core → Type 0
CoreBecomes old new s c = SlotBecomes old new s c (job_at old.jobs s)

abbrev pub JobBecomes : Plain → Plain → ℕ → Job → Type 0
JobBecomes old new s j = SlotBecomes old new s (core_at old.core s) (Some j)
