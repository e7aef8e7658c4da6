-- What a removal does to each part of the second machine.
-- No promise rests on this.
use Rattle.std.specs.Prelude.{if◌then◌else◌, ◌≡◌, ◌≢◌, ◌≤◌, ◌<◌, ℕ, Bool, true, false, Option, None, [], option_map}
use Rattle.its_word.specs.Core.{no_core}
use Rattle.its_word.specs.Only.{Only}
use Rattle.its_records.specs.declared.jobs.Job.{Job}
use Rattle.its_core.specs.Cores.{core_at, clear_at}
use Rattle.its_jobs.specs.Table.{job_at}
use Rattle.its_plain.specs.Machine.{Shut}
use Rattle.its_shared.specs.Across.{channel_by, channel_left}
use Rattle.its_shared.specs.Can.{chan_in}
use Rattle.its_shared.specs.Parts.{alarm_at, bare, symbols_at}
use Rattle.its_direct.specs.Contents.{contents}
use Rattle.its_direct.specs.Plain.{machine_of}
use Rattle.its_direct.specs.declared.plain.Plain.{Plain}

-- the channels of slot s below m are closed: of the machine all jobs but its job, and all but jobs,
-- is as it was
pub record Closes (old new : Plain) (s m : ℕ) : Type 0 where
  pub jobs : (k : ℕ) → k ≢ s → (machine_of new).jobs k ≡ (machine_of old).jobs k
  pub rest : machine_of new ≡ record (machine_of old) { jobs = (machine_of new).jobs }
  pub superiors : new.jobs.superiors ≡ old.jobs.superiors
  pub place : new.place ≡ old.place
  pub touched : new.touched ≡ old.touched
  pub closed : (i : ℕ) → i < m → chan_in (machine_of new) s i ≡ Shut

-- the channels of all jobs that are to go, of the slots below n, are closed
pub record ClosesTree (gone : ℕ → Bool) (old new : Plain) (n : ℕ) : Type 0 where
  pub jobs : (k : ℕ) → gone k ≡ false → (machine_of new).jobs k ≡ (machine_of old).jobs k
  pub rest : machine_of new ≡ record (machine_of old) { jobs = (machine_of new).jobs }
  pub superiors : new.jobs.superiors ≡ old.jobs.superiors
  pub place : new.place ≡ old.place
  pub touched : new.touched ≡ old.touched
  pub closed : (k i : ℕ) → k < n → gone k ≡ true → i < 16 → chan_in (machine_of new) k i ≡ Shut

-- what slots share is as it was, and so are the superiors of jobs
pub record Shares (old new : Plain) : Type 0 where
  pub superiors : new.jobs.superiors ≡ old.jobs.superiors
  pub reserved : (k : ℕ) → clear_at new.core k ≡ clear_at old.core k
  pub rest : contents new ≡ record (contents old) { core = new.core; jobs = new.jobs; alarms = new.alarms; symbols = new.symbols }

-- slot s has no page, no alarm and no symbols any more
pub record Bares (old new : Plain) (s : ℕ) : Type 0 where
  pub core : Only (core_at old.core) (core_at new.core) s no_core
  pub alarm : Only (alarm_at old.alarms.items) (alarm_at new.alarms.items) s None
  pub symbols : Only (symbols_at old.symbols.items) (symbols_at new.symbols.items) s []
  pub jobs : new.jobs ≡ old.jobs
  pub shares : Shares old new

-- a job whose channels on jobs that are gone are closed
pub record Leaves (gone : ℕ → Bool) (old new : Option Job) : Type 0 where
  pub bare : option_map bare new ≡ option_map bare old
  pub chans : (n : ℕ) → channel_by new n ≡ channel_left gone (channel_by old n)

-- slot k, if this is done; and slot k, if nothing is
pub record SlotSwept (gone : ℕ → Bool) (old new : Plain) (k : ℕ) : Type 0 where
  pub core : core_at new.core k ≡ (if gone k then no_core else core_at old.core k)
  pub alarm : alarm_at new.alarms.items k ≡ (if gone k then None else alarm_at old.alarms.items k)
  pub symbols : symbols_at new.symbols.items k ≡ (if gone k then [] else symbols_at old.symbols.items k)
  pub job : gone k ≡ false → Leaves gone (job_at old.jobs k) (job_at new.jobs k)

pub record SlotKept (old new : Plain) (k : ℕ) : Type 0 where
  pub core : core_at new.core k ≡ core_at old.core k
  pub alarm : alarm_at new.alarms.items k ≡ alarm_at old.alarms.items k
  pub symbols : symbols_at new.symbols.items k ≡ symbols_at old.symbols.items k
  pub job : job_at new.jobs k ≡ job_at old.jobs k

-- it is done in slot s alone, and in the slots below n
pub record Sweeps (gone : ℕ → Bool) (old new : Plain) (s : ℕ) : Type 0 where
  pub here : SlotSwept gone old new s
  pub others : (k : ℕ) → k ≢ s → SlotKept old new k
  pub shares : Shares old new

pub record Swept (gone : ℕ → Bool) (old new : Plain) (n : ℕ) : Type 0 where
  pub done : (k : ℕ) → k < n → SlotSwept gone old new k
  pub rest : (k : ℕ) → n ≤ k → SlotKept old new k
  pub shares : Shares old new
