-- Slots, and the tree of jobs.
-- A promise rests on this.
use Rattle.std.specs.Prelude.{ℕ, zero, suc, ◌+◌, ◌==◌, Bool, true, false, not, ◌&&◌, ◌||◌, Option, Some, None, List, filter, replicate, is_some, cond}
use Rattle.std.specs.List.{range_with_len}
use Rattle.its_word.specs.Limits.{slots}
use Rattle.its_records.specs.declared.jobs.Job.{Job}
use Rattle.its_records.specs.declared.jobs.Channel.TheVariants.{Closed}

-- the first of n slots from k on that is empty
unfoldable pub free_from : {X : Type 0} → (ℕ → Option X) → ℕ → ℕ → Option ℕ
free_from jobs zero k = None
free_from jobs (suc n) k = cond (is_some (jobs k)) (free_from jobs n (k + 1)) (Some k)

-- the least empty slot below a limit, if there is one
unfoldable pub least_free : {X : Type 0} → ℕ → (ℕ → Option X) → Option ℕ
least_free limit jobs = free_from jobs limit 0

-- none of n slots from k on has a job
unfoldable pub none_from : {X : Type 0} → (ℕ → Option X) → ℕ → ℕ → Bool
none_from jobs zero k = true
none_from jobs (suc n) k = cond (is_some (jobs k)) false (none_from jobs n (k + 1))

-- no slot has a job
unfoldable pub no_job : {X : Type 0} → (ℕ → Option X) → Bool
no_job jobs = none_from jobs slots 0

-- a job as it is made: stopped, with closed channels; its names and console are given, all else is
-- 0
unfoldable pub fresh_job : ℕ → ℕ → Option ℕ → Job
fresh_job u j console = record {
  pc = 0;
  flags = 0;
  stopped = true;
  pend1 = 0;
  pend2 = 0;
  mask1 = 0;
  mask2 = 0;
  defer1 = 0;
  defer2 = 0;
  uname = u;
  jname = j;
  console = console;
  channels = replicate 16 Closed;
}

-- one of the jobs that are reached from a slot in n steps or fewer, each from a job to its
-- superior, is that of slot s
unfoldable pub climbs_to : (ℕ → Option ℕ) → ℕ → ℕ → Option ℕ → Bool
climbs_to superiors s zero o = false
climbs_to superiors s (suc n) (Some k) = (k == s) || climbs_to superiors s n (superiors k)
climbs_to superiors s (suc n) None = false

-- the job of slot k is below that of slot s: that one is reached from k through superiors. No job
-- is below itself
unfoldable pub is_below : (ℕ → Option ℕ) → ℕ → ℕ → Bool
is_below superiors s k = not (k == s) && climbs_to superiors s slots (superiors k)

-- the slots of the jobs below that of slot s, in their order
unfoldable pub slots_below : (ℕ → Option ℕ) → ℕ → List ℕ
slots_below superiors s = filter (is_below superiors s) (range_with_len 0 slots)
