-- Units of one job that are executed in place.
-- No promise rests on this.
use Rattle.std.specs.Prelude.{◌≡◌, ◌<◌, ◌^◌, ℕ, Some, None}
use Rattle.its_records.specs.declared.jobs.Job.{Job}
use Rattle.its_core.specs.Cores.{core_at}
use Rattle.its_jobs.specs.Table.{job_at}
use Rattle.pdp_exec.specs.Units.{Left, after_unit, after_units}
use Rattle.its_direct.specs.Plain.{SlotBecomes}
use Rattle.its_direct.specs.declared.plain.Plain.{Plain}

-- n units of the job of slot s are executed, of k at most; if they are fewer, no other is possible
pub record UnitsIn (old new : Plain) (s n k : ℕ) : Type 0 where
  pub job : Job
  pub left : Left
  pub had : job_at old.jobs s ≡ Some job
  pub is : after_units n (Some (record { core = core_at old.core s; job = job })) ≡ Some left
  pub becomes : SlotBecomes old new s left.core (Some left.job)
  pub placed : left.job.pc < 2 ^ 18
  pub most : n < k → after_unit (Some left) ≡ None
