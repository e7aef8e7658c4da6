-- A job that is made.
-- No promise rests on this.
use Rattle.std.specs.Prelude.{◌≡◌, ℕ, Option, Some}
use Rattle.its_word.specs.Only.{Only}
use Rattle.its_records.specs.Tree.{fresh_job}
use Rattle.its_jobs.specs.Table.{job_at, superior_at}
use Rattle.its_world.specs.Contents.{contents}
use Rattle.its_world.specs.declared.world.World.{World}

-- of the world only slot s changes: a job was made there, with these names, this superior and this
-- console
pub record JobMade (old new : World) (s u n : ℕ) (above console : Option ℕ) : Type 0 where
  pub job : Only (job_at old.jobs) (job_at new.jobs) s (Some (fresh_job u n console))
  pub superior : Only (superior_at old.jobs) (superior_at new.jobs) s above
  pub rest : contents new ≡ record (contents old) { jobs = new.jobs }
