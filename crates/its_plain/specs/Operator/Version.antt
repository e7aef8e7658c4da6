-- The line VERSION (docs/SESSION.md, "The lines").
-- A promise rests on this.
use Rattle.std.specs.Prelude.{if◌then◌else◌, ℕ}
use Rattle.its_records.specs.Tree.{no_job}
use Rattle.its_plain.specs.Machine.{Machine}

-- if no slot has a job, the machine becomes one of this version, 1 or 2; else it is unchanged. (In
-- a session VERSION is allowed on line 1 alone; then there is no job, and the version is 1)
unfoldable pub with_version : Machine → ℕ → Machine
with_version m v = if no_job m.jobs then record m { version = v } else m
