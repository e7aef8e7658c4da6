-- VERSION: if no slot has a job it sets the version, and else it changes nothing.
use Rattle.std.specs.Prelude.{if◌then◌else◌, ◌≡◌, ℕ, true, false}
use Rattle.std.proofs.Common.{ap}
use Rattle.its_records.specs.Tree.{no_job}
use Rattle.its_plain.specs.Machine.{Machine}
use Rattle.its_plain.specs.Operator.Version.{with_version}

pub version_set : (m : Machine) (v : ℕ) → no_job m.jobs ≡ true → with_version m v ≡ record m { version = v }
unfolding with_version
version_set m v e = ap (λ b. if b then record m { version = v } else m) e

pub same_version : (m : Machine) (v : ℕ) → no_job m.jobs ≡ false → with_version m v ≡ m
unfolding with_version
same_version m v e = ap (λ b. if b then record m { version = v } else m) e
