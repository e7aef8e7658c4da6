use Rattle.std.proofs.Common.{◌≡◌}
use Rattle.its_commit.specs.Removal.{Elsewhere}
use Rattle.test_decisions.proofs.removals.jobs.Given as goal

abbrev pub invariant-loop-superior : goal.invariant-loop-superior
invariant-loop-superior g l = record {
  jobs : Elsewhere l.jobs;
  limit : l.jobs.limit ≡ 64;
}
