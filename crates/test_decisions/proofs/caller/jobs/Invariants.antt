use Rattle.std.proofs.Common.{◌≡◌}
use Rattle.test_decisions.proofs.caller.jobs.Given as goal

abbrev pub invariant-loop-slot : goal.invariant-loop-slot
invariant-loop-slot g l = l.jobs.limit ≡ l.fn.jobs.limit
