use Rattle.std.proofs.Common.{◌≡◌, ◌+◌, length}
use Rattle.its_session.specs.Generated.{for_each, echoed}
use Rattle.its_session.proofs.generator.round.Given as goal

abbrev pub invariant-loop-c : goal.invariant-loop-c
invariant-loop-c l = record {
  passed : length (for_each l.c (echoed l.r)) + l.left ≡ l.k;
}
