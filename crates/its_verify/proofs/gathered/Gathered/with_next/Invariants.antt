use Rattle.std.proofs.Common.{◌≡◌, ◌≤◌, length}
use Rattle.its_verify.specs.Gathered.{gathered_by, only_run}
use Rattle.its_verify.proofs.gathered.Gathered.with_next.Given as goal

abbrev pub invariant-loop-run : goal.invariant-loop-run
invariant-loop-run l = record {
  most : gathered_by l.gathered l.rest ≡ gathered_by (only_run l.fn.first) l.fn.behind;
  fewer : length l.rest ≤ length l.fn.behind;
}

abbrev pub decreases-loop-run : goal.decreases-loop-run
decreases-loop-run l = length l.rest
