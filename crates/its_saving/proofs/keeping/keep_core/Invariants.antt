use Rattle.std.proofs.Common.{◌*◌, ◌≤◌}
use Rattle.its_saving.specs.Keeping.{CoreTo}
use Rattle.its_saving.proofs.keeping.keep_core.Given as goal

abbrev pub invariant-loop-page : goal.invariant-loop-page
invariant-loop-page l = record {
  core : CoreTo l.core l.s (l.page * 1024);
  later : 1 ≤ l.page;
}
