use Rattle.std.proofs.Common.{◌≡◌, length}
use Rattle.its_word.specs.Limits.{slots}
use Rattle.its_jobs.specs.Table.{superior_in, in_tree}
use Rattle.its_jobs.proofs.ClearLaws.{Cleared}
use Rattle.its_jobs.proofs.table.clear_tree.Given as goal

abbrev pub invariant-loop-job : goal.invariant-loop-job
invariant-loop-job l = record {
  cleared : Cleared (in_tree (superior_in l.superiors) l.slot) l.fn.jobs.items l.jobs.items l.job;
  long : length l.jobs.items ≡ slots;
}
