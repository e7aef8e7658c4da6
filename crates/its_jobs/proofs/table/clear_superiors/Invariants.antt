use Rattle.std.proofs.Common.{◌≡◌, length, is_none, None, slice_index_or}
use Rattle.its_word.specs.Limits.{slots}
use Rattle.its_jobs.proofs.ClearLaws.{Cleared}
use Rattle.its_jobs.proofs.table.clear_superiors.Given as goal

abbrev pub invariant-loop-job : goal.invariant-loop-job
invariant-loop-job l = record {
  cleared : Cleared (λ k. is_none (slice_index_or l.jobs k None)) l.fn.superiors.items l.superiors.items l.job;
  long : length l.superiors.items ≡ slots;
}
