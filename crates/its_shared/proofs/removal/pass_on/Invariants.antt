use Rattle.std.proofs.Common.{None}
use Rattle.its_jobs.specs.Table.{superior_at, in_tree}
use Rattle.its_plain.specs.Machine.Change.{holder_after_removal}
use Rattle.its_shared.proofs.TurningLaws.{Turning}
use Rattle.its_shared.proofs.removal.pass_on.Given as goal

abbrev pub invariant-loop-c : goal.invariant-loop-c
invariant-loop-c l = Turning (holder_after_removal (in_tree (superior_at l.jobs) l.root) (superior_at l.jobs l.root)) None l.fn.holders l.holders l.c
