use Rattle.its_jobs.specs.Table.{superior_at, in_tree}
use Rattle.its_records.specs.declared.jobs.Channel.TheVariants.{Closed}
use Rattle.its_shared.specs.Across.{channel_left}
use Rattle.its_shared.proofs.TurningLaws.{Turning}
use Rattle.its_shared.proofs.removal.leave_each.Given as goal

abbrev pub invariant-loop-n : goal.invariant-loop-n
invariant-loop-n l = Turning (channel_left (in_tree (superior_at l.jobs) l.root)) Closed l.fn.channels l.channels l.n
