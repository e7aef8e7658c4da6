use Rattle.its_jobs.specs.Table.{superior_at, in_tree}
use Rattle.its_direct.specs.Plain.{Tidy}
use Rattle.its_direct.specs.Removal.{ClosesTree}
use Rattle.its_direct.proofs.plain.Plain.close_tree.Given as goal

abbrev pub invariant-loop-slot : goal.invariant-loop-slot
invariant-loop-slot l = record { closed : ClosesTree (in_tree (superior_at l.fn.self.jobs) l.root) l.fn.self l.self l.slot; tidy : Tidy l.self }
