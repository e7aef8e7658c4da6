use Rattle.its_jobs.specs.Table.{in_tree, superior_at}
use Rattle.its_pipes.specs.Pipes.{piped}
use Rattle.its_pipes.proofs.SweepLaws.{Swept}
use Rattle.its_pipes.proofs.pipes.Pipes.leave_links.Given as goal

abbrev pub invariant-loop-l : goal.invariant-loop-l
invariant-loop-l l = Swept (in_tree (superior_at l.jobs) l.root) (piped l.fn.self) (piped l.self) l.l
