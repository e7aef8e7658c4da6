use Rattle.std.proofs.Common.{◌≡◌, ◌-◌}
use Rattle.its_records.specs.Links.{most_links}
use Rattle.its_records.specs.Tree.{free_from, least_free}
use Rattle.its_pipes.specs.Pipes.{piped}
use Rattle.its_pipes.proofs.pipes.Pipes.free_link.Given as goal

abbrev pub invariant-loop-l : goal.invariant-loop-l
invariant-loop-l l = free_from (piped l.self) (most_links - l.l) l.l ≡ least_free most_links (piped l.self)
