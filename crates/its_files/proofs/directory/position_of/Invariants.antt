use Rattle.std.proofs.Common.{◌≡◌, take}
use Rattle.its_links.specs.Lists.{count}
use Rattle.its_files.proofs.directory.position_of.Given as goal

abbrev pub invariant-loop-k : goal.invariant-loop-k
invariant-loop-k l = count l.id (take l.k l.order) ≡ 0
