use Rattle.std.proofs.Common.{◌≡◌}
use Rattle.its_links.specs.Rings.{alone}
use Rattle.its_links.proofs.rings.each_alone.Given as goal

abbrev pub invariant-loop-k : goal.invariant-loop-k
invariant-loop-k l = l.v.items ≡ alone l.k
