use Rattle.std.proofs.Common.{◌≡◌}
use Rattle.its_core.specs.Cores.{zeroed}
use Rattle.its_core.proofs.cores.clear.Given as goal

abbrev pub invariant-loop-k : goal.invariant-loop-k
invariant-loop-k l = l.words.items ≡ zeroed l.first l.k l.fn.words.items
