use Rattle.std.proofs.Common.{◌≡◌}
use Rattle.its_word.proofs.filling.filled.Given as goal
use Rattle.its_word.specs.Table.{filled}

abbrev pub invariant-loop-k : goal.invariant-loop-k
invariant-loop-k g l = l.v.items ≡ filled l._k l.x
