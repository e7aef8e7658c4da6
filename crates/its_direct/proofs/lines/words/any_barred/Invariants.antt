use Rattle.std.proofs.Common.{◌≡◌, ◌+◌, ◌-◌}
use Rattle.its_core.specs.Cores.{core_at}
use Rattle.its_plain.specs.Operator.Jobs.{any_barred}
use Rattle.its_direct.proofs.lines.words.any_barred.Given as goal

abbrev pub invariant-loop-k : goal.invariant-loop-k
invariant-loop-k l = any_barred (core_at l.core l.slot) (l.a + l.k) (l.n - l.k) ≡ any_barred (core_at l.core l.slot) l.a l.n
