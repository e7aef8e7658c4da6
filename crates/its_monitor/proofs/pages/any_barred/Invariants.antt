use Rattle.std.proofs.Common.{◌≡◌, ◌+◌, ◌-◌}
use Rattle.its_core.specs.Cores.{core_at}
use Rattle.its_plain.specs.Operator.Jobs.{any_barred}
use Rattle.its_monitor.proofs.pages.any_barred.Given as goal

abbrev pub invariant-loop-k : goal.invariant-loop-k
invariant-loop-k l = any_barred (core_at l.w.core l.slot) (l.a + l.k) (l.n - l.k) ≡ any_barred (core_at l.w.core l.slot) l.a l.n
