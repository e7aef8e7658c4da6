use Rattle.std.proofs.Common.{◌≡◌, ◌+◌, ◌-◌, ◌*◌}
use Rattle.its_core.specs.Cores.{core_at}
use Rattle.its_plain.specs.Unit.Interrupt.{first_entry}
use Rattle.its_ints.proofs.table.first_entry.Given as goal

abbrev pub invariant-loop-k : goal.invariant-loop-k
invariant-loop-k l = first_entry (core_at l.core l.slot) l.job (l.count - l.k) (l.a + 5 * l.k) ≡ first_entry (core_at l.core l.slot) l.job l.count l.a
