use Rattle.std.proofs.Common.{length, ◌+◌, ◌-◌, ◌^◌, ◌≤◌}
use Rattle.its_core.specs.Cores.{core_at}
use Rattle.its_saving.specs.Rows.{Taken, cells_from}
use Rattle.its_saving.proofs.cores.write_span.Given as goal

abbrev pub invariant-loop-a : goal.invariant-loop-a
invariant-loop-a g l = record {
  end : l.row.a + length l.row.words.items ≤ 2 ^ 18;
  taken : Taken g.K.Sink.written g.K.Sink.faults l.fn.out l.out l.fn.row.a l.fn.row.words.items (cells_from (core_at l.core l.s) l.from (l.a - l.from))
      l.row.a l.row.words.items;
}
