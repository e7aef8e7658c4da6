use Rattle.std.proofs.Common.{length, ◌+◌, ◌-◌, ◌^◌, ◌≤◌}
use Rattle.its_core.specs.Cores.{core_at}
use Rattle.its_saving.specs.Rows.{Taken, cells_from, first_of}
use Rattle.its_saving.proofs.cores.write_pages.Given as goal

abbrev pub invariant-loop-page : goal.invariant-loop-page
invariant-loop-page g l = record {
  end : l.row.a + length l.row.words.items ≤ 2 ^ 18;
  taken : Taken g.K.Sink.written g.K.Sink.faults l.fn.out l.out l.fn.row.a l.fn.row.words.items
      (cells_from (core_at l.core l.s) 16 (first_of l.page - 16)) l.row.a l.row.words.items;
}
