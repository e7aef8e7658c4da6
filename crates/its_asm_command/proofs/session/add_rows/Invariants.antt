use Rattle.std.proofs.Common.{drop}
use Rattle.its_asm_command.specs.Made.{RowFits, RowsSo}
use Rattle.its_asm_command.proofs.session.add_rows.Given as goal

abbrev pub invariant-loop-a : goal.invariant-loop-a
invariant-loop-a l = record {
  so_far : RowsSo l.fn.first l.cells (drop l.a-index l.cells) l.row l.fn.text.items l.text.items;
  fits : RowFits l.row;
}
