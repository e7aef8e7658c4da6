use Rattle.std.proofs.Common.{arith}
use Rattle.its_asm_command.proofs.RowLaws.{rows_ended}
use Rattle.its_asm_command.proofs.session.add_rows.Goals as goal

pub returns : goal.returns
returns c = record {
  adds = rows_ended c.add_row.result c.args.first c.args.cells.now c.loop-a.a-index c.loop-a.row _ _ _ (omega arith)
      c.loop-a.invariant.so_far c.add_row.ensures.adds;
}
