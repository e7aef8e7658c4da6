use Rattle.std.proofs.Common.{arith}
use Rattle.its_asm.proofs.CellLaws.{cells_next}
use Rattle.its_asm.proofs.cells.cells_in.Goals as goal

pub loop-a-preserved : goal.loop-a-preserved
loop-a-preserved c = cells_next c.args.words.now c.loop-a.a _ c.index-words-a.result _ _ c.loop-a-test.true c.index-words-a.is
    c.loop-a.invariant c.in_ok-push_cell.ensures (omega arith)
