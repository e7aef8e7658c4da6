use Rattle.std.proofs.Common.{◌≡◌, take}
use Rattle.its_asm.specs.Cells.{cells_from}
use Rattle.its_asm.proofs.cells.cells_in.Given as goal

abbrev pub invariant-loop-a : goal.invariant-loop-a
invariant-loop-a l = l.cells.items ≡ cells_from 0 (take l.a l.words)
