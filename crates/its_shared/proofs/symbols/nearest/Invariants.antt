use Rattle.its_shared.proofs.SymbolLaws.{Looking}
use Rattle.its_shared.proofs.symbols.nearest.Given as goal

abbrev pub invariant-loop-symbol : goal.invariant-loop-symbol
invariant-loop-symbol l = Looking l.pc l.symbols l.symbol-index l.best
