use Rattle.std.proofs.Common.{take}
use Rattle.its_saved.specs.Saving.{symbol_lines}
use Rattle.its_saving.specs.Written.{Written}
use Rattle.its_saving.proofs.jobs.write_each_symbol.Given as goal

abbrev pub invariant-loop-symbol : goal.invariant-loop-symbol
invariant-loop-symbol g l = Written g.K.Sink.written g.K.Sink.faults l.fn.out l.out (symbol_lines l.s (take l.symbol-index l.symbols))
