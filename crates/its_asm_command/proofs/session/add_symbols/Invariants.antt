use Rattle.std.proofs.Common.{take}
use Rattle.its_asm_command.specs.Made.{Adds}
use Rattle.its_asm_command.specs.Written.{symbol_lines}
use Rattle.its_asm_command.proofs.session.add_symbols.Given as goal

abbrev pub invariant-loop-k : goal.invariant-loop-k
invariant-loop-k l = record {
  so_far : Adds (symbol_lines (take l.k l.symbols)) l.fn.text.items l.text.items;
}
