use Rattle.std.proofs.Common.{sym}
use Rattle.its_asm_command.proofs.RowLaws.{symbol_fits, symbols_next}
use Rattle.its_asm_command.proofs.session.add_symbols.Goals as goal

pub add_symbol-requires : goal.add_symbol-requires
add_symbol-requires c = record { fits = symbol_fits c.args.symbols.now c.loop-k.k c.in-Some.symbol c.requires.fits (sym c.in-Some.ensures) }

pub loop-k-preserved : goal.loop-k-preserved
loop-k-preserved c = record {
  so_far = symbols_next c.args.symbols.now c.loop-k.k c.in-Some.symbol _ _ _ (sym c.in-Some.ensures)
      c.loop-k.invariant.so_far c.in_ok-add_symbol.ensures.adds;
}
