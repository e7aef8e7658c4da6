use Rattle.std.proofs.lemmas.List.{take_all}
use Rattle.its_saved.specs.Saving.{symbol_lines}
use Rattle.its_saving.proofs.RowLaws.{symbols_next, symbols_rest}
use Rattle.its_saving.proofs.WritingLaws.{next_cut, next_written, none_written, writes_at, writes_ok}
use Rattle.its_saving.proofs.jobs.write_each_symbol.Goals as goal

pub loop-symbol-init : goal.loop-symbol-init
loop-symbol-init g c = none_written _ _ _

pub loop-symbol-preserved : goal.loop-symbol-preserved
loop-symbol-preserved g c = next_written _ _ _ _ _ _ _ _ _ _
    (symbols_next c.args.s c.args.symbols.now c.loop-symbol.symbol-index _ c.loop-symbol-test.true c.symbol-item.is) c.loop-symbol.invariant
    c.in_ok-write_symbol.was c.write_symbol.ensures

pub returns : goal.returns
returns g c = writes_at _ _ (symbol_lines c.args.s) _ _ _ _ _ (take_all c.loop-symbol.symbol-index c.args.symbols.now c.loop-symbol-test.false)
    (writes_ok _ _ _ _ _ _ c.loop-symbol.invariant)

pub returns-in_err-write_symbol : goal.returns-in_err-write_symbol
returns-in_err-write_symbol g c = next_cut _ _ _ _ _ _ _ _ _ _ _ _
    (symbols_rest c.args.s c.args.symbols.now c.loop-symbol.symbol-index _ c.loop-symbol-test.true c.symbol-item.is) c.loop-symbol.invariant
    c.in_err-write_symbol.was c.write_symbol.ensures c.from_residual.ensures.0
