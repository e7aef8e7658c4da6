use Rattle.std.proofs.Common.{}
use Rattle.its_saved.specs.Saving.{symbol_lines}
use Rattle.its_saving.proofs.WritingLaws.{writes_at}
use Rattle.its_saving.proofs.jobs.write_symbols.Goals as goal

pub returns : goal.returns
returns g c = writes_at _ _ (symbol_lines c.args.s) _ _ _ _ _ c.symbols_of.ensures c.write_each_symbol.ensures
