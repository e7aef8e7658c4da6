use Rattle.std.proofs.Common.{subst, arith}
use Rattle.its_shared.specs.Parts.{symbols_at}
use Rattle.its_saving.specs.Keeping.{NamesTo}
use Rattle.its_saving.proofs.keeping.keep_symbols.Goals as goal

pub returns : goal.returns
returns c = record {
  names = subst (λ n. NamesTo (symbols_at c.args.w.now.symbols.items c.args.s) n) c.symbol_count.ensures.count c.keep_names.ensures;
  few = let l = c.symbol_count.ensures.count in let m = c.symbol_count.ensures.most in omega arith;
}
