use Rattle.its_shared.specs.Parts.{symbols_at}
use Rattle.its_saving.specs.Keeping.{NamesTo}
use Rattle.its_saving.proofs.keeping.keep_names.Given as goal

abbrev pub invariant-loop-k : goal.invariant-loop-k
invariant-loop-k l = NamesTo (symbols_at l.w.symbols.items l.s) l.k
