use Rattle.its_saving.specs.Keeping.{ConsolesTo}
use Rattle.its_saving.proofs.keeping.keep_consoles.Given as goal

abbrev pub invariant-loop-c : goal.invariant-loop-c
invariant-loop-c l = ConsolesTo l.w.consoles.items l.c
