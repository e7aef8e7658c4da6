use Rattle.its_direct.proofs.MovedLaws.{Valuing}
use Rattle.its_direct.proofs.step.steps.new_values.Given as goal

abbrev pub invariant-loop-k : goal.invariant-loop-k
invariant-loop-k l = record { valuing : Valuing l.ask l.values l.kept l.k l.stores.items }
