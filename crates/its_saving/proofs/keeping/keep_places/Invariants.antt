use Rattle.its_saving.specs.Keeping.{PlacesTo}
use Rattle.its_saving.proofs.keeping.keep_places.Given as goal

abbrev pub invariant-loop-n : goal.invariant-loop-n
invariant-loop-n l = PlacesTo l.job.channels l.n
