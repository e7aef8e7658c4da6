use Rattle.its_saving.specs.Keeping.{LinksTo}
use Rattle.its_saving.proofs.keeping.keep_links.Given as goal

abbrev pub invariant-loop-l : goal.invariant-loop-l
invariant-loop-l l = LinksTo l.pipes l.l
