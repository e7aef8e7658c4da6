use Rattle.pdp_exec.proofs.MakingLaws.{two_stored}
use Rattle.pdp_exec.proofs.making.make_two.Goals as goal

-- each of the two was made
pub returns-clause-stored : goal.returns-clause-stored
returns-clause-stored c = two_stored _ _ _ _ _ _ c.put.ensures.stored c.put-2.ensures.stored
