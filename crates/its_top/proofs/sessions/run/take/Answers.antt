use Rattle.its_top.proofs.ConclusionLaws.{takes_bad}
use Rattle.its_top.proofs.sessions.run.take.Goals as goal

pub returns-in-Bad-clause-takes : goal.returns-in-Bad-clause-takes
returns-in-Bad-clause-takes g c = takes_bad _ _ _ _ _ _ _ _ _ c.in-Bad.reason _ _ c.in-Bad.is c.refuse.ensures.told
