use Rattle.its_core.proofs.ReadLaws.{listed_seen}
use Rattle.its_core.proofs.SlotLaws.{whole_core}
use Rattle.its_core.proofs.cores.Core.mapped.Goals as goal

pub returns-clause-listed : goal.returns-clause-listed
returns-clause-listed c = rw (← c.self.view_is) (listed_seen _ _ _ _ _ _ c.self.invariant.0)

pub returns-clause-whole : goal.returns-clause-whole
returns-clause-whole c s lt = rw (← c.self.view_is) (whole_core _ _ _ _ _ _ c.self.invariant.0 s lt)
