use Rattle.its_commit.proofs.IdleLaws.{elsewhere_made}
use Rattle.test_decisions.proofs.removals.add.Goals as goal

pub open_on-requires : goal.open_on-requires
open_on-requires g c = record { jobs = elsewhere_made _ _ _ _ _ _ c.in-Ok.ensures.job c.requires }
