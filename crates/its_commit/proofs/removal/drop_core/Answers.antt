use Rattle.std.proofs.Common.{refl}
use Rattle.its_world.proofs.WorldLaws.{framed_becomes}
use Rattle.its_commit.proofs.removal.drop_core.Goals as goal

pub returns-clause-dropped : goal.returns-clause-dropped
returns-clause-dropped c = framed_becomes c.args.w.now _ _ _ c.drop_all.ensures.dropped c.drop_all.ensures.reserved refl
