use Rattle.std.proofs.Common.{refl}
use Rattle.its_world.proofs.WorldLaws.{core_becomes}
use Rattle.its_world.proofs.world.World.put_word.Goals as goal

pub returns-in-Ok-clause-stored : goal.returns-in-Ok-clause-stored
returns-in-Ok-clause-stored c = core_becomes _ _ _ _ c.in-Ok.ensures.stored c.in-Ok.ensures.reserved c.in-Ok.ensures.frames refl
