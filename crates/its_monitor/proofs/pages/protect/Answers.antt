use Rattle.std.proofs.Common.{refl}
use Rattle.its_world.proofs.WorldLaws.{core_becomes}
use Rattle.its_monitor.proofs.pages.protect.Goals as goal

pub returns : goal.returns
returns c = core_becomes _ _ _ _ c.protect.ensures.marked c.protect.ensures.reserved c.protect.ensures.frames refl
