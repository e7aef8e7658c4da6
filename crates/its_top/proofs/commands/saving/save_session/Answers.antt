use Rattle.its_top.proofs.SavingLaws.{saves_refused}
use Rattle.its_top.proofs.commands.saving.save_session.Goals as goal

pub returns-in-Refused-clause-saves : goal.returns-in-Refused-clause-saves
returns-in-Refused-clause-saves g c = saves_refused _ _ _ _ _ _ _ _ _ _ _ c.in-Refused.is c.status.ensures c.in-Ok.ensures.led c.refuse.ensures.told
