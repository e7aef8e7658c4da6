use Rattle.its_direct.proofs.SettingLaws.{peek_stands}
use Rattle.its_direct.proofs.plain.Plain.peek.Goals as goal

pub returns-clause-done : goal.returns-clause-done
returns-clause-done c = peek_stands _ _ c.touch_none.ensures
