use Rattle.its_direct.proofs.SettingLaws.{symbol_done}
use Rattle.its_direct.proofs.plain.Plain.symbol.Goals as goal

pub returns-then-has_room-clause-done : goal.returns-then-has_room-clause-done
returns-then-has_room-clause-done c = symbol_done _ _ _ _ _ _ _ _ _ c.job.ensures c.in-Some.is c.has_room.ensures c.if-has_room.true
    c.keep_symbol.ensures c.touch_none.ensures
