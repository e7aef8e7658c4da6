use Rattle.its_monitor.proofs.SymbolLaws.{symbol_done, symbol_keeps, symbol_full}
use Rattle.its_monitor.proofs.monitor.Monitor.symbol.Goals as goal

pub returns-then-has_room-clause-done : goal.returns-then-has_room-clause-done
returns-then-has_room-clause-done c = symbol_done _ _ _ _ _ _ c.in_ok-present.ensures.some c.has_room.ensures c.if-has_room.true c.keep_symbol.ensures

pub returns-then-has_room-clause-kept : goal.returns-then-has_room-clause-kept
returns-then-has_room-clause-kept c = symbol_keeps _ _ _ _ _ _ c.requires.kept c.in_ok-present.ensures.some c.has_room.ensures
    c.if-has_room.true c.keep_symbol.ensures

pub returns-else-has_room-clause-refused : goal.returns-else-has_room-clause-refused
returns-else-has_room-clause-refused c = symbol_full _ _ _ _ _ c.in_ok-present.ensures.some c.has_room.ensures c.if-has_room.false
