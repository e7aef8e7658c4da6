use Rattle.its_monitor.proofs.SymbolLaws.{version_done, version_kept}
use Rattle.its_monitor.proofs.monitor.Monitor.version.Goals as goal

pub returns-then-is_empty-clause-done : goal.returns-then-is_empty-clause-done
returns-then-is_empty-clause-done c = version_done _ _ _ _ c.is_empty.ensures.empty c.if-is_empty.true c.set_version.ensures

pub returns-then-is_empty-clause-kept : goal.returns-then-is_empty-clause-kept
returns-then-is_empty-clause-kept c = version_kept _ _ _ _ c.is_empty.ensures.empty c.if-is_empty.true c.requires.kept c.set_version.ensures
