use Rattle.its_monitor.proofs.ProtectLaws.{read_only_done, read_only_kept, read_only_absent, page_there}
use Rattle.its_monitor.proofs.monitor.Monitor.read_only.Goals as goal

pub returns-then-not-has_page-clause-refused : goal.returns-then-not-has_page-clause-refused
returns-then-not-has_page-clause-refused c = read_only_absent _ _ _ _ c.in_ok-present.ensures.some c.has_page.ensures c.if-not-has_page.true c.requires.kept

pub returns-clause-done : goal.returns-clause-done
returns-clause-done c = read_only_done _ c.calm.new.w _ _ _ c.requires.kept c.calm.ensures
    (page_there _ _ _ _ _ c.requires.kept c.in_ok-present.ensures.some c.calm.ensures c.has_page.ensures c.if-not-has_page.false) c.protect.ensures

pub returns-clause-kept : goal.returns-clause-kept
returns-clause-kept c = read_only_kept _ c.calm.new.w _ _ _ c.requires.kept c.calm.ensures
    (page_there _ _ _ _ _ c.requires.kept c.in_ok-present.ensures.some c.calm.ensures c.has_page.ensures c.if-not-has_page.false) c.protect.ensures
