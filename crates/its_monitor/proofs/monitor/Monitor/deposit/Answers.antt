use Rattle.its_monitor.proofs.WordLaws.{deposit_refused, deposit_can, deposit_done, deposit_kept}
use Rattle.its_monitor.proofs.monitor.Monitor.deposit.Goals as goal

pub returns-in-Some-clause-refused : goal.returns-in-Some-clause-refused
returns-in-Some-clause-refused c = deposit_refused _ _ _ _ _ _ c.in_ok-present.ensures.some c.undepositable.ensures c.in-Some.is c.requires.kept

pub returns-clause-done : goal.returns-clause-done
returns-clause-done c =
    deposit_done _ _ _ _ _ _ c.requires.kept c.calm.ensures (deposit_can _ _ _ _ _ c.requires.kept c.in_ok-present.ensures.some
    c.calm.ensures c.undepositable.ensures c.in-None.is) c.store.ensures

pub returns-clause-kept : goal.returns-clause-kept
returns-clause-kept c =
    deposit_kept _ _ _ _ _ _ c.requires.kept c.calm.ensures (deposit_can _ _ _ _ _ c.requires.kept c.in_ok-present.ensures.some
    c.calm.ensures c.undepositable.ensures c.in-None.is) c.store.ensures
