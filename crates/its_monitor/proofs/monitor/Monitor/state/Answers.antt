use Rattle.its_monitor.proofs.RegisterLaws.{state_found, state_plain}
use Rattle.its_monitor.proofs.monitor.Monitor.state.Goals as goal

pub returns-clause-shown : goal.returns-clause-shown
returns-clause-shown c = state_found _ _ _ _ _ _ _ c.in_ok-job.ensures.calm c.superior-superior.ensures.value c.near-symbol.ensures c.shown.ensures

pub returns-clause-plain : goal.returns-clause-plain
returns-clause-plain c = state_plain _ _ _ _ _ _ _ c.requires.kept c.in_ok-job.ensures.calm c.superior-superior.ensures.value
    c.near-symbol.ensures c.shown.ensures
