use Rattle.its_monitor.proofs.StartLaws.{open_kept}
use Rattle.its_monitor.proofs.monitor.Monitor.open.Goals as goal

pub returns-clause-kept : goal.returns-clause-kept
returns-clause-kept c =
    let w = c.in_ok-world.ensures in
    open_kept c.in_ok-world.world w.cores w.jobs w.frames w.consoles w.holders w.files w.clock w.alarms w.version w.symbols w.links w.on_lists
