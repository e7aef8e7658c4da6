use Rattle.its_tick.proofs.WaitingLaws.{ticks_blocked}
use Rattle.its_monitor.proofs.monitor.Monitor.waits.Goals as goal

pub returns-clause-paces : goal.returns-clause-paces
returns-clause-paces c = λ h n. (ticks_blocked c.args.self.now.world c.args.slot n c.requires.kept (c.waits_on.ensures.yes h).stands).0

pub returns-clause-state : goal.returns-clause-state
returns-clause-state c = λ h n. (ticks_blocked c.args.self.now.world c.args.slot n c.requires.kept (c.waits_on.ensures.yes h).stands).1
