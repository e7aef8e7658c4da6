use Rattle.its_monitor.proofs.GivenLaws.{alone_read, apart_read}
use Rattle.its_monitor.proofs.restoring.give_superior.Goals as goal

pub set_superior-requires-clause-none : goal.set_superior-requires-clause-none
set_superior-requires-clause-none c = alone_read c.args.w.now c.args.s c.args.t c.tree.ensures c.requires.none

pub set_superior-requires-clause-apart : goal.set_superior-requires-clause-apart
set_superior-requires-clause-apart c = apart_read c.args.w.now c.args.s c.args.t c.tree.ensures c.requires.apart
