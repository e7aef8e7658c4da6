use Rattle.std.proofs.Common.{sym, ap}
use Rattle.its_plain.specs.Operator.State.{on_tty}
use Rattle.its_monitor.proofs.restoring.tty.Goals as goal

pub returns-then-write-clause-on : goal.returns-then-write-clause-on
returns-then-write-clause-on c = λ files. ap on_tty (sym c.if-write.true)

pub returns-else-write-clause-on : goal.returns-else-write-clause-on
returns-else-write-clause-on c = λ files. ap on_tty (sym c.if-write.false)
