use Rattle.its_direct.proofs.ConsoleLaws.{Draining}
use Rattle.its_direct.proofs.lines.consoles.drain_all.Given as goal

abbrev pub invariant-loop-k : goal.invariant-loop-k
invariant-loop-k l = record { draining : Draining l._k l.fn.console l.console l.bytes.items }
