use Rattle.its_direct.proofs.ConsoleLaws.{Typing}
use Rattle.its_direct.proofs.lines.consoles.type_all.Given as goal

abbrev pub invariant-loop-b : goal.invariant-loop-b
invariant-loop-b l = record { typing : Typing l.bytes l.b-index l.fn.console l.console l.dropped }
