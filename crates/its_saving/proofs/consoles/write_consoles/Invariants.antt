use Rattle.its_shared.specs.Parts.{console_at}
use Rattle.its_saved.specs.Saving.{console_lines, each}
use Rattle.its_saving.specs.Written.{Written}
use Rattle.its_saving.proofs.consoles.write_consoles.Given as goal

abbrev pub invariant-loop-c : goal.invariant-loop-c
invariant-loop-c g l = Written g.K.Sink.written g.K.Sink.faults l.fn.out l.out (each (console_lines (console_at l.w.consoles.items)) l.c)
