use Rattle.its_saved.specs.Saving.{each}
use Rattle.its_saved.specs.StateLine as state
use Rattle.its_saving.specs.Parts.{bytes_of}
use Rattle.its_saving.specs.Written.{Written}
use Rattle.its_saving.proofs.RowLaws.{nth_row}
use Rattle.its_saving.proofs.consoles.write_bytes.Given as goal

abbrev pub invariant-loop-row : goal.invariant-loop-row
invariant-loop-row g l = Written g.K.Sink.written g.K.Sink.faults l.fn.out l.out
    (each (nth_row (state.Bytes l.c l.output) 32 (bytes_of l.output l.console)) l.row)
