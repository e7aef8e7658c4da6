use Rattle.its_saved.specs.Saving.{each}
use Rattle.its_saving.specs.Parts.{nth_lines}
use Rattle.its_saving.specs.Written.{Written}
use Rattle.its_saving.proofs.files.write_files.Given as goal

abbrev pub invariant-loop-k : goal.invariant-loop-k
invariant-loop-k g l = Written g.K.Sink.written g.K.Sink.faults l.fn.out l.out (each (nth_lines l.files) l.k)
