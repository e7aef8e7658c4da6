use Rattle.its_files.specs.Files.{words_at}
use Rattle.its_saved.specs.Saving.{each}
use Rattle.its_saved.specs.StateLine as state
use Rattle.its_saving.specs.Written.{Written}
use Rattle.its_saving.proofs.RowLaws.{nth_row}
use Rattle.its_saving.proofs.channels.write_words.Given as goal

abbrev pub invariant-loop-row : goal.invariant-loop-row
invariant-loop-row g l = Written g.K.Sink.written g.K.Sink.faults l.fn.out l.out (each (nth_row (state.Wrote l.s l.n) 16 (words_at l.files l.draft)) l.row)
