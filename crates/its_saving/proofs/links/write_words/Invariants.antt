use Rattle.its_pipes.specs.Pipes.{piped}
use Rattle.its_plain.specs.Call.Link.{words_in}
use Rattle.its_saved.specs.Saving.{each}
use Rattle.its_saved.specs.StateLine as state
use Rattle.its_saving.specs.Written.{Written}
use Rattle.its_saving.proofs.RowLaws.{nth_row}
use Rattle.its_saving.proofs.links.write_words.Given as goal

abbrev pub invariant-loop-row : goal.invariant-loop-row
invariant-loop-row g l = Written g.K.Sink.written g.K.Sink.faults l.fn.out l.out (each (nth_row (state.Sent l.l) 16 (words_in (piped l.pipes l.l))) l.row)
