use Rattle.its_word.specs.Core.{page_of}
use Rattle.its_core.specs.Cores.{core_at}
use Rattle.its_saved.specs.Saving.{each, read_only_line}
use Rattle.its_saving.specs.Written.{Written}
use Rattle.its_saving.proofs.cores.write_read_only.Given as goal

abbrev pub invariant-loop-page : goal.invariant-loop-page
invariant-loop-page g l = Written g.K.Sink.written g.K.Sink.faults l.fn.out l.out (each (λ k. read_only_line l.s k (page_of (core_at l.core l.s) k)) l.page)
