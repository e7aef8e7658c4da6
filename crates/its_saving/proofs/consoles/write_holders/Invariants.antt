use Rattle.its_shared.specs.Parts.{holder_at}
use Rattle.its_saved.specs.Saving.{each, holder_line}
use Rattle.its_saving.specs.Written.{Written}
use Rattle.its_saving.proofs.consoles.write_holders.Given as goal

abbrev pub invariant-loop-c : goal.invariant-loop-c
invariant-loop-c g l = Written g.K.Sink.written g.K.Sink.faults l.fn.out l.out (each (λ n. holder_line n (holder_at l.w.holders n)) l.c)
