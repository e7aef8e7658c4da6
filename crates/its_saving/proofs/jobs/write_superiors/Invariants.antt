use Rattle.its_jobs.specs.Table.{superior_at}
use Rattle.its_saved.specs.Saving.{each, under_by}
use Rattle.its_saving.specs.Written.{Written}
use Rattle.its_saving.proofs.jobs.write_superiors.Given as goal

abbrev pub invariant-loop-s : goal.invariant-loop-s
invariant-loop-s g l = Written g.K.Sink.written g.K.Sink.faults l.fn.out l.out (each (λ k. under_by k (superior_at l.w.jobs k)) l.s)
