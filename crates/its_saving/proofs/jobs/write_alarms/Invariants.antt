use Rattle.its_shared.specs.Parts.{alarm_at}
use Rattle.its_saved.specs.Saving.{alarm_by, each}
use Rattle.its_saving.specs.Written.{Written}
use Rattle.its_saving.proofs.jobs.write_alarms.Given as goal

abbrev pub invariant-loop-s : goal.invariant-loop-s
invariant-loop-s g l = Written g.K.Sink.written g.K.Sink.faults l.fn.out l.out (each (λ k. alarm_by k (alarm_at l.w.alarms.items k)) l.s)
