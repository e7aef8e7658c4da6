use Rattle.its_saved.specs.Saving.{each}
use Rattle.its_saving.specs.Parts.{channel_part}
use Rattle.its_saving.specs.Written.{Written}
use Rattle.its_saving.proofs.channels.write_channels.Given as goal

abbrev pub invariant-loop-s : goal.invariant-loop-s
invariant-loop-s g l = Written g.K.Sink.written g.K.Sink.faults l.fn.out l.out (each (λ k. each (channel_part l.w k) 16) l.s)
