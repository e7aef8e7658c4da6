use Rattle.its_saved.specs.Saving.{each}
use Rattle.its_saving.specs.Parts.{channel_part}
use Rattle.its_saving.specs.Written.{Written}
use Rattle.its_saving.proofs.channels.write_channels_of.Given as goal

abbrev pub invariant-loop-n : goal.invariant-loop-n
invariant-loop-n g l = Written g.K.Sink.written g.K.Sink.faults l.fn.out l.out (each (channel_part l.w l.s) l.n)
