use Rattle.its_pipes.specs.Pipes.{piped}
use Rattle.its_saved.specs.Saving.{each, link_lines}
use Rattle.its_saving.specs.Written.{Written}
use Rattle.its_saving.proofs.links.write_links.Given as goal

abbrev pub invariant-loop-l : goal.invariant-loop-l
invariant-loop-l g l = Written g.K.Sink.written g.K.Sink.faults l.fn.out l.out (each (λ n. link_lines n (piped l.pipes n)) l.l)
