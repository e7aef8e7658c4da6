-- the bytes written so far and those that are left are the bytes, and no write failed
use Rattle.std.proofs.Common.{◌≡◌, length}
use Rattle.its_io.proofs.stream.write_all.Given as goal
use Rattle.its_io.proofs.ByteLaws.{Writing}

abbrev pub invariant-loop-rest : goal.invariant-loop-rest
invariant-loop-rest g l = record {
  so_far : Writing (g.K.Sink.written l.fn.out) (g.K.Sink.written l.out) l.bytes l.rest;
  unfailed : g.K.Sink.faults l.out ≡ g.K.Sink.faults l.fn.out;
}

abbrev pub decreases-loop-rest : goal.decreases-loop-rest
decreases-loop-rest g l = length l.rest
