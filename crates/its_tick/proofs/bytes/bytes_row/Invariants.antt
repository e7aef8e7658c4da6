use Rattle.its_tick.specs.Bytes.{BytesMade}
use Rattle.its_tick.proofs.bytes.bytes_row.Given as goal

abbrev pub invariant-loop-k : goal.invariant-loop-k
invariant-loop-k l = BytesMade l.fn.w l.w l.slot l.k
