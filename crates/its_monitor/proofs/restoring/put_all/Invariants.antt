use Rattle.std.proofs.Common.{drop}
use Rattle.std.specs.Prelude.{true}
use Rattle.its_monitor.specs.Restoring.{BytesLeft}
use Rattle.its_monitor.proofs.restoring.put_all.Given as goal

abbrev pub invariant-loop-b : goal.invariant-loop-b
invariant-loop-b l = record { left : BytesLeft l.c true l.bytes (drop l.b-index l.bytes) l.fn.w l.w }
