use Rattle.its_monitor.proofs.DirLaws.{IsLeft}
use Rattle.its_monitor.proofs.filing.file_in.Given as goal

abbrev pub invariant-loop-i : goal.invariant-loop-i
invariant-loop-i l = IsLeft l.w.files l.d l.k l.i l.left
