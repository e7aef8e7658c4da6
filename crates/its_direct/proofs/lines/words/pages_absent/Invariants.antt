use Rattle.its_core.specs.Cores.{core_at}
use Rattle.its_direct.proofs.RoomLaws.{Counting}
use Rattle.its_direct.proofs.lines.words.pages_absent.Given as goal

abbrev pub invariant-loop-k : goal.invariant-loop-k
invariant-loop-k l = record { counting : Counting (core_at l.core l.slot) l.first l.n l.k l.absent }
