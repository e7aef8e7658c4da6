use Rattle.its_core.specs.Cores.{core_at}
use Rattle.its_direct.proofs.ShownLaws.{Gathering}
use Rattle.its_direct.proofs.lines.shown.words_from.Given as goal

abbrev pub invariant-loop-k : goal.invariant-loop-k
invariant-loop-k l = record { gathering : Gathering (core_at l.core l.slot) l.a l.n l.k l.words.items }
