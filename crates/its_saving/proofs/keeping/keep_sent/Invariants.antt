use Rattle.its_pipes.specs.Pipes.{piped}
use Rattle.its_plain.specs.Call.Link.{words_in}
use Rattle.its_saving.specs.Keeping.{TextTo}
use Rattle.its_saving.proofs.keeping.keep_sent.Given as goal

abbrev pub invariant-loop-k : goal.invariant-loop-k
invariant-loop-k l = TextTo (words_in (piped l.pipes l.l)) l.k
