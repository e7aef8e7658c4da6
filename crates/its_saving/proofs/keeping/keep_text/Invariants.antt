use Rattle.its_files.specs.Files.{words_at}
use Rattle.its_saving.specs.Keeping.{TextTo}
use Rattle.its_saving.proofs.keeping.keep_text.Given as goal

abbrev pub invariant-loop-k : goal.invariant-loop-k
invariant-loop-k l = TextTo (words_at l.files l.id) l.k
