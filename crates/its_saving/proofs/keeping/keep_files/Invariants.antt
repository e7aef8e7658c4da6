use Rattle.its_saving.specs.Keeping.{FilesTo}
use Rattle.its_saving.proofs.keeping.keep_files.Given as goal

abbrev pub invariant-loop-id : goal.invariant-loop-id
invariant-loop-id l = FilesTo l.files l.id
