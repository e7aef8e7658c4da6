use Rattle.its_direct.proofs.DirectoryLaws.{Listing}
use Rattle.its_direct.proofs.lines.directory.listed.Given as goal

abbrev pub invariant-loop-k : goal.invariant-loop-k
invariant-loop-k l = record { listing : Listing l.files l.d l.k l.ids.items }
