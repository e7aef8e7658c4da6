use Rattle.std.proofs.Common.{◌≡◌, drop}
use Rattle.its_files.specs.Files.{found_in as first_found}
use Rattle.its_files.proofs.directory.found_in.Given as goal

abbrev pub invariant-loop-id : goal.invariant-loop-id
invariant-loop-id l = first_found l.entries l.names (drop l.id-index l.order) ≡ first_found l.entries l.names l.order
