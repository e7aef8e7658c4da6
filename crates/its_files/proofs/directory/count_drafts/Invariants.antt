use Rattle.std.proofs.Common.{◌≡◌, ◌≤◌, take, count_by}
use Rattle.its_files.specs.Files.{is_draft}
use Rattle.its_files.proofs.directory.count_drafts.Given as goal

abbrev pub invariant-loop-entry : goal.invariant-loop-entry
invariant-loop-entry l = (l.count ≡ count_by is_draft (take l.entry-index l.entries)) × (l.count ≤ l.entry-index)
