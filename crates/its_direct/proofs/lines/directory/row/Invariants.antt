use Rattle.std.proofs.Common.{◌*◌}
use Rattle.its_files.specs.Files.{words_at}
use Rattle.its_direct.proofs.DirectoryLaws.{Row}
use Rattle.its_direct.proofs.lines.directory.row.Given as goal

abbrev pub invariant-loop-i : goal.invariant-loop-i
invariant-loop-i l = record { row : Row (words_at l.files l.id) (8 * l.k) l.i l.words.items }
