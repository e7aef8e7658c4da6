use Rattle.std.proofs.Common.{drop, length, take, ◌+◌, ◌≡◌, ◌≤◌}
use Rattle.its_files.specs.Files.{words_at}
use Rattle.its_saving.proofs.files.words_from.Given as goal

abbrev pub invariant-loop-k : goal.invariant-loop-k
invariant-loop-k l = record {
  front : l.words.items ≡ take l.k (drop l.from (words_at l.files l.id));
  long : length l.words.items ≡ l.k;
  within : l.from + l.k ≤ length (words_at l.files l.id);
}
