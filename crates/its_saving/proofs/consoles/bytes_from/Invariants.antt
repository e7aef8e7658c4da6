use Rattle.std.proofs.Common.{drop, length, take, ◌*◌, ◌+◌, ◌≡◌, ◌≤◌}
use Rattle.its_saving.specs.Parts.{bytes_of}
use Rattle.its_saving.proofs.consoles.bytes_from.Given as goal

abbrev pub invariant-loop-k : goal.invariant-loop-k
invariant-loop-k l = record {
  front : l.bytes.items ≡ take l.k (drop (l.row * 32) (bytes_of l.output l.console));
  long : length l.bytes.items ≡ l.k;
  within : (l.row * 32) + l.k ≤ length (bytes_of l.output l.console);
}
