use Rattle.std.proofs.Common.{drop, length, take, ◌*◌, ◌+◌, ◌≡◌, ◌≤◌}
use Rattle.its_pipes.specs.Pipes.{piped}
use Rattle.its_plain.specs.Call.Link.{words_in}
use Rattle.its_saving.proofs.links.words_from.Given as goal

abbrev pub invariant-loop-k : goal.invariant-loop-k
invariant-loop-k l = record {
  front : l.words.items ≡ take l.k (drop (l.row * 16) (words_in (piped l.pipes l.l)));
  long : length l.words.items ≡ l.k;
  within : (l.row * 16) + l.k ≤ length (words_in (piped l.pipes l.l));
}
