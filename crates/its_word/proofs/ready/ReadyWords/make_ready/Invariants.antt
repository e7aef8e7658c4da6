use Rattle.std.proofs.Common.{◌≡◌, ◌++◌, replicate}
use Rattle.its_word.proofs.ready.ReadyWords.make_ready.Given as goal

abbrev pub invariant-loop-k : goal.invariant-loop-k
invariant-loop-k l = record {
  words : l.self-inside.ready.items ≡ l.initial.self-inside.ready.items ++ replicate l._k 0;
  most : l.self-inside.ready.cap ≡ l.initial.self-inside.ready.cap;
}
