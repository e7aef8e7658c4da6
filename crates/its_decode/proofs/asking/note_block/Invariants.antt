use Rattle.std.proofs.Common.{◌≡◌, ◌++◌, ◌+◌, ◌%◌, ◌^◌, map, length}
use Rattle.std.specs.List.{range_with_len}
use Rattle.its_decode.proofs.asking.note_block.Given as goal

abbrev pub invariant-loop-k : goal.invariant-loop-k
invariant-loop-k l = record {
  more : length l.decode.items ≡ length l.fn.decode.items + l.k;
  noted : l.decode.items ≡ l.fn.decode.items ++ map (λ k. k % 2 ^ 18) (range_with_len l.e l.k);
}
