use Rattle.std.proofs.Common.{◌≡◌, ◌≤◌, ◌+◌, ◌-◌, length}
use Rattle.its_core.specs.Cores.{core_at}
use Rattle.its_plain.specs.Call.Decode.{argument_words}
use Rattle.its_decode.proofs.block.read_words.Given as goal

-- what is read from here on is what is read in all
abbrev pub invariant-loop-k : goal.invariant-loop-k
invariant-loop-k l = record {
  more : length l.fn.block.items ≤ length l.block.items;
  room : length l.block.items ≤ 2 + l.k;
  same : (argument_words (8 - l.k) (core_at l.core l.slot) (l.a + l.k) l.block.items).answer ≡
      (argument_words 8 (core_at l.core l.slot) l.a l.fn.block.items).answer;
}
