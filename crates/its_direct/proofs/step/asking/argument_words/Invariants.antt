use Rattle.std.proofs.Common.{◌≡◌, ◌≤◌, ◌+◌, ◌-◌, length}
use Rattle.its_core.specs.Cores.{core_at}
use Rattle.its_plain.specs.Call.Decode.{argument_words}
use Rattle.its_direct.proofs.AskLaws.{Left}
use Rattle.its_direct.proofs.step.asking.argument_words.Given as goal

-- what is left to read is what is left of the whole
abbrev pub invariant-loop-k : goal.invariant-loop-k
invariant-loop-k l = record {
  words : length l.block.items ≡ 2 + l.k;
  room : length l.decode.items ≤ length l.fn.decode.items + l.k;
  left : Left (argument_words (8 - l.k) (core_at l.core l.slot) (l.a + l.k) l.block.items)
      (argument_words 8 (core_at l.core l.slot) l.a l.fn.block.items) l.decode.items l.fn.decode.items;
}
