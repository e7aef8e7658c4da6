use Rattle.std.proofs.Common.{◌≡◌, take}
use Rattle.its_session.proofs.generator.placed.Given as goal

abbrev pub invariant-loop-value : goal.invariant-loop-value
invariant-loop-value l = record {
  words : l.words.items ≡ take l.value-index l.values;
}
