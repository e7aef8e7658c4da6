use Rattle.std.proofs.Common.{◌≡◌, ◌≤◌, ◌+◌, ◌++◌, length, map}
use Rattle.its_asm.specs.Statement.{labels_of}
use Rattle.its_asm.proofs.layout.labels.Given as goal

abbrev pub decreases-loop-rest : goal.decreases-loop-rest
decreases-loop-rest l = length l.rest

abbrev pub invariant-loop-rest : goal.invariant-loop-rest
invariant-loop-rest l = record {
  told : l.labels.items ++ labels_of (map (λ w. w.now) l.rest) ≡ labels_of (map (λ w. w.now) l.words);
  few : length l.labels.items + length l.rest ≤ length l.words;
}
