use Rattle.std.proofs.Common.{◌≡◌, ◌+◌}
use Rattle.its_asm.proofs.LineLaws.{NoneOf}
use Rattle.its_asm.proofs.assembly.any_given.Given as goal

abbrev pub invariant-loop-w : goal.invariant-loop-w
invariant-loop-w l = record {
  place : l.at ≡ l.base + l._w-index;
  none : NoneOf l.base l.literals l.cells l._w-index;
}
