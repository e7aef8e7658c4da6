use Rattle.std.proofs.Common.{◌≡◌, ◌+◌, take}
use Rattle.its_asm.specs.Assembly.{placed}
use Rattle.its_asm.proofs.assembly.place.Given as goal

abbrev pub invariant-loop-w : goal.invariant-loop-w
invariant-loop-w l = record {
  place : l.at ≡ l.base + l.w-index;
  made : l.cells ≡ placed l.base (take l.w-index l.literals) l.initial.cells;
}
