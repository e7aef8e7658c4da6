use Rattle.std.proofs.Common.{◌≡◌, ◌≤◌, ◌+◌, ◌*◌, ◌^◌, length}
use Rattle.its_asm.specs.Layout.{before_all, laid_out}
use Rattle.its_asm.specs.Assembly.{lines_of}
use Rattle.its_asm.proofs.assembly.lay_out.Given as goal

abbrev pub decreases-loop-rest : goal.decreases-loop-rest
decreases-loop-rest l = length l.rest

abbrev pub invariant-loop-rest : goal.invariant-loop-rest
invariant-loop-rest l = record {
  told : laid_out l.layout (lines_of l.rest) ≡ laid_out before_all (lines_of l.fn.text);
  low : l.layout.location + 2 ^ 32 * length l.rest ≤ 2 ^ 32 * length l.fn.text;
}
