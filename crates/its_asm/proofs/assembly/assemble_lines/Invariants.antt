use Rattle.std.proofs.Common.{◌≡◌, ◌≤◌, ◌+◌, ◌*◌, ◌^◌, length}
use Rattle.its_asm.specs.Assembly.{from_line, lines_of}
use Rattle.its_asm.specs.Making.{seen}
use Rattle.its_asm.proofs.assembly.assemble_lines.Given as goal

abbrev pub decreases-loop-rest : goal.decreases-loop-rest
decreases-loop-rest l = length l.rest

abbrev pub invariant-loop-rest : goal.invariant-loop-rest
invariant-loop-rest l = record {
  told : from_line l.whole l.n (seen l.a) (lines_of l.rest) ≡ from_line l.whole 1 (seen l.initial.a) (lines_of l.fn.text);
  low : l.a.layout.location + 2 ^ 32 * length l.rest ≤ 2 ^ 32 * length l.fn.text;
  count : l.n + length l.rest ≤ length l.fn.text + 1;
}
