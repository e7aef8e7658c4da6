use Rattle.std.proofs.Common.{◌≡◌, ◌≤◌, ◌+◌, ◌-◌}
use Rattle.its_session.specs.Events.{most_lines}
use Rattle.its_reader.specs.Bytes.{Onward}
use Rattle.its_reader.specs.Lines.{BetweenLines}
use Rattle.its_asm_command.specs.Text.{LinesSo}
use Rattle.its_asm_command.proofs.text.read_text.Given as goal

abbrev pub invariant-loop-text : goal.invariant-loop-text
invariant-loop-text g l = record {
  few : l.lines.number ≤ most_lines;
  ready : BetweenLines l.lines (g.S.Source.left l.src);
  onward : Onward l.lines.ended (g.S.Source.readable l.src);
  so_far : LinesSo l.kept l.text.items l.lines (g.S.Source.left l.fn.src) (g.S.Source.left l.src);
  unfailed : g.S.Source.faults l.src ≡ g.S.Source.faults l.fn.src;
}

abbrev pub decreases-loop-text : goal.decreases-loop-text
decreases-loop-text g l = most_lines + 2 - l.lines.number
