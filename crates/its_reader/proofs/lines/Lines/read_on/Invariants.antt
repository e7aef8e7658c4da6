use Rattle.std.proofs.Common.{◌≡◌, ◌≤◌, ◌<◌, ◌-◌, true, false, length}
use Rattle.its_session.specs.Events.{most_lines}
use Rattle.its_reader.specs.Bytes.{BufferFits}
use Rattle.its_reader.specs.Lines.{LineSo}
use Rattle.its_reader.proofs.lines.Lines.read_on.Given as goal

abbrev pub invariant-loop-e : goal.invariant-loop-e
invariant-loop-e g l = record {
  fits : BufferFits l.self.buffer;
  short : length l.self.line.items ≤ 255;
  number : l.self.number ≡ l.fn.self.number;
  running : l.self.ended ≡ false;
  readable : g.S.Source.readable l.src ≡ true;
  begun : 0 < length l.self.line.items → l.self.number ≤ most_lines;
  so_far : LineSo l.fn.self l.self (g.S.Source.left l.fn.src) (g.S.Source.left l.src);
  unfailed : g.S.Source.faults l.src ≡ g.S.Source.faults l.fn.src;
}

abbrev pub decreases-loop-e : goal.decreases-loop-e
decreases-loop-e g l = 256 - length l.self.line.items
