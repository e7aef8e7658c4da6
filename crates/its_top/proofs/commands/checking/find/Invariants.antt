use Rattle.std.proofs.Common.{◌≡◌, ◌≤◌, ◌+◌, ◌-◌}
use Rattle.its_session.specs.Events.{most_lines}
use Rattle.its_reader.specs.Bytes.{Onward}
use Rattle.its_reader.specs.Lines.{BetweenLines}
use Rattle.its_top.specs.Checking.{CheckSoFar}
use Rattle.its_top.proofs.commands.checking.find.Given as goal

abbrev pub invariant-loop-found : goal.invariant-loop-found
invariant-loop-found g l = record {
  few : l.items.lines.number ≤ most_lines;
  ready : BetweenLines l.items.lines (g.S.Source.left l.src);
  onward : Onward l.items.lines.ended (g.S.Source.readable l.src);
  so_far : CheckSoFar l.items (l.items.lines.number + 1) (g.S.Source.left l.fn.src) (g.S.Source.left l.src);
  unfailed : g.S.Source.faults l.src ≡ g.S.Source.faults l.fn.src;
}

abbrev pub decreases-loop-found : goal.decreases-loop-found
decreases-loop-found g l = most_lines + 2 - l.items.lines.number
