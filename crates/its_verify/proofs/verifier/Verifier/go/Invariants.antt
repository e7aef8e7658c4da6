use Rattle.std.proofs.Common.{◌≡◌, ◌≤◌, ◌+◌, ◌-◌, Some}
use Rattle.its_session.specs.Events.{events_of, most_lines}
use Rattle.its_reader.specs.Bytes.{Onward}
use Rattle.its_reader.specs.Lines.{BetweenLines}
use Rattle.its_plain.specs.Operator.{no_block}
use Rattle.its_direct.specs.Events.{spot_place}
use Rattle.its_verify.specs.Going.{GoneSo, judge_from, machine_place}
use Rattle.its_verify.specs.Verifier.{AtItem}
use Rattle.its_verify.proofs.verifier.Verifier.go.Given as goal

abbrev pub invariant-loop-found : goal.invariant-loop-found
invariant-loop-found g l = record {
  at_item : AtItem l.self (g.S.Source.left l.src);
  onward : Onward l.self.reader.texts.ended (g.S.Source.readable l.src);
  ready : BetweenLines l.items.lines (Some l.session);
  few : l.items.lines.number ≤ most_lines;
  place : machine_place l.items.place ≡ spot_place l.self.judge.plain.place;
  unfailed : g.S.Source.faults l.src ≡ g.S.Source.faults l.fn.src;
  so_far : GoneSo l.fn.self l.self (judge_from l.fn.self no_block 1 (events_of l.fn.session)) l.items (Some l.session)
      (g.S.Source.left l.fn.src) (g.S.Source.left l.src);
}

abbrev pub decreases-loop-found : goal.decreases-loop-found
decreases-loop-found g l = most_lines + 2 - l.items.lines.number
