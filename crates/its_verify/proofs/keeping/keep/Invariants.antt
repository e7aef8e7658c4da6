use Rattle.std.proofs.Common.{◌≡◌, ◌≤◌, ◌+◌, ◌-◌}
use Rattle.its_session.specs.Events.{most_lines}
use Rattle.its_reader.specs.Bytes.{Onward}
use Rattle.its_reader.specs.Texts.{ReadyTexts}
use Rattle.its_verify.specs.Keeping.{KeptSo}
use Rattle.its_verify.proofs.keeping.keep.Given as goal

abbrev pub invariant-loop-session : goal.invariant-loop-session
invariant-loop-session g l = record {
  ready : ReadyTexts l.texts (g.S.Source.left l.src);
  onward : Onward l.texts.ended (g.S.Source.readable l.src);
  few : l.texts.number ≤ most_lines;
  most : l.texts.most ≡ 255;
  so_far : KeptSo l.fn.texts l.texts l.session.items (g.S.Source.left l.fn.src) (g.S.Source.left l.src);
  unfailed : g.S.Source.faults l.src ≡ g.S.Source.faults l.fn.src;
}

abbrev pub decreases-loop-session : goal.decreases-loop-session
decreases-loop-session g l = (most_lines + 1) - l.texts.number
