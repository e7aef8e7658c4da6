use Rattle.std.proofs.Common.{◌≡◌}
use Rattle.its_reader.specs.Bytes.{Onward}
use Rattle.its_verify.specs.Verifier.{AtItem, TurnsSo}
use Rattle.its_verify.proofs.verifier.Verifier.turns.Given as goal

abbrev pub invariant-loop-k : goal.invariant-loop-k
invariant-loop-k g l = record {
  at_item : AtItem l.self (g.S.Source.left l.src);
  onward : Onward l.self.reader.texts.ended (g.S.Source.readable l.src);
  place : l.self.judge.plain.place ≡ l.fn.self.judge.plain.place;
  unfailed : g.S.Source.faults l.src ≡ g.S.Source.faults l.fn.src;
  so_far : TurnsSo l.fn.self l.self l.n l._k l.q (g.S.Source.left l.fn.src) (g.S.Source.left l.src);
}
