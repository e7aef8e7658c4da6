use Rattle.std.proofs.Common.{◌≡◌, ◌+◌, drop}
use Rattle.its_print.specs.Printing.{listed}
use Rattle.its_reader.specs.Bytes.{Onward}
use Rattle.its_verify.specs.TranscriptReader.{AtLine}
use Rattle.its_verify.specs.Showing.{LinesSo}
use Rattle.its_verify.proofs.showing.list_each.Given as goal

abbrev pub invariant-loop-w : goal.invariant-loop-w
invariant-loop-w g l = record {
  at_line : AtLine l.reader (g.S.Source.left l.src);
  onward : Onward l.reader.texts.ended (g.S.Source.readable l.src);
  at : l.place ≡ l.a + l.w-index;
  unfailed : g.S.Source.faults l.src ≡ g.S.Source.faults l.fn.src;
  so_far : LinesSo l.fn.reader l.reader (g.S.Source.left l.fn.src) (g.S.Source.left l.src) (listed l.s l.a l.words)
      (listed l.s l.place (drop l.w-index l.words));
}
