use Rattle.std.proofs.Common.{◌≡◌, ◌+◌, drop}
use Rattle.its_print.specs.Printing.{listed}
use Rattle.its_top.specs.Answer.{WritesSo}
use Rattle.its_top.proofs.sessions.listing.list_words.Given as goal

abbrev pub invariant-loop-w : goal.invariant-loop-w
invariant-loop-w g l = record {
  place : l.place ≡ l.a + l.w-index;
  so_far : WritesSo (listed l.s l.a l.words) (listed l.s l.place (drop l.w-index l.words)) (g.K.Sink.written l.fn.out) (g.K.Sink.written l.out);
  unfailed : g.K.Sink.faults l.out ≡ g.K.Sink.faults l.fn.out;
}
