use Rattle.std.proofs.Common.{◌≡◌, ◌+◌, ◌/◌}
use Rattle.its_files.specs.Files.{words_at}
use Rattle.its_plain.specs.Operator.Files.{rows}
use Rattle.its_monitor.specs.Kept.{Kept}
use Rattle.its_top.specs.Answer.{Stood, WritesSo}
use Rattle.its_top.proofs.FilingLaws.{rows_from}
use Rattle.its_top.proofs.sessions.filing.print_rows.Given as goal

abbrev pub invariant-loop-row : goal.invariant-loop-row
invariant-loop-row g l = record {
  sound : Kept l.m.world;
  stood : Stood l.fn.m.world l.m.world;
  so_far : WritesSo (rows ((l.count + 7) / 8) (words_at l.fn.m.world.files l.id))
      (rows_from (words_at l.fn.m.world.files l.id) ((l.count + 7) / 8) l.row) (g.K.Sink.written l.fn.out) (g.K.Sink.written l.out);
  unfailed : g.K.Sink.faults l.out ≡ g.K.Sink.faults l.fn.out;
}
