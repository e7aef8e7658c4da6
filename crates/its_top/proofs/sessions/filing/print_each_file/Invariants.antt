use Rattle.std.proofs.Common.{◌≡◌, map}
use Rattle.its_plain.specs.Operator.Files.{files_in, filed_line}
use Rattle.its_world.specs.World.{state_of}
use Rattle.its_monitor.specs.Kept.{Kept}
use Rattle.its_top.specs.Answer.{Stood, WritesSo}
use Rattle.its_top.proofs.FilingLaws.{listed_from}
use Rattle.its_top.proofs.sessions.filing.print_each_file.Given as goal

abbrev pub invariant-loop-k : goal.invariant-loop-k
invariant-loop-k g l = record {
  sound : Kept l.m.world;
  stood : Stood l.fn.m.world l.m.world;
  so_far : WritesSo (map filed_line (files_in l.d (state_of l.fn.m.world).raw.files))
      (listed_from l.d (state_of l.fn.m.world).raw.files l.k) (g.K.Sink.written l.fn.out) (g.K.Sink.written l.out);
  unfailed : g.K.Sink.faults l.out ≡ g.K.Sink.faults l.fn.out;
}
