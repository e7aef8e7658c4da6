use Rattle.std.proofs.Common.{◌≤◌, length}
use Rattle.its_plain.specs.Operator.Files.{files_in}
use Rattle.its_stepped.specs.Unwind.{help}
use Rattle.its_world.specs.World.{state_of}
use Rattle.its_monitor.specs.Kept.{Kept}
use Rattle.its_top.specs.Answer.{Looked}
use Rattle.its_top.proofs.sessions.filing.count_files.Given as goal

abbrev pub invariant-loop-k : goal.invariant-loop-k
invariant-loop-k l = record {
  sound : Kept l.m.world;
  looked : Looked l.fn.m.world l.m.world l.k;
  some : l.k ≤ length (files_in l.d (help (state_of l.fn.m.world)).raw.files);
}
