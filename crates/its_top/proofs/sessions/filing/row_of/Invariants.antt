use Rattle.std.proofs.Common.{◌≡◌, length, take, drop}
use Rattle.its_files.specs.Files.{words_at}
use Rattle.its_monitor.specs.Kept.{Kept}
use Rattle.its_top.specs.Answer.{Stood}
use Rattle.its_top.proofs.sessions.filing.row_of.Given as goal

abbrev pub invariant-loop-k : goal.invariant-loop-k
invariant-loop-k l = record {
  sound : Kept l.m.world;
  stood : Stood l.fn.m.world l.m.world;
  count : length l.words.items ≡ l.k;
  so_far : l.words.items ≡ take l.k (drop l.from (words_at l.fn.m.world.files l.id));
}
