use Rattle.std.proofs.Common.{◌≡◌, ◌+◌, ◌*◌}
use Rattle.its_core.specs.Cores.{zeroed}
use Rattle.its_core.proofs.cores.clear_frame_quarter.Given as goal

abbrev pub invariant-loop-k : goal.invariant-loop-k
invariant-loop-k l = record {
  words : l.words.words ≡ zeroed (1024 * l.frame + 256 * l.q) l.k l.fn.words.words;
  most : l.words.most ≡ l.fn.words.most;
}
