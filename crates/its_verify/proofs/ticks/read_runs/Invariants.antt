use Rattle.std.proofs.Common.{◌≡◌, ◌≤◌, ◌++◌, drop, length}
use Rattle.arrayvec.specs.ArrayVec.{array_vec_len}
use Rattle.its_print.specs.Runs.{paces_in}
use Rattle.its_verify.specs.Letters.{paces_from}
use Rattle.its_verify.proofs.ticks.read_runs.Given as goal

abbrev pub invariant-loop-byte : goal.invariant-loop-byte
invariant-loop-byte l = record {
  told : paces_from l.count 0 l.line ≡ paces_in l.runs.items ++ paces_from l.count l.number (drop l.byte-index l.line);
  ticks : length (paces_in l.runs.items) ≡ l.ticks;
  few : l.number ≤ l.count;
  within : l.ticks ≤ l.count;
  len : array_vec_len l.runs ≤ l.ticks;
}
