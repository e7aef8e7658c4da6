use Rattle.std.proofs.Common.{◌≡◌, ◌+◌, ◌*◌, ◌≤◌, drop, length}
use Rattle.arrayvec.specs.ArrayVec.{array_vec_len}
use Rattle.its_word.specs.Text.{spaced}
use Rattle.its_print.specs.Printing.{runs_from, runs_of}
use Rattle.its_print.specs.Runs.{paces_in}
use Rattle.its_print.proofs.put.put_runs.Given as goal

abbrev pub invariant-loop-run : goal.invariant-loop-run
invariant-loop-run l = record {
  text : spaced l.out.items (runs_from l.count l.last (paces_in (drop l.run-index l.rest))) ≡ spaced l.initial.out.items (runs_of (paces_in l.fn.runs));
  some : 1 ≤ l.count;
  few : l.count + length (paces_in (drop l.run-index l.rest)) ≤ 512;
  len : array_vec_len l.out + 3 * l.count + 3 * length (paces_in (drop l.run-index l.rest)) ≤ array_vec_len l.initial.out + 1536;
}
