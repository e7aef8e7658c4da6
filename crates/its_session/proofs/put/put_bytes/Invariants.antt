use Rattle.std.proofs.Common.{◌≡◌, ◌+◌, ◌*◌, ◌≤◌, map, take}
use Rattle.arrayvec.specs.ArrayVec.{array_vec_len}
use Rattle.its_word.specs.Text.{digits_of, spaced}
use Rattle.its_session.proofs.put.put_bytes.Given as goal

abbrev pub invariant-loop-b : goal.invariant-loop-b
invariant-loop-b l = record {
  text : l.out.items ≡ spaced l.initial.out.items (map digits_of (take l.b-index l.bytes));
  len : array_vec_len l.out ≤ array_vec_len l.initial.out + 4 * l.b-index;
}
