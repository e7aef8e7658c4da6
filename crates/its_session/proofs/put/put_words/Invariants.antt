use Rattle.std.proofs.Common.{◌≡◌, ◌<◌, ◌+◌, ◌*◌, ◌≤◌, ◌^◌, ℕ, get_or, map, take}
use Rattle.arrayvec.specs.ArrayVec.{array_vec_len}
use Rattle.its_word.specs.Text.{octal12_of, spaced}
use Rattle.its_session.proofs.put.put_words.Given as goal

abbrev pub invariant-loop-w : goal.invariant-loop-w
invariant-loop-w l = record {
  text : l.out.items ≡ spaced l.initial.out.items (map octal12_of (take l.w-index l.words));
  len : array_vec_len l.out ≤ array_vec_len l.initial.out + 13 * l.w-index;
  bound : (k : ℕ) → k < l.w-index → get_or l.words k 0 < 2 ^ 36;
}
