use Rattle.std.proofs.Common.{◌≡◌, ◌<◌, ◌+◌, ◌-◌, ◌*◌, ◌/◌, ◌%◌, ◌^◌, ℕ, get_or, length}
use Rattle.its_word.proofs.word.Word.octal12.Given as goal

abbrev pub invariant-loop-i : goal.invariant-loop-i
invariant-loop-i l = record {
  twelve : length l.digits ≡ 12;
  before : (k : ℕ) → k < l.i → get_or l.digits k 0 ≡ 48 + l.self / 2 ^ (33 - 3 * k) % 8;
}
