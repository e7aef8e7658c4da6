-- A byte of at most 36 bits is a word.
use Rattle.std.proofs.Common.{◌≡◌, ◌<◌, ◌≤◌, ℕ, ◌/◌, ◌%◌, ◌^◌, arith}
use Rattle.std.proofs.Math.Nat.{mod-eq_of_lt, pow-le-pow_right}
use Rattle.std.proofs.lemmas.Nat.{mod_below, pow_pos}
use Rattle.its_word.specs.Byte.{load_of, position, size}

low_bits : (n k : ℕ) → k ≤ 36 → n % 2 ^ k < 2 ^ 36
low_bits n k h =
    let e : 2 ^ k ≤ 2 ^ 36 = pow-le-pow_right (omega arith) h in
    let b : n % 2 ^ k < 2 ^ k = mod_below n (2 ^ k) (pow_pos k) in
    omega arith

pub byte_is_word : (p w : ℕ) → size p ≤ 36 → load_of p w % 2 ^ 36 ≡ load_of p w
unfolding load_of
byte_is_word p w h = mod-eq_of_lt (low_bits (w / 2 ^ position p) (size p) h)
