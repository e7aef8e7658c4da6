-- Bits that move, and those that leave at an end.
use Rattle.std.proofs.Common.{◌≡◌, ◌<◌, ◌≤◌, ◌+◌, ◌-◌, ◌*◌, ◌/◌, ◌%◌, ◌^◌, ◌∙◌, ℕ, ap, bit_or, subst, sym, arith}
use Rattle.std.proofs.Math.Nat.{div-eq_of_lt, mul-mod_right, pow-le-pow_right}
use Rattle.std.proofs.Math.Pow.{mod-mod-pow}
use Rattle.std.proofs.lemmas.Nat.{mod-mul-add, mod_below, mul-add-lt, one_shl, or_shifted, pow-add, pow_pos, shl_below, shr_below, shr_split}

-- what a mask of n ones leaves of a shift in 128 bits
pub left_in : (n w k : ℕ) → n ≤ 72 → ((w * 2 ^ k % 2 ^ 128) % (1 * 2 ^ n % 2 ^ 128) ≡ w * 2 ^ k % 2 ^ n) × (w * 2 ^ k % 2 ^ n < 2 ^ n)
left_in n w k few =
    let mask : 1 * 2 ^ n % 2 ^ 128 ≡ 2 ^ n = one_shl n 128 (omega arith) in
    let wide : 128 - n + n ≡ 128 = omega arith in
    let inner : (w * 2 ^ k) % 2 ^ (128 - n + n) % 2 ^ n ≡ w * 2 ^ k % 2 ^ n = mod-mod-pow (w * 2 ^ k) (128 - n) n in
    (rw mask (rw wide at inner), mod_below (w * 2 ^ k) (2 ^ n) (pow_pos n))

turn : (w a b : ℕ) → w * (a * b) ≡ a * (w * b)
turn w a b = omega arith

-- nothing is left past the width
pub left_out : (n w k : ℕ) → n ≤ k → w * 2 ^ k % 2 ^ n ≡ 0
left_out n w k past =
    let e : k ≡ n + (k - n) = omega arith in
    let power : 2 ^ k ≡ 2 ^ n * 2 ^ (k - n) = ap (λ x. 2 ^ x) e ∙ pow-add 2 n (k - n) in
    rw (power, turn) (mul-mod_right (2 ^ n) (w * 2 ^ (k - n)))

pub right_out : (w k : ℕ) → w < 2 ^ 128 → 128 ≤ k → w / 2 ^ k ≡ 0
right_out w k below past =
    let power : 2 ^ 128 ≤ 2 ^ k = pow-le-pow_right (omega arith) past in
    div-eq_of_lt (omega arith)

-- the bits that stay within d + k, as those below d
left_keeps : (d w k : ℕ) → w * 2 ^ k % 2 ^ (d + k) ≡ w % 2 ^ d * 2 ^ k
left_keeps d w k =
    let low : w % 2 ^ d * 2 ^ k < 2 ^ (d + k) = shl_below (w % 2 ^ d) d k (mod_below w (2 ^ d) (pow_pos d)) in
    let split = shr_split w d in
    let whole : w * 2 ^ k ≡ w / 2 ^ d * 2 ^ (d + k) + w % 2 ^ d * 2 ^ k = rw pow-add (ap (λ x. x * 2 ^ k) (sym split) ∙ omega arith) in
    rw whole (mod-mul-add (w / 2 ^ d) (2 ^ (d + k)) (w % 2 ^ d * 2 ^ k) low)

-- the two parts of a rotation share no bit, and fill the width
rotated_parts : (d w k : ℕ) → w < 2 ^ (d + k) → (bit_or (w * 2 ^ k % 2 ^ (d + k)) (w / 2 ^ d) ≡ w * 2 ^ k % 2 ^ (d + k) + w / 2 ^ d)
    × (w * 2 ^ k % 2 ^ (d + k) + w / 2 ^ d < 2 ^ (d + k))
rotated_parts d w k below =
    let turned : d + k ≡ k + d = omega arith in
    let high : w / 2 ^ d < 2 ^ k = shr_below w k d (rw turned at below) in
    let mask : w % 2 ^ d < 2 ^ d = mod_below w (2 ^ d) (pow_pos d) in
    let sum : w % 2 ^ d * 2 ^ k + w / 2 ^ d < 2 ^ k * 2 ^ d = mul-add-lt (w % 2 ^ d) (2 ^ k) (w / 2 ^ d) (2 ^ d) mask high in
    rw left_keeps (or_shifted (w % 2 ^ d) k (w / 2 ^ d) high, rw (turned, pow-add) sum)

pub rotated_whole : (n w k : ℕ) → k ≤ n → w < 2 ^ n → (bit_or (w * 2 ^ k % 2 ^ n) (w / 2 ^ (n - k)) ≡ w * 2 ^ k % 2 ^ n + w / 2 ^ (n - k))
    × (w * 2 ^ k % 2 ^ n + w / 2 ^ (n - k) < 2 ^ n)
rotated_whole n w k within below =
    let e : n - k + k ≡ n = omega arith in
    subst (λ m. (bit_or (w * 2 ^ k % 2 ^ m) (w / 2 ^ (n - k)) ≡ w * 2 ^ k % 2 ^ m + w / 2 ^ (n - k)) × (w * 2 ^ k % 2 ^ m + w / 2 ^ (n - k) < 2 ^ m)) e
    (rotated_parts (n - k) w k (rw (← e) at below))
