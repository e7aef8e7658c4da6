-- Bits that move below a sign bit.
use Rattle.std.proofs.Common.{◌≡◌, ◌<◌, ◌≤◌, ◌+◌, ◌-◌, ◌*◌, ◌/◌, ◌%◌, ◌^◌, ◌∙◌, ◌==◌, ◌&&◌, ℕ, zero, suc, ap, bit_or, arith}
use Rattle.std.proofs.Math.Nat.{mul-add-div_right, mul-div-mul_right, div-eq_of_lt, div-eq_of_lt-le, pow-le-pow_right}
use Rattle.std.proofs.lemmas.Bool.Decides.{nat_tests}
use Rattle.std.proofs.lemmas.Nat.{div_below, mul-le, mul-lt, mul-add-lt, one_shl, or_shifted, pow-add, pow_pos, shl-shr, shl_whole}

-- a number of a and b places, as two factors
powers : (n k : ℕ) → k ≤ n → 2 ^ n ≡ 2 ^ (n - k) * 2 ^ k
powers n k within =
    let e : n ≡ n - k + k = omega arith in
    ap (λ x. 2 ^ x) e ∙ pow-add 2 (n - k) k

-- the k copies of a sign bit, as 128 bits compute them
pub copies_in : (s k : ℕ) → s ≤ 1 → k ≤ 72 → (1 * 2 ^ k % 2 ^ 128 ≡ 2 ^ k) × (s * (2 ^ k - 1) < 2 ^ k)
copies_in s k bit few =
    let some = pow_pos k in
    let most : s * (2 ^ k - 1) ≤ 1 * (2 ^ k - 1) = mul-le s (2 ^ k - 1) 1 (2 ^ k - 1) bit (omega arith) in
    (one_shl k 128 (omega arith), omega arith)

-- the bits that leave at the left, seen from the right
pub lost : (n m k : ℕ) → k ≤ n → m * 2 ^ k / 2 ^ n ≡ m / 2 ^ (n - k)
lost n m k within = (let power : 2 ^ n ≡ 2 ^ (n - k) * 2 ^ k = powers n k within in rw power (mul-div-mul_right m (2 ^ (n - k)) (pow_pos k)))

-- an even number is so many copies of a sign only if both are 0
even_copies : (s m h p : ℕ) → s ≤ 1 → 0 < h → 0 < p → (m * h * 2 == s * (p * 2 - 1)) ≡ ((s == 0) && (m == 0))
even_copies zero zero h p bit some more = grind (arith, nat_tests)
even_copies zero (suc m) h p bit some more = (let positive : 0 < suc m * h = mul-lt 0 0 (suc m) h (omega arith) some in grind (arith, nat_tests))
even_copies (suc zero) m h p bit some more = grind (arith, nat_tests)
even_copies (suc (suc s)) m h p bit some more = absurd (omega arith)

regrouped : (m h n : ℕ) → m * (h * 2 * n) ≡ m * h * 2 * n
regrouped m h n = omega arith

-- if more places go than there are, all bits leave and zeros after them
pub lost_past : (n s m k : ℕ) → s ≤ 1 → m < 2 ^ n → n < k → (m * 2 ^ k / 2 ^ n == s * (2 ^ k - 1)) ≡ ((s == 0) && (m == 0))
lost_past n s m k bit below past =
    let whole : 2 ^ k ≡ 2 ^ (k - n) * 2 ^ n = powers k n (omega arith) in
    let half : 2 ^ (k - n) ≡ 2 ^ (k - n - 1) * 2 = powers (k - n) 1 (omega arith) in
    let twice : 2 ^ k ≡ 2 ^ (k - 1) * 2 = powers k 1 (omega arith) in
    let all : m * 2 ^ k / 2 ^ n ≡ m * 2 ^ (k - n - 1) * 2 = rw (whole, half, regrouped) (shl-shr (m * 2 ^ (k - n - 1) * 2) n) in
    rw (all, twice) (even_copies s m (2 ^ (k - n - 1)) (2 ^ (k - 1)) bit (pow_pos (k - n - 1)) (pow_pos (k - 1)))

factored : (c a k m : ℕ) → c * (a * k) + m ≡ c * a * k + m
factored c a k m = omega arith

-- bits that move to the right below a sign, and the copies of the sign that come in
pub right_in : (n s m k : ℕ) → s ≤ 1 → m < 2 ^ n → k ≤ n → n ≤ 72
    → (bit_or (s * (2 ^ k - 1) * 2 ^ (n - k) % 2 ^ 128) (m / 2 ^ k) ≡ (s * (2 ^ k - 1) * 2 ^ n + m) / 2 ^ k) × ((s * (2 ^ k - 1) * 2 ^ n + m) / 2 ^ k < 2 ^ n)
right_in n s m k bit below within few =
    let power : 2 ^ n ≡ 2 ^ (n - k) * 2 ^ k = powers n k within in
    let low : m / 2 ^ k < 2 ^ (n - k) = div_below m (2 ^ k) (2 ^ (n - k)) (pow_pos k) (rw power at below) in
    let high : s * (2 ^ k - 1) < 2 ^ k = (copies_in s k bit (omega arith)).1 in
    let shift : s * (2 ^ k - 1) * 2 ^ (n - k) % 2 ^ 128 ≡ s * (2 ^ k - 1) * 2 ^ (n - k) = shl_whole (s * (2 ^ k - 1)) k (n - k) 128 high (omega arith) in
    let joined = or_shifted (s * (2 ^ k - 1)) (n - k) (m / 2 ^ k) low in
    let quotient : (s * (2 ^ k - 1) * (2 ^ (n - k) * 2 ^ k) + m) / 2 ^ k ≡ s * (2 ^ k - 1) * 2 ^ (n - k) + m / 2 ^ k =
    rw factored (mul-add-div_right (pow_pos k) (s * (2 ^ k - 1) * 2 ^ (n - k)) m) in
    let sum = mul-add-lt (s * (2 ^ k - 1)) (2 ^ (n - k)) (m / 2 ^ k) (2 ^ k) high low in
    rw (power, quotient, shift) (joined, sum)

between : (a b m : ℕ) → a ≤ b → m < a + 1 → (1 * b * (a + 1) + m) / (b + 1) ≡ 1 * a
between a b m less below = div-eq_of_lt-le (b + 1) (omega arith) (omega arith)

-- past the width all are copies of the sign
pub right_past : (n s m k : ℕ) → s ≤ 1 → m < 2 ^ n → n ≤ k → (s * (2 ^ k - 1) * 2 ^ n + m) / 2 ^ k ≡ s * (2 ^ n - 1)
right_past n zero m k bit below past =
    let power : 2 ^ n ≤ 2 ^ k = pow-le-pow_right (omega arith) past in
    let none : 0 * (2 ^ k - 1) * 2 ^ n + m ≡ m = omega arith in
    rw none (div-eq_of_lt (omega arith) ∙ omega arith)
right_past n (suc zero) m k bit below past =
    let power : 2 ^ n ≤ 2 ^ k = pow-le-pow_right (omega arith) past in
    let first = pow_pos n in
    let e : 2 ^ n - 1 + 1 ≡ 2 ^ n = omega arith in
    let f : 2 ^ k - 1 + 1 ≡ 2 ^ k = omega arith in
    rw (e, f) at (between (2 ^ n - 1) (2 ^ k - 1) m (omega arith) (omega arith))
right_past n (suc (suc s)) m k bit below past = absurd (omega arith)
