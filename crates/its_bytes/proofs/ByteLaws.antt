-- A byte among the bits of a number.
use Rattle.std.proofs.Common.{◌≡◌, ◌<◌, ◌≤◌, ◌+◌, ◌*◌, ◌/◌, ◌%◌, ◌^◌, ◌∙◌, ℕ, bit_or, arith}
use Rattle.std.proofs.lemmas.Nat.{mod_below, mul-add-lt, one_shl, or_shifted, pow-add, pow_pos, shl_whole, shr_split}

-- the bits above, the byte and the bits below share no bit
pub spliced : (w p s b : ℕ) → p < 64 → s ≤ 36 → b < 2 ^ s → w < 2 ^ 128
    → bit_or (w / 2 ^ (p + s) * 2 ^ (p + s) % 2 ^ 128) (bit_or (b * 2 ^ p % 2 ^ 128) (w % (1 * 2 ^ p % 2 ^ 128))) ≡ w / 2 ^ (p + s) * 2 ^
    (p + s) + b * 2 ^ p + w % 2 ^ p
spliced w p s b place few fits below =
    let mask : 1 * 2 ^ p % 2 ^ 128 ≡ 2 ^ p = one_shl p 128 (omega arith) in
    let low : w % 2 ^ p < 2 ^ p = mod_below w (2 ^ p) (pow_pos p) in
    let moved : b * 2 ^ p % 2 ^ 128 ≡ b * 2 ^ p = shl_whole b s p 128 fits (omega arith) in
    let inner : bit_or (b * 2 ^ p) (w % 2 ^ p) ≡ b * 2 ^ p + w % 2 ^ p = or_shifted b p (w % 2 ^ p) low in
    let within : b * 2 ^ p + w % 2 ^ p < 2 ^ (p + s) = rw pow-add (mul-add-lt b (2 ^ p) (w % 2 ^ p) (2 ^ s) fits low) in
    let split = shr_split w (p + s) in
    let high : w / 2 ^ (p + s) * 2 ^ (p + s) % 2 ^ 128 ≡ w / 2 ^ (p + s) * 2 ^ (p + s) = omega arith in
    rw (mask, moved, inner, high) (or_shifted (w / 2 ^ (p + s)) (p + s) (b * 2 ^ p + w % 2 ^ p) within ∙ omega arith)
