-- The bits of two words stay within 36.
use Rattle.std.proofs.Common.{◌<◌, ◌^◌, ℕ, bit_or, bit_xor}
use Rattle.std.proofs.lemmas.Nat.{or_lt, xor_lt}

pub or_of_36 : (a b : ℕ) → a < 2 ^ 36 → b < 2 ^ 36 → bit_or a b < 2 ^ 36
or_of_36 = or_lt 36

pub xor_of_36 : (a b : ℕ) → a < 2 ^ 36 → b < 2 ^ 36 → bit_xor a b < 2 ^ 36
xor_of_36 = xor_lt 36
