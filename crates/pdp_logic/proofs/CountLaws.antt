-- Leading zeros.
use Rattle.std.proofs.Common.{◌≡◌, ◌<◌, ◌+◌, ◌^◌, ℕ, sym, arith}
use Rattle.std.proofs.lemmas.Nat.{leading_length}
use Rattle.std.specs.Int.Count.{count_leading_zeros, leading_unique}

-- a word has 28 more leading zeros in 64 bits than in 36
pub leading_in_64 : (a : ℕ) → a < 2 ^ 36 → count_leading_zeros 64 a ≡ 28 + count_leading_zeros 36 a
leading_in_64 a below =
    let (m, sum, top, least) = leading_length 36 a below in
    sym (leading_unique 64 a (28 + count_leading_zeros 36 a) m (omega arith) top least)
