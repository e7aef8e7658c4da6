-- The first word of a line, and the names of kinds.
use Rattle.std.proofs.Common.{◌≡◌, ◌≢◌, ℕ, Bool, true, false, List, length, bytes_eq, ap, refl}
use Rattle.std.proofs.lemmas.Slice.Eq.{bytes_eq-Decides}

by_test : (xs ys : List ℕ) (b : Bool) → bytes_eq xs ys ≡ b → length xs ≢ length ys → false ≡ b
by_test xs ys true e n = absurd (n (ap length ((bytes_eq-Decides xs ys).0 e)))
by_test xs ys false e n = refl

-- words of different lengths are different
pub other_length : (xs ys : List ℕ) → length xs ≢ length ys → false ≡ bytes_eq xs ys
other_length xs ys n = by_test xs ys (bytes_eq xs ys) refl n
