-- How long numbers are as text.
use Rattle.std.proofs.Common.{◌≡◌, ◌<◌, ◌≤◌, ◌+◌, ◌-◌, ◌*◌, ◌/◌, ◌%◌, ◌^◌, ◌==◌, ℕ, zero, suc, false, [], ◌∷◌, length, refl, arith}
use Rattle.std.proofs.lemmas.Bool.Decides.{nat_tests}
use Rattle.its_word.specs.Text.{digits_of}
use Rattle.its_word.proofs.DigitLaws.{few_digits}
use Rattle.its_session.specs.Writing.{characters}

pub twelve_digits : (n : ℕ) → n < 2 ^ 36 → length (digits_of n) ≤ 12
twelve_digits n below = few_digits 12 n (omega arith) (omega arith)

pub three_digits : (n : ℕ) → n < 2 ^ 8 → length (digits_of n) ≤ 3
three_digits n below = few_digits 3 n (omega arith) (omega arith)

no_characters : (n w : ℕ) → w / 2 ^ 30 ≡ 0 → characters n w ≡ []
unfolding characters
no_characters zero w none = refl
no_characters (suc n) w none = rw none refl

-- the characters of a name, one after another
pub characters_end : (turn w : ℕ) → w / 2 ^ 30 ≡ 0 → characters (6 - turn) w ≡ []
characters_end turn w none = no_characters (6 - turn) w none

pub characters_turn : (turn w : ℕ) → turn < 6 → 0 < w / 2 ^ 30 → characters (6 - turn) w ≡ (32 + w / 2 ^ 30)
    ∷ characters (6 - (turn + 1)) (w * 2 ^ 6 % 2 ^ 36)
unfolding characters
characters_turn turn w below some =
    let one_more : 6 - turn ≡ suc (6 - (turn + 1)) = omega arith in
    let test : (w / 2 ^ 30 == 0) ≡ false = grind (arith, nat_tests) in
    rw (one_more, test) refl

pub no_more : (w : ℕ) → characters 0 w ≡ []
unfolding characters
no_more w = refl
