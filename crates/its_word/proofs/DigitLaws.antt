-- The digits of a number without leading zeros, and what reading them gives.
use Rattle.std.proofs.Common.{◌≡◌, ◌<◌, ◌≤◌, ◌+◌, ◌*◌, ◌%◌, ◌/◌, ◌-◌, ◌^◌, ℕ, List, [], ◌∷◌, ◌++◌, true, length, map, arith, refl, zero, suc, ap, sym, ◌∙◌, inl, inr}
use Rattle.std.proofs.lemmas.Bool.{cases_lt, lt-ltb, le-ltb}
use Rattle.std.proofs.lemmas.Bool.Decides.{nat_tests}
use Rattle.std.proofs.lemmas.List.{map-append, length-map, length-append}
use Rattle.std.proofs.lemmas.Int.Digits.{digits_of_step, length-digits_of-le, all_below_base_digits_of, number_digits_of}
use Rattle.std.specs.Int.Digits as base
use Rattle.std.specs.List.{list_all, fold}
use Rattle.its_word.specs.Text.{digits_of, is_code, is_octal, octal_value}

pub digits_below_8 : (n : ℕ) → n < 8 → digits_of n ≡ (48 + n) ∷ []
unfolding digits_of
digits_below_8 n small = rw (lt-ltb n 8 small) refl

-- the digits of a number above 7, in the base's own words
digits_above_7 : (n : ℕ) → 8 ≤ n → digits_of n ≡ map (λ d. 48 + d) (base.digits_of 8 n)
unfolding digits_of
digits_above_7 n large = rw (le-ltb n 8 large) refl

digits_above_0 : (n : ℕ) → 0 < n → digits_of n ≡ map (λ d. 48 + d) (base.digits_of 8 n)
digits_above_0 n some =
    elim (cases_lt n 8) [
      | inl small ↦
          (let step : base.digits_of 8 n ≡ base.digits_of 8 (n / 8) ++ n % 8 ∷ [] = digits_of_step 8 n (omega arith) some in
          let none : n / 8 ≡ 0 = omega arith in
          let rest : n % 8 ≡ n = omega arith in
          digits_below_8 n small ∙ sym (rw (step, none, rest) refl))
      | inr large ↦ digits_above_7 n large
    ]

pub digits_from_8 : (n : ℕ) → 8 ≤ n → digits_of n ≡ digits_of (n / 8) ++ (48 + n % 8) ∷ []
digits_from_8 n large =
    let step : base.digits_of 8 n ≡ base.digits_of 8 (n / 8) ++ n % 8 ∷ [] = digits_of_step 8 n (omega arith) (omega arith) in
    digits_above_7 n large ∙ rw (step, map-append, digits_above_0 (n / 8) (omega arith)) refl

-- so many digits write the numbers below a power
pub few_digits : (k n : ℕ) → 1 ≤ k → n < 8 ^ k → length (digits_of n) ≤ k
few_digits k n some below =
    elim (cases_lt n 8) [
      | inl small ↦ rw (digits_below_8 n small) some
      | inr large ↦ rw (digits_above_7 n large, length-map) (length-digits_of-le 8 k n (omega arith) below)
    ]

pub some_digits : (n : ℕ) → 1 ≤ length (digits_of n)
some_digits n =
    elim (cases_lt n 8) [
      | inl small ↦ rw (digits_below_8 n small) (omega arith)
      | inr large ↦ rw (digits_from_8 n large) (omega (arith, length-append (digits_of (n / 8)) ((48 + n % 8) ∷ [])))
    ]

-- a number from 1 on has at most as many digits as it says
few_by_fuel : (f n : ℕ) → n ≤ f → 1 ≤ n → length (digits_of n) ≤ n
few_by_fuel zero n h some = absurd (omega arith)
few_by_fuel (suc f) n h some =
    elim (cases_lt n 8) [
      | inl small ↦ rw (digits_below_8 n small) some
      | inr large ↦
          (let less : length (digits_of (n / 8)) ≤ n / 8 = few_by_fuel f (n / 8) (omega arith) (omega arith) in
          rw (digits_from_8 n large) (omega (arith, length-append (digits_of (n / 8)) ((48 + n % 8) ∷ []))))
    ]

pub few_for_count : (n : ℕ) → 1 ≤ n → length (digits_of n) ≤ n
few_for_count n some = few_by_fuel n n (omega arith) some

-- 22 digits write 64 bits
pub digits_fit : (n : ℕ) → n < 2 ^ 61 → length (digits_of n) ≤ 21
digits_fit n below = few_digits 21 n (omega arith) (omega arith)

is_digit : (d : ℕ) → d < 8 → is_code 48 55 (48 + d) ≡ true
is_digit d small = grind (arith, nat_tests)

codes_of_digits : (ds : List ℕ) → base.AllBelowBase 8 ds → list_all (is_code 48 55) (map (λ d. 48 + d) ds) ≡ true
codes_of_digits [] h = refl
codes_of_digits (d ∷ ds) h = rw (is_digit d h.0, codes_of_digits ds h.1) refl

value_of_digits : (n : ℕ) (ds : List ℕ) → fold (λ m c. m * 8 + (c - 48)) n (map (λ d. 48 + d) ds) ≡ base.number_from_digits_after 8 n ds
value_of_digits n [] = refl
value_of_digits n (d ∷ ds) =
    let same : 48 + d - 48 ≡ d = omega arith in
    ap (λ k. fold (λ m c. m * 8 + (c - 48)) (n * 8 + k) (map (λ j. 48 + j) ds)) same ∙ value_of_digits (n * 8 + d) ds

-- the digits are from 0 to 7
pub digits_are_codes : (n : ℕ) → list_all (is_code 48 55) (digits_of n) ≡ true
digits_are_codes n =
    elim (cases_lt n 8) [
      | inl small ↦ rw (digits_below_8 n small, is_digit n small) refl
      | inr large ↦ rw (digits_above_7 n large) (codes_of_digits (base.digits_of 8 n) (all_below_base_digits_of 8 n (omega arith)))
    ]

-- reading the digits of a number gives the number
pub digits_value : (n : ℕ) → octal_value (digits_of n) ≡ n
unfolding octal_value
digits_value n =
    elim (cases_lt n 8) [
      | inl small ↦ rw (digits_below_8 n small) (omega arith)
      | inr large ↦ rw (digits_above_7 n large) (value_of_digits 0 (base.digits_of 8 n) ∙ number_digits_of 8 n (omega arith))
    ]

-- digits of a number of 36 bits are 1 to 12
pub digits_are_octal : (n : ℕ) → n < 2 ^ 36 → is_octal (digits_of n) ≡ true
unfolding is_octal
digits_are_octal n below =
    let few : length (digits_of n) ≤ 12 = few_digits 12 n (omega arith) (omega arith) in
    let some : 1 ≤ length (digits_of n) = some_digits n in
    rw (digits_are_codes n) (grind (arith, nat_tests))
