-- The operand of a typed word, and its two halves: how many bytes they have, and which.
use Rattle.std.proofs.Common.{◌≡◌, ◌<◌, ◌≤◌, ◌^◌, ◌==◌, ◌||◌, ℕ, Bool, true, nat_eq, [], ◌∷◌, ◌++◌, length, refl, arith, codes, inl, inr, length-append}
use Rattle.std.specs.List.{list_all}
use Rattle.std.proofs.lemmas.Bool.{cases_Bool}
use Rattle.std.proofs.lemmas.Bool.Decides.{nat_tests}
use Rattle.its_word.specs.Text.{digits_of, is_code}
use Rattle.its_word.proofs.DigitLaws.{digits_are_codes, few_digits, some_digits}
use Rattle.its_chart.specs.TypeOut.{typed_ac, typed_index, typed_indirect}
use Rattle.its_chart.proofs.BytesLaws.{all_append, all_imp}

pub six_digits : (n : ℕ) → n < 2 ^ 18 → length (digits_of n) ≤ 6
six_digits n h = few_digits 6 n (omega arith) (omega arith)

-- the length of an operand
short_ac : (a : ℕ) → a < 16 → length (typed_ac a) ≤ 7
short_ac a h =
    elim (cases_Bool (a == 0)) [
      | inl hit ↦ rw hit (omega arith)
      | inr miss ↦ (let d = six_digits a (omega arith) in let long = length-append (digits_of a) (codes ",") in rw miss (omega arith))
    ]

short_indirect : (i : ℕ) → length (typed_indirect i) ≤ 1
short_indirect i =
    elim (cases_Bool (i == 0)) [
      | inl hit ↦ rw hit (omega arith)
      | inr miss ↦ rw miss (omega arith)
    ]

short_index : (x : ℕ) → x < 16 → length (typed_index x) ≤ 8
short_index x h =
    elim (cases_Bool (x == 0)) [
      | inl hit ↦ rw hit (omega arith)
      | inr miss ↦ (let d = six_digits x (omega arith) in let long = length-append (digits_of x) (41 ∷ []) in rw miss (omega arith))
    ]

pub operand_length : (a i y x : ℕ) → a < 16 → y < 2 ^ 18 → x < 16
    → (1 ≤ length (typed_ac a ++ (typed_indirect i ++ (digits_of y ++ typed_index x))))
    × (length (typed_ac a ++ (typed_indirect i ++ (digits_of y ++ typed_index x))) ≤ 40)
operand_length a i y x ha hy hx =
    let la = short_ac a ha in
    let li = short_indirect i in
    let lx = short_index x hx in
    let ly = six_digits y hy in
    let some = some_digits y in
    let l1 = length-append (digits_of y) (typed_index x) in
    let l2 = length-append (typed_indirect i) (digits_of y ++ typed_index x) in
    let l3 = length-append (typed_ac a) (typed_indirect i ++ (digits_of y ++ typed_index x)) in
    (omega (arith, l1, l2, l3), omega (arith, l1, l2, l3))

-- the bytes of an address: digits, `@` and parentheses; with the comma, those of an operand
abbrev pub is_inner : ℕ → Bool
is_inner b = is_code 48 55 b || (is_code 40 41 b || nat_eq b 64)

abbrev pub is_operand : ℕ → Bool
is_operand b = is_inner b || nat_eq b 44

digit_inner : (b : ℕ) → is_code 48 55 b ≡ true → is_inner b ≡ true
digit_inner b h = grind (arith, nat_tests)

inner_operand : (b : ℕ) → is_inner b ≡ true → is_operand b ≡ true
inner_operand b h = grind (arith, nat_tests)

-- the bytes of an address and of an operand
inner_digits : (n : ℕ) → n < 2 ^ 18 → list_all is_inner (digits_of n) ≡ true
inner_digits n h = all_imp (is_code 48 55) is_inner digit_inner (digits_of n) (digits_are_codes n)

inner_index : (x : ℕ) → x < 16 → list_all is_inner (typed_index x) ≡ true
inner_index x h =
    elim (cases_Bool (x == 0)) [
      | inl hit ↦ rw hit refl
      | inr miss ↦ (let more : list_all is_inner (digits_of x ++ 41 ∷ []) ≡ true = all_append is_inner (digits_of x) (41 ∷ [])
          (inner_digits x (omega arith)) refl in rw miss more)
    ]

inner_indirect : (i : ℕ) → list_all is_inner (typed_indirect i) ≡ true
inner_indirect i =
    elim (cases_Bool (i == 0)) [
      | inl hit ↦ rw hit refl
      | inr miss ↦ rw miss refl
    ]

pub inner_address : (i y x : ℕ) → y < 2 ^ 18 → x < 16 → list_all is_inner (typed_indirect i ++ (digits_of y ++ typed_index x)) ≡ true
inner_address i y x hy hx =
    all_append is_inner (typed_indirect i) (digits_of y ++ typed_index x) (inner_indirect i)
    (all_append is_inner (digits_of y) (typed_index x) (inner_digits y hy) (inner_index x hx))

pub operand_bytes : (a i y x : ℕ) → a < 16 → y < 2 ^ 18 → x < 16
    → list_all is_operand (typed_ac a ++ (typed_indirect i ++ (digits_of y ++ typed_index x))) ≡ true
operand_bytes a i y x ha hy hx =
    let inner = all_imp is_inner is_operand inner_operand (typed_indirect i ++ (digits_of y ++ typed_index x)) (inner_address i y x hy hx) in
    elim (cases_Bool (a == 0)) [
      | inl hit ↦ rw hit inner
      | inr miss ↦
          (let digits = all_imp is_inner is_operand inner_operand (digits_of a) (inner_digits a (omega arith)) in
          let ac : list_all is_operand (digits_of a ++ codes ",") ≡ true = all_append is_operand (digits_of a) (codes ",") digits refl in
          rw miss (all_append is_operand (digits_of a ++ codes ",") (typed_indirect i ++ (digits_of y ++ typed_index x)) ac inner))
    ]

-- two halves
pub halves_bytes : (l r : ℕ) → l < 2 ^ 18 → r < 2 ^ 18 → list_all is_operand (digits_of l ++ (codes ",," ++ digits_of r)) ≡ true
halves_bytes l r hl hr =
    let dl = all_imp is_inner is_operand inner_operand (digits_of l) (inner_digits l hl) in
    let dr = all_imp is_inner is_operand inner_operand (digits_of r) (inner_digits r hr) in
    all_append is_operand (digits_of l) (44 ∷ (44 ∷ digits_of r)) dl dr
