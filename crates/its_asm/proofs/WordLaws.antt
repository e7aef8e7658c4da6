-- The operand of a typed word as the operand of an instruction.
use Rattle.std.proofs.Common.{◌≡◌, ◌<◌, ◌+◌, ◌*◌, ◌^◌, ◌==◌, ℕ, zero, suc, true, false, Some, None, Ok, List, [], ◌∷◌, ◌++◌, slice_index, refl, arith, codes, inl, inr, append_assoc}
use Rattle.std.proofs.lemmas.Bool.{cases_Bool, eqb-true}
use Rattle.std.proofs.lemmas.Bool.Decides.{nat_tests}
use Rattle.std.proofs.lemmas.List.{append-nil}
use Rattle.its_word.specs.Text.{digits_of, is_code}
use Rattle.its_word.specs.Word.{pair_of}
use Rattle.its_chart.specs.Text.{cut}
use Rattle.its_chart.specs.TypeOut.{typed_ac, typed_index, typed_indirect}
use Rattle.its_chart.proofs.BytesLaws.{all_imp}
use Rattle.its_chart.proofs.OperandLaws.{inner_address, is_inner}
use Rattle.its_asm.specs.Text.{closed}
use Rattle.its_asm.specs.Expression.{Scope, expression, register}
use Rattle.its_asm.specs.Instruction.{address, without_literal, indexed, instruction, place, whole}
use Rattle.its_asm.proofs.NumberLaws.{IsNumber, closed_last, cut_marked, cut_unmarked, digits_number, expression_number, first_digit, register_number, unmarked}

bracket_free : (b : ℕ) → is_code 48 55 b ≡ true → unmarked (codes "(") b ≡ true
bracket_free b h = grind (arith, nat_tests)

comma_free : (b : ℕ) → is_inner b ≡ true → unmarked (codes ",[") b ≡ true
comma_free b h = grind (arith, nat_tests)

digit_comma_free : (b : ℕ) → is_code 48 55 b ≡ true → unmarked (codes ",[") b ≡ true
digit_comma_free b h = grind (arith, nat_tests)

lone_comma_free : (b : ℕ) → is_code 48 55 b ≡ true → unmarked (codes ",") b ≡ true
lone_comma_free b h = grind (arith, nat_tests)

place_number : (s : Scope) (n : ℕ) (t : List ℕ) → n < 2 ^ 18 → IsNumber n t → place s t ≡ Ok (without_literal n)
place_number s n [] h k = let some = k.some in absurd (omega arith)
place_number s n (d ∷ ds) h k =
    let digit = first_digit d ds k.digits in
    let bracket : (d == 91) ≡ false = grind (arith, nat_tests) in
    let one : expression s (d ∷ ds) ≡ Ok n = expression_number s n (d ∷ ds) h k in
    rw (bracket, one) refl

-- an address after its `@`
indexed_number : (s : Scope) (i y x : ℕ) → y < 2 ^ 18 → x < 16
    → indexed s i (digits_of y ++ typed_index x) ≡ Ok (without_literal (i * 2 ^ 22 + x * 2 ^ 18 + y))
indexed_number s i y x hy hx =
    let ny = digits_number y hy in
    let nx = digits_number x (omega arith) in
    let py : place s (digits_of y) ≡ Ok (without_literal y) = place_number s y (digits_of y) hy ny in
    let free = all_imp (is_code 48 55) (unmarked (codes "(")) bracket_free (digits_of y) ny.digits in
    elim (cases_Bool (x == 0)) [
      | inl hit ↦
          (let none : x ≡ 0 = eqb-true x 0 hit in
          let one : cut (codes "(") (digits_of y) ≡ None = cut_unmarked (codes "(") (digits_of y) free in
          let nil : digits_of y ++ [] ≡ digits_of y = append-nil (digits_of y) in
          rw (none) (rw (nil, one, py) refl))
      | inr miss ↦
          (let two : cut (codes "(") (digits_of y ++ 40 ∷ (digits_of x ++ 41 ∷ [])) ≡ Some
          (digits_of y, 40, digits_of x ++ 41 ∷ []) = cut_marked (codes "(") (digits_of y) 40 (digits_of x ++ 41 ∷ []) free refl in
          let last : closed 41 (digits_of x ++ 41 ∷ []) ≡ Some (digits_of x) = closed_last (digits_of x) 41 in
          let rx : register s (digits_of x) ≡ Ok x = register_number s x (digits_of x) (omega arith) nx in
          rw (miss, two, py, last, rx) refl)
    ]

-- the first byte of a number is no `@`
no_at : (n : ℕ) (t u : List ℕ) → IsNumber n t → (slice_index (t ++ u) 0 == 64) ≡ false
no_at n [] u k = let some = k.some in absurd (omega arith)
no_at n (d ∷ ds) u k =
    let digit = first_digit d ds k.digits in
    grind (arith, nat_tests)

pub address_number : (s : Scope) (i y x : ℕ) → i < 2 → y < 2 ^ 18 → x < 16
    → address s (typed_indirect i ++ (digits_of y ++ typed_index x)) ≡ Ok (without_literal (i * 2 ^ 22 + x * 2 ^ 18 + y))
unfolding address
address_number s zero y x hi hy hx = rw (no_at y (digits_of y) (typed_index x) (digits_number y hy)) (indexed_number s 0 y x hy hx)
address_number s (suc zero) y x hi hy hx = indexed_number s 1 y x hy hx
address_number s (suc (suc i)) y x hi hy hx = absurd (omega arith)

-- the operand of an instruction
pub instruction_number : (s : Scope) (op a i y x : ℕ) → a < 16 → i < 2 → y < 2 ^ 18 → x < 16
    → instruction s op (typed_ac a ++ (typed_indirect i ++ (digits_of y ++ typed_index x))) ≡ Ok
    (without_literal (op * 2 ^ 27 + a * 2 ^ 23 + (i * 2 ^ 22 + x * 2 ^ 18 + y)))
unfolding instruction
instruction_number s op a i y x ha hi hy hx =
    let rest = typed_indirect i ++ (digits_of y ++ typed_index x) in
    let found : address s rest ≡ Ok (without_literal (i * 2 ^ 22 + x * 2 ^ 18 + y)) = address_number s i y x hi hy hx in
    elim (cases_Bool (a == 0)) [
      | inl hit ↦
          (let none : a ≡ 0 = eqb-true a 0 hit in
          let free = all_imp is_inner (unmarked (codes ",[")) comma_free rest (inner_address i y x hy hx) in
          let one : cut (codes ",[") rest ≡ None = cut_unmarked (codes ",[") rest free in
          rw none (rw (one, found) refl))
      | inr miss ↦
          (let na = digits_number a (omega arith) in
          let free = all_imp (is_code 48 55) (unmarked (codes ",[")) digit_comma_free (digits_of a) na.digits in
          let two : cut (codes ",[") (digits_of a ++ 44 ∷ rest) ≡ Some (digits_of a, 44, rest) = cut_marked (codes ",[") (digits_of a) 44 rest free refl in
          let ra : register s (digits_of a) ≡ Ok a = register_number s a (digits_of a) (omega arith) na in
          let grouped : (digits_of a ++ codes ",") ++ rest ≡ digits_of a ++ 44 ∷ rest = append_assoc (digits_of a) (codes ",") rest in
          rw (miss, grouped, two, ra, found) refl)
    ]

-- two halves
pub whole_number : (s : Scope) (l r : ℕ) → l < 2 ^ 18 → r < 2 ^ 18 → whole s (digits_of l ++ (codes ",," ++ digits_of r)) ≡ Ok (pair_of l r)
unfolding whole
whole_number s l r hl hr =
    let nl = digits_number l hl in
    let nr = digits_number r hr in
    let free = all_imp (is_code 48 55) (unmarked (codes ",")) lone_comma_free (digits_of l) nl.digits in
    let two : cut (codes ",") (digits_of l ++ 44 ∷ (44 ∷ digits_of r)) ≡ Some (digits_of l, 44, 44 ∷ digits_of r) =
    cut_marked (codes ",") (digits_of l) 44 (44 ∷ digits_of r) free refl in
    let el : expression s (digits_of l) ≡ Ok l = expression_number s l (digits_of l) hl nl in
    let er : expression s (digits_of r) ≡ Ok r = expression_number s r (digits_of r) hr nr in
    rw (two, el, er) refl
