-- The bytes of a typed word: how many, and which.
use Rattle.std.proofs.Common.{◌≡◌, ◌<◌, ◌≤◌, ◌^◌, ◌&&◌, ℕ, true, not, nat_le, Option, Some, None, List, ◌∷◌, length, refl, arith, inl, inr, length-append}
use Rattle.std.specs.List.{list_all}
use Rattle.std.proofs.lemmas.Bool.{cases_lt, leb-true}
use Rattle.std.proofs.lemmas.Bool.Decides.{nat_tests}
use Rattle.std.proofs.lemmas.List.Folds.{list_all-append}
use Rattle.its_word.specs.Text.{digits_of, is_code}
use Rattle.its_word.specs.Word.{left_of, right_of}
use Rattle.its_word.specs.Opcode.{ac_of, opcode_of}
use Rattle.its_word.proofs.DigitLaws.{digits_are_codes}
use Rattle.its_chart.specs.Text.{is_printable}
use Rattle.its_chart.specs.Mnemonic.{mnemonic_of}
use Rattle.its_chart.specs.TypeOut.{index_of, indirect_of, typed, typed_by, typed_operand}
use Rattle.its_chart.proofs.BytesLaws.{all_imp, all_two, both_true}
use Rattle.its_chart.proofs.ChartLaws.{no_more_names}
use Rattle.its_chart.proofs.NameLaws.{is_letter, is_op, is_other, stood}
use Rattle.its_chart.proofs.OperandLaws.{is_operand, operand_bytes, operand_length, six_digits}

halves_short : (w : ℕ) → w < 2 ^ 36 → length (typed_by None w) ≤ 255
halves_short w h =
    let l = six_digits (left_of w) (omega arith) in
    let r = six_digits (right_of w) (omega arith) in
    let long = length-append (digits_of (left_of w)) (44 ∷ (44 ∷ digits_of (right_of w))) in
    omega (arith, long)

operation_short : (w : ℕ) (n : List ℕ) → w < 2 ^ 36 → mnemonic_of (opcode_of w) ≡ Some n → length (typed_by (Some n) w) ≤ 255
operation_short w n h named =
    let own = stood (opcode_of w) n (omega arith) named in
    let op : is_op n ≡ true = own.operation in
    let sides = both_true (nat_le 1 (length n) && nat_le (length n) 7) (list_all is_letter n && not (is_other n)) op in
    let short = leb-true (length n) 7 (both_true (nat_le 1 (length n)) (nat_le (length n) 7) sides.0).1 in
    let size = operand_length (ac_of w) (indirect_of w) (right_of w) (index_of w) (omega arith) (omega arith) (omega arith) in
    let few = size.1 in
    let long = length-append n (32 ∷ typed_operand w) in
    omega (arith, long)

short_by : (w : ℕ) (r : Option (List ℕ)) → w < 2 ^ 36 → mnemonic_of (opcode_of w) ≡ r → length (typed_by r w) ≤ 255
short_by w None h e = halves_short w h
short_by w (Some n) h e = operation_short w n h e

-- a typed word has at most as many bytes as a line may have
pub typed_short : (w : ℕ) → w < 2 ^ 36 → length (typed w) ≤ 255
unfolding typed
typed_short w h = short_by w (mnemonic_of (opcode_of w)) h refl

-- and bytes from 40 to 176
pub letter_printable : (b : ℕ) → is_letter b ≡ true → is_code 32 126 b ≡ true
letter_printable b h = grind (arith, nat_tests)

pub operand_printable : (b : ℕ) → is_operand b ≡ true → is_code 32 126 b ≡ true
operand_printable b h = grind (arith, nat_tests)

digit_printable : (b : ℕ) → is_code 48 55 b ≡ true → is_code 32 126 b ≡ true
digit_printable b h = grind (arith, nat_tests)

halves_printable : (w : ℕ) → is_printable (typed_by None w) ≡ true
halves_printable w =
    let digits = λ (n : ℕ). all_imp (is_code 48 55) (is_code 32 126) digit_printable (digits_of n) (digits_are_codes n) in
    rw (list_all-append (is_code 32 126) (digits_of (left_of w)) (44 ∷ (44 ∷ digits_of (right_of w))), digits (left_of w)) (digits (right_of w))

operation_printable : (w : ℕ) (n : List ℕ) → opcode_of w < 512 → mnemonic_of (opcode_of w) ≡ Some n → is_printable (typed_by (Some n) w) ≡ true
operation_printable w n below e =
    let op : is_op n ≡ true = (stood (opcode_of w) n below e).operation in
    let letters = (both_true (list_all is_letter n) (not (is_other n))
    (both_true (nat_le 1 (length n) && nat_le (length n) 7) (list_all is_letter n && not (is_other n)) op).1).0 in
    let operand = operand_bytes (ac_of w) (indirect_of w) (right_of w) (index_of w) (omega arith) (omega arith) (omega arith) in
    all_two (is_code 32 126) n (typed_operand w) (all_imp is_letter (is_code 32 126) letter_printable n letters)
    (all_imp is_operand (is_code 32 126) operand_printable (typed_operand w) operand) refl

printable_by : (w : ℕ) (r : Option (List ℕ)) → mnemonic_of (opcode_of w) ≡ r → is_printable (typed_by r w) ≡ true
printable_by w None e = halves_printable w
printable_by w (Some n) e =
    elim (cases_lt (opcode_of w) 512) [
      | inl below ↦ operation_printable w n below e
      | inr above ↦ (let none = no_more_names (opcode_of w) (omega arith) in cc)
    ]

pub typed_printable : (w : ℕ) → is_printable (typed w) ≡ true
unfolding typed
typed_printable w = printable_by w (mnemonic_of (opcode_of w)) refl
