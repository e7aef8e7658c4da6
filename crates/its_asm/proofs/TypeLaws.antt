-- What a typed word reads as.
use Rattle.std.proofs.Common.{◌≡◌, ◌<◌, ◌≤◌, ◌+◌, ◌*◌, ◌^◌, ◌&&◌, ◌||◌, ℕ, true, false, not, nat_le, Option, Some, None, Ok, List, [], ◌∷◌, ◌++◌, length, refl, ap, ◌∙◌, arith, codes, bytes_eq, length-append}
use Rattle.std.specs.List.{list_all}
use Rattle.std.proofs.lemmas.Bool.{le-leb, leb-true, not-true, or_parts}
use Rattle.std.proofs.lemmas.Bool.Decides.{nat_tests}
use Rattle.its_word.specs.Text.{digits_of, is_code, words_of}
use Rattle.its_word.specs.Word.{left_of, right_of, pair_of}
use Rattle.its_word.specs.Opcode.{ac_of, opcode_of}
use Rattle.its_word.proofs.DigitLaws.{some_digits}
use Rattle.its_word.proofs.WordsLaws.{words_first, words_one}
use Rattle.its_chart.specs.Text.{cut}
use Rattle.its_chart.specs.Mnemonic.{mnemonic_of, opcode_named}
use Rattle.its_chart.specs.TypeOut.{index_of, indirect_of, typed, typed_by, typed_operand}
use Rattle.its_chart.proofs.BytesLaws.{all_imp, all_two, both_true}
use Rattle.its_chart.proofs.ChartLaws.{named_first}
use Rattle.its_chart.proofs.NameLaws.{is_letter, is_op, is_other, stood}
use Rattle.its_chart.proofs.OperandLaws.{halves_bytes, is_operand, operand_bytes, operand_length, six_digits}
use Rattle.its_chart.proofs.TypedLaws.{letter_printable, operand_printable}
use Rattle.its_asm.specs.Text.{statement_words}
use Rattle.its_asm.specs.Instruction.{without_literal, instruction, whole}
use Rattle.its_asm.specs.Statement.{body, no_names, statement_of, with_one}
use Rattle.its_asm.specs.declared.statements.Statement.TheVariants.{Gives}
use Rattle.its_asm.proofs.NumberLaws.{cut_unmarked, unmarked}
use Rattle.its_asm.proofs.WordLaws.{instruction_number, whole_number}

letter_visible : (b : ℕ) → is_letter b ≡ true → is_code 33 126 b ≡ true
letter_visible b h = grind (arith, nat_tests)

letter_code_free : (b : ℕ) → is_letter b ≡ true → unmarked (codes ";") b ≡ true
letter_code_free b h = grind (arith, nat_tests)

operand_visible : (b : ℕ) → is_operand b ≡ true → is_code 33 126 b ≡ true
operand_visible b h = grind (arith, nat_tests)

operand_code_free : (b : ℕ) → is_operand b ≡ true → unmarked (codes ";") b ≡ true
operand_code_free b h = grind (arith, nat_tests)

words_plain : (line : List ℕ) → cut (codes ";") line ≡ None → statement_words line ≡ words_of line
unfolding statement_words
words_plain line h = rw h refl

-- a line of a name, a space and an operand has these two words
two_words : (n t : List ℕ) → 1 ≤ length n → 1 ≤ length t → list_all is_letter n ≡ true → list_all is_operand t ≡ true
    → statement_words (n ++ 32 ∷ t) ≡ n ∷ t ∷ []
two_words n t some more h k =
    let plain : cut (codes ";") (n ++ 32 ∷ t) ≡ None =
    cut_unmarked (codes ";") (n ++ 32 ∷ t)
    (all_two (unmarked (codes ";")) n t (all_imp is_letter (unmarked (codes ";")) letter_code_free n h)
    (all_imp is_operand (unmarked (codes ";")) operand_code_free t k) refl) in
    let first : words_of (n ++ 32 ∷ t) ≡ n ∷ words_of t = words_first n t
    (record { some = some; visible = all_imp is_letter (is_code 33 126) letter_visible n h }) in
    let last : words_of t ≡ t ∷ [] = words_one t (record { some = more; visible = all_imp is_operand (is_code 33 126) operand_visible t k }) in
    words_plain (n ++ 32 ∷ t) plain ∙ first ∙ ap (λ ws. n ∷ ws) last

-- such a line on its own
read_line : (n t : List ℕ) (w : ℕ) → 1 ≤ length n → length n ≤ 7 → 1 ≤ length t → length t ≤ 40 → list_all is_letter n ≡ true → list_all is_operand t ≡ true
    → with_one no_names no_names n t ≡ Some (Gives (Ok (without_literal w))) → statement_of (n ++ 32 ∷ t) ≡ Some w
unfolding statement_of body
read_line n t w some few more short h k made =
    let long = length-append n (32 ∷ t) in
    let fits : nat_le (length (n ++ 32 ∷ t)) 255 ≡ true = le-leb (length (n ++ 32 ∷ t)) 255 (omega arith) in
    let shown : list_all (is_code 32 126) (n ++ 32 ∷ t) ≡ true =
    all_two (is_code 32 126) n t (all_imp is_letter (is_code 32 126) letter_printable n h) (all_imp is_operand (is_code 32 126) operand_printable t k) refl in
    let two : statement_words (n ++ 32 ∷ t) ≡ n ∷ t ∷ [] = two_words n t some more h k in
    rw (fits, shown, two, made) refl

-- a word whose opcode has no name
halves_made : (w : ℕ) → w < 2 ^ 36 → with_one no_names no_names (codes "WORD")
    (digits_of (left_of w) ++ (codes ",," ++ digits_of (right_of w))) ≡ Some (Gives (Ok (without_literal w)))
unfolding with_one
halves_made w h =
    let made : whole no_names (digits_of (left_of w) ++ (codes ",," ++ digits_of (right_of w))) ≡ Ok (pair_of (left_of w) (right_of w)) =
    whole_number no_names (left_of w) (right_of w) (omega arith) (omega arith) in
    let same : pair_of (left_of w) (right_of w) ≡ w = omega arith in
    rw (made, same) refl

read_halves : (w : ℕ) → w < 2 ^ 36 → statement_of (typed_by None w) ≡ Some w
read_halves w h =
    let l = six_digits (left_of w) (omega arith) in
    let r = six_digits (right_of w) (omega arith) in
    let some = some_digits (left_of w) in
    let long = length-append (digits_of (left_of w)) (44 ∷ (44 ∷ digits_of (right_of w))) in
    read_line (codes "WORD") (digits_of (left_of w) ++ (codes ",," ++ digits_of (right_of w))) w (omega arith) (omega arith) (omega arith) (omega arith) refl
    (halves_bytes (left_of w) (right_of w) (omega arith) (omega arith)) (halves_made w h)

-- an operation by its name
operation_made : (n t : List ℕ) (op v : ℕ) → is_other n ≡ false → opcode_named n ≡ Some op
    → instruction no_names op t ≡ Ok (without_literal v) → with_one no_names no_names n t ≡ Some (Gives (Ok (without_literal v)))
unfolding with_one
operation_made n t op v other found made =
    let a = or_parts (bytes_eq n (codes "LOC")) (bytes_eq n (codes "GO") || (bytes_eq n (codes "WORD") || bytes_eq n (codes "SIXBIT"))) other in
    let b = or_parts (bytes_eq n (codes "GO")) (bytes_eq n (codes "WORD") || bytes_eq n (codes "SIXBIT")) a.1 in
    let c = or_parts (bytes_eq n (codes "WORD")) (bytes_eq n (codes "SIXBIT")) b.1 in
    let e1 = a.0 in
    let e2 = b.0 in
    let e3 = c.0 in
    let e4 = c.1 in
    rw (e1, e2, e3, e4, found, made) refl

-- the fields of a word
fields : (w : ℕ) → w < 2 ^ 36 → opcode_of w * 2 ^ 27 + ac_of w * 2 ^ 23 + (indirect_of w * 2 ^ 22 + index_of w * 2 ^ 18 + right_of w) ≡ w
fields w h = omega arith

-- a word whose opcode has a name
read_operation : (w : ℕ) (n : List ℕ) → w < 2 ^ 36 → mnemonic_of (opcode_of w) ≡ Some n → statement_of (typed_by (Some n) w) ≡ Some w
read_operation w n h named =
    let below : opcode_of w < 512 = omega arith in
    let own = stood (opcode_of w) n below named in
    let op : is_op n ≡ true = own.operation in
    let sides = both_true (nat_le 1 (length n) && nat_le (length n) 7) (list_all is_letter n && not (is_other n)) op in
    let sizes = both_true (nat_le 1 (length n)) (nat_le (length n) 7) sides.0 in
    let bytes = both_true (list_all is_letter n) (not (is_other n)) sides.1 in
    let other : is_other n ≡ false = not-true (is_other n) bytes.1 in
    let long = leb-true 1 (length n) sizes.0 in
    let short = leb-true (length n) 7 sizes.1 in
    let a : ac_of w < 16 = omega arith in
    let i : indirect_of w < 2 = omega arith in
    let x : index_of w < 16 = omega arith in
    let y : right_of w < 2 ^ 18 = omega arith in
    let size = operand_length (ac_of w) (indirect_of w) (right_of w) (index_of w) a y x in
    let made : instruction no_names (opcode_of w) (typed_operand w) ≡ Ok (without_literal w) =
    instruction_number no_names (opcode_of w) (ac_of w) (indirect_of w) (right_of w) (index_of w) a i y x
    ∙ ap (λ (v : ℕ). Ok (without_literal v)) (fields w h) in
    read_line n (typed_operand w) w long short size.0 size.1 bytes.0 (operand_bytes (ac_of w) (indirect_of w) (right_of w) (index_of w) a y x)
    (operation_made n (typed_operand w) (opcode_of w) w other (named_first n (opcode_of w) below own.first) made)

read_by : (w : ℕ) (r : Option (List ℕ)) → w < 2 ^ 36 → mnemonic_of (opcode_of w) ≡ r → statement_of (typed_by r w) ≡ Some w
read_by w None h e = read_halves w h
read_by w (Some n) h e = read_operation w n h e

-- the statement that types out a word is that word
pub read_back : (w : ℕ) → w < 2 ^ 36 → statement_of (typed w) ≡ Some w
unfolding typed
read_back w h = read_by w (mnemonic_of (opcode_of w)) h refl
