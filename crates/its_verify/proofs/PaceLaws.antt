-- Reading the letters of a `T` line that was printed gives them back.
use Rattle.std.proofs.Common.{◌≡◌, ◌<◌, ◌≤◌, ◌+◌, ◌*◌, ◌-◌, ◌/◌, ◌%◌, ◌==◌, ℕ, zero, suc, true, false, None, List, [], ◌∷◌, ◌++◌, length, replicate, refl, ap, ◌∙◌, inl, inr, arith, append_assoc}
use Rattle.std.proofs.lemmas.Bool.{cases_Bool, cases_lt, false≢true, and_parts}
use Rattle.std.proofs.lemmas.Bool.Decides.{nat_tests}
use Rattle.std.proofs.lemmas.List.{replicate_more}
use Rattle.std.specs.List.{list_all}
use Rattle.std.specs.Prelude.{codes}
use Rattle.its_word.specs.Text.{digits_of, is_code}
use Rattle.its_records.specs.declared.calls.Pace.{Pace}
use Rattle.its_records.specs.declared.calls.Pace.TheVariants.{Step, Work, Wait, Off}
use Rattle.its_word.proofs.DigitLaws.{digits_below_8, digits_from_8, digits_are_codes}
use Rattle.its_print.specs.Printing.{Ticks, letter_of, run_of, runs_from, runs_of, text_of_line}
use Rattle.its_verify.proofs.BehindLaws.{behind, spaced_behind}
use Rattle.its_verify.specs.Letters.{letter_at, counted, paces_from}

-- a byte that is a letter
at_letter : (most n : ℕ) (p : Pace) (rest : List ℕ) → paces_from most n (letter_of p ∷ rest) ≡ replicate n p ++ paces_from most 0 rest
at_letter most n Step rest = refl
at_letter most n Work rest = refl
at_letter most n Wait rest = refl
at_letter most n Off rest = refl

no_letter : (d : ℕ) → is_code 48 55 d ≡ true → letter_at d ≡ None
no_letter d h =
    let step : (d == 42) ≡ false = grind (arith, nat_tests) in
    let work : (d == 46) ≡ false = grind (arith, nat_tests) in
    let wait : (d == 119) ≡ false = grind (arith, nat_tests) in
    let off : (d == 45) ≡ false = grind (arith, nat_tests) in
    rw (step, work, wait, off) refl

-- a digit, as long as the number stays within the bound
counts_on : (most n d : ℕ) → d < 8 → n * 8 + d ≤ most → counted most n (48 + d) ≡ n * 8 + d
counts_on most n d small few =
    let is : is_code 48 55 (48 + d) ≡ true = grind (arith, nat_tests) in
    let less : 48 + d - 48 ≡ d = omega arith in
    rw (is, less) (omega arith)

at_digit : (most n d m : ℕ) (rest : List ℕ) → d < 8 → m ≡ n * 8 + d → m ≤ most → paces_from most n ((48 + d) ∷ rest) ≡ paces_from most m rest
at_digit most n d m rest small is few = rw (no_letter (48 + d) (grind (arith, nat_tests)), counts_on most n d small (omega (arith, is, few)), is) refl

-- the digits of a number
digits_by_fuel : (f most n : ℕ) (rest : List ℕ) → n ≤ f → n ≤ most → paces_from most 0 (digits_of n ++ rest) ≡ paces_from most n rest
digits_by_fuel zero most n rest h few = rw (digits_below_8 n (omega arith)) (at_digit most 0 n n rest (omega arith) (omega arith) few)
digits_by_fuel (suc f) most n rest h few =
    elim (cases_lt n 8) [
      | inl small ↦ rw (digits_below_8 n small) (at_digit most 0 n n rest small (omega arith) few)
      | inr large ↦
          rw (digits_from_8 n large, append_assoc (digits_of (n / 8)) ((48 + n % 8) ∷ []) rest)
          (digits_by_fuel f most (n / 8) ((48 + n % 8) ∷ rest) (omega arith) (omega arith)
          ∙ at_digit most (n / 8) (n % 8) n rest (omega arith) (omega arith) few)
    ]

at_number : (most n : ℕ) (rest : List ℕ) → n ≤ most → paces_from most 0 (digits_of n ++ rest) ≡ paces_from most n rest
at_number most n rest few = digits_by_fuel n most n rest (omega arith) few

-- a run of one letter
at_run : (most n : ℕ) (p : Pace) (rest : List ℕ) → n ≤ most → paces_from most 0 (run_of n (letter_of p) ++ rest) ≡ replicate n p ++ paces_from most 0 rest
at_run most n p rest few =
    rw (append_assoc (digits_of n) (letter_of p ∷ []) rest) (at_number most n (letter_of p ∷ rest) few ∙ at_letter most n p rest)

-- a letter is its byte's only one
same_letter : (p q : Pace) → (letter_of p == letter_of q) ≡ true → p ≡ q
same_letter Step Step h = refl
same_letter Work Work h = refl
same_letter Wait Wait h = refl
same_letter Off Off h = refl
same_letter _ _ h = absurd (false≢true h)

one_more : (n : ℕ) (p : Pace) (ps : List Pace) → replicate (n + 1) p ++ ps ≡ replicate n p ++ p ∷ ps
one_more n p ps = rw (← replicate_more n p) (append_assoc (replicate n p) (p ∷ []) ps)

-- the runs of some letters, before which came n of one
at_runs : (most n : ℕ) (q : Pace) (ps : List Pace) → n + length ps ≤ most
    → paces_from most 0 (behind (runs_from n (letter_of q) ps) (10 ∷ [])) ≡ replicate n q ++ ps
at_runs most n q [] few = at_run most n q (10 ∷ []) (omega arith)
at_runs most n q (p ∷ ps) few =
    elim (cases_Bool (letter_of p == letter_of q)) [
      | inl same ↦
          (let is : p ≡ q = same_letter p q same in
          rw (same, is) (at_runs most (n + 1) q ps (omega arith) ∙ one_more n q ps))
      | inr other ↦
          rw other
          (at_run most n q (behind (runs_from 1 (letter_of p) ps) (10 ∷ [])) (omega arith)
          ∙ ap (λ xs. replicate n q ++ xs) (at_runs most 1 p ps (omega arith)))
    ]

-- a number before a space or LF is none of a run
digits_skipped : (most n : ℕ) (ds : List ℕ) (c : ℕ) (rest : List ℕ) → list_all (is_code 48 55) ds ≡ true → letter_at c ≡ None → is_code 48 55 c ≡ false
    → paces_from most n (ds ++ c ∷ rest) ≡ paces_from most 0 rest
digits_skipped most n [] c rest all none other = rw (none, other) refl
digits_skipped most n (d ∷ ds) c rest all none other =
    let h = and_parts (is_code 48 55 d) (list_all (is_code 48 55) ds) all in
    let no : letter_at d ≡ None = no_letter d h.0 in
    rw no (digits_skipped most (counted most n d) ds c rest h.1 none other)

slot_skipped : (most s : ℕ) (ws : List (List ℕ)) → paces_from most 0 (digits_of s ++ behind ws (10 ∷ [])) ≡ paces_from most 0 (behind ws (10 ∷ []))
slot_skipped most s [] = digits_skipped most 0 (digits_of s) 10 [] (digits_are_codes s) refl refl
slot_skipped most s (w ∷ ws) = digits_skipped most 0 (digits_of s) 32 (w ++ behind ws (10 ∷ [])) (digits_are_codes s) refl refl

all_runs : (most : ℕ) (ps : List Pace) → length ps ≤ most → paces_from most 0 (behind (runs_of ps) (10 ∷ [])) ≡ ps
unfolding runs_of
all_runs most [] few = refl
all_runs most (p ∷ ps) few = at_runs most 1 p ps (omega arith)

-- reading the letters of a printed line
pub paces_again : (k s : ℕ) (ps : List Pace) → length ps ≤ k → paces_from k 0 (text_of_line (Ticks s ps)) ≡ ps
unfolding text_of_line
paces_again k s ps few = rw (spaced_behind (codes "T") (digits_of s ∷ runs_of ps) (10 ∷ [])) (slot_skipped k s (runs_of ps) ∙ all_runs k ps few)
