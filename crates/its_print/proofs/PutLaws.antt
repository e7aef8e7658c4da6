-- The words of a line, written one after another.
use Rattle.std.specs.Prelude.{replicate}
use Rattle.std.proofs.Common.{if◌then◌else◌, ◌≡◌, ◌≢◌, ◌<◌, ◌≤◌, ◌+◌, ◌-◌, ◌/◌, ◌%◌, ◌^◌, ◌==◌, ◌∙◌, ap, sym, ℕ, zero, suc, true, false, List, [], ◌∷◌, ◌++◌, length, get_or, take, drop, refl, add-one, append_assoc, arith}
use Rattle.std.proofs.Math.Seq.{drop-cons}
use Rattle.std.proofs.lemmas.Bool.Decides.{nat_tests}
use Rattle.its_word.specs.Text.{digits_of, spaced}
use Rattle.its_records.specs.declared.calls.Pace.{Pace}
use Rattle.its_word.proofs.DigitLaws.{digits_below_8, digits_from_8, few_digits}
use Rattle.its_word.proofs.SpacedLaws.{spaced-append}
use Rattle.std.proofs.lemmas.List.{length-append, length-replicate, take_all}
use Rattle.its_print.specs.declared.runs.Run.{Run}
use Rattle.its_print.specs.Printing.{letter_of, run_of, runs_from, runs_of}
use Rattle.its_print.specs.Runs.{paces_in}

-- a run is its digits and then its letter
pub run_text : (text digits : List ℕ) (letter : ℕ) → (text ++ 32 ∷ digits) ++ letter ∷ [] ≡ text ++ 32 ∷ (digits ++ letter ∷ [])
run_text text digits letter = append_assoc text (32 ∷ digits) (letter ∷ [])

-- a number of 64 bits has at most 22 digits
pub number_fits : (n : ℕ) → n < 2 ^ 64 → length (digits_of n) ≤ 22
number_fits n below = few_digits 22 n (omega arith) (omega arith)

-- a space and digits
pub digits_text : (text digits : List ℕ) → (text ++ 32 ∷ []) ++ digits ≡ text ++ 32 ∷ digits
digits_text text digits = append_assoc text (32 ∷ []) digits

-- the digits of a number: one, or those of an eighth of it and one more
pub one_digit : (n : ℕ) → n < 8 → length (digits_of n) ≡ 1
one_digit n small = ap length (digits_below_8 n small)

pub more_digits : (n : ℕ) → 8 ≤ n → length (digits_of n) ≡ length (digits_of (n / 8)) + 1
more_digits n large = ap length (digits_from_8 n large) ∙ length-append (digits_of (n / 8)) ((48 + n % 8) ∷ [])

pub last_digit : (n : ℕ) (text : List ℕ) → 8 ≤ n → (text ++ digits_of (n / 8)) ++ (48 + n % 8) ∷ [] ≡ text ++ digits_of n
last_digit n text large = append_assoc text (digits_of (n / 8)) ((48 + n % 8) ∷ []) ∙ ap (λ ds. text ++ ds) (sym (digits_from_8 n large))

-- more paces of the same letter
more_go_on : (c n letter : ℕ) (p : Pace) (ps : List Pace) → letter_of p ≡ letter → runs_from n letter (replicate c p ++ ps) ≡ runs_from (n + c) letter ps
more_go_on zero n letter p ps same = let e : n ≡ n + 0 = omega arith in ap (λ k. runs_from k letter ps) e
more_go_on (suc c) n letter p ps same =
    let test : (letter_of p == letter) ≡ true = grind (arith, nat_tests) in
    let e : (n + 1) + c ≡ n + suc c = omega arith in
    ap (λ b. if b then runs_from (n + 1) letter (replicate c p ++ ps) else run_of n letter ∷ runs_from 1 (letter_of p) (replicate c p ++ ps)) test
    ∙ more_go_on c (n + 1) letter p ps same
    ∙ ap (λ k. runs_from k letter ps) e

-- the first run
run_begins : (r : Run) (rs : List Run) → runs_of (paces_in (r ∷ rs)) ≡ runs_from (1 + r.more) (letter_of r.pace) (paces_in rs)
unfolding runs_of
run_begins r rs = more_go_on r.more 1 (letter_of r.pace) r.pace (paces_in rs) refl

begun_length : (r : Run) (rs : List Run) → length (paces_in (r ∷ rs)) ≡ 1 + r.more + length (paces_in rs)
begun_length r rs = omega (arith, length-append (replicate r.more r.pace) (paces_in rs), length-replicate r.more r.pace)

parted : (rs : List Run) (d : Run) → 1 ≤ length rs → rs ≡ get_or rs 0 d ∷ take (length rs - 1) (drop 1 rs)
parted [] d h = absurd (omega (arith, h))
parted (r ∷ rs) d h =
    let e : length (r ∷ rs) - 1 ≡ length rs = omega arith in
    ap (λ xs. r ∷ xs) (sym (ap (λ k. take k rs) e ∙ take_all (length rs) rs (omega arith)))

pub runs_begin : (text : List ℕ) (letter : ℕ) (rs : List Run) (d : Run) → 1 ≤ length rs → letter ≡ letter_of (get_or rs 0 d).pace
    → spaced text (runs_from (1 + (get_or rs 0 d).more) letter (paces_in (take (length rs - 1) (drop 1 rs)))) ≡ spaced text (runs_of (paces_in rs))
runs_begin text letter rs d h is =
    let r : Run = get_or rs 0 d in
    let rest : List Run = take (length rs - 1) (drop 1 rs) in
    ap (λ l. spaced text (runs_from (1 + r.more) l (paces_in rest))) is
    ∙ ap (spaced text) (sym (run_begins r rest) ∙ ap (λ xs. runs_of (paces_in xs)) (sym (parted rs d h)))

pub runs_length : (rs : List Run) (d : Run) → 1 ≤ length rs → length (paces_in rs) ≡ 1 + (get_or rs 0 d).more + length
    (paces_in (take (length rs - 1) (drop 1 rs)))
runs_length rs d h = ap (λ xs. length (paces_in xs)) (parted rs d h) ∙ begun_length (get_or rs 0 d) (take (length rs - 1) (drop 1 rs))

pub runs_none : (text : List ℕ) (rs : List Run) → length rs < 1 → text ≡ spaced text (runs_of (paces_in rs))
unfolding runs_of spaced
runs_none text [] h = refl
runs_none text (r ∷ rs) h = absurd (omega (arith, h))

taken : (rs : List Run) (i : ℕ) (d : Run) → i < length rs → drop i rs ≡ get_or rs i d ∷ drop (i + 1) rs
taken rs i d below = drop-cons rs i d below ∙ ap (λ k. get_or rs i d ∷ drop k rs) (sym (add-one i))

pub run_length : (rs : List Run) (i : ℕ) (d : Run) → i < length rs
    → length (paces_in (drop i rs)) ≡ 1 + (get_or rs i d).more + length (paces_in (drop (i + 1) rs))
run_length rs i d below = ap (λ xs. length (paces_in xs)) (taken rs i d below) ∙ begun_length (get_or rs i d) (drop (i + 1) rs)

-- a run of the same letter, and one of another, which ends the one before
pub run_goes_on : (n letter : ℕ) (rs : List Run) (i : ℕ) (d : Run) → i < length rs → letter_of (get_or rs i d).pace ≡ letter
    → runs_from n letter (paces_in (drop i rs)) ≡ runs_from (n + (1 + (get_or rs i d).more)) letter (paces_in (drop (i + 1) rs))
run_goes_on n letter rs i d below same =
    let r : Run = get_or rs i d in
    let rest : List Pace = paces_in (drop (i + 1) rs) in
    let e : n + suc r.more ≡ n + (1 + r.more) = omega arith in
    ap (λ xs. runs_from n letter (paces_in xs)) (taken rs i d below)
    ∙ more_go_on (suc r.more) n letter r.pace rest same
    ∙ ap (λ k. runs_from k letter rest) e

pub run_ends : (text : List ℕ) (n letter : ℕ) (rs : List Run) (i : ℕ) (d : Run) → i < length rs → letter_of (get_or rs i d).pace ≢ letter
    → spaced text (runs_from n letter (paces_in (drop i rs))) ≡ spaced (spaced text (run_of n letter ∷ []))
    (runs_from (1 + (get_or rs i d).more) (letter_of (get_or rs i d).pace) (paces_in (drop (i + 1) rs)))
run_ends text n letter rs i d below other =
    let r : Run = get_or rs i d in
    let rest : List Pace = paces_in (drop (i + 1) rs) in
    let test : (letter_of r.pace == letter) ≡ false = grind (arith, nat_tests) in
    ap (λ xs. spaced text (runs_from n letter (paces_in xs))) (taken rs i d below)
    ∙ ap (λ b. spaced text (if b then runs_from (n + 1) letter (replicate r.more r.pace ++ rest) else run_of n letter
    ∷ runs_from 1 (letter_of r.pace) (replicate r.more r.pace ++ rest))) test
    ∙ spaced-append text (run_of n letter ∷ []) (runs_from 1 (letter_of r.pace) (replicate r.more r.pace ++ rest))
    ∙ ap (spaced (spaced text (run_of n letter ∷ []))) (more_go_on r.more 1 (letter_of r.pace) r.pace rest refl)

-- the digits of a number of two
pub two_digits : (n : ℕ) (text : List ℕ) → 8 ≤ n → n < 64 → (text ++ (48 + n / 8) ∷ []) ++ (48 + n % 8) ∷ [] ≡ text ++ digits_of n
two_digits n text large small =
    let one : digits_of (n / 8) ≡ (48 + n / 8) ∷ [] = digits_below_8 (n / 8) (omega arith) in
    ap (λ ds. (text ++ ds) ++ (48 + n % 8) ∷ []) (sym one) ∙ last_digit n text large

pub two_counted : (n : ℕ) → 8 ≤ n → n < 64 → length (digits_of n) ≡ 2
two_counted n large small = more_digits n large ∙ ap (λ k. k + 1) (one_digit (n / 8) (omega arith))
