-- What is written of a field is read as the field.
use Rattle.std.proofs.Common.{◌≡◌, ◌<◌, ◌≤◌, ◌+◌, ◌-◌, ◌*◌, ◌/◌, ◌^◌, ◌==◌, ◌&&◌, ap, sym, ℕ, suc, true, false, leb, Option, Some, None, List, [], ◌∷◌, ◌++◌, length, map, get_or, refl, ◌∙◌, arith, codes, lit≤, IfSome, bytes_eq}
use Rattle.std.specs.List.{list_all}
use Rattle.std.proofs.lemmas.Bool.{le-leb}
use Rattle.std.proofs.lemmas.Bool.Decides.{nat_tests}
use Rattle.std.proofs.lemmas.List.{get_or_push, length-append}
use Rattle.std.proofs.lemmas.List.Folds.{list_all-append}
use Rattle.std.proofs.Math.Nat.{div-eq_of_lt}
use Rattle.std.proofs.Math.Seq.{take-append_seam}
use Rattle.its_word.specs.Text.{digits_of, octal6_of, octal12_of, is_code, is_octal, octal_value}
use Rattle.its_word.proofs.DigitLaws.{digits_are_codes, digits_are_octal, digits_value, few_digits, some_digits}
use Rattle.its_word.proofs.SpacedLaws.{room_of}
use Rattle.its_word.proofs.TextLaws.{octal12_reads}
use Rattle.its_word.proofs.WordsLaws.{IsRun}
use Rattle.its_session.specs.Fields.{before_slash, is_place}
use Rattle.its_session.specs.Grammar.{is_comment}
use Rattle.its_session.specs.Names.{console_text}
use Rattle.its_session.proofs.LineLaws.{AllRuns}
use Rattle.its_session.proofs.NameLaws.{both, some_from_test}

-- digits that are read as a number
pub record Reads (digits : List ℕ) (n : ℕ) : Type 0 where
  pub formed : is_octal digits ≡ true
  pub value : octal_value digits ≡ n
  pub codes : list_all (is_code 48 55) digits ≡ true
  pub run : IsRun digits
  pub short : length digits ≤ 12

digit_visible : (c : ℕ) → is_code 48 55 c ≡ true → is_code 33 126 c ≡ true
digit_visible c h = grind (arith, nat_tests)

pub digits_visible : (ds : List ℕ) → list_all (is_code 48 55) ds ≡ true → list_all (is_code 33 126) ds ≡ true
digits_visible [] h = refl
digits_visible (d ∷ ds) h =
    let parts = both (is_code 48 55 d) (list_all (is_code 48 55) ds) h in
    rw (digit_visible d parts.0, digits_visible ds parts.1) refl

pub number_reads : (n : ℕ) → n < 2 ^ 36 → Reads (digits_of n) n
number_reads n below = record {
  formed = digits_are_octal n below;
  value = digits_value n;
  codes = digits_are_codes n;
  run = record { some = some_digits n; visible = digits_visible (digits_of n) (digits_are_codes n) };
  short = few_digits 12 n (omega arith) (omega arith);
}

pub length-octal12 : (w : ℕ) → length (octal12_of w) ≡ 12
unfolding octal12_of
length-octal12 w = refl

octal_codes : (digits : List ℕ) → is_octal digits ≡ true → list_all (is_code 48 55) digits ≡ true
unfolding is_octal
octal_codes digits h = (both (leb 1 (length digits) && leb (length digits) 12) (list_all (is_code 48 55) digits) h).1

pub word_reads : (w : ℕ) → w < 2 ^ 36 → Reads (octal12_of w) w
word_reads w below =
    let reads = octal12_reads w below in
    let formed : is_octal (octal12_of w) ≡ true = reads.0 in
    let codes = octal_codes (octal12_of w) formed in
    record {
      formed = formed;
      value = reads.1;
      codes = codes;
      run = record { some = omega (arith, length-octal12 w); visible = digits_visible (octal12_of w) codes };
      short = omega (arith, length-octal12 w);
    }

-- the digits of an address are the last six of its word, before which are zeros
length-octal6 : (a : ℕ) → length (octal6_of a) ≡ 6
unfolding octal6_of
length-octal6 a = refl

zeros_before : (a : ℕ) → a < 2 ^ 18 → octal12_of a ≡ 48 ∷ 48 ∷ 48 ∷ 48 ∷ 48 ∷ 48 ∷ octal6_of a
unfolding octal12_of octal6_of
zeros_before a below =
    let none : (k : ℕ) → 2 ^ 18 ≤ k → a / k ≡ 0 = λ k h. div-eq_of_lt (omega arith) in
    rw (
      none (2 ^ 33) (lit≤ tt),
      none (2 ^ 30) (lit≤ tt),
      none (2 ^ 27) (lit≤ tt),
      none (2 ^ 24) (lit≤ tt),
      none (2 ^ 21) (lit≤ tt),
      none (2 ^ 18) (lit≤ tt),
    ) refl

value_behind_zeros : (ds : List ℕ) → octal_value (48 ∷ 48 ∷ 48 ∷ 48 ∷ 48 ∷ 48 ∷ ds) ≡ octal_value ds
unfolding octal_value
value_behind_zeros ds = refl

address_codes : (a : ℕ) → a < 2 ^ 18 → list_all (is_code 48 55) (octal6_of a) ≡ true
address_codes a below = ap (list_all (is_code 48 55)) (sym (zeros_before a below)) ∙ (word_reads a (omega arith)).codes

address_formed : (a : ℕ) → a < 2 ^ 18 → is_octal (octal6_of a) ≡ true
unfolding is_octal
address_formed a below = rw (length-octal6 a, address_codes a below) refl

pub address_reads : (a : ℕ) → a < 2 ^ 18 → Reads (octal6_of a) a
address_reads a below = record {
  formed = address_formed a below;
  value = sym (value_behind_zeros (octal6_of a)) ∙ ap octal_value (sym (zeros_before a below)) ∙ (word_reads a (omega arith)).value;
  codes = address_codes a below;
  run = record { some = omega (arith, length-octal6 a); visible = digits_visible (octal6_of a) (address_codes a below) };
  short = omega (arith, length-octal6 a);
}

-- a word that is written out
pub word : (w : List ℕ) → leb 1 (length w) ≡ true → list_all (is_code 33 126) w ≡ true → IsRun w
word w some visible = record { some = some_from_test (length w) some; visible = visible }

pub console_run : (o : Option ℕ) → IfSome o (λ c. c ≤ 7) → IsRun (console_text o)
console_run None h = word (codes "-") refl refl
console_run (Some c) h = (number_reads c (omega (arith, h))).run

pub console_short : (o : Option ℕ) → IfSome o (λ c. c ≤ 7) → length (console_text o) ≤ 12
console_short None h = omega arith
console_short (Some c) h = (number_reads c (omega (arith, h))).short

pub digit_above : (k d : ℕ) → is_code 48 55 d ≡ true → 56 ≤ k → (d == k) ≡ false
digit_above k d digit above = grind (arith, nat_tests)

pub digit_below : (k d : ℕ) → is_code 48 55 d ≡ true → k ≤ 47 → (d == k) ≡ false
digit_below k d digit below = grind (arith, nat_tests)

digits_no_dash : (ds : List ℕ) → 1 ≤ length ds → list_all (is_code 48 55) ds ≡ true → bytes_eq ds (codes "-") ≡ false
digits_no_dash [] some h = absurd (omega arith)
digits_no_dash (d ∷ ds) some h =
    let parts = both (is_code 48 55 d) (list_all (is_code 48 55) ds) h in
    rw (digit_below 45 d parts.0 (lit≤ tt)) refl

pub number_no_dash : (n : ℕ) → bytes_eq (digits_of n) (codes "-") ≡ false
number_no_dash n = digits_no_dash (digits_of n) (some_digits n) (digits_are_codes n)

-- the numbers of a list
unfoldable pub Below : ℕ → List ℕ → Type 0
Below m [] = Unit {0}
Below m (w ∷ ws) = (w < m) × Below m ws

pub below_each : (m : ℕ) (ws : List ℕ) → ((k : ℕ) → k < length ws → get_or ws k 0 < m) → Below m ws
unfolding Below
below_each m [] h = tt
below_each m (w ∷ ws) h = (h 0 (omega arith), below_each m ws (λ k below. h (suc k) (omega arith)))

pub numbers_are_octal : (ws : List ℕ) → Below (2 ^ 36) ws → list_all is_octal (map digits_of ws) ≡ true
unfolding Below
numbers_are_octal [] h = refl
numbers_are_octal (w ∷ ws) h = rw ((number_reads w h.0).formed, numbers_are_octal ws h.1) refl

pub numbers_again : (ws : List ℕ) → map octal_value (map digits_of ws) ≡ ws
numbers_again [] = refl
numbers_again (w ∷ ws) = rw (digits_value w, numbers_again ws) refl

pub number_runs : (ws : List ℕ) → Below (2 ^ 36) ws → AllRuns (map digits_of ws)
unfolding Below
number_runs [] h = tt
number_runs (w ∷ ws) h = ((number_reads w h.0).run, number_runs ws h.1)

pub room_of_numbers : (k : ℕ) (ws : List ℕ) → 1 ≤ k → Below (8 ^ k) ws → room_of (map digits_of ws) ≤ (1 + k) * length ws
unfolding Below
room_of_numbers k [] some h = omega arith
room_of_numbers k (w ∷ ws) some h = omega (arith, few_digits k w some h.0, room_of_numbers k ws some h.1)

-- machine words of a list
pub words_are_octal : (ws : List ℕ) → Below (2 ^ 36) ws → list_all is_octal (map octal12_of ws) ≡ true
unfolding Below
words_are_octal [] h = refl
words_are_octal (w ∷ ws) h = rw ((word_reads w h.0).formed, words_are_octal ws h.1) refl

pub values_again : (ws : List ℕ) → Below (2 ^ 36) ws → map octal_value (map octal12_of ws) ≡ ws
unfolding Below
values_again [] h = refl
values_again (w ∷ ws) h = rw ((word_reads w h.0).value, values_again ws h.1) refl

pub word_runs : (ws : List ℕ) → Below (2 ^ 36) ws → AllRuns (map octal12_of ws)
unfolding Below
word_runs [] h = tt
word_runs (w ∷ ws) h = ((word_reads w h.0).run, word_runs ws h.1)

pub room_of_words : (ws : List ℕ) → room_of (map octal12_of ws) ≡ 13 * length ws
room_of_words [] = refl
room_of_words (w ∷ ws) = omega (arith, length-octal12 w, room_of_words ws)

pub below_more : (m n : ℕ) (ws : List ℕ) → m ≤ n → Below m ws → Below n ws
unfolding Below
below_more m n [] less h = tt
below_more m n (w ∷ ws) less h = (omega (arith, h.0), below_more m n ws less h.1)

pub bytes_ranged_again : (bs : List ℕ) → Below 128 bs → list_all (λ w. leb (octal_value w) 127) (map digits_of bs) ≡ true
unfolding Below
bytes_ranged_again [] h = refl
bytes_ranged_again (b ∷ bs) h =
    let small : leb b 127 ≡ true = le-leb b 127 (omega (arith, h.0)) in
    rw (digits_value b, small, bytes_ranged_again bs h.1) refl

-- a first word of digits and `/`
pub before_again : (ds : List ℕ) → before_slash (ds ++ 47 ∷ []) ≡ ds
before_again ds =
    let size : length (ds ++ 47 ∷ []) - 1 ≡ length ds = omega (arith, length-append ds (47 ∷ [])) in
    rw size (take-append_seam ds (47 ∷ []))

pub place_again : (ds : List ℕ) → is_octal ds ≡ true → is_place (ds ++ 47 ∷ []) ≡ true
place_again ds h =
    let size : length (ds ++ 47 ∷ []) - 1 ≡ length ds = omega (arith, length-append ds (47 ∷ [])) in
    rw (before_again ds, h, size, get_or_push ds 47 0 (length ds) refl) refl

pub digits_no_comment : (ds : List ℕ) → 1 ≤ length ds → list_all (is_code 48 55) ds ≡ true → is_comment (ds ++ 47 ∷ []) ≡ false
digits_no_comment [] some h = absurd (omega arith)
digits_no_comment (d ∷ ds) some h = digit_above 59 d (both (is_code 48 55 d) (list_all (is_code 48 55) ds) h).0 (lit≤ tt)

pub place_run : (ds : List ℕ) → IsRun ds → IsRun (ds ++ 47 ∷ [])
place_run ds run = record {
  some = omega (arith, length-append ds (47 ∷ []), run.some);
  visible = rw (list_all-append (is_code 33 126) ds (47 ∷ []), run.visible) refl;
}
