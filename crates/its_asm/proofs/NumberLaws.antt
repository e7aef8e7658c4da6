-- The digits of a number as an expression, and texts without marks.
use Rattle.std.proofs.Common.{◌≡◌, ◌<◌, ◌≤◌, ◌+◌, ◌-◌, ◌%◌, ◌^◌, ◌==◌, ℕ, Bool, true, false, not, nat_eq, nat_le, Some, None, Ok, List, [], ◌∷◌, ◌++◌, length, take, slice_index, refl, ◌∙◌, arith, codes, inl, inr}
use Rattle.std.specs.List.{list_all}
use Rattle.std.proofs.lemmas.Bool.{cases_Bool, le-leb}
use Rattle.std.proofs.lemmas.Bool.Decides.{nat_tests}
use Rattle.std.proofs.lemmas.List.{get_or_push, length_push}
use Rattle.std.proofs.Math.Seq.{take-append_seam}
use Rattle.its_word.specs.Text.{digits_of, is_code, is_octal, octal_value}
use Rattle.its_word.proofs.DigitLaws.{digits_are_codes, digits_are_octal, digits_value, few_digits, some_digits}
use Rattle.its_chart.specs.Text.{cut, is_mark}
use Rattle.its_chart.proofs.BytesLaws.{all_imp, both_true}
use Rattle.its_asm.specs.Text.{closed, is_symbol}
use Rattle.its_asm.specs.Expression.{Scope, expression, register, term}
use Rattle.its_asm.proofs.ReadingLaws.{summed_whole}

abbrev pub unmarked : List ℕ → ℕ → Bool
unmarked marks b = not (is_mark marks b)

pub cut_unmarked : (marks xs : List ℕ) → list_all (unmarked marks) xs ≡ true → cut marks xs ≡ None
cut_unmarked marks [] h = refl
cut_unmarked marks (b ∷ rest) h =
    elim (cases_Bool (is_mark marks b)) [
      | inl hit ↦ (let e : false ≡ true = rw hit at h in cc)
      | inr miss ↦ (let more : list_all (unmarked marks) rest ≡ true = rw miss at h in
          let none : cut marks rest ≡ None = cut_unmarked marks rest more in
          rw (miss, none) refl)
    ]

pub cut_marked : (marks xs : List ℕ) (m : ℕ) (ys : List ℕ) → list_all (unmarked marks) xs ≡ true → is_mark marks m ≡ true
    → cut marks (xs ++ m ∷ ys) ≡ Some (xs, m, ys)
cut_marked marks [] m ys h t = rw t refl
cut_marked marks (b ∷ rest) m ys h t =
    elim (cases_Bool (is_mark marks b)) [
      | inl hit ↦ (let e : false ≡ true = rw hit at h in cc)
      | inr miss ↦ (let more : list_all (unmarked marks) rest ≡ true = rw miss at h in
          let found : cut marks (rest ++ m ∷ ys) ≡ Some (rest, m, ys) = cut_marked marks rest m ys more t in
          rw (miss, found) refl)
    ]

-- a text without the byte that ends it
pub closed_last : (xs : List ℕ) (m : ℕ) → closed m (xs ++ m ∷ []) ≡ Some xs
closed_last xs m =
    let long = length_push xs m in
    let at : length (xs ++ m ∷ []) - 1 ≡ length xs = omega arith in
    let last : slice_index (xs ++ m ∷ []) (length xs) ≡ m = get_or_push xs m 0 (length xs) refl in
    let same : (m == m) ≡ true = grind (arith, nat_tests) in
    let rest : take (length xs) (xs ++ m ∷ []) ≡ xs = take-append_seam xs (m ∷ []) in
    rw (at, last, same, rest) refl

-- a text that is a number below 1000000
pub record IsNumber (n : ℕ) (t : List ℕ) : Type 0 where
  pub digits : list_all (is_code 48 55) t ≡ true
  pub octal : is_octal t ≡ true
  pub value : octal_value t ≡ n
  pub some : 1 ≤ length t
  pub short : length t ≤ 6

pub digits_number : (n : ℕ) → n < 2 ^ 18 → IsNumber n (digits_of n)
digits_number n h = record {
  digits = digits_are_codes n;
  octal = digits_are_octal n (omega arith);
  value = digits_value n;
  some = some_digits n;
  short = few_digits 6 n (omega arith) (omega arith);
}

pub first_digit : (d : ℕ) (ds : List ℕ) → list_all (is_code 48 55) (d ∷ ds) ≡ true → is_code 48 55 d ≡ true
first_digit d ds h = (both_true (is_code 48 55 d) (list_all (is_code 48 55) ds) h).0

pub term_number : (s : Scope) (n : ℕ) (t : List ℕ) → n < 2 ^ 18 → IsNumber n t → term s t ≡ Ok n
unfolding term is_symbol
term_number s n [] h k = let some = k.some in absurd (omega arith)
term_number s n (d ∷ ds) h k =
    let digit = first_digit d ds k.digits in
    let dot : nat_eq d 46 ≡ false = grind (arith, nat_tests) in
    let letter : is_code 65 90 d ≡ false = grind (arith, nat_tests) in
    let six : nat_le (length (d ∷ ds)) 6 ≡ true = le-leb (length (d ∷ ds)) 6 k.short in
    let whole : n % 2 ^ 18 ≡ n = omega arith in
    let octal = k.octal in
    let value = k.value in
    rw (dot, letter, octal, six, value, whole) refl

plus_free : (b : ℕ) → is_code 48 55 b ≡ true → unmarked (codes "+-") b ≡ true
plus_free b h = grind (arith, nat_tests)

pub expression_number : (s : Scope) (n : ℕ) (t : List ℕ) → n < 2 ^ 18 → IsNumber n t → expression s t ≡ Ok n
expression_number s n t h k =
    let free : cut (codes "+-") t ≡ None = cut_unmarked (codes "+-") t (all_imp (is_code 48 55) (unmarked (codes "+-")) plus_free t k.digits) in
    let one : term s t ≡ Ok n = term_number s n t h k in
    let whole : (0 + n) % 2 ^ 18 ≡ n = omega arith in
    summed_whole s (Ok 0) 43 t free ∙ rw (one, whole) refl

pub register_number : (s : Scope) (n : ℕ) (t : List ℕ) → n ≤ 15 → IsNumber n t → register s t ≡ Ok n
register_number s n t h k =
    let one : expression s t ≡ Ok n = expression_number s n t (omega arith) k in
    let few : nat_le n 15 ≡ true = le-leb n 15 h in
    rw (one, few) refl
