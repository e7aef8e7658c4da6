-- Numbers and names as text.
use Rattle.std.proofs.Common.{◌≡◌, ◌<◌, ◌≤◌, ◌+◌, ◌*◌, ◌%◌, ◌/◌, map, ◌++◌, ◌∷◌, [], ◌-◌, ◌^◌, ℕ, List, true, IsTrue, length, take, arith, add-one, refl, zero, suc, lit<, lit≤, ◌∙◌}
use Rattle.std.proofs.Math.Nat.{mul-lt-mul_of_pos_right, pow-le-pow_right, pow-suc, div-div-eq-div-mul}
use Rattle.std.proofs.lemmas.Nat.{pow_pos, pow-add}
use Rattle.std.proofs.lemmas.Bool.Decides.{nat_tests}
use Rattle.std.proofs.lemmas.List.{take_all}
use Rattle.std.proofs.lemmas.List.FromFn.{map-range_with_len_more}
use Rattle.std.proofs.lemmas.List.Sums.{fold-append}
use Rattle.std.specs.List.{list_all, range_with_len}
use Rattle.its_word.specs.Text.{is_code, is_name, is_octal, is_text, number_of, octal12_of, octal_value, sixbit_of}

-- the numbers of few digits, and how another digit makes them grow
pub below_8 : (i : ℕ) → i ≤ 12 → (8 ^ i ≤ 8 ^ 12) × (8 ^ (i + 1) ≡ 8 ^ i * 8) × (i < 12 → 8 ^ i ≤ 8 ^ 11)
below_8 i h =
    let p : 8 ^ i ≤ 8 ^ 12 = pow-le-pow_right (omega arith) h in
    let q : 8 ^ (i + 1) ≡ 8 ^ i * 8 = rw add-one (pow-suc 8 i) in
    (p, q, λ lt. (let k : i ≤ 11 = omega arith in pow-le-pow_right (omega arith) k))

pub below_64 : (i : ℕ) → i ≤ 6 → (64 ^ i ≤ 64 ^ 6) × (64 ^ (i + 1) ≡ 64 ^ i * 64) × (i < 6 → 64 ^ i ≤ 64 ^ 5)
below_64 i h =
    let p : 64 ^ i ≤ 64 ^ 6 = pow-le-pow_right (omega arith) h in
    let q : 64 ^ (i + 1) ≡ 64 ^ i * 64 = rw add-one (pow-suc 64 i) in
    (p, q, λ lt. (let k : i ≤ 5 = omega arith in pow-le-pow_right (omega arith) k))

-- a text of enough and not too many characters, all in range
text_holds : (most low high : ℕ) (text : List ℕ) → 0 < length text → length text ≤ most → list_all (is_code low high) text ≡ true
    → IsTrue (is_text most low high text)
text_holds most low high text some few ok = rw ok (grind (arith, nat_tests))

-- all the digits of a number are read
pub octal_read : (text : List ℕ) (i n : ℕ) → 0 < length text → length text ≤ 12 → i ≡ length text → n ≡ number_of 8 48 (take i text) → n < 8 ^ i
    → list_all (is_code 48 55) (take i text) ≡ true → IsTrue (is_octal text) × (n % 2 ^ 36 ≡ octal_value text)
unfolding is_octal octal_value
octal_read text i n some few e value below digits =
    let all : take i text ≡ text = take_all i text (omega arith) in
    let power : 8 ^ i ≤ 2 ^ 36 = (below_8 i (omega arith)).0 in
    let sum : n ≡ number_of 8 48 text = rw all at value in
    (text_holds 12 48 55 text some few (rw all at digits), omega (arith, sum, power))

-- six bits for each character and for each one that lacks
fill_up : (i : ℕ) → i ≤ 6 → 64 ^ i * 2 ^ (6 * (6 - i)) ≡ 2 ^ 36
fill_up (suc (suc (suc (suc (suc (suc (suc i))))))) h = absurd (omega arith)
fill_up _ h = refl

-- all the characters of a name are read
pub name_read : (text : List ℕ) (i n : ℕ) → 0 < length text → length text ≤ 6 → i ≡ length text → n ≡ number_of 64 32 (take i text) → n < 64 ^ i
    → list_all (is_code 33 95) (take i text) ≡ true → IsTrue (is_name text) × (n * 2 ^ (6 * (6 - length text)) % 2 ^ 64 % 2 ^ 36 ≡ sixbit_of text)
unfolding is_name sixbit_of
name_read text i n some few e value below characters =
    let all : take i text ≡ text = take_all i text (omega arith) in
    let sum : n ≡ number_of 64 32 text = rw all at value in
    let power : n * 2 ^ (6 * (6 - i)) < 64 ^ i * 2 ^ (6 * (6 - i)) = mul-lt-mul_of_pos_right below (pow_pos (6 * (6 - i))) in
    let whole : n * 2 ^ (6 * (6 - i)) < 2 ^ 36 = omega (arith, power, fill_up i (omega arith)) in
    let less : n * 2 ^ (6 * (6 - i)) % 2 ^ 64 % 2 ^ 36 ≡ n * 2 ^ (6 * (6 - i)) = omega arith in
    (text_holds 6 33 95 text some few (rw all at characters), rw (← e, ← sum) less)

-- the digit k of a word, from the left
abbrev digit_of : ℕ → ℕ → ℕ
digit_of w k = 48 + w / 2 ^ (33 - 3 * k) % 8

digit_more : (w m : ℕ) → m < 12 → w / 2 ^ (36 - 3 * m) * 8 + w / 2 ^ (33 - 3 * m) % 8 ≡ w / 2 ^ (33 - 3 * m)
digit_more w m few =
    let e : 36 - 3 * m ≡ 33 - 3 * m + 3 = omega arith in
    rw (e, pow-add, ← div-div-eq-div-mul) (omega arith)

-- the first m digits are the word without its low bits
first_digits : (w m : ℕ) → w < 2 ^ 36 → m ≤ 12 → number_of 8 48 (map (digit_of w) (range_with_len 0 m)) ≡ w / 2 ^ (36 - 3 * m)
first_digits w zero below few = omega arith
first_digits w (suc m) below few =
    let before : number_of 8 48 (map (digit_of w) (range_with_len 0 m)) ≡ w / 2 ^ (36 - 3 * m) = first_digits w m below (omega arith) in
    let more : map (digit_of w) (range_with_len 0 (m + 1)) ≡ map (digit_of w) (range_with_len 0 m) ++ digit_of w m
    ∷ [] = map-range_with_len_more (digit_of w) 0 m m (omega arith) in
    let sum = digit_more w m (omega arith) in
    let e : 36 - 3 * (m + 1) ≡ 33 - 3 * m = omega arith in
    let next : number_of 8 48 (map (digit_of w) (range_with_len 0 (m + 1))) ≡ w / 2 ^ (36 - 3 * (m + 1)) =
    rw (more, e, fold-append, before) (omega (arith, sum)) in
    rw add-one at next

digit_is_code : (w k : ℕ) → is_code 48 55 (digit_of w k) ≡ true
digit_is_code w k = grind (arith, nat_tests)

all_digits : (w : ℕ) (ks : List ℕ) → list_all (is_code 48 55) (map (digit_of w) ks) ≡ true
all_digits w [] = refl
all_digits w (k ∷ ks) = rw (digit_is_code w k) (all_digits w ks)

-- the twelve digits of a word are a number, and that number is the word
pub octal12_reads : (w : ℕ) → w < 2 ^ 36 → IsTrue (is_octal (octal12_of w)) × (octal_value (octal12_of w) ≡ w)
unfolding octal12_of is_octal octal_value
octal12_reads w below =
    let whole : w / 1 ≡ w = omega arith in
    (text_holds 12 48 55 (octal12_of w) (lit< tt) (lit≤ tt) (all_digits w (range_with_len 0 12)), first_digits w 12 below (lit≤ tt) ∙ whole)
