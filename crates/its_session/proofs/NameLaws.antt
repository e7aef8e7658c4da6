-- The characters of a name's word are the name.
use Rattle.std.proofs.Common.{◌≡◌, ◌<◌, ◌≤◌, ◌+◌, ◌-◌, ◌*◌, ◌/◌, ◌%◌, ◌^◌, ◌==◌, ◌&&◌, ℕ, zero, suc, Bool, true, false, leb, List, [], ◌∷◌, length, fold, refl, sym, subst, arith}
use Rattle.std.specs.List.{list_all}
use Rattle.std.proofs.lemmas.Bool.Decides.{nat_tests}
use Rattle.std.proofs.lemmas.Nat.{mul-add-lt}
use Rattle.std.proofs.Math.Nat.{pow-suc}
use Rattle.its_word.specs.Text.{is_code, is_name, sixbit_of}
use Rattle.its_session.specs.Fits.{IsNameWord}
use Rattle.its_session.specs.Writing.{characters, name_of}
use Rattle.its_word.proofs.WordsLaws.{IsRun}

pub some_from_test : (n : ℕ) → leb 1 n ≡ true → 1 ≤ n
some_from_test n h = grind (arith, nat_tests)

abbrev more : ℕ → ℕ → ℕ
more n c = n * 64 + (c - 32)

-- the first character counts most
first_counts : (m : ℕ) (cs : List ℕ) → fold more m cs ≡ m * 64 ^ length cs + fold more 0 cs
first_counts m [] = omega arith
first_counts m (c ∷ cs) =
    rw (pow-suc 64 (length cs)) (omega (arith, first_counts (more m c) cs, first_counts (more 0 c) cs))

pub both : (a b : Bool) → (a && b) ≡ true → (a ≡ true) × (b ≡ true)
both true b h = (refl, h)
both false b h = cc

code_low : (c : ℕ) → is_code 33 95 c ≡ true → 33 ≤ c
code_low c h = grind (arith, nat_tests)

code_high : (c : ℕ) → is_code 33 95 c ≡ true → c ≤ 95
code_high c h = grind (arith, nat_tests)

abbrev are_codes : List ℕ → Bool
are_codes cs = list_all (is_code 33 95) cs

below : (cs : List ℕ) → are_codes cs ≡ true → fold more 0 cs < 64 ^ length cs
below [] h = omega arith
below (c ∷ cs) h =
    let parts = both (is_code 33 95 c) (are_codes cs) h in
    let high : c - 32 < 64 = omega (arith, code_high c parts.0) in
    rw (pow-suc 64 (length cs)) (omega (arith, first_counts (more 0 c) cs, mul-add-lt (c - 32) (64 ^ length cs) (fold more 0 cs) 64 high (below cs parts.1)))

-- a character, and then a number of the k characters after it
step_is : (k c n : ℕ) → k ≤ 5 → 33 ≤ c → c ≤ 95 → n < 64 ^ k
    → (((c - 32) * 64 ^ k + n) * 2 ^ (6 * (6 - suc k)) / 2 ^ 30 ≡ c - 32)
    × (((c - 32) * 64 ^ k + n) * 2 ^ (6 * (6 - suc k)) * 2 ^ 6 % 2 ^ 36 ≡ n * 2 ^ (6 * (6 - k)))
step_is (suc (suc (suc (suc (suc (suc k)))))) c n h low high small = absurd (omega arith)
step_is _ c n h low high small = (omega arith, omega arith)

-- the word of some characters, in its top
abbrev word_of : List ℕ → ℕ
word_of cs = fold more 0 cs * 2 ^ (6 * (6 - length cs))

word_parts : (c : ℕ) (cs : List ℕ) → length cs ≤ 5 → are_codes (c ∷ cs) ≡ true → (word_of (c ∷ cs) / 2 ^ 30 ≡ c - 32)
    × (word_of (c ∷ cs) * 2 ^ 6 % 2 ^ 36 ≡ word_of cs)
word_parts c cs few h =
    let parts = both (is_code 33 95 c) (are_codes cs) h in
    let first : fold more 0 (c ∷ cs) ≡ (c - 32) * 64 ^ length cs + fold more 0 cs = omega (arith, first_counts (more 0 c) cs) in
    rw first (step_is (length cs) c (fold more 0 cs) few (code_low c parts.0) (code_high c parts.0) (below cs parts.1))

read_characters : (n : ℕ) (cs : List ℕ) → length cs ≤ n → n ≤ 6 → are_codes cs ≡ true → characters n (word_of cs) ≡ cs
unfolding characters
read_characters zero [] h few ok = refl
read_characters zero (c ∷ cs) h few ok = absurd (omega arith)
read_characters (suc n) [] h few ok = refl
read_characters (suc n) (c ∷ cs) h few ok =
    let parts = word_parts c cs (omega arith) ok in
    let codes_ok = both (is_code 33 95 c) (are_codes cs) ok in
    let low = code_low c codes_ok.0 in
    let some : ((c - 32) == 0) ≡ false = grind (arith, nat_tests) in
    let same : 32 + (c - 32) ≡ c = omega arith in
    rw (parts.0, parts.1, some, same, read_characters n cs (omega arith) (omega arith) codes_ok.1) refl

-- what a name's word says: its characters, at most six, are the name
pub record IsName (w : ℕ) (text : List ℕ) : Type 0 where
  pub formed : is_name text ≡ true
  pub coded : sixbit_of text ≡ w
  pub run : IsRun text
  pub short : length text ≤ 6

in_word : (c : ℕ) → is_code 33 95 c ≡ true → is_code 33 126 c ≡ true
in_word c h = grind (arith, nat_tests)

pub codes_in_word : (cs : List ℕ) → are_codes cs ≡ true → list_all (is_code 33 126) cs ≡ true
codes_in_word [] h = refl
codes_in_word (c ∷ cs) h =
    let parts = both (is_code 33 95 c) (are_codes cs) h in
    rw (in_word c parts.0, codes_in_word cs parts.1) refl

few_from_test : (n : ℕ) → leb n 6 ≡ true → n ≤ 6
few_from_test n h = grind (arith, nat_tests)

name_is : (text : List ℕ) → is_name text ≡ true → (1 ≤ length text) × (length text ≤ 6) × (are_codes text ≡ true)
unfolding is_name
name_is text h =
    let sizes = both (leb 1 (length text) && leb (length text) 6) (are_codes text) h in
    let size = both (leb 1 (length text)) (leb (length text) 6) sizes.0 in
    (some_from_test (length text) size.0, few_from_test (length text) size.1, sizes.1)

name_again : (text : List ℕ) → is_name text ≡ true → name_of (sixbit_of text) ≡ text
unfolding sixbit_of
name_again text h =
    let parts = name_is text h in
    read_characters 6 text parts.1 (omega arith) parts.2

pub name_reads : (w : ℕ) → IsNameWord w → IsName w (name_of w)
name_reads w n =
    let parts = name_is n.text n.formed in
    let same : name_of w ≡ n.text = rw (← n.coded) (name_again n.text n.formed) in
    let P : List ℕ → Type 0 = λ t. IsName w t in
    subst P (sym same) (record {
      formed = n.formed;
      coded = n.coded;
      run = record { some = parts.0; visible = codes_in_word n.text parts.2 };
      short = parts.1;
    })
