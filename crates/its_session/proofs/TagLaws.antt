-- A tag that is written is read as its word.
use Rattle.std.proofs.Common.{◌≡◌, ◌<◌, ◌≤◌, ◌+◌, ◌-◌, ◌*◌, ◌/◌, ◌%◌, ◌^◌, ◌==◌, ◌&&◌, not, ℕ, zero, suc, Bool, true, false, if◌then◌else◌, List, [], length, sym, refl, arith, lit≤, inl, inr}
use Rattle.std.specs.List.{list_all}
use Rattle.std.proofs.lemmas.Bool.{cases_Bool, le-leb}
use Rattle.std.proofs.lemmas.Bool.Decides.{nat_tests}
use Rattle.its_word.specs.Text.{is_code, is_name, octal12_of, sixbit_of}
use Rattle.its_word.proofs.WordsLaws.{IsRun}
use Rattle.its_session.specs.Fields.{is_tag, word_of_tag}
use Rattle.its_session.specs.Names.{characters, name_of}
use Rattle.its_session.specs.StateWriting.{is_name_word, tag_of}
use Rattle.its_session.proofs.FieldLaws.{length-octal12, word_reads}
use Rattle.its_session.proofs.NameLaws.{both, codes_in_word}
use Rattle.its_session.proofs.PutLaws.{characters_end}

code_of : (c : ℕ) → (c == 0) ≡ false → c < 64 → is_code 33 95 (32 + c) ≡ true
code_of c some few = grind (arith, nat_tests)

-- the characters of a word are those of names, up to the first blank
codes_of : (n w : ℕ) → w < 2 ^ 36 → list_all (is_code 33 95) (characters n w) ≡ true
unfolding characters
codes_of zero w below = refl
codes_of (suc n) w below =
    let few : w / 2 ^ 30 < 64 = omega arith in
    elim (cases_Bool (w / 2 ^ 30 == 0)) [
      | inl none ↦ rw none refl
      | inr some ↦ rw (some, code_of (w / 2 ^ 30) some few, codes_of n (w * 2 ^ 6 % 2 ^ 36) (omega arith)) refl
    ]

at_most : (n w : ℕ) → length (characters n w) ≤ n
unfolding characters
at_most zero w = omega arith
at_most (suc n) w =
    elim (cases_Bool (w / 2 ^ 30 == 0)) [
      | inl none ↦ rw none (omega arith)
      | inr some ↦ rw some (omega (arith, at_most n (w * 2 ^ 6 % 2 ^ 36)))
    ]

at_least : (n w : ℕ) → 1 ≤ n → (w / 2 ^ 30 == 0) ≡ false → 1 ≤ length (characters n w)
unfolding characters
at_least zero w any some = absurd (omega arith)
at_least (suc n) w any some = rw some (omega arith)

is_named : (w : ℕ) → w < 2 ^ 36 → (w / 2 ^ 30 == 0) ≡ false → is_name (name_of w) ≡ true
unfolding is_name
is_named w below some =
    rw (le-leb 1 (length (name_of w)) (at_least 6 w (lit≤ tt) some), le-leb (length (name_of w)) 6 (at_most 6 w), codes_of 6 w below) refl

same : (a b : ℕ) → (a == b) ≡ true → a ≡ b
same a b h = grind (arith, nat_tests)

no_characters : (w : ℕ) → (w / 2 ^ 30 == 0) ≡ true → name_of w ≡ []
no_characters w none = characters_end 0 w (same (w / 2 ^ 30) 0 none)

-- the empty text is no name, and its word is 0
no_name : is_name [] ≡ false
unfolding is_name
no_name = refl

no_word : sixbit_of [] ≡ 0
unfolding sixbit_of
no_word = refl

never : (w : ℕ) → (not (w == 0) && (0 == w)) ≡ false
never w =
    elim (cases_Bool (w == 0)) [
      | inl none ↦ rw none refl
      | inr some ↦ (let other : (0 == w) ≡ false = grind (arith, nat_tests) in rw (some, other) refl)
    ]

unnamed_by : (w : ℕ) → (w / 2 ^ 30 == 0) ≡ true → is_name_word w ≡ false
unnamed_by w none = rw (no_characters w none, no_word) (never w)

some_word : (w : ℕ) → (w / 2 ^ 30 == 0) ≡ false → not (w == 0) ≡ true
some_word w some = grind (arith, nat_tests)

-- a word is that of a name exactly if its characters are a name that has this word
pub is_named_word : (w : ℕ) → w < 2 ^ 36 → (is_name (name_of w) && (sixbit_of (name_of w) == w)) ≡ is_name_word w
is_named_word w below =
    elim (cases_Bool (w / 2 ^ 30 == 0)) [
      | inl empty ↦ rw (no_characters w empty, no_name, no_word) (sym (never w))
      | inr some ↦ rw (is_named w below some, some_word w some) refl
    ]

-- what is read as a tag
pub record ReadsTag (w : ℕ) (text : List ℕ) : Type 0 where
  pub formed : is_tag text ≡ true
  pub value : word_of_tag text ≡ w
  pub run : IsRun text
  pub short : length text ≤ 12

as_name : (w : ℕ) → w < 2 ^ 36 → is_name_word w ≡ true → ReadsTag w (name_of w)
unfolding is_tag word_of_tag
as_name w below h =
    elim (cases_Bool (w / 2 ^ 30 == 0)) [
      | inl empty ↦ (let e : false ≡ true = rw (unnamed_by w empty) at h in cc)
      | inr some ↦ (let name = is_named w below some in
          let coded = same (sixbit_of (name_of w)) w (both (not (w == 0)) (sixbit_of (name_of w) == w) h).1 in
          record {
            formed = rw name refl;
            value = rw name coded;
            run = record { some = at_least 6 w (lit≤ tt) some; visible = codes_in_word (name_of w) (codes_of 6 w below) };
            short = omega (arith, at_most 6 w);
          })
    ]

-- twelve characters are no name
pub too_long : (text : List ℕ) → length text ≡ 12 → is_name text ≡ false
unfolding is_name
too_long text twelve = rw twelve refl

as_word : (w : ℕ) → w < 2 ^ 36 → ReadsTag w (octal12_of w)
unfolding is_tag word_of_tag
as_word w below =
    let reads = word_reads w below in
    let none = too_long (octal12_of w) (length-octal12 w) in
    record {
      formed = rw (none, length-octal12 w, reads.formed) refl;
      value = rw none reads.value;
      run = reads.run;
      short = reads.short;
    }

by_test : (w : ℕ) (b : Bool) → w < 2 ^ 36 → is_name_word w ≡ b → ReadsTag w (if b then name_of w else octal12_of w)
by_test w true below h = as_name w below h
by_test w false below h = as_word w below

pub tag_reads : (w : ℕ) → w < 2 ^ 36 → ReadsTag w (tag_of w)
tag_reads w below = by_test w (is_name_word w) below refl
