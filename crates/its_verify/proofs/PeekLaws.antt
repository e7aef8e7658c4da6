-- Whether a line may occur when PEEK shows a job, by its first LF and its first word.
use Rattle.std.proofs.Common.{◌≡◌, ◌≢◌, ◌<◌, ◌≤◌, ◌+◌, ◌==◌, ◌&&◌, ℕ, suc, true, false, not, leb, ltb, Some, None, List, [], ◌∷◌, length, take, refl, sym, ap, ◌∙◌, inl, inr, arith, position, filter}
use Rattle.std.proofs.lemmas.Bool.{cases_Bool, and_left, and_right, eq-eqb, le-leb, lt-leb, ltb-false, ltb-true, ne_eqb}
use Rattle.std.proofs.lemmas.Bool.Decides.{nat_tests}
use Rattle.std.specs.List.{onto_first, prefix_len, slice_split}
use Rattle.std.specs.Prelude.{codes}
use Rattle.its_word.specs.Text.{words_of}
use Rattle.its_reader.specs.TextLines.{before_lf}
use Rattle.its_verify.specs.Lines.{begins_with, is_last, is_peek, is_whole, most_bytes}
use Rattle.its_verify.specs.Reading.{ends_word}

-- tests
one_less : (m n : ℕ) → (m + 1 == n) ≡ (1 + m + 1 == suc n)
one_less m n = grind (arith, nat_tests)

last_place : (bs : List ℕ) → is_last bs ≡ (0 + 1 == suc (length bs))
last_place [] = refl
last_place (c ∷ cs) = grind (arith, nat_tests)

take_more : (b n : ℕ) (xs : List ℕ) → take (1 + n) (b ∷ xs) ≡ b ∷ take n xs
take_more b n xs = let is : 1 + n ≡ suc n = omega arith in rw is refl

-- the first word
pub no_words : (rest : List ℕ) → length rest ≡ 0 → begins_with (codes "P") (words_of rest) ≡ false
unfolding words_of
no_words [] none = refl
no_words (b ∷ bs) none = absurd (omega arith)

pub space_first : (c : ℕ) (rest : List ℕ) → c ≡ 32 → words_of (c ∷ rest) ≡ words_of rest
unfolding words_of
space_first c rest is = rw is refl

-- a first run of bytes, of which there are some
by_run : (c : ℕ) (run : List ℕ) (runs : List (List ℕ)) → begins_with (codes "P")
    (filter (λ r. not (length r == 0)) ((c ∷ run) ∷ runs)) ≡ ((c == 80) && is_last run)
by_run c [] runs = refl
by_run c (d ∷ ds) runs =
    let some : (suc (suc (length ds)) == 0) ≡ false = grind (arith, nat_tests) in
    rw some refl

longer : (c d : ℕ) (runs : List (List ℕ)) → begins_with (codes "P")
    (filter (λ r. not (length r == 0)) (onto_first c (onto_first d runs))) ≡ ((c == 80) && false)
longer c d [] = by_run c (d ∷ []) []
longer c d (run ∷ runs) = by_run c (d ∷ run) runs

split_first : (c : ℕ) (rest : List ℕ) → begins_with (codes "P")
    (filter (λ r. not (length r == 0)) (onto_first c (slice_split (λ b. b == 32) rest))) ≡ ((c == 80) && ends_word rest)
split_first c [] = by_run c [] []
split_first c (d ∷ ds) =
    elim (cases_Bool (d == 32)) [
      | inl space ↦ rw space (by_run c [] (slice_split (λ b. b == 32) ds))
      | inr other ↦ rw other (longer c d (slice_split (λ b. b == 32) ds))
    ]

pub word_first : (c : ℕ) (rest : List ℕ) → c ≢ 32 → begins_with (codes "P") (words_of (c ∷ rest)) ≡ ((c == 80) && ends_word rest)
unfolding words_of
word_first c rest other =
    let test : (c == 32) ≡ false = ne_eqb c 32 other in
    rw test (split_first c rest)

-- the first LF
abbrev pub lf_place : List ℕ → ℕ
lf_place line = prefix_len (λ b. not (b == 10)) line

whole_place : (line : List ℕ) → is_whole line ≡ (lf_place line + 1 == length line)
whole_place [] = refl
whole_place (b ∷ bs) =
    elim (cases_Bool (b == 10)) [
      | inl lf ↦ rw lf (last_place bs)
      | inr other ↦ rw other (whole_place bs ∙ one_less (lf_place bs) (length bs))
    ]

pub before_place : (line : List ℕ) → before_lf line ≡ take (lf_place line) line
before_place [] = refl
before_place (b ∷ bs) =
    elim (cases_Bool (b == 10)) [
      | inl lf ↦ rw lf refl
      | inr other ↦ rw other (ap (λ xs. b ∷ xs) (before_place bs) ∙ sym (take_more b (lf_place bs) bs))
    ]

pub position_is : (line : List ℕ) (k : ℕ) → position (λ b. b == 10) line ≡ Some k → (lf_place line < length line) × (lf_place line ≡ k)
position_is line k found =
    elim (cases_Bool (ltb (lf_place line) (length line))) [
      | inl some ↦ (ltb-true _ _ some, (let e : Some (lf_place line) ≡ Some k = rw some at found in cc))
      | inr none ↦ (let e : None ≡ Some k = rw none at found in cc)
    ]

pub position_none : (line : List ℕ) → position (λ b. b == 10) line ≡ None → length line ≤ lf_place line
position_none line none =
    elim (cases_Bool (ltb (lf_place line) (length line))) [
      | inl some ↦ (let e : Some (lf_place line) ≡ None = rw some at none in cc)
      | inr past ↦ ltb-false _ _ past
    ]

not_whole : (line : List ℕ) → is_whole line ≡ false → is_peek line ≡ false
unfolding is_peek
not_whole line h = rw h refl

-- no LF; an LF before the end; one past the most; and one at the end
pub no_end : (line : List ℕ) → position (λ b. b == 10) line ≡ None → is_peek line ≡ false
no_end line none =
    let past = position_none line none in
    let no : (lf_place line + 1 == length line) ≡ false = ne_eqb _ _ (λ e. (let h = past in absurd (omega arith))) in
    not_whole line (whole_place line ∙ no)

pub before_end : (line : List ℕ) (k : ℕ) → position (λ b. b == 10) line ≡ Some k → k + 1 ≢ length line → is_peek line ≡ false
before_end line k found other =
    let at = position_is line k found in
    let no : (lf_place line + 1 == length line) ≡ false = ne_eqb _ _ (λ e. other (omega (arith, at.1, e))) in
    not_whole line (whole_place line ∙ no)

pub past_end : (line : List ℕ) (k : ℕ) → position (λ b. b == 10) line ≡ Some k → most_bytes < k → is_peek line ≡ false
unfolding is_peek
past_end line k found past =
    let at = position_is line k found in
    let long : leb (length line) (most_bytes + 1) ≡ false = lt-leb (length line) (most_bytes + 1) (omega (arith, at.0, at.1)) in
    and_left (is_whole line && leb (length line) (most_bytes + 1)) (begins_with (codes "P") (words_of (before_lf line)))
    (and_right (is_whole line) (leb (length line) (most_bytes + 1)) long)

pub at_end : (line : List ℕ) (k : ℕ) → position (λ b. b == 10) line ≡ Some k → k + 1 ≡ length line → k ≤ most_bytes
    → is_peek line ≡ begins_with (codes "P") (words_of (take k line))
unfolding is_peek
at_end line k found end few =
    let at = position_is line k found in
    let yes : (lf_place line + 1 == length line) ≡ true = eq-eqb _ _ (omega (arith, at.1, end)) in
    let short : leb (length line) (most_bytes + 1) ≡ true = le-leb (length line) (most_bytes + 1) (omega (arith, end)) in
    rw (whole_place line, yes, short, before_place line, at.1) refl
