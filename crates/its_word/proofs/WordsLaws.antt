-- The words of a line, taken off one after another.
use Rattle.std.proofs.Common.{◌≡◌, ◌<◌, ◌≤◌, ◌+◌, ◌-◌, ◌==◌, ℕ, suc, Bool, true, false, not, ltb, Some, None, List, [], ◌∷◌, ◌++◌, length, get_or, take, drop, refl, arith, position, filter, inl, inr}
use Rattle.std.specs.List.{list_all, slice_split, position_or_len}
use Rattle.std.proofs.lemmas.Bool.{cases_Bool, ltb-true, ltb-false}
use Rattle.std.proofs.lemmas.Bool.Decides.{nat_tests}
use Rattle.std.proofs.lemmas.List.Splits.{slice_split_at, slice_split_first, slice_split_none}
use Rattle.std.proofs.lemmas.List.Sums.{AllPass-from_list_all, fails_before_first}
use Rattle.std.proofs.lemmas.List.{take_rest}
use Rattle.its_word.specs.Text.{is_code, word_of_run, words_of}

-- the first place that passes
position_is : {X : Type 0} (p : X → Bool) (xs : List X) (k : ℕ) → position p xs ≡ Some k → (position_or_len p xs < length xs) × (position_or_len p xs ≡ k)
position_is p xs k found =
    elim (cases_Bool (ltb (position_or_len p xs) (length xs))) [
      | inl some ↦ (ltb-true _ _ some, (let e : Some (position_or_len p xs) ≡ Some k = rw some at found in cc))
      | inr none ↦ (let e : None ≡ Some k = rw none at found in cc)
    ]

position_none : {X : Type 0} (p : X → Bool) (xs : List X) → position p xs ≡ None → length xs ≤ position_or_len p xs
position_none p xs none =
    elim (cases_Bool (ltb (position_or_len p xs) (length xs))) [
      | inl some ↦ (let e : Some (position_or_len p xs) ≡ None = rw some at none in cc)
      | inr past ↦ ltb-false _ _ past
    ]

filter_first : (run : List ℕ) (runs : List (List ℕ)) → filter (λ r. not (length r == 0)) (run ∷ runs) ≡ word_of_run run ++ filter
    (λ r. not (length r == 0)) runs
filter_first [] runs = refl
filter_first (b ∷ bs) runs =
    let some : (suc (length bs) == 0) ≡ false = grind (arith, nat_tests) in
    rw some refl

filter_one : (run : List ℕ) → filter (λ r. not (length r == 0)) (run ∷ []) ≡ word_of_run run
filter_one [] = refl
filter_one (b ∷ bs) =
    let some : (suc (length bs) == 0) ≡ false = grind (arith, nat_tests) in
    rw some refl

-- a line up to its first space, and the rest
pub words_cut : (line : List ℕ) (k : ℕ) → position (λ b. b == 32) line ≡ Some k
    → words_of line ≡ word_of_run (take k line) ++ words_of (take (length line - (k + 1)) (drop (k + 1) line))
unfolding words_of
words_cut line k found =
    let at = position_is (λ b. b == 32) line k found in
    rw (slice_split_first (λ b. b == 32) line 0 at.0, at.1, take_rest) (filter_first (take k line) (slice_split (λ b. b == 32) (drop (k + 1) line)))

-- a line without a space
pub words_whole : (line : List ℕ) → position (λ b. b == 32) line ≡ None → words_of line ≡ word_of_run line
unfolding words_of
words_whole line none =
    let past : length line ≤ position_or_len (λ b. b == 32) line = position_none (λ b. b == 32) line none in
    rw (slice_split_none (λ b. b == 32) line (λ k d below. fails_before_first (λ b. b == 32) line k d (omega arith))) (filter_one line)

-- a word: some bytes from 41 to 176
pub record IsRun (w : List ℕ) : Type 0 where
  pub some : 1 ≤ length w
  pub visible : list_all (is_code 33 126) w ≡ true

no_space : (c : ℕ) → is_code 33 126 c ≡ true → (c == 32) ≡ false
no_space c h = grind (arith, nat_tests)

is_some : (w : List ℕ) → 1 ≤ length w → not (length w == 0) ≡ true
is_some w h = grind (arith, nat_tests)

-- a run of its own, and one before a space
pub words_one : (w : List ℕ) → IsRun w → words_of w ≡ w ∷ []
unfolding words_of
words_one w h =
    rw (
      slice_split_none (λ b. b == 32) w (λ k d below. no_space (get_or w k d)
          (AllPass-from_list_all (is_code 33 126) w h.visible k d below)),
      is_some w h.some,
    ) refl

pub words_first : (w rest : List ℕ) → IsRun w → words_of (w ++ 32 ∷ rest) ≡ w ∷ words_of rest
unfolding words_of
words_first w rest h =
    rw (
      slice_split_at (λ b. b == 32) w 32 rest (λ k d below. no_space (get_or w k d)
          (AllPass-from_list_all (is_code 33 126) w h.visible k d below)) refl,
      is_some w h.some,
    ) refl
