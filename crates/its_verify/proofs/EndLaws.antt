-- Whether the only word of a line is END.
use Rattle.std.proofs.Common.{◌≡◌, ◌≢◌, ◌==◌, ◌&&◌, ℕ, suc, Bool, true, false, not, Some, None, List, [], ◌∷◌, length, take, refl, sym, ap, subst, ◌∙◌, inl, inr, arith, position, filter}
use Rattle.std.proofs.lemmas.Bool.{cases_Bool, and_right, eqb-true, ne_eqb}
use Rattle.std.proofs.lemmas.Bool.Decides.{nat_tests}
use Rattle.std.proofs.lemmas.List.{take_all}
use Rattle.std.specs.List.{list_all, onto_first, slice_split}
use Rattle.std.specs.Prelude.{bytes_eq, codes}
use Rattle.its_word.specs.Text.{words_of}
use Rattle.its_reader.specs.TextLines.{before_lf}
use Rattle.its_verify.specs.Verified.{is_only}
use Rattle.its_verify.specs.Reading.{ends_with_d, is_space}
use Rattle.its_verify.proofs.PeekLaws.{before_place, lf_place, position_is, position_none}

-- the line before its LF
pub before_found : (line : List ℕ) (k : ℕ) → position (λ b. b == 10) line ≡ Some k → before_lf line ≡ take k line
before_found line k found =
    let at = position_is line k found in
    before_place line ∙ ap (λ (m : ℕ). take m line) at.1

pub before_none : (line : List ℕ) → position (λ b. b == 10) line ≡ None → before_lf line ≡ line
before_none line none = before_place line ∙ take_all (lf_place line) line (position_none line none)

-- a word before others
abbrev first_only : List ℕ → List (List ℕ) → Bool
first_only word words = is_only (codes "END") (word ∷ words)

more_words : (c : ℕ) (run : List ℕ) (runs : List (List ℕ)) (word : List ℕ) → first_only word (filter (λ r. not (length r == 0)) ((c ∷ run) ∷ runs)) ≡ false
more_words c run runs word =
    let some : (suc (length run) == 0) ≡ false = grind (arith, nat_tests) in
    rw some refl

split_more : (c : ℕ) (runs : List (List ℕ)) (word : List ℕ) → first_only word (filter (λ r. not (length r == 0)) (onto_first c runs)) ≡ false
split_more c [] word = more_words c [] [] word
split_more c (run ∷ runs) word = more_words c run runs word

-- spaces alone after a word
blank_behind : (word rest : List ℕ) → first_only word (words_of rest) ≡ (bytes_eq word (codes "END") && list_all is_space rest)
unfolding words_of
blank_behind word [] = sym (and_true (bytes_eq word (codes "END")))
  where
    and_true : (b : Bool) → (b && true) ≡ b
    and_true true = refl
    and_true false = refl
blank_behind word (c ∷ cs) =
    elim (cases_Bool (c == 32)) [
      | inl space ↦ rw space (blank_behind word cs)
      | inr other ↦ rw other (split_more c (slice_split (λ b. b == 32) cs) word ∙ sym (and_right (bytes_eq word (codes "END")) false refl))
    ]

not_end : (word : List ℕ) (words : List (List ℕ)) → bytes_eq word (codes "END") ≡ false → first_only word words ≡ false
not_end word [] h = h
not_end word (w ∷ ws) h = refl

-- words that begin otherwise
wrong_1 : (c : ℕ) (runs : List (List ℕ)) → (c == 69) ≡ false → is_only (codes "END") (filter (λ r. not (length r == 0)) (onto_first c runs)) ≡ false
wrong_1 c [] h = rw h refl
wrong_1 c (run ∷ runs) h =
    let some : (suc (length run) == 0) ≡ false = grind (arith, nat_tests) in
    rw some (not_end (c ∷ run) (filter (λ r. not (length r == 0)) runs) (rw h refl))

wrong_2 : (d : ℕ) (runs : List (List ℕ)) → (d == 78) ≡ false
    → is_only (codes "END") (filter (λ r. not (length r == 0)) (onto_first 69 (onto_first d runs))) ≡ false
wrong_2 d [] h = rw h refl
wrong_2 d (run ∷ runs) h =
    let some : (suc (suc (length run)) == 0) ≡ false = grind (arith, nat_tests) in
    rw some (not_end (69 ∷ d ∷ run) (filter (λ r. not (length r == 0)) runs) (rw h refl))

wrong_3 : (e : ℕ) (runs : List (List ℕ)) → (e == 68) ≡ false
    → is_only (codes "END") (filter (λ r. not (length r == 0)) (onto_first 69 (onto_first 78 (onto_first e runs)))) ≡ false
wrong_3 e [] h = rw h refl
wrong_3 e (run ∷ runs) h =
    let some : (suc (suc (suc (length run))) == 0) ≡ false = grind (arith, nat_tests) in
    rw some (not_end (69 ∷ 78 ∷ e ∷ run) (filter (λ r. not (length r == 0)) runs) (rw h refl))

longer : (f : ℕ) (runs : List (List ℕ)) → is_only (codes "END")
    (filter (λ r. not (length r == 0)) (onto_first 69 (onto_first 78 (onto_first 68 (onto_first f runs))))) ≡ false
longer f [] = refl
longer f (run ∷ runs) =
    let some : (suc (suc (suc (suc (length run)))) == 0) ≡ false = grind (arith, nat_tests) in
    rw some (not_end (69 ∷ 78 ∷ 68 ∷ f ∷ run) (filter (λ r. not (length r == 0)) runs) refl)

blank_here : (fs : List ℕ) → first_only (codes "END") (filter (λ r. not (length r == 0)) (slice_split (λ b. b == 32) fs)) ≡ (true && list_all is_space fs)
unfolding words_of
blank_here fs = blank_behind (codes "END") fs

-- E, N and D, and what follows
after_end : (rest : List ℕ) → is_only (codes "END") (filter (λ r. not (length r == 0))
    (onto_first 69 (onto_first 78 (onto_first 68 (slice_split (λ b. b == 32) rest))))) ≡ list_all is_space rest
after_end [] = refl
after_end (f ∷ fs) =
    elim (cases_Bool (f == 32)) [
      | inl space ↦ rw space (blank_here fs)
      | inr other ↦ rw other (longer f (slice_split (λ b. b == 32) fs))
    ]

after_en : (rest : List ℕ) → is_only (codes "END") (filter (λ r. not (length r == 0))
    (onto_first 69 (onto_first 78 (slice_split (λ b. b == 32) rest)))) ≡ ends_with_d (78 ∷ rest)
after_en [] = refl
after_en (e ∷ es) =
    elim (cases_Bool (e == 32)) [
      | inl space ↦
          (let wrong : (e == 68) ≡ false = grind (arith, nat_tests) in
          rw (space, wrong) (not_end (69 ∷ 78 ∷ []) (filter (λ r. not (length r == 0)) (slice_split (λ b. b == 32) es)) refl))
      | inr other ↦ elim (cases_Bool (e == 68)) [
        | inl is ↦
            subst (λ (m : ℕ). is_only (codes "END") (filter (λ r. not (length r == 0))
            (onto_first 69 (onto_first 78 (slice_split (λ b. b == 32) (m ∷ es))))) ≡ ends_with_d (78 ∷ m ∷ es))
            (sym (eqb-true e 68 is)) (after_end es)
        | inr wrong ↦ rw (other, wrong) (wrong_3 e (slice_split (λ b. b == 32) es) wrong)
      ]
    ]

n_then : (n : ℕ) (rest : List ℕ) → (n == 78) ≡ false → ends_with_d (n ∷ rest) ≡ false
n_then n [] h = refl
n_then n (d ∷ ds) h = rw h refl

after_e : (rest : List ℕ) → is_only (codes "END") (filter (λ r. not (length r == 0)) (onto_first 69 (slice_split (λ b. b == 32) rest))) ≡ ends_with_d rest
after_e [] = refl
after_e (n ∷ ns) =
    elim (cases_Bool (n == 32)) [
      | inl space ↦
          (let wrong : (n == 78) ≡ false = grind (arith, nat_tests) in
          rw (n_then n ns wrong, space) (not_end (69 ∷ []) (filter (λ r. not (length r == 0)) (slice_split (λ b. b == 32) ns)) refl))
      | inr other ↦ elim (cases_Bool (n == 78)) [
        | inl is ↦
            subst (λ (m : ℕ). is_only (codes "END") (filter (λ r. not (length r == 0))
            (onto_first 69 (slice_split (λ b. b == 32) (m ∷ ns)))) ≡ ends_with_d (m ∷ ns))
            (sym (eqb-true n 78 is)) (after_en ns)
        | inr wrong ↦ rw (n_then n ns wrong, other) (wrong_2 n (slice_split (λ b. b == 32) ns) wrong)
      ]
    ]

pub end_first : (c : ℕ) (rest : List ℕ) → c ≢ 32 → is_only (codes "END") (words_of (c ∷ rest)) ≡ ((c == 69) && ends_with_d rest)
unfolding words_of
end_first c rest other =
    let test : (c == 32) ≡ false = ne_eqb c 32 other in
    elim (cases_Bool (c == 69)) [
      | inl is ↦
          subst (λ (m : ℕ). is_only (codes "END") (filter (λ r. not (length r == 0)) (slice_split (λ b. b == 32) (m ∷ rest))) ≡
          ((m == 69) && ends_with_d rest))
          (sym (eqb-true c 69 is)) (after_e rest)
      | inr wrong ↦ rw (test, wrong) (wrong_1 c (slice_split (λ b. b == 32) rest) wrong)
    ]

pub end_space : (c : ℕ) (rest : List ℕ) → c ≡ 32 → words_of (c ∷ rest) ≡ words_of rest
unfolding words_of
end_space c rest is = rw is refl

pub end_none : (rest : List ℕ) → length rest ≡ 0 → is_only (codes "END") (words_of rest) ≡ false
unfolding words_of
end_none [] none = refl
end_none (b ∷ bs) none = absurd (omega arith)
