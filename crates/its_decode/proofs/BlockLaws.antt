-- The argument words of a block, one by one.
use Rattle.std.proofs.Common.{◌≡◌, ◌<◌, ◌≤◌, ◌+◌, ◌-◌, ◌%◌, ◌^◌, ℕ, suc, true, false, List, [], ◌∷◌, ◌++◌, Ok, Err, refl, sym, ◌∙◌, ap, arith}
use Rattle.its_word.specs.Core.{Core}
use Rattle.its_word.specs.declared.access.Fault.{Fault}
use Rattle.its_plain.specs.Unit.Plans.{read_of}
use Rattle.its_plain.specs.Unit.Trace.{Traced, also, goes_on, word}
use Rattle.its_plain.specs.Call.Decode.{argument_words, has_bit_0, up_to_last}

-- with i words read
words_suc : (n m : ℕ) (c : Core) (a : ℕ) (seen : List ℕ) → n ≡ suc m
    → (argument_words n c a seen).answer ≡ (also (word c (a % 2 ^ 18))
    (λ w. up_to_last (has_bit_0 w) (λ ws. argument_words m c (a + 1) ws) (seen ++ w ∷ []))).answer
unfolding argument_words
words_suc n m c a seen h = rw h refl

read_ok : {Y : Type 0} (c : Core) (p w : ℕ) (k : ℕ → Traced Y) → read_of c p ≡ Ok w → (also (word c p) k).answer ≡ (k w).answer
unfolding also word
read_ok c p w k h = ap (λ r. (goes_on (p ∷ []) [] r k).answer) h

read_err : {Y : Type 0} (c : Core) (p : ℕ) (f : Fault) (k : ℕ → Traced Y) → read_of c p ≡ Err f → (also (word c p) k).answer ≡ Err f
unfolding also word
read_err c p f k h = ap (λ r. (goes_on (p ∷ []) [] r k).answer) h

pub words_more : (c : Core) (a i : ℕ) (seen : List ℕ) (w : ℕ) → i < 8 → Ok w ≡ read_of c ((a + i) % 2 ^ 18) → has_bit_0 w ≡ false
    → (argument_words (8 - i) c (a + i) seen).answer ≡ (argument_words (8 - (i + 1)) c (a + (i + 1)) (seen ++ w ∷ [])).answer
words_more c a i seen w l h b =
    let n : a + i + 1 ≡ a + (i + 1) = omega arith in
    words_suc (8 - i) (8 - (i + 1)) c (a + i) seen (omega arith)
    ∙ read_ok c ((a + i) % 2 ^ 18) w _ (sym h)
    ∙ ap (λ t. (up_to_last t (λ ws. argument_words (8 - (i + 1)) c (a + i + 1) ws) (seen ++ w ∷ [])).answer) b
    ∙ ap (λ x. (argument_words (8 - (i + 1)) c x (seen ++ w ∷ [])).answer) n

pub words_last : (c : Core) (a i : ℕ) (seen : List ℕ) (w : ℕ) → i < 8 → Ok w ≡ read_of c ((a + i) % 2 ^ 18) → has_bit_0 w ≡ true
    → (argument_words (8 - i) c (a + i) seen).answer ≡ Ok (record { items = seen ++ w ∷ [] })
words_last c a i seen w l h b =
    words_suc (8 - i) (8 - (i + 1)) c (a + i) seen (omega arith)
    ∙ read_ok c ((a + i) % 2 ^ 18) w _ (sym h)
    ∙ ap (λ t. (up_to_last t (λ ws. argument_words (8 - (i + 1)) c (a + i + 1) ws) (seen ++ w ∷ [])).answer) b

pub words_absent : (c : Core) (a i : ℕ) (seen : List ℕ) (f : Fault) → i < 8 → Err f ≡ read_of c ((a + i) % 2 ^ 18)
    → (argument_words (8 - i) c (a + i) seen).answer ≡ Err f
words_absent c a i seen f l h =
    words_suc (8 - i) (8 - (i + 1)) c (a + i) seen (omega arith) ∙ read_err c ((a + i) % 2 ^ 18) f _ (sym h)

words_zero : (n : ℕ) (c : Core) (a : ℕ) (seen : List ℕ) → n ≡ 0 → (argument_words n c a seen).answer ≡ Ok (record { items = seen })
unfolding argument_words
words_zero n c a seen h = rw h refl

pub words_over : (c : Core) (a i : ℕ) (seen : List ℕ) → 8 ≤ i → (argument_words (8 - i) c (a + i) seen).answer ≡ Ok (record { items = seen })
words_over c a i seen h = words_zero (8 - i) c (a + i) seen (omega arith)
