-- The words of an EXAM, found one after another.
use Rattle.std.specs.Prelude.{◌≡◌, ◌<◌, ◌≤◌, ◌+◌, ◌-◌, ◌%◌, ◌^◌, ℕ, suc, Option, Some, None, true, is_some, Result, Ok, Err, List, [], ◌∷◌, ◌++◌, refl}
use Rattle.std.proofs.Common.{sym, ◌∙◌, ap, subst, arith, append_assoc, append-nil}
use Rattle.its_word.specs.Core.{Core, word_at}
use Rattle.its_records.specs.declared.session.Reason.{Reason}
use Rattle.its_plain.specs.Machine.{Whole, Machine, joined, words_at}
use Rattle.its_plain.specs.Operator.Jobs.{on_job, seen, seen_word, word_seen, examined}
use Rattle.its_stepped.specs.State.{State}
use Rattle.its_stepped.specs.Unwind.{unwound}
use Rattle.its_stepped.specs.Sound.{Sound}
use Rattle.its_top.specs.Answer.{behind, ExamSo, Calm}
use Rattle.its_top.proofs.LoadingLaws.{twice}

behind_none : (r : Result (List ℕ) Reason) → r ≡ behind [] r
behind_none (Ok vs) = refl
behind_none (Err e) = refl

behind_behind : (vs ws : List ℕ) (r : Result (List ℕ) Reason) → behind vs (behind ws r) ≡ behind (vs ++ ws) r
behind_behind vs ws (Ok us) = ap Ok (sym (append_assoc vs ws us))
behind_behind vs ws (Err e) = refl

pub exam_start : (m : Machine) (s a n : ℕ) → ExamSo m s a n 0 []
exam_start m s a n = record {
  whole = behind_none (examined m s a n) ∙ ap (λ x. behind [] (examined m s x n)) (omega arith) ∙ ap (λ x. behind [] (examined m s (a + 0) x)) (omega arith);
  there = λ h. absurd (omega arith);
}

-- one word of a core, and the words after it
joined_some : (v : ℕ) (o : Option (List ℕ)) → seen (joined (Some v) o) ≡ behind (v ∷ []) (seen o)
joined_some v (Some ws) = refl
joined_some v None = refl

core_next : (c : Core) (a n v : ℕ) → a < 2 ^ 18 → seen_word (word_at c a) ≡ Ok v → seen (words_at c a (suc n)) ≡ behind (v ∷ []) (seen (words_at c (a + 1) n))
unfolding words_at
core_next c a n v h g = let e : a % 2 ^ 18 ≡ a = omega arith in rw e (go (word_at c a) g)
  where
    go : (o : Option ℕ) → seen_word o ≡ Ok v → seen (joined o (words_at c (a + 1) n)) ≡ behind (v ∷ []) (seen (words_at c (a + 1) n))
    go (Some w) g = let k : w ≡ v = cc in ap (λ x. seen (joined (Some x) (words_at c (a + 1) n))) k ∙ joined_some v (words_at c (a + 1) n)
    go None g = cc

core_absent : (c : Core) (a n : ℕ) (r : Reason) → a < 2 ^ 18 → seen_word (word_at c a) ≡ Err r → seen (words_at c a (suc n)) ≡ Err r
unfolding words_at
core_absent c a n r h g = let e : a % 2 ^ 18 ≡ a = omega arith in rw e (go (word_at c a) g)
  where
    go : (o : Option ℕ) → seen_word o ≡ Err r → seen (joined o (words_at c (a + 1) n)) ≡ Err r
    go (Some w) g = cc
    go None g = cc

next_on : (m : Machine) (s a n v : ℕ) (o : Option Whole) → a < 2 ^ 18 → on_job m s (λ q. seen_word (word_at q.core a)) o ≡ Ok v
    → on_job m s (λ q. seen (words_at q.core a (suc n))) o ≡ behind (v ∷ []) (on_job m s (λ q. seen (words_at q.core (a + 1) n)) o)
next_on m s a n v (Some q) h g = core_next q.core a n v h g
next_on m s a n v None h g = cc

some_on : (m : Machine) (s a v : ℕ) (o : Option Whole) → on_job m s (λ q. seen_word (word_at q.core a)) o ≡ Ok v → is_some o ≡ true
some_on m s a v (Some q) g = refl
some_on m s a v None g = cc

absent_on : (m : Machine) (s a n : ℕ) (r : Reason) (o : Option Whole) → a < 2 ^ 18 → on_job m s (λ q. seen_word (word_at q.core a)) o ≡ Err r
    → on_job m s (λ q. seen (words_at q.core a (suc n))) o ≡ Err r
absent_on m s a n r (Some q) h g = core_absent q.core a n r h g
absent_on m s a n r None h g = cc

next_word : (m : Machine) (s a n v : ℕ) → a < 2 ^ 18 → word_seen m s a ≡ Ok v → examined m s a (suc n) ≡ behind (v ∷ []) (examined m s (a + 1) n)
unfolding examined word_seen
next_word m s a n v h g = next_on m s a n v (m.jobs s) h g

there_word : (m : Machine) (s a v : ℕ) → word_seen m s a ≡ Ok v → is_some (m.jobs s) ≡ true
unfolding word_seen
there_word m s a v g = some_on m s a v (m.jobs s) g

no_word : (m : Machine) (s a n : ℕ) (r : Reason) → a < 2 ^ 18 → word_seen m s a ≡ Err r → examined m s a (suc n) ≡ Err r
unfolding examined word_seen
no_word m s a n r h g = absent_on m s a n r (m.jobs s) h g

pub exam_next : (m l : Machine) (s a n k v : ℕ) (ws us : List ℕ) → k < n → a + n ≤ 2 ^ 18 → l ≡ m → us ≡ ws ++ v ∷ [] → ExamSo m s a n k ws
    → word_seen l s (a + k) ≡ Ok v
    → ExamSo m s a n (k + 1) us
exam_next m l s a n k v ws us h f same p so g =
    let e : n - k ≡ suc (n - (k + 1)) = omega arith in
    let q : a + k + 1 ≡ a + (k + 1) = omega arith in
    let here : word_seen m s (a + k) ≡ Ok v = subst (λ x. word_seen x s (a + k) ≡ Ok v) same g in
    record {
      whole = so.whole ∙ ap (λ x. behind ws (examined m s (a + k) x)) e ∙ ap (behind ws) (next_word m s (a + k) (n - (k + 1)) v (omega arith) here)
          ∙ behind_behind ws (v ∷ []) (examined m s (a + k + 1) (n - (k + 1))) ∙ ap (λ x. behind (ws ++ v ∷ []) (examined m s x (n - (k + 1)))) q
          ∙ ap (λ x. behind x (examined m s (a + (k + 1)) (n - (k + 1)))) (sym p);
      there = λ z. there_word m s (a + k) v here;
    }

pub exam_fails : (m l : Machine) (s a n k : ℕ) (r : Reason) (ws : List ℕ) → k < n → a + n ≤ 2 ^ 18 → l ≡ m → ExamSo m s a n k ws
    → word_seen l s (a + k) ≡ Err r → examined m s a n ≡ Err r
exam_fails m l s a n k r ws h f same so g =
    let e : n - k ≡ suc (n - (k + 1)) = omega arith in
    let here : word_seen m s (a + k) ≡ Err r = subst (λ x. word_seen x s (a + k) ≡ Err r) same g in
    so.whole ∙ ap (λ x. behind ws (examined m s (a + k) x)) e ∙ ap (behind ws) (no_word m s (a + k) (n - (k + 1)) r (omega arith) here)

end_on : (m : Machine) (s a : ℕ) (o : Option Whole) → is_some o ≡ true → on_job m s (λ q. seen (words_at q.core a 0)) o ≡ Ok []
unfolding words_at
end_on m s a (Some q) h = refl
end_on m s a None h = cc

end_word : (m : Machine) (s a : ℕ) → is_some (m.jobs s) ≡ true → examined m s a 0 ≡ Ok []
unfolding examined
end_word m s a h = end_on m s a (m.jobs s) h

pub exam_end : (m : Machine) (s a n k : ℕ) (ws : List ℕ) → k ≡ n → 1 ≤ n → ExamSo m s a n k ws → examined m s a n ≡ Ok ws
exam_end m s a n k ws h f so =
    let e : n - k ≡ 0 = omega arith in
    so.whole ∙ ap (λ x. behind ws (examined m s (a + k) x)) e ∙ ap (behind ws) (end_word m s (a + k) (so.there (omega arith))) ∙ ap Ok (append-nil ws)

-- the first call brings the job to user mode, in which the later calls find it
pub calm_start : (v : State) (s : ℕ) → Calm (unwound v s) v s 0
calm_start v s = record { found = refl; reached = λ h. absurd (omega arith) }

pub calm_next : (v now then : State) (s k : ℕ) → Sound now → Calm v now s k → then ≡ unwound now s → Calm v then s (k + 1)
calm_next v now then s k sound c e = record {
  found = ap (λ x. unwound x s) e ∙ twice now s sound ∙ c.found;
  reached = λ h. e ∙ c.found;
}
