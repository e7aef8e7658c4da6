-- The words of an a/ line: all are tested for read-only pages, and then stored one after another.
-- The first store brings the job to user mode.
use Rattle.std.specs.Prelude.{◌≡◌, ◌<◌, ◌+◌, ℕ, true, false, None, Result, Ok, Err, OnOk, IfErr, List, [], ◌∷◌, length, drop, slice_index, refl}
use Rattle.std.proofs.Common.{sym, ◌∙◌, ap, arith, drop-cons, add-one}
use Rattle.its_records.specs.declared.session.Reason.{Reason}
use Rattle.its_records.specs.declared.session.Reason.TheVariants.{ReadOnly}
use Rattle.its_records.specs.declared.session.Refusal.{Refusal}
use Rattle.its_plain.specs.Machine.{Machine}
use Rattle.its_plain.specs.Operator.{and_then}
use Rattle.its_plain.specs.Operator.Jobs.{words_barred, with_words_loaded_if, with_word_loaded, with_words_stored, with_words_loaded}
use Rattle.its_stepped.specs.State.{State}
use Rattle.its_stepped.specs.Unwind.{unwound}
use Rattle.its_stepped.specs.Lines.{with_raw}
use Rattle.its_stepped.specs.Sound.{Sound}
use Rattle.its_stepped.proofs.Unwinding.UnwindLaws.{unwound_none, unwound_still}
use Rattle.its_records.specs.Refusals.{reason_of}
use Rattle.its_monitor.specs.Kept.{Lands}
use Rattle.its_top.specs.Answer.{LoadSo}

-- a job in user mode stays so, whatever is written
pub twice : (v : State) (s : ℕ) → Sound v → unwound (unwound v s) s ≡ unwound v s
twice v s sound = unwound_still (unwound v s) s (unwound_none v s sound)

calm_still : (v c : State) (s : ℕ) (m : Machine) → c ≡ with_raw v m → v.frames s ≡ None → unwound c s ≡ c
calm_still v c s m e n = unwound_still c s (ap (λ x. x.frames s) e ∙ n)

-- from the k-th on
pub front : (words : List ℕ) (k : ℕ) → k < length words → drop k words ≡ slice_index words k ∷ drop (k + 1) words
front words k h = rw (add-one) (drop-cons words k 0 h)

turn : (m : Machine) (s a v : ℕ) (vs : List ℕ) → with_words_stored m s a (v ∷ vs) ≡ and_then (with_word_loaded m s a v)
    (λ n. with_words_stored n s (a + 1) vs)
turn m s a v vs = refl

next : (m n : Machine) (s a k : ℕ) (words : List ℕ) (all : Result Machine Reason) → k < length words
    → with_words_stored m s a (drop k words) ≡ all → with_word_loaded m s a (slice_index words k) ≡ Ok n
    → with_words_stored n s (a + 1) (drop (k + 1) words) ≡ all
next m n s a k words all h so g =
    sym (ap (λ r. and_then r (λ x. with_words_stored x s (a + 1) (drop (k + 1) words))) g) ∙ sym (ap (with_words_stored m s a) (front words k h)) ∙ so

fails : (m : Machine) (s a k : ℕ) (r : Reason) (words : List ℕ) (all : Result Machine Reason) → k < length words
    → with_words_stored m s a (drop k words) ≡ all → with_word_loaded m s a (slice_index words k) ≡ Err r → all ≡ Err r
fails m s a k r words all h so g =
    sym so ∙ ap (with_words_stored m s a) (front words k h) ∙ ap (λ x. and_then x (λ y. with_words_stored y s (a + 1) (drop (k + 1) words))) g

pub loading_start : (v : State) (s a : ℕ) (words : List ℕ) → LoadSo (unwound v s) v s a 0 words (drop 0 words)
loading_start v s a words = record {
  raw = refl;
  reached = λ h. absurd (omega arith);
  whole = ap (λ x. with_words_stored (unwound v s).raw s x words) (omega arith);
}

-- here v is the state that the line finds, `now` the state before word k, which is x, and `then`
-- that after it
pub loading_next : (v now then : State) (s a k at x : ℕ) (words : List ℕ) → Sound now → k < length words → at ≡ a + k
    → x ≡ slice_index words k → LoadSo v now s a k words (drop k words)
    → Lands (unwound now s) then (with_word_loaded (unwound now s).raw s at x) → LoadSo v then s a (k + 1) words (drop (k + 1) words)
loading_next v now then s a k at x words sound h e f so d =
    let still : unwound then s ≡ then = calm_still (unwound now s) then s then.raw d.rest (unwound_none now s sound) in
    let p : at + 1 ≡ a + (k + 1) = omega (arith, e) in
    let found : with_words_stored (unwound now s).raw s at (drop k words) ≡ with_words_stored v.raw s a words =
    ap (λ y. with_words_stored (unwound now s).raw s y (drop k words)) e ∙ so.whole in
    let loaded : with_word_loaded (unwound now s).raw s at (slice_index words k) ≡ Ok then.raw =
    ap (with_word_loaded (unwound now s).raw s at) (sym f) ∙ d.is in
    record {
      raw = still ∙ d.rest ∙ ap (λ y. with_raw y then.raw) so.raw ∙ ap (λ y. with_raw v y.raw) (sym still);
      reached = λ z. sym still;
      whole = ap (λ y. with_words_stored y.raw s (a + (k + 1)) (drop (k + 1) words)) still
          ∙ ap (λ y. with_words_stored then.raw s y (drop (k + 1) words)) (sym p)
          ∙ next (unwound now s).raw then.raw s at k words _ h found loaded;
    }

pub loading_fails : (v now : State) (s a k : ℕ) (r : Reason) (words : List ℕ) → k < length words → LoadSo v now s a k words (drop k words)
    → with_word_loaded (unwound now s).raw s (a + k) (slice_index words k) ≡ Err r → with_words_stored v.raw s a words ≡ Err r
loading_fails v now s a k r words h so g = fails (unwound now s).raw s (a + k) k r words _ h so.whole g

pub loading_end : (v now : State) (s a k : ℕ) (words rest : List ℕ) → 0 < k → rest ≡ [] → LoadSo v now s a k words rest
    → Lands v now (with_words_stored v.raw s a words)
loading_end v now s a k words rest h e so =
    let here = so.reached h in
    record {
      is = sym so.whole ∙ ap (with_words_stored (unwound now s).raw s (a + k)) e ∙ ap (λ x. Ok x.raw) (sym here);
      rest = here ∙ so.raw ∙ ap (λ x. with_raw v x.raw) (sym here);
    }

-- a line that is barred is refused, and one that is not is stored
pub barred : (m : Machine) (s a n : ℕ) (ws : List ℕ) → n ≡ length ws → words_barred m s a n ≡ true → with_words_loaded m s a ws ≡ Err ReadOnly
unfolding with_words_loaded
barred m s a n ws e h = ap (with_words_loaded_if m s a ws) (ap (words_barred m s a) (sym e) ∙ h)

free : (m : Machine) (s a n : ℕ) (ws : List ℕ) → n ≡ length ws → words_barred m s a n ≡ false → with_words_loaded m s a ws ≡ with_words_stored m s a ws
unfolding with_words_loaded
free m s a n ws e h = ap (with_words_loaded_if m s a ws) (ap (words_barred m s a) (sym e) ∙ h)

pub stored : {T : Type 0} (r : Result T Refusal) (v now : State) (s a n : ℕ) (ws : List ℕ) → n ≡ length ws
    → words_barred v.raw s a n ≡ false → OnOk r (Lands v now (with_words_stored v.raw s a ws)) → OnOk r (Lands v now (with_words_loaded v.raw s a ws))
stored (Ok x) v now s a n ws e h d = record { is = free v.raw s a n ws e h ∙ d.is; rest = d.rest }
stored (Err x) v now s a n ws e h d = tt

pub not_stored : {T : Type 0} (r : Result T Refusal) (m : Machine) (s a n : ℕ) (ws : List ℕ) → n ≡ length ws → words_barred m s a n ≡ false
    → IfErr r (λ e. with_words_stored m s a ws ≡ Err (reason_of e)) → IfErr r (λ e. with_words_loaded m s a ws ≡ Err (reason_of e))
not_stored (Ok x) m s a n ws e h d = tt
not_stored (Err x) m s a n ws e h d = free m s a n ws e h ∙ d
