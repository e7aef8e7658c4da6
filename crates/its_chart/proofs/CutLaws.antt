-- Texts cut at their first mark.
use Rattle.std.proofs.Common.{◌≡◌, ◌<◌, ◌≤◌, ◌+◌, ◌-◌, ℕ, zero, suc, ltb, Some, None, List, [], ◌∷◌, length, take, drop, slice_index, refl, sym, arith, position, inl, inr, add-one}
use Rattle.std.specs.List.{position_or_len}
use Rattle.std.proofs.lemmas.Bool.{cases_Bool, ltb-true, ltb-false}
use Rattle.std.proofs.lemmas.List.{take_rest}
use Rattle.its_chart.specs.Text.{cut, is_mark}

-- a text with no mark up to its end
cut_past : (marks text : List ℕ) → length text ≤ position_or_len (is_mark marks) text → cut marks text ≡ None
cut_past marks [] h = refl
cut_past marks (b ∷ rest) h =
    elim (cases_Bool (is_mark marks b)) [
      | inl hit ↦ (let e : length (b ∷ rest) ≤ 0 = rw hit at h in absurd (omega arith))
      | inr miss ↦ (let e : length (b ∷ rest) ≤ 1 + position_or_len (is_mark marks) rest = rw miss at h in
          let more : cut marks rest ≡ None = cut_past marks rest (omega arith) in
          rw (miss, more) refl)
    ]

-- a text with its first mark at a place
cut_first : (marks text : List ℕ) (k : ℕ) → k ≡ position_or_len (is_mark marks) text → k < length text
    → cut marks text ≡ Some (take k text, slice_index text k, drop (suc k) text)
cut_first marks [] k e l = absurd (omega arith)
cut_first marks (b ∷ rest) zero e l =
    elim (cases_Bool (is_mark marks b)) [
      | inl hit ↦ rw hit refl
      | inr miss ↦ (let e' : 0 ≡ 1 + position_or_len (is_mark marks) rest = rw miss at e in absurd (omega arith))
    ]
cut_first marks (b ∷ rest) (suc k) e l =
    elim (cases_Bool (is_mark marks b)) [
      | inl hit ↦ (let e' : suc k ≡ 0 = rw hit at e in absurd (omega arith))
      | inr miss ↦ (let e' : suc k ≡ 1 + position_or_len (is_mark marks) rest = rw miss at e in
          let more : cut marks rest ≡ Some (take k rest, slice_index rest k, drop (suc k) rest) = cut_first marks rest k (omega arith) (omega arith) in
          rw (miss, more) refl)
    ]

pub cut_none : (marks text : List ℕ) → position (is_mark marks) text ≡ None → cut marks text ≡ None
cut_none marks text none =
    elim (cases_Bool (ltb (position_or_len (is_mark marks) text) (length text))) [
      | inl some ↦ (let e : Some (position_or_len (is_mark marks) text) ≡ None = rw some at none in cc)
      | inr past ↦ cut_past marks text (ltb-false _ _ past)
    ]

pub cut_found : (marks text : List ℕ) (k : ℕ) → position (is_mark marks) text ≡ Some k
    → cut marks text ≡ Some (take k text, slice_index text k, take (length text - (k + 1)) (drop (k + 1) text))
cut_found marks text k found =
    elim (cases_Bool (ltb (position_or_len (is_mark marks) text) (length text))) [
      | inl some ↦
          (let e : Some (position_or_len (is_mark marks) text) ≡ Some k = rw some at found in
          let at : position_or_len (is_mark marks) text ≡ k = cc in
          let within = ltb-true _ _ some in
          rw (take_rest, add-one) (cut_first marks text k (sym at) (omega arith)))
      | inr past ↦ (let e : None ≡ Some k = rw past at found in cc)
    ]
