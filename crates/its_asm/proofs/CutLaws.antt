-- The runs of a text between its marks.
use Rattle.std.proofs.Common.{◌≡◌, ℕ, Bool, true, false, Option, Some, None, List, [], ◌∷◌, refl, filter}
use Rattle.its_chart.specs.Text.{cut, cut_at, is_mark}
use Rattle.its_asm.specs.Text.{pieces}

-- what is before and after the first mark is the first run and the others; the mark is the first
-- one
abbrev Split : List ℕ → List ℕ → List ℕ × ℕ × List ℕ → Type 0
Split marks text q = (pieces marks text ≡ q.0 ∷ pieces marks q.2) × (filter (is_mark marks) text ≡ q.1 ∷ filter (is_mark marks) q.2)

split_by : (marks rest : List ℕ) (b : ℕ) (q : List ℕ × ℕ × List ℕ) (t : Bool) (r : Option (List ℕ × ℕ × List ℕ)) → is_mark marks b ≡ t
    → ((p : List ℕ × ℕ × List ℕ) → r ≡ Some p → Split marks rest p) → cut_at t b rest r ≡ Some q → Split marks (b ∷ rest) q
split_by marks rest b q true r e ih h =
    let at : ([], b, rest) ≡ q = cc in
    rw (← at) (rw e refl, rw e refl)
split_by marks rest b q false None e ih h = cc
split_by marks rest b q false (Some p) e ih h =
    let at : (b ∷ p.0, p.1, p.2) ≡ q = cc in
    let more = ih p refl in
    rw (← at) (rw (e, more.0) refl, rw (e, more.1) refl)

pub cut_split : (marks text : List ℕ) (q : List ℕ × ℕ × List ℕ) → cut marks text ≡ Some q → Split marks text q
cut_split marks [] q h = cc
cut_split marks (b ∷ rest) q h = split_by marks rest b q (is_mark marks b) (cut marks rest) refl (λ p e. cut_split marks rest p e) h

-- a text without a mark is one run
whole_by : (marks rest : List ℕ) (b : ℕ) (t : Bool) (r : Option (List ℕ × ℕ × List ℕ)) → is_mark marks b ≡ t
    → (r ≡ None → (pieces marks rest ≡ rest ∷ []) × (filter (is_mark marks) rest ≡ [])) → cut_at t b rest r ≡ None
    → (pieces marks (b ∷ rest) ≡ (b ∷ rest) ∷ []) × (filter (is_mark marks) (b ∷ rest) ≡ [])
whole_by marks rest b true r e ih h = cc
whole_by marks rest b false (Some p) e ih h = cc
whole_by marks rest b false None e ih h =
    let more = ih refl in
    (rw (e, more.0) refl, rw (e, more.1) refl)

pub cut_whole : (marks text : List ℕ) → cut marks text ≡ None → (pieces marks text ≡ text ∷ []) × (filter (is_mark marks) text ≡ [])
cut_whole marks [] h = (refl, refl)
cut_whole marks (b ∷ rest) h = whole_by marks rest b (is_mark marks b) (cut marks rest) refl (λ e. cut_whole marks rest e) h
