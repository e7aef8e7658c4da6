-- The lines of a text, taken off one after another.
use Rattle.std.proofs.Common.{◌≡◌, ◌<◌, ◌≤◌, ◌+◌, ◌^◌, ℕ, zero, suc, true, false, Option, Some, None, Err, List, [], ◌∷◌, length, get_or, take, refl, arith, add-one, inl, inr}
use Rattle.std.proofs.lemmas.Bool.{cases_lt, ltb-false, or_from, or_right}
use Rattle.its_asm.specs.declared.layout.Layout.{Layout}
use Rattle.its_chart.specs.Text.{cut}
use Rattle.its_asm.specs.Text.{pieces}
use Rattle.its_asm.specs.Layout.{laid, laid_out}
use Rattle.its_asm.specs.Assembly.{Assembly, any_given, ended, from_line, inserted, is_given, lines_of, literals_past, placed, unless, whole_lines, with_line}
use Rattle.its_asm.specs.declared.reason.AsmReason.{AsmReason}
use Rattle.its_asm.specs.declared.reason.AsmFault.TheVariants.{Line}
use Rattle.its_asm.proofs.CutLaws.{cut_split, cut_whole}

-- a line that ends at LF is whole
ends : (line : List ℕ) (more : List ℕ) (lines : List (List ℕ)) → whole_lines (line ∷ (more ∷ lines)) ≡ line ∷ whole_lines (more ∷ lines)
ends [] more lines = refl
ends (b ∷ bs) more lines = refl

-- pieces are never none
some_pieces : (marks text : List ℕ) → (first : List ℕ) × (rest : List (List ℕ)) × (pieces marks text ≡ first ∷ rest)
some_pieces marks text = by (cut marks text) refl
  where
    by : (r : Option (List ℕ × ℕ × List ℕ)) → cut marks text ≡ r → (first : List ℕ) × (rest : List (List ℕ)) × (pieces marks text ≡ first ∷ rest)
    by None e = (text, [], (cut_whole marks text e).0)
    by (Some q) e = (q.0, pieces marks q.2, (cut_split marks text q e).0)

pub line_cut : (text a c : List ℕ) (m : ℕ) → cut (10 ∷ []) text ≡ Some (a, m, c) → lines_of text ≡ a ∷ lines_of c
unfolding lines_of
line_cut text a c m h =
    let parts = cut_split (10 ∷ []) text (a, m, c) h in
    let more = some_pieces (10 ∷ []) c in
    let at = more.2 in
    rw (parts.0, at) (ends a more.0 more.1)

pub no_lines : lines_of [] ≡ []
unfolding lines_of
no_lines = refl

pub line_last : (text : List ℕ) → 0 < length text → cut (10 ∷ []) text ≡ None → lines_of text ≡ text ∷ lines_of []
unfolding lines_of
line_last [] some h = absurd (omega arith)
line_last (b ∷ rest) some h =
    let parts = cut_whole (10 ∷ []) (b ∷ rest) h in
    rw (parts.0) refl

pub laid_none : (l : Layout) → laid_out l [] ≡ l
unfolding laid_out
laid_none l = refl

pub laid_more : (l : Layout) (line : List ℕ) (lines : List (List ℕ)) → laid_out l (line ∷ lines) ≡ laid_out (laid l line) lines
unfolding laid_out
laid_more l line lines = refl

-- literals one after another
pub not_past : (base : ℕ) (ws : List ℕ) (i : ℕ) → literals_past base ws ≡ false → i < length ws → base + i < 2 ^ 18
not_past base [] i h lt = absurd (omega arith)
not_past base (w ∷ ws) i h lt =
    let few = ltb-false (2 ^ 18) (base + length (w ∷ ws)) h in
    omega arith

placed_by : (base : ℕ) (ws : List ℕ) (cells : List (ℕ × ℕ)) (i d : ℕ) → i < length ws
    → placed base (take (suc i) ws) cells ≡ inserted (base + i) (get_or ws i d) (placed base (take i ws) cells)
placed_by base [] cells i d h = absurd (omega arith)
placed_by base (w ∷ ws) cells zero d h = let e : base + 0 ≡ base = omega arith in rw e refl
placed_by base (w ∷ ws) cells (suc i) d h =
    let e : base + suc i ≡ base + 1 + i = omega arith in
    rw e (placed_by (base + 1) ws (inserted base w cells) i d (omega arith))

pub placed_more : (base : ℕ) (ws : List ℕ) (cells : List (ℕ × ℕ)) (i d at : ℕ) → i < length ws → at ≡ base + i
    → placed base (take (i + 1) ws) cells ≡ inserted at (get_or ws i d) (placed base (take i ws) cells)
placed_more base ws cells i d at h e = rw (add-one, e) (placed_by base ws cells i d h)

pub any_here : (base : ℕ) (ws : List ℕ) (cells : List (ℕ × ℕ)) (i at : ℕ) → i < length ws → at ≡ base + i → is_given cells at ≡ true
    → any_given base ws cells ≡ true
any_here base [] cells i at h e t = absurd (omega arith)
any_here base (w ∷ ws) cells zero at h e t =
    let same : base ≡ at = omega arith in
    rw (same, t) refl
any_here base (w ∷ ws) cells (suc i) at h e t = or_right (is_given cells base) (any_given (base + 1) ws cells)
    (any_here (base + 1) ws cells i at (omega arith) (omega arith) t)

-- none of the first i has a word
pub record NoneOf (base : ℕ) (ws : List ℕ) (cells : List (ℕ × ℕ)) (i : ℕ) : Type 0 where
  pub none : (k : ℕ) → k < i → is_given cells (base + k) ≡ false

pub none_yet : (base : ℕ) (ws : List ℕ) (cells : List (ℕ × ℕ)) → NoneOf base ws cells 0
none_yet base ws cells = record { none = λ k h. absurd (omega arith) }

pub none_more : (base : ℕ) (ws : List ℕ) (cells : List (ℕ × ℕ)) (i at : ℕ) → NoneOf base ws cells i → at ≡ base + i
    → is_given cells at ≡ false → NoneOf base ws cells (i + 1)
none_more base ws cells i at n e f = record {
  none = λ k h. elim (cases_lt k i) [
    | inl below ↦ n.none k below
    | inr above ↦ (let same : base + k ≡ at = omega arith in rw same f)
  ];
}

none_by : (base : ℕ) (ws : List ℕ) (cells : List (ℕ × ℕ)) → ((k : ℕ) → k < length ws → is_given cells (base + k) ≡ false) → any_given base ws cells ≡ false
none_by base [] cells f = refl
none_by base (w ∷ ws) cells f =
    let e : base + 0 ≡ base = omega arith in
    let first : is_given cells base ≡ false = rw e at (f 0 (omega arith)) in
    let rest : (k : ℕ) → k < length ws → is_given cells (base + 1 + k) ≡ false =
    λ k h. (let s : base + 1 + k ≡ base + suc k = omega arith in rw s (f (suc k) (omega arith))) in
    or_from (is_given cells base) (any_given (base + 1) ws cells) first (none_by (base + 1) ws cells rest)

pub none_given_all : (base : ℕ) (ws : List ℕ) (cells : List (ℕ × ℕ)) (i : ℕ) → NoneOf base ws cells i → length ws ≤ i → any_given base ws cells ≡ false
none_given_all base ws cells i n h = none_by base ws cells (λ k lt. n.none k (omega arith))

-- the lines of an assembly
pub from_none : (whole : Layout) (n : ℕ) (a : Assembly) → from_line whole n a [] ≡ ended n a.layout.stage a
from_none whole n a = refl

pub from_taken : (whole : Layout) (n : ℕ) (a b : Assembly) (line : List ℕ) (lines : List (List ℕ)) → with_line whole a line ≡ unless None b
    → from_line whole n a (line ∷ lines) ≡ from_line whole (n + 1) b lines
from_taken whole n a b line lines h = rw h refl

pub from_refused : (whole : Layout) (n : ℕ) (a b : Assembly) (line : List ℕ) (lines : List (List ℕ)) (reason : AsmReason)
    → with_line whole a line ≡ unless (Some reason) b → from_line whole n a (line ∷ lines) ≡ Err (Line n reason)
from_refused whole n a b line lines reason h = rw h refl

-- no lines are left
pub laid_end : (l : Layout) (rest : List ℕ) → length rest ≡ 0 → laid_out l (lines_of rest) ≡ l
laid_end l [] h = rw no_lines (laid_none l)
laid_end l (b ∷ bs) h = absurd (omega arith)

pub from_end : (whole : Layout) (n : ℕ) (a : Assembly) (rest : List ℕ) → length rest ≡ 0 → from_line whole n a (lines_of rest) ≡ ended n a.layout.stage a
from_end whole n a [] h = rw no_lines refl
from_end whole n a (b ∷ bs) h = absurd (omega arith)
