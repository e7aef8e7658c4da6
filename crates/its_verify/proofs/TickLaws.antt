-- The letters of a line, read byte by byte.
use Rattle.std.proofs.Common.{◌≡◌, ◌≢◌, ◌<◌, ◌≤◌, ◌+◌, ◌==◌, ℕ, suc, true, false, Some, None, List, [], ◌∷◌, ◌++◌, length, replicate, drop, get_or, refl, add-one, sym, ap, ◌∙◌, arith, append_assoc, append-nil}
use Rattle.std.proofs.Math.Seq.{drop-cons}
use Rattle.std.proofs.lemmas.Bool.{and_right, eq-eqb, ne_eqb}
use Rattle.std.proofs.lemmas.List.{length-append, length-replicate}
use Rattle.std.proofs.Math.ListN.{drop_of_length-le}
use Rattle.std.specs.Prelude.{bytes_eq}
use Rattle.its_records.specs.declared.calls.Pace.{Pace}
use Rattle.its_print.specs.declared.runs.Run.{Run}
use Rattle.its_print.specs.Runs.{paces_in}
use Rattle.its_print.specs.Printing.{Ticks, text_of_line}
use Rattle.its_verify.specs.Letters.{counted, letter_at, paces_from, run_of, ticks_in}

-- a run after others
paces_behind : (rs : List Run) (r : Run) → paces_in (rs ++ r ∷ []) ≡ paces_in rs ++ replicate (suc r.more) r.pace
paces_behind [] r = ap (λ (ps : List Pace). r.pace ∷ ps) (append-nil (replicate r.more r.pace))
paces_behind (q ∷ rs) r =
    ap (λ (ps : List Pace). q.pace ∷ ps)
    (ap (λ (ps : List Pace). replicate q.more q.pace ++ ps) (paces_behind rs r)
    ∙ sym (append_assoc (replicate q.more q.pace) (paces_in rs) (replicate (suc r.more) r.pace)))

pub run_added : (rs : List Run) (p : Pace) (n k : ℕ) → k + 1 ≡ n → paces_in (rs ++ record { pace = p; more = k } ∷ []) ≡ paces_in rs ++ replicate n p
run_added rs p n k is =
    let e : suc k ≡ n = omega (arith, is) in
    paces_behind rs (record { pace = p; more = k }) ∙ ap (λ m. paces_in rs ++ replicate m p) e

pub none_added : (rs : List Run) (p : Pace) (n : ℕ) → n ≡ 0 → paces_in rs ≡ paces_in rs ++ replicate n p
none_added rs p n is = sym (append-nil (paces_in rs)) ∙ ap (λ m. paces_in rs ++ replicate m p) (sym is)

pub added_length : (ps qs : List Pace) (n : ℕ) (p : Pace) → qs ≡ ps ++ replicate n p → length qs ≡ length ps + n
added_length ps qs n p is = ap length is ∙ length-append ps (replicate n p) ∙ ap (λ k. length ps + k) (length-replicate n p)

-- a byte
byte_at : (most n : ℕ) (line : List ℕ) (i d : ℕ) → i < length line
    → paces_from most n (drop i line) ≡ run_of (letter_at (get_or line i d)) n ++ paces_from most (counted most n (get_or line i d)) (drop (i + 1) line)
byte_at most n line i d below = rw (drop-cons line i d below, add-one i) refl

pub at_letter : (most n : ℕ) (all ps : List Pace) (line : List ℕ) (i d : ℕ) (p : Pace) → i < length line → letter_at (get_or line i d) ≡ Some p
    → all ≡ ps ++ paces_from most n (drop i line) → all ≡ (ps ++ replicate n p) ++ paces_from most (counted most n (get_or line i d)) (drop (i + 1) line)
at_letter most n all ps line i d p below is told =
    let step : paces_from most n (drop i line) ≡ replicate n p ++ paces_from most (counted most n (get_or line i d)) (drop (i + 1) line) =
    byte_at most n line i d below ∙ rw is refl in
    told ∙ ap (λ (qs : List Pace). ps ++ qs) step ∙ sym (append_assoc ps (replicate n p)
    (paces_from most (counted most n (get_or line i d)) (drop (i + 1) line)))

pub at_other : (most n : ℕ) (all ps : List Pace) (line : List ℕ) (i d : ℕ) → i < length line → letter_at (get_or line i d) ≡ None
    → all ≡ ps ++ paces_from most n (drop i line) → all ≡ ps ++ paces_from most (counted most n (get_or line i d)) (drop (i + 1) line)
at_other most n all ps line i d below is told =
    let step : paces_from most n (drop i line) ≡ paces_from most (counted most n (get_or line i d)) (drop (i + 1) line) =
    byte_at most n line i d below ∙ rw is refl in
    told ∙ ap (λ (qs : List Pace). ps ++ qs) step

pub past_most : (most n t : ℕ) (all ps : List Pace) (line : List ℕ) (i d : ℕ) (p : Pace) → i < length line → letter_at (get_or line i d) ≡ Some p
    → all ≡ ps ++ paces_from most n (drop i line) → length ps ≡ t → most < t + n → length all ≢ most
past_most most n t all ps line i d p below is told many past = λ e.
    (let f = at_letter most n all ps line i d p below is told in
    let rest = paces_from most (counted most n (get_or line i d)) (drop (i + 1) line) in
    let long : length all ≡ length ((ps ++ replicate n p) ++ rest) = ap length f in
    let h = past in
    let g = many in
    absurd (omega (arith, e, long, length-append (ps ++ replicate n p) rest, length-append ps (replicate n p), length-replicate n p)))

pub at_last : (most n : ℕ) (all ps : List Pace) (line : List ℕ) (i : ℕ) → length line ≤ i → all ≡ ps ++ paces_from most n (drop i line) → all ≡ ps
at_last most n all ps line i past told =
    let none : drop i line ≡ [] = drop_of_length-le line past in
    told ∙ rw none (append-nil ps)

pub last_other : (most n t k : ℕ) (all ps : List Pace) (line : List ℕ) (i : ℕ) → length line ≤ i
    → all ≡ ps ++ paces_from most n (drop i line) → length ps ≡ t → t ≢ k
    → length all ≢ k
last_other most n t k all ps line i past told many other = λ e.
    (let long : length all ≡ length ps = ap length (at_last most n all ps line i past told) in other (sym many ∙ sym long ∙ e))

-- the letters of a line
pub ticks_read : (i k : ℕ) (line : List ℕ) (ps : List Pace) → paces_from k 0 line ≡ ps → length ps ≡ k
    → bytes_eq line (text_of_line (Ticks i ps)) ≡ true → ticks_in i k line ≡ Some ps
unfolding ticks_in
ticks_read i k line ps read many said = rw (read, eq-eqb (length ps) k many, said) refl

pub ticks_other : (i k : ℕ) (line : List ℕ) (ps : List Pace) → paces_from k 0 line ≡ ps → bytes_eq line (text_of_line (Ticks i ps)) ≡ false
    → ticks_in i k line ≡ None
unfolding ticks_in
ticks_other i k line ps read other = rw (read, other, and_right (length ps == k) false refl) refl

pub ticks_few : (i k : ℕ) (line : List ℕ) → length (paces_from k 0 line) ≢ k → ticks_in i k line ≡ None
unfolding ticks_in
ticks_few i k line other = rw (ne_eqb (length (paces_from k 0 line)) k other) refl
