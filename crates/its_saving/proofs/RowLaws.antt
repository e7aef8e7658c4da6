-- Lines of so many words or bytes each, those of a list one after another, and what a loop takes
-- of a list.
use Rattle.std.specs.Prelude.{◌≡◌, ◌<◌, ◌≤◌, ℕ, zero, suc, ◌+◌, ◌*◌, Some, None, List, [], ◌∷◌, ◌++◌, length, map, take, drop, slice_get, get_or, refl}
use Rattle.std.proofs.Common.{sym, ◌∙◌, ap, arith, append_assoc, append-nil, length-drop, take-append-drop, suc-mul, zero-mul}
use Rattle.std.proofs.lemmas.List.{drop-drop, get_or-drop, map-append, take_all, take_more}
use Rattle.std.proofs.lemmas.Option.{get_or_from_slice_get, slice_get_within}
use Rattle.its_files.specs.Files.{Store, directory, file_at}
use Rattle.its_plain.specs.Machine.{Symbol}
use Rattle.its_saved.specs.StateLine.{StateLine}
use Rattle.its_saved.specs.StateLine as state
use Rattle.its_saved.specs.Saving.{each, file_lines, files_lines, in_rows, symbol_lines}
use Rattle.its_saving.specs.Parts.{lines_at, nth_lines}

-- the lines of the first number apart
each_front : (f : ℕ → List StateLine) (n : ℕ) → each f (suc n) ≡ f 0 ++ each (λ k. f (suc k)) n
each_front f zero = sym (append-nil (f 0))
each_front f (suc n) = ap (λ l. l ++ f (suc n)) (each_front f n) ∙ append_assoc (f 0) (each (λ k. f (suc k)) n) (f (suc n))

-- rows
in_rows_none : (line : List ℕ → StateLine) (size n : ℕ) → in_rows line size n [] ≡ []
in_rows_none line size zero = refl
in_rows_none line size (suc n) = refl

module _ (line : List ℕ → StateLine) (size : ℕ) where
  abbrev pub nth_row : List ℕ → ℕ → List StateLine
  nth_row ws k = line (take size (drop (k * size) ws)) ∷ []

  row_next : (ws : List ℕ) (k : ℕ) → nth_row ws (suc k) ≡ nth_row (drop size ws) k
  row_next ws k = ap (λ l. line (take size l) ∷ []) (
      ap (λ n. drop n ws) (let e = suc-mul k size in let x : suc k * size ≡ size + k * size = omega arith in x)
      ∙ sym (drop-drop (k * size) size ws))

  row_first : (ws : List ℕ) → nth_row ws 0 ≡ line (take size ws) ∷ []
  row_first ws = ap (λ n. line (take size (drop n ws)) ∷ []) (zero-mul size)

  pub rows_each : (n m : ℕ) (ws : List ℕ) → m ≤ n → length ws ≤ m * size → m * size < length ws + size → in_rows line size n ws ≡ each (nth_row ws) m
  rows_each n zero [] few all least = in_rows_none line size n
  rows_each n zero (w ∷ ws) few all least = let z = zero-mul size in let l : suc (length ws) ≤ zero * size = all in absurd (omega arith)
  rows_each zero (suc m) ws few all least = absurd (omega arith)
  rows_each (suc n) (suc m) [] few all least = let e = suc-mul m size in let l : suc m * size < 0 + size = least in absurd (omega arith)
  rows_each (suc n) (suc m) (w ∷ ws) few all least =
      let e = suc-mul m size in
      let d = length-drop size (w ∷ ws) in
      let rest = rows_each n m (drop size (w ∷ ws)) (omega arith) (omega arith) (omega arith) in
      sym (each_front (nth_row (w ∷ ws)) m ∙ (λ i. row_first (w ∷ ws) i ++ each (λ k. row_next (w ∷ ws) k i) m) ∙ ap (λ l. line (take size (w ∷ ws)) ∷ l) (sym rest))

-- the files in their order
nth_of : (s : Store) (ids : List ℕ) (n : ℕ) → length ids ≤ n → each (λ k. lines_at s (slice_get ids k)) n ≡ files_lines (map (file_at s) ids)
nth_of s [] zero few = refl
nth_of s [] (suc n) few = append-nil (each (λ k. lines_at s (slice_get [] k)) n) ∙ nth_of s [] n (omega arith)
nth_of s (id ∷ ids) zero few = absurd (omega arith)
nth_of s (id ∷ ids) (suc n) few = each_front (λ k. lines_at s (slice_get (id ∷ ids) k)) n ∙ ap (λ l. file_lines (file_at s id) ++ l)
    (nth_of s ids n (omega arith))

pub files_each : (s : Store) (n : ℕ) → length s.order ≤ n → each (nth_lines s) n ≡ files_lines (directory s)
files_each s n few = nth_of s s.order n few

slice_get_absent : {X : Type 0} (xs : List X) (i : ℕ) → slice_get xs i ≡ None → length xs ≤ i
slice_get_absent [] i e = omega arith
slice_get_absent (x ∷ xs) zero e = cc
slice_get_absent (x ∷ xs) (suc i) e = (let l = slice_get_absent xs i e in omega arith)

-- what a loop takes of a list from a place on
module _ {X : Type 0} (xs : List X) (from : ℕ) where
  pub take_next : (k : ℕ) (x : X) → slice_get xs (from + k) ≡ Some x → take (k + 1) (drop from xs) ≡ take k (drop from xs) ++ x ∷ []
  take_next k x e =
      let l = slice_get_within xs (from + k) x e in
      let d = length-drop from xs in
      take_more (drop from xs) k x (omega arith) ∙ ap (λ y. take k (drop from xs) ++ y ∷ []) (get_or-drop from xs k x ∙ get_or_from_slice_get xs (from + k) x x e)

  pub take_end : (n k : ℕ) → k ≤ n → slice_get xs (from + k) ≡ None → take k (drop from xs) ≡ take n (drop from xs)
  take_end n k le e =
      let l = slice_get_absent xs (from + k) e in
      let d = length-drop from xs in
      take_all k (drop from xs) (omega arith) ∙ sym (take_all n (drop from xs) (omega arith))

-- the symbols of a job one after another
pub symbols_next : (s : ℕ) (xs : List Symbol) (i : ℕ) (x : Symbol) → i < length xs → x ≡ get_or xs i x
    → symbol_lines s (take (i + 1) xs) ≡ symbol_lines s (take i xs) ++ state.Symbol s x.0 x.1 ∷ []
symbols_next s xs i x l e =
    ap (λ ys. symbol_lines s ys) (take_more xs i x l ∙ ap (λ y. take i xs ++ y ∷ []) (sym e))
    ∙ map-append (λ (y : Symbol). state.Symbol s y.0 y.1) (take i xs) (x ∷ [])

pub symbols_rest : (s : ℕ) (xs : List Symbol) (i : ℕ) (x : Symbol) → i < length xs → x ≡ get_or xs i x
    → symbol_lines s xs ≡ (symbol_lines s (take i xs) ++ state.Symbol s x.0 x.1 ∷ []) ++ symbol_lines s (drop (i + 1) xs)
symbols_rest s xs i x l e =
    ap (λ ys. symbol_lines s ys) (sym (take-append-drop (i + 1) xs))
    ∙ map-append (λ (y : Symbol). state.Symbol s y.0 y.1) (take (i + 1) xs) (drop (i + 1) xs)
    ∙ ap (λ ls. ls ++ symbol_lines s (drop (i + 1) xs)) (symbols_next s xs i x l e)
