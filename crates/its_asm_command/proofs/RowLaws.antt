-- Lines of words and of symbols, added one after another.
use Rattle.std.specs.Prelude.{Result, Ok, Err, OnOk, ◌≡◌, ◌≤◌, ◌<◌, ◌+◌, ◌-◌, ◌^◌, ℕ, zero, suc, true, false, Some, None, List, [], ◌∷◌, ◌++◌, All, length, drop, take, get_or, slice_get, refl}
use Rattle.std.proofs.Common.{sym, ◌∙◌, ap, subst, arith, add-one, append_assoc}
use Rattle.std.proofs.Math.Seq.{drop-cons}
use Rattle.std.proofs.lemmas.Option.{get_or_from_slice_get, slice_get_within}
use Rattle.its_records.specs.declared.session.Event.TheVariants as events
use Rattle.its_asm_command.specs.declared.row.Row.{Row}
use Rattle.std.proofs.lemmas.List.Elements.{All-drop, All-get_or, All-take}
use Rattle.its_asm_command.specs.Image.{CellFits, SymbolFits}
use Rattle.its_asm_command.specs.Written.{goes_on, rows_from, rows, symbol_lines}
use Rattle.its_asm_command.specs.Made.{Adds, AddsRow, RowsSo, row_line}
use Rattle.its_asm_command.proofs.AddsLaws.{as_added, none_added, then_adds}

-- what follows i of some cells
front : (rest : List (ℕ × ℕ)) (i : ℕ) (d : ℕ × ℕ) → i < length rest → drop i rest ≡ get_or rest i d ∷ drop (i + 1) rest
front rest i d h = rw add-one (drop-cons rest i d h)

one_more : (s : ℕ) (ws : List ℕ) (a w : ℕ) (cells : List (ℕ × ℕ)) → goes_on s ws a ≡ true → rows_from s ws ((a, w) ∷ cells) ≡ rows_from s (ws ++ w ∷ []) cells
one_more s ws a w cells h = rw h refl

new_row : (s : ℕ) (ws : List ℕ) (a w : ℕ) (cells : List (ℕ × ℕ)) → goes_on s ws a ≡ false
    → rows_from s ws ((a, w) ∷ cells) ≡ events.Words s (record { items = ws }) ∷ rows_from a (w ∷ []) cells
new_row s ws a w cells h = rw h refl

-- the first row
pub rows_start : (first : Row) (cells : List (ℕ × ℕ)) (text : List ℕ) → RowsSo first cells (drop 0 cells) first text text
rows_start first cells text = record { done = []; adds = none_added text; whole = refl }

-- a word that goes on in its row
pub goes_on_here : (row r : Row) (a w : ℕ) (text : List ℕ) → goes_on row.start row.words.items a ≡ true → r.start ≡ row.start
    → r.words.items ≡ row.words.items ++ w ∷ [] → AddsRow row r a w text text
goes_on_here row r a w text h s k = record {
  done = [];
  adds = none_added text;
  whole = λ cells. one_more row.start row.words.items a w cells h ∙ ap (λ x. rows_from x (row.words.items ++ w ∷ []) cells) (sym s)
      ∙ ap (λ x. rows_from r.start x cells) (sym k);
}

-- and one that begins a row
pub begins_row : (row r : Row) (a w : ℕ) (old new : List ℕ) → goes_on row.start row.words.items a ≡ false → Adds (row_line row ∷ []) old new
    → r.start ≡ a → r.words.items ≡ w ∷ [] → AddsRow row r a w old new
begins_row row r a w old new h f s k = record {
  done = row_line row ∷ [];
  adds = f;
  whole = λ cells. new_row row.start row.words.items a w cells h
      ∙ ap (λ x. row_line row ∷ rows_from x (w ∷ []) cells) (sym s) ∙ ap (λ x. row_line row ∷ rows_from r.start x cells) (sym k);
}

pub rows_next : (first : Row) (cells : List (ℕ × ℕ)) (i : ℕ) (row r : Row) (d : ℕ × ℕ) (old now new : List ℕ) → i < length cells
    → RowsSo first cells (drop i cells) row old now
    → AddsRow row r (get_or cells i d).0 (get_or cells i d).1 now new → RowsSo first cells (drop (i + 1) cells) r old new
rows_next first cells i row r d old now new h s t = record {
  done = s.done ++ t.done;
  adds = then_adds s.done t.done old now new s.adds t.adds;
  whole = s.whole ∙ ap (λ x. s.done ++ rows_from row.start row.words.items x) (front cells i d h)
      ∙ ap (λ x. s.done ++ x) (t.whole (drop (i + 1) cells)) ∙ sym (append_assoc s.done t.done (rows_from r.start r.words.items (drop (i + 1) cells)));
}

pub rows_end : (first : Row) (all cells : List (ℕ × ℕ)) (row : Row) (old now new : List ℕ) → cells ≡ [] → RowsSo first all cells row old now
    → Adds (row_line row ∷ []) now new
    → Adds (rows_from first.start first.words.items all) old new
rows_end first all cells row old now new e s t =
    as_added (s.done ++ row_line row ∷ []) (rows_from first.start first.words.items all) old new
    (sym (s.whole ∙ ap (λ x. s.done ++ rows_from row.start row.words.items x) e)) (then_adds s.done (row_line row ∷ []) old now new s.adds t)

pub cell_below : (cells : List (ℕ × ℕ)) (i : ℕ) (d : ℕ × ℕ) → All CellFits cells → i < length cells → (get_or cells i d).0 < 2 ^ 18
cell_below cells i d h k = All-get_or CellFits cells i d k h

all_taken : (all : List (ℕ × ℕ)) (k : ℕ) → length all ≤ k → take k all ≡ all
all_taken [] zero h = refl
all_taken [] (suc k) h = refl
all_taken (x ∷ xs) zero h = absurd (omega arith)
all_taken (x ∷ xs) (suc k) h = ap (λ y. x ∷ y) (all_taken xs k (omega arith))

-- the first of some words, and those after it
behind_first : (c : ℕ × ℕ) (cells : List (ℕ × ℕ)) → take (length (c ∷ cells) - 1) (drop 1 (c ∷ cells)) ≡ cells
behind_first c cells = all_taken cells (length (c ∷ cells) - 1) (omega arith)

pub all_rows : (cells : List (ℕ × ℕ)) (row : Row) (d : ℕ × ℕ) (old new : List ℕ) → 1 ≤ length cells → row.start ≡ (get_or cells 0 d).0
    → row.words.items ≡ (get_or cells 0 d).1 ∷ []
    → Adds (rows_from row.start row.words.items (take (length cells - 1) (drop 1 cells))) old new → Adds (rows cells) old new
all_rows [] row d old new h s w a = absurd (omega arith)
all_rows (c ∷ cells) row d old new h s w a =
    as_added _ _ old new (ap (rows_from row.start row.words.items) (behind_first c cells) ∙ ap (λ x. rows_from x row.words.items cells) s
    ∙ ap (λ x. rows_from c.0 x cells) w) a

pub other_cells : (cells : List (ℕ × ℕ)) → All CellFits cells → All CellFits (take (length cells - 1) (drop 1 cells))
other_cells cells h = All-take CellFits (length cells - 1) (drop 1 cells) (All-drop CellFits 1 cells h)

pub first_cell : (cells : List (ℕ × ℕ)) (d : ℕ × ℕ) → All CellFits cells → 1 ≤ length cells → (get_or cells 0 d).0 < 2 ^ 18
first_cell cells d h k = All-get_or CellFits cells 0 d (omega arith) h

-- symbols
taken_next : (all : List (ℕ × ℕ)) (k : ℕ) (s : ℕ × ℕ) → slice_get all k ≡ Some s → take (suc k) all ≡ take k all ++ s ∷ []
taken_next [] k s h = cc
taken_next (x ∷ xs) zero s h = let e : x ≡ s = cc in ap (λ y. y ∷ []) e
taken_next (x ∷ xs) (suc k) s h = ap (λ y. x ∷ y) (taken_next xs k s h)

taken_more : (all : List (ℕ × ℕ)) (k : ℕ) (s : ℕ × ℕ) → slice_get all k ≡ Some s → take (k + 1) all ≡ take k all ++ s ∷ []
taken_more all k s h = rw add-one (taken_next all k s h)

lines_more : (some : List (ℕ × ℕ)) (s : ℕ × ℕ) → symbol_lines (some ++ s ∷ []) ≡ symbol_lines some ++ events.Symbol s.0 s.1 ∷ []
lines_more [] s = refl
lines_more (x ∷ xs) s = ap (λ y. events.Symbol x.0 x.1 ∷ y) (lines_more xs s)

pub symbols_next : (all : List (ℕ × ℕ)) (k : ℕ) (x : ℕ × ℕ) (old now new : List ℕ) → slice_get all k ≡ Some x
    → Adds (symbol_lines (take k all)) old now → Adds (events.Symbol x.0 x.1 ∷ []) now new
    → Adds (symbol_lines (take (k + 1) all)) old new
symbols_next all k x old now new h s f =
    as_added _ _ old new (sym (ap symbol_lines (taken_more all k x h) ∙ lines_more (take k all) x))
    (then_adds (symbol_lines (take k all)) (events.Symbol x.0 x.1 ∷ []) old now new s f)

past_end : (all : List (ℕ × ℕ)) (k : ℕ) → slice_get all k ≡ None → length all ≤ k
past_end [] k h = omega arith
past_end (x ∷ xs) zero h = cc
past_end (x ∷ xs) (suc k) h = omega (arith, past_end xs k h)

pub symbols_end : (all : List (ℕ × ℕ)) (k : ℕ) (old now : List ℕ) → length all ≤ k → Adds (symbol_lines (take k all)) old now
    → Adds (symbol_lines all) old now
symbols_end all k old now h s = as_added _ _ old now (ap symbol_lines (all_taken all k h)) s

pub symbols_over : (all : List (ℕ × ℕ)) (k : ℕ) (old now : List ℕ) → slice_get all k ≡ None → Adds (symbol_lines (take k all)) old now
    → Adds (symbol_lines all) old now
symbols_over all k old now e s = symbols_end all k old now (past_end all k e) s

pub symbol_fits : (all : List (ℕ × ℕ)) (k : ℕ) (x : ℕ × ℕ) → All SymbolFits all → slice_get all k ≡ Some x → SymbolFits x
symbol_fits all k x h e = subst SymbolFits (get_or_from_slice_get all k x (0, 0) e) (All-get_or SymbolFits all k (0, 0) (slice_get_within all k x e) h)

none_left : (cells : List (ℕ × ℕ)) (i : ℕ) → length cells ≤ i → drop i cells ≡ []
none_left [] zero h = refl
none_left [] (suc i) h = refl
none_left (c ∷ cells) zero h = absurd (omega arith)
none_left (c ∷ cells) (suc i) h = none_left cells i (omega arith)

pub rows_ended : {A E : Type 0} (r : Result A E) (first : Row) (cells : List (ℕ × ℕ)) (i : ℕ) (row : Row) (old now new : List ℕ)
    → length cells ≤ i → RowsSo first cells (drop i cells) row old now
    → OnOk r (Adds (row_line row ∷ []) now new) → OnOk r (Adds (rows_from first.start first.words.items cells) old new)
rows_ended (Ok x) first cells i row old now new h s t = rows_end first cells (drop i cells) row old now new (none_left cells i h) s t
rows_ended (Err e) first cells i row old now new h s t = tt
