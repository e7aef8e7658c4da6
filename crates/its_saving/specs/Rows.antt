-- The lines of the words of a core while they are written: the words of the line that is open are
-- not written yet. The text of a line names no slot, so they are those of slot 0.
-- No promise rests on this.
use Rattle.std.specs.Prelude.{if◌then◌else◌, ◌≡◌, ◌==◌, ℕ, zero, suc, ◌+◌, ◌*◌, Bool, true, false, Option, Some, None, Result, Ok, Err, List, [], ◌∷◌, ◌++◌}
use Rattle.its_word.specs.Core.{Core, word_at}
use Rattle.its_saved.specs.StateLine.{StateLine}
use Rattle.its_saved.specs.StateLine as state
use Rattle.its_saved.specs.Saving.{cell_of, rows, rows_from}
use Rattle.its_saving.specs.Written.{Written, Broken}

-- the cells of n words of a core from an address on
unfoldable pub cells_from : Core → ℕ → ℕ → List (ℕ × ℕ)
cells_from c a zero = []
cells_from c a (suc n) = cells_from c a n ++ cell_of (a + n) (word_at c (a + n))

-- the first address of a page that is of no accumulator
abbrev pub first_of : ℕ → ℕ
first_of page = if page == 0 then 16 else page * 1024

-- the lines of these words, which are in the open line and begin at address a, and then of cells
abbrev pub rows_open : ℕ → List ℕ → List (ℕ × ℕ) → List StateLine
rows_open a [] cells = rows 0 cells
rows_open a (w ∷ ws) cells = rows_from 0 a (w ∷ ws) cells

-- these cells were taken: the lines of these and of any that follow are those that were written,
-- and then the line that is open now and those of what follows
pub record Taken {S : Type 0} (bytes : S → Option (List ℕ)) (faults : S → ℕ) (old new : S) (a : ℕ) (ws : List ℕ) (cells : List (ℕ × ℕ)) (b : ℕ)
    (vs : List ℕ) : Type 0 where
  pub lines : List StateLine
  pub written : Written bytes faults old new lines
  pub says : (more : List (ℕ × ℕ)) → rows_open a ws (cells ++ more) ≡ lines ++ rows_open b vs more

-- a write failed among lines that begin those of these cells and of any that follow
pub record Begun {S : Type 0} (bytes : S → Option (List ℕ)) (faults : S → ℕ) (old new : S) (a : ℕ) (ws : List ℕ) (cells : List (ℕ × ℕ)) : Type 0 where
  pub lines : List StateLine
  pub broken : Broken bytes faults old new lines
  pub begins : (more : List (ℕ × ℕ)) → (rest : List StateLine) × (rows_open a ws (cells ++ more) ≡ lines ++ rest)

abbrev pub TakesBy : {S T E : Type 0} → (S → Option (List ℕ)) → (S → ℕ) → S → S → Result T E → ℕ → List ℕ → List (ℕ × ℕ) → ℕ → List ℕ → Type 0
TakesBy bytes faults old new (Ok x) a ws cells b vs = Taken bytes faults old new a ws cells b vs
TakesBy bytes faults old new (Err e) a ws cells b vs = Begun bytes faults old new a ws cells

pub record Takes {S T E : Type 0} (bytes : S → Option (List ℕ)) (faults : S → ℕ) (old new : S) (r : Result T E) (a : ℕ) (ws : List ℕ)
    (cells : List (ℕ × ℕ)) (b : ℕ) (vs : List ℕ) : Type 0 where
  pub so : TakesBy bytes faults old new r a ws cells b vs

-- RO, if page k of the core of slot s is read only
abbrev pub mark_lines : ℕ → ℕ → Option Bool → List StateLine
mark_lines s k None = []
mark_lines s k (Some true) = []
mark_lines s k (Some false) = state.ReadOnly s k ∷ []
