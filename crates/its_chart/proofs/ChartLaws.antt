-- The chart of names, and the names by their families.
use Rattle.std.proofs.Common.{◌≡◌, ◌<◌, ◌≤◌, ◌+◌, ◌-◌, ◌*◌, ◌/◌, ◌%◌, ℕ, zero, suc, Bool, true, false, Option, Some, None, List, [], ◌∷◌, length, take, drop, slice_get, bytes_eq, codes, refl, sym, ap, ◌∙◌, arith, inl, inr}
use Rattle.std.specs.List.{position_or_len}
use Rattle.std.proofs.lemmas.Bool.{agree_below_at, cases_Bool, cases_lt, lt-ltb, le-ltb}
use Rattle.its_word.specs.Opcode.{boolean_for, entry, instruction_of, monitor_opcode, byte_opcode, full_word_opcode, shift_opcode, branch_opcode, stack_opcode, compare_opcode, test_opcode, mode_of, mask_of}
use Rattle.its_word.specs.Table.{table}
use Rattle.its_word.proofs.TableLaws.{get-table, length-table}
use Rattle.its_word.specs.declared.instruction.Instruction.{Instruction}
use Rattle.its_word.specs.declared.instruction.Instruction.TheVariants.{Boolean, Half, Illegal}
use Rattle.its_chart.specs.declared.mnemonic.TheConstants.{CHART}
use Rattle.its_chart.specs.Text.{up_to}
use Rattle.its_chart.specs.Mnemonic.{is_named, mnemonic_of, name_of, names, opcode_named}
use Rattle.its_chart.specs.Reading.{cell_of, first_named}

pub chart_length : length CHART.now ≡ 3136
chart_length = refl

-- the names of a chart, seven bytes each with the blanks after them
abbrev cells : List ℕ → List (List ℕ)
cells (a ∷ b ∷ c ∷ d ∷ e ∷ f ∷ g ∷ rest) = up_to (codes " ") (a ∷ b ∷ c ∷ d ∷ e ∷ f ∷ g ∷ []) ∷ cells rest
cells short = []

-- place k of a chart
cells_at : (chart : List ℕ) (k : ℕ) → k * 7 + 7 ≤ length chart → slice_get (cells chart) k ≡ Some (up_to (codes " ") (take 7 (drop (k * 7) chart)))
cells_at (a ∷ b ∷ c ∷ d ∷ e ∷ f ∷ g ∷ rest) zero h = refl
cells_at (a ∷ b ∷ c ∷ d ∷ e ∷ f ∷ g ∷ rest) (suc k) h =
    let s : suc k * 7 ≡ suc (suc (suc (suc (suc (suc (suc (k * 7))))))) = omega arith in
    rw s (cells_at rest k (omega arith))
cells_at _ k h = absurd (omega arith)

abbrev cell_at : ℕ → List ℕ
cell_at op = cell_of (mnemonic_of op)

-- the chart has the names of the families
chart_is : cells CHART.now ≡ table 448 cell_at
unfolding table mnemonic_of instruction_of monitor_opcode byte_opcode full_word_opcode shift_opcode branch_opcode stack_opcode
    compare_opcode test_opcode mode_of mask_of
chart_is = refl

inside : {X : Type 0} (x y : X) → Some x ≡ Some y → x ≡ y
inside x y e = cc

pub charted : (k : ℕ) → k < 448 → up_to (codes " ") (take (k * 7 + 7 - k * 7) (drop (k * 7) CHART.now)) ≡ cell_of (mnemonic_of k)
charted k h =
    let l : length CHART.now ≡ 3136 = chart_length in
    let n : k * 7 + 7 - k * 7 ≡ 7 = omega arith in
    rw n (inside _ _ (sym (cells_at CHART.now k (omega arith)) ∙ ap (λ cs. slice_get cs k) chart_is ∙ get-table 448 cell_at k h))

-- opcodes past the chart
past_end : {X : Type 0} (xs : List X) (k : ℕ) → length xs ≤ k → slice_get xs k ≡ None
past_end [] k h = refl
past_end (x ∷ xs) zero h = absurd (omega arith)
past_end (x ∷ xs) (suc k) h = past_end xs k (omega arith)

illegal_late : (xs : List Instruction) (k : ℕ) → slice_get xs 7 ≡ Some Illegal → length xs ≡ 8 → 7 ≤ k → entry xs k ≡ Illegal
illegal_late xs k last long h =
    elim (cases_lt k 8) [
      | inl below ↦ (let e : k ≡ 7 = omega arith in rw (e, last) refl)
      | inr above ↦ rw (past_end xs k (omega arith)) refl
    ]

illegal : (op : ℕ) → 448 ≤ op → instruction_of op ≡ Illegal
unfolding instruction_of
illegal op h =
    illegal_late
    (monitor_opcode op
    ∷ byte_opcode op
    ∷ full_word_opcode op
    ∷ compare_opcode op
    ∷ Boolean (boolean_for op) (mode_of op)
    ∷ Half (op / 4 % 16) (mode_of op)
    ∷ test_opcode op
    ∷ Illegal
    ∷ [])
    (op / 64) refl refl (omega arith)

pub no_more_names : (k : ℕ) → 448 ≤ k → mnemonic_of k ≡ None
unfolding mnemonic_of
no_more_names k h = ap name_of (illegal k h)

-- `-` is no name
abbrev is_dash : Option (List ℕ) → Bool
is_dash None = false
is_dash (Some n) = bytes_eq n (codes "-")

never_dash : (op : ℕ) → op < 448 → is_dash (mnemonic_of op) ≡ false
unfolding mnemonic_of instruction_of monitor_opcode byte_opcode full_word_opcode shift_opcode branch_opcode stack_opcode compare_opcode
    test_opcode mode_of mask_of
never_dash op h = agree_below_at (λ k. is_dash (mnemonic_of k)) (λ k. false) 448 op refl h

unnamed_by : (r : Option (List ℕ)) → is_dash r ≡ false → bytes_eq (cell_of r) (codes "-") ≡ true → None ≡ r
unnamed_by None h e = refl
unnamed_by (Some n) h e = cc

pub unnamed : (op : ℕ) → op < 448 → bytes_eq (cell_of (mnemonic_of op)) (codes "-") ≡ true → None ≡ mnemonic_of op
unnamed op h e = unnamed_by (mnemonic_of op) (never_dash op h) e

has_name_by : (r : Option (List ℕ)) → bytes_eq (cell_of r) (codes "-") ≡ false → Some (cell_of r) ≡ r
has_name_by None e = cc
has_name_by (Some n) e = refl

pub has_name : (op : ℕ) → bytes_eq (cell_of (mnemonic_of op)) (codes "-") ≡ false → Some (cell_of (mnemonic_of op)) ≡ mnemonic_of op
has_name op e = has_name_by (mnemonic_of op) e

-- places in the list of names
names_length : length names ≡ 512
unfolding names
names_length = length-table 512 mnemonic_of

pub names_at : (k : ℕ) → k < 512 → slice_get names k ≡ Some (mnemonic_of k)
unfolding names
names_at k h = get-table 512 mnemonic_of k h

-- the place of the first element that passes
passes_here : {X : Type 0} (p : X → Bool) (xs : List X) (k : ℕ) (x : X) → slice_get xs k ≡ Some x → p x ≡ true → k ≤ position_or_len p xs
    → position_or_len p xs ≡ k
passes_here p [] k x e t h = cc
passes_here p (y ∷ ys) zero x e t h =
    let same : y ≡ x = cc in
    rw (same, t) refl
passes_here p (y ∷ ys) (suc k) x e t h =
    elim (cases_Bool (p y)) [
      | inl hit ↦ (let e' : suc k ≤ 0 = rw hit at h in absurd (omega arith))
      | inr miss ↦ (let e' : suc k ≤ 1 + position_or_len p ys = rw miss at h in
          let more : position_or_len p ys ≡ k = passes_here p ys k x e t (omega arith) in
          rw (miss, more) (omega arith))
    ]

fails_here : {X : Type 0} (p : X → Bool) (xs : List X) (k : ℕ) (x : X) → slice_get xs k ≡ Some x → p x ≡ false → k ≤ position_or_len p xs
    → k + 1 ≤ position_or_len p xs
fails_here p [] k x e t h = cc
fails_here p (y ∷ ys) zero x e t h =
    let same : y ≡ x = cc in
    rw (same, t) (omega arith)
fails_here p (y ∷ ys) (suc k) x e t h =
    elim (cases_Bool (p y)) [
      | inl hit ↦ (let e' : suc k ≤ 0 = rw hit at h in absurd (omega arith))
      | inr miss ↦ (let e' : suc k ≤ 1 + position_or_len p ys = rw miss at h in
          let more : k + 1 ≤ position_or_len p ys = fails_here p ys k x e t (omega arith) in
          rw miss (omega arith))
    ]

pub found_later : (text : List ℕ) (k : ℕ) → k < 512 → is_named text (mnemonic_of k) ≡ false → k ≤ first_named text → k + 1 ≤ first_named text
unfolding first_named
found_later text k below t h = fails_here (is_named text) names k (mnemonic_of k) (names_at k below) t h

pub named_first : (text : List ℕ) (k : ℕ) → k < 512 → first_named text ≡ k → opcode_named text ≡ Some k
unfolding first_named opcode_named
named_first text k below at =
    let l : length names ≡ 512 = names_length in
    rw (at, lt-ltb k (length names) (omega arith)) refl

pub found_here : (text : List ℕ) (k : ℕ) → k < 512 → is_named text (mnemonic_of k) ≡ true → k ≤ first_named text → opcode_named text ≡ Some k
unfolding first_named
found_here text k below t h = named_first text k below (passes_here (is_named text) names k (mnemonic_of k) (names_at k below) t h)

pub not_found : (text : List ℕ) → 512 ≤ first_named text → opcode_named text ≡ None
unfolding first_named opcode_named
not_found text h =
    let l : length names ≡ 512 = names_length in
    rw (le-ltb (position_or_len (is_named text) names) (length names) (omega arith)) refl
