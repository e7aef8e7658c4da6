-- How long lines are.
use Rattle.std.proofs.Common.{◌≡◌, ◌<◌, ◌≤◌, ◌^◌, ◌+◌, ◌*◌, ◌==◌, ℕ, Bool, true, false, Option, Some, None, List, [], ◌∷◌, length, map, refl, inl, inr, arith, IfSome}
use Rattle.std.proofs.lemmas.Bool.{cases_Bool}
use Rattle.std.proofs.lemmas.List.{length-append}
use Rattle.std.specs.List.{AllByRecursion}
use Rattle.its_word.specs.Text.{digits_of, octal12_of, octal6_of, spaced}
use Rattle.its_records.specs.declared.calls.Pace.{Pace}
use Rattle.its_records.specs.declared.session.Reason.{Reason}
use Rattle.its_records.specs.declared.session.Reason.TheVariants as reasons
use Rattle.its_records.specs.declared.show.PeekState.{PeekState}
use Rattle.its_records.specs.declared.show.PeekState.TheVariants.{User, Entered, Parsed, Asked, Holding, Waiting, Moving, Ending}
use Rattle.its_word.proofs.DigitLaws.{few_digits, few_for_count}
use Rattle.its_word.proofs.SpacedLaws.{length_spaced, room_of}
use Rattle.its_chart.proofs.TypedLaws.{typed_short}
use Rattle.its_print.specs.Printing.{Line, Loaded, Ticks, Typed, Drained, Words, Listed, State, Peeked, Dir, Filed, Shown, Row, Refused, letter_of, run_of, runs_from, runs_of, word_or_dash, number_or_dash, run_or_stop, state_name, reason_name, keyword, symbol_or_dashes, symbol_fields, fields_of, text_of_line}
use Rattle.its_print.specs.Sizes.{Fits8, Fits32, IsPrinted}

length-octal12 : (w : ℕ) → length (octal12_of w) ≡ 12
unfolding octal12_of
length-octal12 w = refl

length-octal6 : (a : ℕ) → length (octal6_of a) ≡ 6
unfolding octal6_of
length-octal6 a = refl

few8 : (n : ℕ) → Fits8 n → length (digits_of n) ≤ 3
few8 n below = few_digits 3 n (omega arith) (omega arith)

few32 : (n : ℕ) → Fits32 n → length (digits_of n) ≤ 11
few32 n below = few_digits 11 n (omega arith) (omega arith)

room_of_words : (ws : List ℕ) → room_of (map octal12_of ws) ≡ 13 * length ws
room_of_words [] = refl
room_of_words (w ∷ ws) = omega (arith, length-octal12 w, room_of_words ws)

room_of_bytes : (bs : List ℕ) → AllByRecursion Fits8 bs → room_of (map digits_of bs) ≤ 4 * length bs
room_of_bytes [] h = omega arith
room_of_bytes (b ∷ bs) h = omega (arith, few8 b h.0, room_of_bytes bs h.1)

length-run : (n letter : ℕ) → 1 ≤ n → 1 + length (run_of n letter) ≤ 3 * n
length-run n letter some = omega (arith, few_for_count n some, length-append (digits_of n) (letter ∷ []))

room_of_run : (n letter : ℕ) (ps : List Pace) → 1 ≤ n → room_of (runs_from n letter ps) ≤ 3 * (n + length ps)
room_of_run n letter [] some = omega (arith, length-run n letter some)
room_of_run n letter (p ∷ ps) some =
    elim (cases_Bool (letter_of p == letter)) [
      | inl same ↦ rw same (omega (arith, room_of_run (n + 1) letter ps (omega arith)))
      | inr other ↦ rw other (omega (arith, length-run n letter some, room_of_run 1 (letter_of p) ps (omega arith)))
    ]

room_of_runs : (ps : List Pace) → room_of (runs_of ps) ≤ 3 * length ps
unfolding runs_of
room_of_runs [] = omega arith
room_of_runs (p ∷ ps) = omega (arith, room_of_run 1 (letter_of p) ps (omega arith))

length-word : (o : Option ℕ) → length (word_or_dash o) ≤ 12
length-word None = omega arith
length-word (Some w) = omega (arith, length-octal12 w)

length-number : (o : Option ℕ) → IfSome o Fits8 → length (number_or_dash o) ≤ 3
length-number None h = omega arith
length-number (Some n) h = few8 n h

length-run_or_stop : (b : Bool) → length (run_or_stop b) ≤ 4
length-run_or_stop true = omega arith
length-run_or_stop false = omega arith

length-symbol : (o : Option (ℕ × ℕ)) → IfSome o (λ x. Fits32 x.1) → room_of (symbol_or_dashes o) ≤ 25
length-symbol None h = omega arith
length-symbol (Some x) h = omega (arith, length-octal12 x.0, few32 x.1 h)

length-symbol_fields : (v : ℕ) (o : Option (ℕ × ℕ)) → IfSome o (λ x. Fits32 x.1) → room_of (symbol_fields v o) ≤ 25
length-symbol_fields v o h =
    elim (cases_Bool (v == 2)) [
      | inl two ↦ rw two (length-symbol o h)
      | inr other ↦ rw other (omega arith)
    ]

length-state : (s : PeekState) → length (state_name s) ≤ 7
length-state User = omega arith
length-state Entered = omega arith
length-state Parsed = omega arith
length-state Asked = omega arith
length-state Holding = omega arith
length-state Waiting = omega arith
length-state Moving = omega arith
length-state Ending = omega arith

length-reason : (r : Reason) → length (reason_name r) ≤ 8
length-reason reasons.Long = omega arith
length-reason reasons.Syntax = omega arith
length-reason reasons.Range = omega arith
length-reason reasons.NoCons = omega arith
length-reason reasons.NoJob = omega arith
length-reason reasons.NoPage = omega arith
length-reason reasons.ReadOnly = omega arith
length-reason reasons.NoFile = omega arith
length-reason reasons.Exists = omega arith
length-reason reasons.Full = omega arith
length-reason reasons.Unfit = omega arith
length-reason reasons.Cut = omega arith

-- the words after the first
room_of_fields : (l : Line) → IsPrinted l → room_of (fields_of l) ≤ 1540
room_of_fields (Loaded s) h = omega (arith, few8 s h)
room_of_fields (Ticks s paces) h = omega (arith, few8 s h.0, room_of_runs paces, h.1)
room_of_fields (Typed c dropped) h = omega (arith, few8 c h.0, few32 dropped h.1)
room_of_fields (Drained c bytes) h = omega (arith, few8 c h.0, room_of_bytes bytes h.2, h.1)
room_of_fields (Words s a words) h = omega (arith, few8 s h.0, length-octal6 a, room_of_words words, h.1)
room_of_fields (Listed s a word) h = omega (arith, few8 s h.0, length-octal6 a, typed_short word h.1)
room_of_fields (State v s j) h =
    omega (
      arith,
      length-symbol_fields v j.symbol h.3,
      few8 s h.0,
      length-octal12 j.u,
      length-octal12 j.j,
      length-number j.sup h.1,
      length-number j.con h.2,
      length-run_or_stop j.run,
      length-octal12 j.pc,
      length-octal12 j.p1,
      length-octal12 j.p2,
      length-octal12 j.m1,
      length-octal12 j.m2,
      length-octal12 j.d1,
      length-octal12 j.d2,
    )
room_of_fields (Peeked s p) h =
    omega (arith, few8 s h.0, length-state p.state, length-word p.name, few8 p.left h.1, length-word p.a, length-word p.b, length-word p.h)
room_of_fields (Dir d n) h = omega (arith, length-octal12 d, few32 n h)
room_of_fields (Filed f) h = omega (arith, length-octal12 f.x, length-octal12 f.y, few32 f.length h)
room_of_fields (Shown d x y k) h = omega (arith, length-octal12 d, length-octal12 x, length-octal12 y, few32 k h)
room_of_fields (Row words) h = omega (arith, room_of_words words, h)
room_of_fields (Refused n reason) h = omega (arith, few32 n h, length-reason reason)

length-first : (l : Line) → length (keyword l) ≡ 1
length-first (Loaded s) = refl
length-first (Ticks s paces) = refl
length-first (Typed c dropped) = refl
length-first (Drained c bytes) = refl
length-first (Words s a words) = refl
length-first (Listed s a word) = refl
length-first (State v s show) = refl
length-first (Peeked s peek) = refl
length-first (Dir d n) = refl
length-first (Filed show) = refl
length-first (Shown d x y k) = refl
length-first (Row words) = refl
length-first (Refused n reason) = refl

pub longest : (l : Line) → IsPrinted l → length (text_of_line l) ≤ 1543
unfolding text_of_line
longest l h =
    omega (arith, length-append (spaced (keyword l) (fields_of l)) (10 ∷ []), length_spaced (keyword l) (fields_of l), room_of_fields l h, length-first l)

pub ticks_short : (s : ℕ) (ps : List Pace) (xs : List ℕ) → xs ≡ text_of_line (Ticks s ps) → s < 2 ^ 8 → length ps ≤ 512 → length xs ≤ 1543
ticks_short s ps xs is slot few = rw is (longest (Ticks s ps) (slot, few))
