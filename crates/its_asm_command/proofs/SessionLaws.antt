-- The session of an image is read as its events, all of them.
use Rattle.std.specs.Prelude.{if◌then◌else◌, ◌≡◌, ◌≤◌, ◌<◌, ◌+◌, ◌^◌, ℕ, suc, Bool, true, false, Option, Ok, List, [], ◌∷◌, ◌++◌, All, length, map, nat_lt, refl}
use Rattle.std.proofs.Common.{sym, ap, subst, arith, append_assoc}
use Rattle.std.proofs.lemmas.Bool.{and_parts}
use Rattle.std.proofs.lemmas.Bool.Decides.{nat_tests}
use Rattle.std.proofs.lemmas.List.{length-append}
use Rattle.std.proofs.lemmas.List.Elements.{All-append, All-cons, All-head, All-nil, All-tail}
use Rattle.its_word.specs.Text.{digits_of, is_octal, octal_value, spaced, words_of}
use Rattle.its_records.specs.Item.{Read}
use Rattle.its_records.specs.declared.session.Event.{Event}
use Rattle.its_records.specs.declared.session.Event.TheVariants as events
use Rattle.its_records.specs.declared.session.Place.TheVariants as places
use Rattle.its_session.specs.Events.{events_of, most_lines}
use Rattle.its_session.specs.Grammar.{event_of_words, kind_of, line_event, version_line}
use Rattle.its_session.specs.Writing.{text_of_event}
use Rattle.its_session.proofs.TextLaws.{ReadFrom, text_read}
use Rattle.its_asm.specs.declared.assembly.Image.{Image}
use Rattle.its_asm_command.specs.Image.{CellFits, ImageFits, rises, rises_from}
use Rattle.its_asm_command.specs.Made.{IsSessionOf, ReadsBack}
use Rattle.its_asm_command.specs.Written.{image_events, lines_text, rows, rows_from, goes_on, symbol_lines}

-- the lines between LOAD and GO
abbrev IsInner : Event → Type 0
IsInner (events.Words a ws) = Unit {0}
IsInner (events.Symbol x a) = Unit {0}
IsInner e = ⊥

inner : (e : Event) (es : List Event) → IsInner e → ReadsBack e → ReadFrom places.Load 2 es → ReadFrom places.Load 2 (e ∷ es)
inner (events.Words a ws) es i h r = (h, tt, r)
inner (events.Symbol x a) es i h r = (h, tt, r)
inner e es i h r = absurd i

all_inner : (es rest : List Event) → All IsInner es → All ReadsBack (es ++ rest) → ReadFrom places.Load 2 rest → ReadFrom places.Load 2 (es ++ rest)
all_inner [] rest i h r = r
all_inner (e ∷ es) rest i h r =
    inner e (es ++ rest) (All-head IsInner e es i) (All-head ReadsBack e (es ++ rest) h)
    (all_inner es rest (All-tail IsInner e es i) (All-tail ReadsBack e (es ++ rest) h) r)

rows_inner : (a : ℕ) (ws : List ℕ) (cells : List (ℕ × ℕ)) → All IsInner (rows_from a ws cells)
rows_inner a ws [] = All-cons IsInner (events.Words a (record { items = ws })) [] tt (All-nil IsInner)
rows_inner a ws (c ∷ cells) = by (goes_on a ws c.0) (rows_inner a (ws ++ c.1 ∷ []) cells) (rows_inner c.0 (c.1 ∷ []) cells)
  where
    by : (b : Bool) → All IsInner (rows_from a (ws ++ c.1 ∷ []) cells) → All IsInner (rows_from c.0 (c.1 ∷ []) cells)
        → All IsInner (if b then rows_from a (ws ++ c.1 ∷ []) cells else events.Words a (record { items = ws }) ∷ rows_from c.0 (c.1 ∷ []) cells)
    by true h k = h
    by false h k = All-cons IsInner (events.Words a (record { items = ws })) _ tt k

pub words_inner : (cells : List (ℕ × ℕ)) → All IsInner (rows cells)
words_inner [] = All-nil IsInner
words_inner (c ∷ cells) = rows_inner c.0 (c.1 ∷ []) cells

symbols_inner : (symbols : List (ℕ × ℕ)) → All IsInner (symbol_lines symbols)
symbols_inner [] = All-nil IsInner
symbols_inner (s ∷ ss) = All-cons IsInner (events.Symbol s.0 s.1) (symbol_lines ss) tt (symbols_inner ss)

-- how many lines there are
few_rows_from : (a : ℕ) (ws : List ℕ) (cells : List (ℕ × ℕ)) → length (rows_from a ws cells) ≤ length cells + 1
few_rows_from a ws [] = omega arith
few_rows_from a ws (c ∷ cells) = by (goes_on a ws c.0) (few_rows_from a (ws ++ c.1 ∷ []) cells) (few_rows_from c.0 (c.1 ∷ []) cells)
  where
    by : (b : Bool) → length (rows_from a (ws ++ c.1 ∷ []) cells) ≤ length cells + 1 → length (rows_from c.0 (c.1 ∷ []) cells) ≤ length cells + 1
        → length (if b then rows_from a (ws ++ c.1 ∷ []) cells else events.Words a (record { items = ws }) ∷ rows_from c.0 (c.1 ∷ []) cells)
        ≤ length (c ∷ cells) + 1
    by true h k = omega arith
    by false h k = omega arith

few_rows : (cells : List (ℕ × ℕ)) → length (rows cells) ≤ length cells
few_rows [] = omega arith
few_rows (c ∷ cells) = omega (arith, few_rows_from c.0 (c.1 ∷ []) cells)

few_from : (a : ℕ) (cells : List (ℕ × ℕ)) → a < 2 ^ 18 → All CellFits cells → rises_from a cells ≡ true → a + length cells < 2 ^ 18
few_from a [] h f r = omega arith
few_from a (c ∷ cells) h f r =
    let p = and_parts (nat_lt a c.0) (rises_from c.0 cells) r in
    let above : a < c.0 = (let t = p.0 in grind (arith, nat_tests)) in
    omega (arith, above, few_from c.0 cells (All-head CellFits c cells f) (All-tail CellFits c cells f) p.1)

few_cells : (cells : List (ℕ × ℕ)) → All CellFits cells → rises cells ≡ true → length cells ≤ 2 ^ 18
few_cells [] f r = omega arith
few_cells (c ∷ cells) f r = omega (arith, few_from c.0 cells (All-head CellFits c cells f) (All-tail CellFits c cells f) r)

few_symbols : (symbols : List (ℕ × ℕ)) → length (symbol_lines symbols) ≡ length symbols
few_symbols [] = refl
few_symbols (s ∷ symbols) = ap suc (few_symbols symbols)

-- the first line
first_read : line_event places.First 1 (text_of_event (events.Version 2)) ≡ Ok (events.Version 2)
unfolding line_event words_of event_of_words kind_of version_line spaced digits_of is_octal octal_value
first_read = refl

-- all lines
all_of : (xs ys : List Event) → All ReadsBack (xs ++ ys) → All ReadsBack ys
all_of [] ys h = h
all_of (x ∷ xs) ys h = all_of xs ys (All-tail ReadsBack x (xs ++ ys) h)

abbrev block : Image → List Event
block i = rows i.words ++ symbol_lines i.symbols

abbrev ends : Image → List Event
ends i = events.Go i.start ∷ events.End ∷ []

events_are : (i : Image) → image_events i ≡ events.Version 2 ∷ events.Load i.u i.j i.console ∷ (block i ++ ends i)
events_are i = ap (λ x. events.Version 2 ∷ events.Load i.u i.j i.console ∷ x) (sym (append_assoc (rows i.words) (symbol_lines i.symbols) (ends i)))

block_fits : (i : Image) → ImageFits i → length (block i) ≤ 2 ^ 18 + 512
block_fits i f = omega (
  arith,
  length-append (rows i.words) (symbol_lines i.symbols),
  few_rows i.words,
  few_cells i.words f.cells f.rise,
  few_symbols i.symbols,
  f.few,
)

block_inner : (i : Image) → All IsInner (block i)
block_inner i = All-append IsInner (rows i.words) (symbol_lines i.symbols) (words_inner i.words) (symbols_inner i.symbols)

all_again : (u j start : ℕ) (c : Option ℕ) (es : List Event) → All IsInner es
    → All ReadsBack (events.Version 2 ∷ events.Load u j c ∷ (es ++ events.Go start ∷ events.End ∷ []))
    → ReadFrom places.First 1 (events.Version 2 ∷ events.Load u j c ∷ (es ++ events.Go start ∷ events.End ∷ []))
all_again u j start c es i h =
    let lasts : List Event = events.Go start ∷ events.End ∷ [] in
    let tail = All-tail ReadsBack (events.Version 2) (events.Load u j c ∷ (es ++ lasts)) h in
    let load = All-head ReadsBack (events.Load u j c) (es ++ lasts) tail in
    let rest = All-tail ReadsBack (events.Load u j c) (es ++ lasts) tail in
    let last = all_of es lasts rest in
    let go = All-head ReadsBack (events.Go start) (events.End ∷ []) last in
    let end = All-head ReadsBack events.End [] (All-tail ReadsBack (events.Go start) (events.End ∷ []) last) in
    (first_read, tt, (load, tt, all_inner es lasts i rest (go, tt, (end, refl, refl))))

events_few : (i : Image) → ImageFits i → length (image_events i) ≤ most_lines
events_few i f =
    subst (λ (es : List Event). length es ≤ most_lines) (sym (events_are i))
    (let long = length-append (block i) (ends i) in let few = block_fits i f in omega arith)

pub session_whole : (i : Image) (text : List ℕ) → ImageFits i → IsSessionOf i text → events_of (lines_text (image_events i)) ≡ map Read (image_events i)
session_whole i text f s =
    text_read (image_events i)
    (subst (ReadFrom places.First 1) (sym (events_are i))
    (all_again i.u i.j i.start i.console (block i) (block_inner i) (subst (All ReadsBack) (events_are i) s.reads)))
    (events_few i f)
