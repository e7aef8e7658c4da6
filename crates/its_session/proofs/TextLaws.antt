-- The text of some events is read as these events, all of them, if each line is read as its event
-- at its place. So the text of a state part is read as its lines.
use Rattle.std.specs.Prelude.{if◌then◌else◌, ◌≡◌, ◌≤◌, ◌+◌, ◌==◌, ℕ, Bool, true, false, not, Ok, Err, List, [], ◌∷◌, ◌++◌, length, map, nat_le, nat_lt, refl}
use Rattle.std.proofs.Common.{sym, ◌∙◌, ap, subst, arith, append_assoc, append-nil}
use Rattle.std.specs.List.{list_all}
use Rattle.std.proofs.lemmas.Bool.{and_from}
use Rattle.std.proofs.lemmas.Bool.Decides.{nat_tests}
use Rattle.std.proofs.lemmas.List.{length-append, length-map}
use Rattle.its_word.specs.Text.{is_code, words_of}
use Rattle.its_records.specs.Item.{Item, Read}
use Rattle.its_records.specs.declared.session.Event.{Event}
use Rattle.its_records.specs.declared.session.Event.TheVariants as events
use Rattle.its_records.specs.declared.session.Place.{Place}
use Rattle.its_records.specs.declared.session.Place.TheVariants as places
use Rattle.its_records.specs.declared.session.Bad.TheVariants as bads
use Rattle.its_records.specs.declared.state_line.StateLine.{StateLine}
use Rattle.its_records.specs.declared.state_line.StateLine.TheVariants as states
use Rattle.its_session.specs.Events.{end_of, events_of, item_then, items_from, lines_from, most_lines, place_after, version_after}
use Rattle.its_session.specs.Grammar.{event_of_words, line_event}
use Rattle.its_session.specs.StateFits.{StateFits, place_of_state_line}
use Rattle.its_session.specs.StateWriting.{StateHasWords, text_of_state_line}
use Rattle.its_session.specs.Writing.{lines_text, text_of_event}
use Rattle.its_session.proofs.NameLaws.{both}
use Rattle.its_session.proofs.RoundTrip.{restored_at, system_again}
use Rattle.its_session.proofs.StateTrip.{state_reads_back}

-- a line contains no LF
abbrev pub clean : List ℕ → Bool
clean line = list_all (λ b. not (b == 10)) line

not_true : (t : Bool) → not t ≡ true → t ≡ false
not_true true h = cc
not_true false h = refl

-- such a line with its LF is the first line of a text
pub over_line : (kept line rest : List ℕ) → clean line ≡ true → lines_from true kept ((line ++ 10 ∷ []) ++ rest) ≡ (kept ++ line) ∷ lines_from true [] rest
over_line kept [] rest h = ap (λ x. x ∷ lines_from true [] rest) (sym (append-nil kept))
over_line kept (b ∷ bs) rest h =
    let p = both (not (b == 10)) (clean bs) h in
    let other : (b == 10) ≡ false = not_true (b == 10) p.0 in
    rw other (over_line (kept ++ b ∷ []) bs rest p.1 ∙ ap (λ x. x ∷ lines_from true [] rest) (append_assoc kept (b ∷ []) bs))

-- a line that is read contains none
no_lf : (b : ℕ) → is_code 32 126 b ≡ true → not (b == 10) ≡ true
no_lf b h = grind (arith, nat_tests)

printable_clean : (line : List ℕ) → list_all (is_code 32 126) line ≡ true → clean line ≡ true
printable_clean [] h = refl
printable_clean (b ∷ bs) h =
    let p = both (is_code 32 126 b) (list_all (is_code 32 126) bs) h in
    and_from (not (b == 10)) (clean bs) (no_lf b p.0) (printable_clean bs p.1)

pub read_clean : (place : Place) (v : ℕ) (line : List ℕ) (e : Event) → line_event place v line ≡ Ok e → clean line ≡ true
unfolding line_event
read_clean place v line e h = by (nat_le (length line) 255) (list_all (is_code 32 126) line) (λ p. printable_clean line p) h
  where
    by : (a b : Bool) → (b ≡ true → clean line ≡ true) → (if a then (if b then event_of_words place v (words_of line) else Err bads.Syntax)
        else Err bads.Long) ≡ Ok e → clean line ≡ true
    by true true f k = f refl
    by true false f k = cc
    by false b f k = cc

-- no event follows END
abbrev pub Follow : Event → List Event → Type 0
Follow events.End es = es ≡ []
Follow e es = Unit {0}

-- from this place of a session of this version on, the line of each event is read as the event, and
-- their end is not CUT
abbrev pub ReadFrom : Place → ℕ → List Event → Type 0
ReadFrom place v [] = end_of true place ≡ []
ReadFrom place v (e ∷ es) =
    (line_event place v (text_of_event e) ≡ Ok e) × Follow e es × ReadFrom (place_after place e) (version_after v e) es

-- one line
one_read : (n : ℕ) (place : Place) (v : ℕ) (line : List ℕ) (e : Event) (rest : List (List ℕ)) → n ≤ most_lines → line_event place v line ≡ Ok e
    → items_from true n place v (line ∷ rest) ≡ item_then (Ok e) (λ x. items_from true (n + 1) (place_after place x) (version_after v x) rest)
one_read n place v line e rest few h =
    let t : nat_lt most_lines n ≡ false = grind (arith, nat_tests) in
    rw (t, h) refl

then_read : (e : Event) (es : List Event) (f : Event → List Item) → Follow e es → f e ≡ map Read es → item_then (Ok e) f ≡ map Read (e ∷ es)
then_read events.End es f last k = ap (λ (x : List Event). Read events.End ∷ map Read x) (sym last)
then_read e es f last k = ap (λ (x : List Item). Read e ∷ x) k

-- all lines
items_read : (es : List Event) (n : ℕ) (place : Place) (v : ℕ) → ReadFrom place v es → n + length es ≤ most_lines + 1
    → items_from true n place v (map text_of_event es) ≡ map Read es
items_read [] n place v h few = h
items_read (e ∷ es) n place v h few =
    one_read n place v (text_of_event e) e (map text_of_event es) (omega arith) h.0
    ∙ then_read e es (λ x. items_from true (n + 1) (place_after place x) (version_after v x) (map text_of_event es)) h.1
    (items_read es (n + 1) (place_after place e) (version_after v e) h.2 (omega arith))

lines_again : (es : List Event) (place : Place) (v : ℕ) → ReadFrom place v es → lines_from true [] (lines_text es) ≡ map text_of_event es
unfolding lines_text
lines_again [] place v h = refl
lines_again (e ∷ es) place v h =
    over_line [] (text_of_event e) (lines_text es) (read_clean place v (text_of_event e) e h.0)
    ∙ ap (λ (x : List (List ℕ)). text_of_event e ∷ x) (lines_again es (place_after place e) (version_after v e) h.2)

pub text_read : (es : List Event) → ReadFrom places.First 1 es → length es ≤ most_lines → events_of (lines_text es) ≡ map Read es
unfolding events_of
text_read es h few =
    ap (items_from true 1 places.First 1) (lines_again es places.First 1 h) ∙ items_read es 1 places.First 1 h (omega arith)

-- a line between SYSTEM and READY
abbrev pub IsInside : StateLine → Type 0
IsInside (states.System v) = ⊥
IsInside states.Ready = ⊥
IsInside _ = Unit {0}

-- such a line can be read in a session of version v
pub record LineReads (v : ℕ) (l : StateLine) : Type 0 where
  pub inside : IsInside l
  pub fits : StateFits v l
  pub words : StateHasWords l

abbrev pub AllRead : ℕ → List StateLine → Type 0
AllRead v [] = Unit {0}
AllRead v (l ∷ ls) = LineReads v l × AllRead v ls

-- the session stays in the state part, and its version is the same
record Stays (v : ℕ) (l : StateLine) : Type 0 where
  at : place_of_state_line l ≡ places.System
  place : place_after places.System (events.Restore l) ≡ places.System
  version : version_after v (events.Restore l) ≡ v

inside_stays : (v : ℕ) (l : StateLine) → IsInside l → Stays v l
inside_stays v (states.System w) i = absurd i
inside_stays v states.Ready i = absurd i
inside_stays v l i = record { at = refl; place = refl; version = refl }

line_again : (v : ℕ) (l : StateLine) → place_of_state_line l ≡ places.System → StateFits v l → StateHasWords l
    → line_event places.System v (text_of_state_line l) ≡ Ok (events.Restore l)
line_again v l at f h = restored_at places.System v l refl (state_reads_back v l at f h)

part_again : (v : ℕ) (ls : List StateLine) → AllRead v ls → ReadFrom places.System v (map events.Restore (ls ++ states.Ready ∷ []))
part_again v [] h = (line_again v states.Ready refl tt tt, tt, refl)
part_again v (l ∷ ls) h =
    let s = inside_stays v l h.0.inside in
    let es : List Event = map events.Restore (ls ++ states.Ready ∷ []) in (
      line_again v l s.at h.0.fits h.0.words,
      tt,
      subst (λ (p : Place). ReadFrom p (version_after v (events.Restore l)) es) (sym s.place)
          (subst (λ (u : ℕ). ReadFrom places.System u es) (sym s.version) (part_again v ls h.1)),
    )

-- the text of a state part of version v: SYSTEM, lines that can be read, and READY
pub part_read : (v : ℕ) (ls : List StateLine) → 1 ≤ v → v ≤ 2 → AllRead v ls → length ls + 2 ≤ most_lines
    → events_of (lines_text (map events.Restore (states.System v ∷ (ls ++ states.Ready ∷ []))))
    ≡ map Read (map events.Restore (states.System v ∷ (ls ++ states.Ready ∷ [])))
part_read v ls some few h size =
    let long = length-append ls (states.Ready ∷ []) in
    let same = length-map (ls ++ states.Ready ∷ []) events.Restore in
    text_read (map events.Restore (states.System v ∷ (ls ++ states.Ready ∷ [])))
    (system_again 1 v refl some few, tt, part_again v ls h) (omega arith)
