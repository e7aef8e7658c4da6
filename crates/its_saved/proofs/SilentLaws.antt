-- The lines of a saved system as events of a session: they show nothing, the run of a session goes
-- through them to the machine that was saved, and what may follow the session may follow them.
use Rattle.std.specs.Prelude.{if◌then◌else◌, ◌≡◌, ◌≢◌, ◌==◌, ℕ, Bool, true, false, List, [], ◌∷◌, ◌++◌, map, refl}
use Rattle.std.proofs.Common.{sym, ◌∙◌, ap, subst, arith, append-nil, inl, inr}
use Rattle.std.proofs.lemmas.Bool.{cases_eq, eq-eqb, ne_eqb}
use Rattle.its_records.specs.Item.{Item, Read}
use Rattle.its_records.specs.declared.session.Event.TheVariants as events
use Rattle.its_records.specs.declared.session.Place.TheVariants as places
use Rattle.its_records.specs.declared.state_line.StateLine.{StateLine}
use Rattle.its_records.specs.declared.state_line.StateLine.TheVariants as states
use Rattle.its_print.specs.Printing.{Line}
use Rattle.its_session.specs.Events.{before_end, place_after, place_past}
use Rattle.its_plain.specs.Machine.{Machine}
use Rattle.its_plain.specs.Operator.{Block}
use Rattle.its_plain.specs.Operator.Lines.{Done, lined, operate}
use Rattle.its_plain.specs.Operator.State.{restored}
use Rattle.its_plain.specs.Transcript.{Fate, Open, Refused, Walk, at_start, walk_after, next_line, Shows, Transcript, all_made, input_end, obeyed_line}
use Rattle.its_plain.specs.Transcript.Course.{Lines, Course, onward, past, turned, course, run_of, turn_past, last_turn}
use Rattle.its_plain.specs.Transcript.Turns.{highest, turn_kept}
use Rattle.its_saved.specs.GoingOn.{NoMoreDots, ReadAt}
use Rattle.its_saved.specs.StateLine.{StateLine as Saved}
use Rattle.its_saved.specs.StateLine as saves
use Rattle.its_saved.specs.Saving.{saved}
use Rattle.its_saved.specs.Text.{line_of, lines_of, turn_lines, saved_lines, saved_events, Obeys, no_line, a_line}
use Rattle.its_saved.specs.WellFormed.{WellFormed, Named}
use Rattle.its_saved.proofs.GoesOnLaws.{goes_on}
use Rattle.its_saved.proofs.RestLaws.{IsOver, shown_from}
use Rattle.its_saved.proofs.RestoredLaws.{lines_restore}

abbrev pub items_of : List StateLine → List Item
items_of ls = map Read (saved_events ls)

-- whose turn counts as the last after these lines
abbrev pub turn_over : ℕ → List StateLine → ℕ
turn_over last [] = last
turn_over last (l ∷ ls) = turn_over (turn_kept last (events.Restore l)) ls

line_obeyed : (m : Machine) (b : Block) (l : StateLine) → lined m b (events.Restore l) ≡ Done (restored m b l)
unfolding lined operate
line_obeyed m b l = refl

-- what is shown after these lines is all that is shown
pub shown_after : {v w : Walk} {ls : List StateLine} (last : ℕ) (es : List Item) (more : List Line) (fate : Fate)
    → Obeys v ls w → Shows w (turn_over last ls) es more fate → Shows v last (items_of ls ++ es) more fate
shown_after last es more fate no_line h = h
shown_after {v = v} last es more fate (a_line {l = l} does rest) h =
    obeyed_line (line_obeyed v.machine v.block l ∙ ap Done does) refl all_made (shown_after (turn_kept last (events.Restore l)) es more fate rest h)

-- the machine at the end of the run through them, and whose turn is the last
pub run_through : {v w : Walk} {ls : List StateLine} (last : ℕ) → Obeys v ls w
    → ((course v last (items_of ls) []).last ≡ w.machine) × (turn_past last (course v last (items_of ls) []).moments ≡ turn_over last ls)
run_through last no_line = (refl, refl)
run_through {v = v} last (a_line {l = l} {ls = ls} {n = n} {touched = touched} {b = b} does rest) =
    let e = events.Restore l in
    let step : course v last (items_of (l ∷ ls)) []
    ≡ onward v (Lines e) (course (next_line (walk_after v n touched b)) (turn_kept last e) (items_of ls) []) =
    ap (λ o. past v e o [] (λ x r. turned 0 x (turn_kept last e) r (λ y k m. course (next_line y) k (items_of ls) m)))
    (line_obeyed v.machine v.block l ∙ ap Done does) in
    let r = run_through (turn_kept last e) rest in
    (ap (λ (u : Course). u.last) step ∙ r.0, ap (λ (u : Course). turn_past last u.moments) step ∙ r.1)

-- no line of a machine says whose turn was the last, and none ends the state part
turn_stays : (last : ℕ) (l : Saved) → turn_kept last (events.Restore (line_of l)) ≡ last
turn_stays last (saves.Bytes c true bs) = refl
turn_stays last (saves.Bytes c false bs) = refl
turn_stays last (saves.System v) = refl
turn_stays last (saves.Clock n) = refl
turn_stays last (saves.File n) = refl
turn_stays last (saves.FileWords n ws) = refl
turn_stays last (saves.Job s u j c) = refl
turn_stays last (saves.CoreWords s a ws) = refl
turn_stays last (saves.ReadOnly s k) = refl
turn_stays last (saves.Symbol s x a) = refl
turn_stays last (saves.Regs s r) = refl
turn_stays last (saves.Alarm s a) = refl
turn_stays last (saves.Under s t) = refl
turn_stays last (saves.Tty s n w) = refl
turn_stays last (saves.Disk s n x at) = refl
turn_stays last (saves.Draft s n x) = refl
turn_stays last (saves.Wrote s n ws) = refl
turn_stays last (saves.Usr s n t w at) = refl
turn_stays last (saves.Join s n l w x y) = refl
turn_stays last (saves.Sent l ws) = refl
turn_stays last (saves.EndShut l w) = refl
turn_stays last (saves.Hold c s) = refl

turns_stay : (last : ℕ) (xs : List Saved) (ys : List StateLine) → turn_over last (lines_of xs ++ ys) ≡ turn_over last ys
turns_stay last [] ys = refl
turns_stay last (x ∷ xs) ys = ap (λ k. turn_over k (lines_of xs ++ ys)) (turn_stays last x) ∙ turns_stay last xs ys

place_stays : (l : Saved) → place_after places.System (events.Restore (line_of l)) ≡ places.System
place_stays (saves.Bytes c true bs) = refl
place_stays (saves.Bytes c false bs) = refl
place_stays (saves.System v) = refl
place_stays (saves.Clock n) = refl
place_stays (saves.File n) = refl
place_stays (saves.FileWords n ws) = refl
place_stays (saves.Job s u j c) = refl
place_stays (saves.CoreWords s a ws) = refl
place_stays (saves.ReadOnly s k) = refl
place_stays (saves.Symbol s x a) = refl
place_stays (saves.Regs s r) = refl
place_stays (saves.Alarm s a) = refl
place_stays (saves.Under s t) = refl
place_stays (saves.Tty s n w) = refl
place_stays (saves.Disk s n x at) = refl
place_stays (saves.Draft s n x) = refl
place_stays (saves.Wrote s n ws) = refl
place_stays (saves.Usr s n t w at) = refl
place_stays (saves.Join s n l w x y) = refl
place_stays (saves.Sent l ws) = refl
place_stays (saves.EndShut l w) = refl
place_stays (saves.Hold c s) = refl

places_stay : (xs : List Saved) (ys : List StateLine) → place_past places.System (saved_events (lines_of xs ++ ys)) ≡ place_past places.System (saved_events ys)
places_stay [] ys = refl
places_stay (x ∷ xs) ys = ap (λ p. place_past p (saved_events (lines_of xs ++ ys))) (place_stays x) ∙ places_stay xs ys

-- the turn is that of TURN, or the highest slot's
last_turned : (turn : ℕ) → turn_over highest (turn_lines turn ++ states.Ready ∷ []) ≡ turn
last_turned turn = elim (cases_eq turn highest) [
  | inl e ↦ (ap (λ t. turn_over highest ((if t then [] else states.Turn turn ∷ []) ++ states.Ready ∷ [])) (eq-eqb turn highest e) ∙ sym e)
  | inr n ↦ ap (λ t. turn_over highest ((if t then [] else states.Turn turn ∷ []) ++ states.Ready ∷ [])) (ne_eqb turn highest n)
]

turned_at_end : (m : Machine) (turn : ℕ) → turn_over highest (saved_lines m turn) ≡ turn
turned_at_end m turn = turns_stay highest (saved m) (turn_lines turn ++ states.Ready ∷ []) ∙ last_turned turn

ready_place : (turn : ℕ) → place_past places.System (saved_events (turn_lines turn ++ states.Ready ∷ [])) ≡ places.Plain
ready_place turn = by (turn == highest)
  where
    by : (t : Bool) → place_past places.System (saved_events ((if t then [] else states.Turn turn ∷ []) ++ states.Ready ∷ [])) ≡ places.Plain
    by true = refl
    by false = refl

-- SYSTEM is the first of them
abbrev Begins : List Saved → Type 0
Begins (saves.System v ∷ ls) = Unit {0}
Begins _ = ⊥

saved_begins : (m : Machine) → Begins (saved m)
unfolding saved
saved_begins m = tt

first_place : (xs : List Saved) (ys : List StateLine) → Begins xs
    → place_past places.First (saved_events (lines_of xs ++ ys)) ≡ place_past places.System (saved_events ys)
first_place (saves.System v ∷ xs) ys h = places_stay xs ys
first_place _ ys h = absurd h

-- after them the session is outside blocks, and past the state part
pub saved_outside : (m : Machine) (turn : ℕ) → place_past places.First (saved_events (saved_lines m turn)) ≡ places.Plain
saved_outside m turn = first_place (saved m) (turn_lines turn ++ states.Ready ∷ []) (saved_begins m) ∙ ready_place turn

module _ (m : Machine) (turn : ℕ) (fit : WellFormed m) (named : Named m) where
  -- the lines of a saved system show nothing
  pub saved_silent : Transcript (items_of (saved_lines m turn)) [] Open
  saved_silent =
      let r = lines_restore m turn fit named in
      subst (λ es. Transcript es [] Open) (append-nil (items_of (saved_lines m turn))) (shown_after highest [] [] Open r.obeys input_end)

  -- their run ends in its machine
  pub saved_leads : (run_of (items_of (saved_lines m turn)) []).last ≡ m
  saved_leads =
      let r = lines_restore m turn fit named in
      (run_through highest r.obeys).0 ∙ r.machine

  -- and the turn that follows is the one that follows a turn of this slot
  pub saved_turn : last_turn (run_of (items_of (saved_lines m turn)) []) ≡ turn
  unfolding last_turn
  saved_turn =
      let r = lines_restore m turn fit named in
      (run_through highest r.obeys).1 ∙ turned_at_end m turn

  -- what is shown after a session that has led to this machine and this turn may be shown after
  -- these lines
  pub saved_goes_on : (v : Walk) (rest : List Item) (more : List Line) (end : Fate) → v.machine ≡ m
      → ReadAt places.Plain rest → end ≢ Refused → Shows v turn rest more end
      → Transcript (items_of (saved_lines m turn) ++ rest) more end
  saved_goes_on v rest more end is read unrefused h =
      let r = lines_restore m turn fit named in
      let alike : NoMoreDots places.Plain v r.walk = record {
        machine = r.machine ∙ sym is;
        dots = λ k. (let z = r.dots k in omega arith);
        block = tt;
      } in
      shown_after highest rest more end r.obeys (subst (λ t. Shows r.walk t rest more end) (sym (turned_at_end m turn))
      (goes_on places.Plain r.walk read alike unrefused h))

-- whatever may follow a session, without its END, may follow the lines of the machine and the turn
-- at the end of its run
pub saved_follows : (es rest : List Item) (lines more : List Line) (fate end : Fate) → Transcript es lines fate → IsOver fate
    → WellFormed (run_of es lines).last → Named (run_of es lines).last → ReadAt places.Plain rest → end ≢ Refused
    → Transcript (before_end es ++ rest) (lines ++ more) end
    → Transcript (items_of (saved_lines (run_of es lines).last (last_turn (run_of es lines))) ++ rest) more end
unfolding last_turn
saved_follows es rest lines more fate end whole over fit named read unrefused h =
    let f = shown_from at_start highest es rest lines more fate end over whole h in
    saved_goes_on (run_of es lines).last (last_turn (run_of es lines)) fit named f.walk rest more end f.machine read unrefused f.shown
