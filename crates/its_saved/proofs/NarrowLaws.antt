-- Every run of a session ends in a narrow machine: the lines that the grammar reads have numbers in
-- the ranges of their rows, and neither such a line nor a tick leads to any wider ones.
use Rattle.std.specs.Prelude.{if◌then◌else◌, ◌≡◌, ◌<◌, ℕ, zero, suc, ◌+◌, Bool, true, false, Option, Some, None, Result, Ok, Err, List, [], ◌∷◌, length, drop, nat_le, nat_lt, unwrap_or, refl}
use Rattle.std.proofs.Common.{sym, subst, arith}
use Rattle.std.specs.List.{list_all}
use Rattle.its_word.specs.Text.{is_code, words_of}
use Rattle.its_records.specs.Item.{Item, Read, Unread, Beyond}
use Rattle.its_records.specs.declared.calls.Pace.{Pace}
use Rattle.its_records.specs.declared.calls.Pace.TheVariants.{Step, Work, Wait, Off}
use Rattle.its_records.specs.declared.session.Bad.{Bad}
use Rattle.its_records.specs.declared.session.Bad.TheVariants as bads
use Rattle.its_records.specs.declared.session.Event.{Event}
use Rattle.its_records.specs.declared.session.Event.TheVariants as events
use Rattle.its_records.specs.declared.session.Place.{Place}
use Rattle.its_records.specs.declared.session.Place.TheVariants as places
use Rattle.its_print.specs.Printing.{Line}
use Rattle.its_session.specs.Events.{end_of, events_of, item_then, items_from, lines_from, most_lines, place_after, version_after}
use Rattle.its_session.specs.Fits.{EventFits}
use Rattle.its_session.specs.Grammar.{event_of_words, line_event}
use Rattle.its_session.proofs.FitsLaws.{words_fit, later_fits}
use Rattle.its_plain.specs.Call.Step.{step}
use Rattle.its_plain.specs.Machine.{Machine, no_machine}
use Rattle.its_plain.specs.Operator.{Block, Refuses, Does, Ticks, Quits}
use Rattle.its_plain.specs.Operator.Clock.{clock_end}
use Rattle.its_plain.specs.Operator.Lines.{Lined, Done, Peeks, lined}
use Rattle.its_plain.specs.Transcript.{Walk, at_start, after_letter, walk_after, next_line}
use Rattle.its_plain.specs.Transcript.Course.{Course, machine_after, paced, letters, turned_by, turned, past, course, run_of}
use Rattle.its_plain.specs.Transcript.Turns.{turn_after, highest, turn_kept, turns_asked}
use Rattle.its_plain.proofs.CallLineLaws.{line_does}
use Rattle.its_stepped.specs.Alarmed.{Alarmed}
use Rattle.its_stepped.specs.Forest.{Forest}
use Rattle.its_stepped.proofs.Duties.FitLaws.{forest_steps}
use Rattle.its_stepped.proofs.Keeping.AlarmLaws.{alarmed_starts, step_alarmed, line_alarmed}
use Rattle.its_stepped.proofs.Keeping.ClockLaws.{step_clock, line_timed}
use Rattle.its_stepped.proofs.Keeping.ForestLaws.{forest_starts}
use Rattle.its_stepped.proofs.Running.WrittenLaws.{line_forest}
use Rattle.its_saved.specs.Narrow.{Narrow}
use Rattle.its_saved.proofs.NarrowStepLaws.{narrow_starts, step_narrow}
use Rattle.its_saved.proofs.NarrowLineLaws.{line_parts}
use Rattle.its_saved.proofs.NarrowAlarmLaws.{leaves_timely}

-- what is kept with it: next times are found from the clock and from periods
record Bounded (m : Machine) : Type 0 where
  forest : Forest m
  alarmed : Alarmed m
  timed : m.clock < clock_end
  narrow : Narrow m

bounded_starts : Bounded no_machine
unfolding no_machine
bounded_starts = record { forest = forest_starts; alarmed = alarmed_starts; timed = omega arith; narrow = narrow_starts }

step_bounded : (m n : Machine) (j : ℕ) → Bounded m → step m j ≡ Some n → Bounded n
step_bounded m n j h e = record {
  forest = forest_steps m n j h.forest e;
  alarmed = step_alarmed m n j h.forest h.alarmed e;
  timed = subst (λ (t : ℕ). t < clock_end) (sym (step_clock m n j e)) h.timed;
  narrow = step_narrow m n j h.timed h.narrow e;
}

line_bounded : (m n : Machine) (b c : Block) (e : Event) (out : List Line) (touched : ℕ → Bool) → EventFits 2 e → Bounded m
    → lined m b e ≡ Done (Does n out touched c) → Bounded n
line_bounded m n b c e out touched i h is =
    let timed = line_timed m n b c e out touched h.timed is in
    let parts = line_parts m n b c e out touched i (record { symbols = h.narrow.symbols; bytes = h.narrow.bytes }) is in
    record {
      forest = line_forest m n b c e out touched h.forest is;
      alarmed = line_alarmed m n b c e out touched h.forest h.alarmed is;
      timed = timed;
      narrow = record {
        symbols = parts.symbols;
        alarms = leaves_timely m n e i (line_does m n b c e out touched is) timed h.alarmed h.narrow.alarms;
        bytes = parts.bytes;
      };
    }

-- the run from a walk on ends so
letter_bounded : (m : Machine) (i : ℕ) (p : Pace) → Bounded m → Bounded (machine_after m i p)
letter_bounded m i Step h = by (step m i) refl
  where
    by : (o : Option Machine) → step m i ≡ o → Bounded (unwrap_or o m)
    by (Some n) e = step_bounded m n i h e
    by None e = h
letter_bounded m i Work h = h
letter_bounded m i Wait h = h
letter_bounded m i Off h = h

paced_bounded : (ps : List Pace) (w : Walk) (i : ℕ) (next : Walk → Course) → Bounded w.machine
    → ((x : Walk) → Bounded x.machine → Bounded (next x).last) → Bounded (paced w i ps next).last
paced_bounded [] w i next h f = f w h
paced_bounded (p ∷ ps) w i next h f =
    paced_bounded ps (after_letter w i p (machine_after w.machine i p)) i next (letter_bounded w.machine i p h) f

abbrev Goes : (Walk → ℕ → List Line → Course) → Type 0
Goes next = (w : Walk) (l : ℕ) (rest : List Line) → Bounded w.machine → Bounded (next w l rest).last

turn_bounded : (w : Walk) (lines : List Line) (o : Option ℕ) (more : Walk → ℕ → List Line → Course) (done : Course) → Bounded w.machine → Goes more
    → Bounded done.last → Bounded (turned_by o w lines more done).last
turn_bounded w lines (Some s) more done h f d = paced_bounded (letters lines) w s (λ x. more x s (drop 1 lines)) h (λ x b. f x s (drop 1 lines) b)
turn_bounded w lines None more done h f d = d

turned_bounded : (n : ℕ) (w : Walk) (last : ℕ) (lines : List Line) (next : Walk → ℕ → List Line → Course) → Bounded w.machine → Goes next
    → Bounded (turned n w last lines next).last
turned_bounded zero w last lines next h f = f w last lines h
turned_bounded (suc n) w last lines next h f =
    turn_bounded w lines (turn_after w.machine last) (λ x s rest. turned n x s rest next) (next w last lines) h
    (λ x s rest b. turned_bounded n x s rest next b f) (f w last lines h)

past_bounded : (w : Walk) (e : Event) (o : Lined) (lines : List Line) (next : Walk → List Line → Course) → lined w.machine w.block e ≡ o
    → EventFits 2 e → Bounded w.machine → ((x : Walk) (rest : List Line) → Bounded x.machine → Bounded (next x rest).last)
    → Bounded (past w e o lines next).last
past_bounded w e (Done (Refuses r)) lines next is i h f = h
past_bounded w e (Done (Does n out touched c)) lines next is i h f =
    f (walk_after w n touched c) (drop (length out) lines) (line_bounded w.machine n w.block c e out touched i h is)
past_bounded w e (Done (Ticks s k)) lines next is i h f = paced_bounded (letters lines) w s (λ x. next x (drop 1 lines)) h (λ x b. f x (drop 1 lines) b)
past_bounded w e (Done Quits) lines next is i h f = h
past_bounded w e (Peeks s) lines next is i h f = f w (drop 1 lines) h

-- each line that was read fits
abbrev pub AllFit : List Item → Type 0
AllFit [] = Unit {0}
AllFit (Read e ∷ es) = EventFits 2 e × AllFit es
AllFit (Unread r ∷ es) = Unit {0}
AllFit (Beyond ∷ es) = Unit {0}

course_bounded : (es : List Item) (w : Walk) (last : ℕ) (lines : List Line) → AllFit es → Bounded w.machine → Bounded (course w last es lines).last
course_bounded [] w last lines i h = h
course_bounded (Read e ∷ es) w last lines i h =
    past_bounded w e (lined w.machine w.block e) lines
    (λ x rest. turned (turns_asked e) x (turn_kept last e) rest (λ y l more. course (next_line y) l es more)) refl i.0 h
    (λ x rest b. turned_bounded (turns_asked e) x (turn_kept last e) rest (λ y l more. course (next_line y) l es more) b
    (λ y l more c. course_bounded es (next_line y) l more i.1 c))
course_bounded (Unread r ∷ es) w last lines i h = h
course_bounded (Beyond ∷ es) w last lines i h = h

pub items_narrow : (es : List Item) (lines : List Line) → AllFit es → Narrow (run_of es lines).last
items_narrow es lines i = (course_bounded es at_start highest lines i bounded_starts).narrow

-- the grammar reads lines that fit
line_fits : (p : Place) (v : ℕ) (line : List ℕ) (e : Event) → line_event p v line ≡ Ok e → EventFits 2 e
unfolding line_event
line_fits p v line e h = later_fits v e (by (nat_le (length line) 255) (list_all (is_code 32 126) line) h)
  where
    by : (a b : Bool) → (if a then (if b then event_of_words p v (words_of line) else Err bads.Syntax) else Err bads.Long) ≡ Ok e → EventFits v e
    by true true k = words_fit p v (words_of line) (Ok e) (sym k)
    by true false k = cc
    by false b k = cc

end_fits : (whole : Bool) (p : Place) → AllFit (end_of whole p)
end_fits true places.System = tt
end_fits true places.Load = tt
end_fits true places.File = tt
end_fits true places.First = tt
end_fits true places.Plain = tt
end_fits false p = tt

then_fits : (e : Event) (f : Event → List Item) → EventFits 2 e → AllFit (f e) → AllFit (item_then (Ok e) f)
then_fits events.End f i h = (i, tt)
then_fits e f i h = (i, h)

lines_fit : (whole : Bool) (ls : List (List ℕ)) (n : ℕ) (p : Place) (v : ℕ) → AllFit (items_from whole n p v ls)
lines_fit whole [] n p v = end_fits whole p
lines_fit whole (line ∷ ls) n p v = by (nat_lt most_lines n) (line_event p v line) refl (λ q w. lines_fit whole ls (n + 1) q w)
  where
    by : (b : Bool) (r : Result Event Bad) → line_event p v line ≡ r → ((q : Place) (w : ℕ) → AllFit (items_from whole (n + 1) q w ls))
        → AllFit (if b then Beyond ∷ [] else item_then r (λ e. items_from whole (n + 1) (place_after p e) (version_after v e) ls))
    by true r is more = tt
    by false (Err bad) is more = tt
    by false (Ok e) is more =
        then_fits e (λ x. items_from whole (n + 1) (place_after p x) (version_after v x) ls) (line_fits p v line e is)
        (more (place_after p e) (version_after v e))

pub events_fit : (bytes : List ℕ) → AllFit (events_of bytes)
unfolding events_of
events_fit bytes = lines_fit true (lines_from true [] bytes) 1 places.First 1

-- so the machine at the end of the run of a session is narrow
pub run_narrow : (bytes : List ℕ) (lines : List Line) → Narrow (run_of (events_of bytes) lines).last
run_narrow bytes lines = items_narrow (events_of bytes) lines (events_fit bytes)
