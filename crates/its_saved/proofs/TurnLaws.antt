-- The slot of the last turn of a session, at the end of the run of its bytes: it is one that jobs
-- can have in the version of the machine, or the highest one, which counts before the first turn.
use Rattle.std.specs.Prelude.{if◌then◌else◌, ◌≡◌, ◌≤◌, ◌<◌, ◌⊎◌, ℕ, zero, suc, ◌+◌, Bool, true, false, Option, Some, None, Result, Ok, Err, List, [], ◌∷◌, length, drop, map, nat_le, nat_lt, unwrap_or, refl}
use Rattle.std.proofs.Common.{sym, ◌∙◌, ap, subst, arith, inl, inr}
use Rattle.std.specs.List.{list_all}
use Rattle.std.proofs.lemmas.Bool.{cases_lt}
use Rattle.its_word.specs.Limits.{slots}
use Rattle.its_word.specs.Text.{is_code, words_of}
use Rattle.its_records.specs.Item.{Item, Read, Beyond}
use Rattle.its_records.specs.declared.calls.Pace.{Pace}
use Rattle.its_records.specs.declared.calls.Pace.TheVariants.{Step, Work, Wait, Off}
use Rattle.its_records.specs.declared.session.Bad.{Bad}
use Rattle.its_records.specs.declared.session.Bad.TheVariants as bads
use Rattle.its_records.specs.declared.session.Event.{Event}
use Rattle.its_records.specs.declared.session.Event.TheVariants as events
use Rattle.its_records.specs.declared.session.Place.{Place}
use Rattle.its_records.specs.declared.session.Place.TheVariants as places
use Rattle.its_records.specs.declared.state_line.StateLine.{StateLine}
use Rattle.its_records.specs.declared.state_line.StateLine.TheVariants as states
use Rattle.its_records.proofs.FreeLaws.{no_job_at_all}
use Rattle.its_print.specs.Printing.{Line}
use Rattle.its_robin.proofs.RobinLaws.{robin_next}
use Rattle.its_session.specs.Events.{end_of, events_of, item_then, items_from, lines_from, most_lines, place_after, version_after}
use Rattle.its_session.specs.Fields.{last_slot}
use Rattle.its_session.specs.Fits.{EventFits, Stands}
use Rattle.its_session.specs.Grammar.{event_of_words, is_at, line_event}
use Rattle.its_session.proofs.FitsLaws.{words_fit, words_stand}
use Rattle.its_session.proofs.MetLaws.{slot_small}
use Rattle.its_plain.specs.Call.Step.{step}
use Rattle.its_plain.specs.Machine.{Whole, Machine, no_machine, limit}
use Rattle.its_plain.specs.Operator.{Refuses, Does, Ticks, Quits, no_block, nobody}
use Rattle.its_plain.specs.Operator.Lines.{Lined, Done, Peeks, lined, operate}
use Rattle.its_plain.specs.Operator.State.{restored}
use Rattle.its_plain.specs.Operator.Version.{with_version}
use Rattle.its_plain.specs.Transcript.{Walk, at_start, after_letter, walk_after, next_line}
use Rattle.its_plain.specs.Transcript.Course.{Lines, Turns, Letter, Deed, Course, rests, onward, machine_after, paced, letters, turned_by, turned, past, course, run_of, turn_at, turn_past, last_turn}
use Rattle.its_plain.specs.Transcript.Turns.{is_running, runs, turn_after, highest, turn_kept, turns_asked}
use Rattle.its_plain.proofs.RunLaws.{ticks_keep_turn, peek_keeps_turn}
use Rattle.its_stepped.specs.Forest.{Forest}
use Rattle.its_stepped.proofs.Duties.FitLaws.{forest_steps}
use Rattle.its_stepped.proofs.Keeping.ForestLaws.{forest_starts}
use Rattle.its_stepped.proofs.Running.WrittenLaws.{line_forest}
use Rattle.its_stepped.specs.Address.{Addressed}
use Rattle.its_saved.specs.Readable.{Worded}
use Rattle.its_saved.specs.Text.{saved_lines, saved_events, state_text}
use Rattle.its_saved.specs.WellFormed.{KeptByTypes}
use Rattle.its_saved.proofs.ReadLaws.{saved_read}
use Rattle.its_saved.proofs.ReadableLaws.{below_last}
use Rattle.its_saved.proofs.RunLaws.{run_named, run_well_formed}
use Rattle.its_saved.proofs.VersionLaws.{NoSystem, Later, step_version, line_version}

-- TURN may name this slot in a session of version v, or there is no such line
abbrev pub TurnFits : ℕ → ℕ → Type 0
TurnFits v turn = (turn ≡ highest) ⊎ (turn ≤ last_slot v)

-- a line that is read fits, and may occur at its place
record Fits (p : Place) (v : ℕ) (e : Event) : Type 0 where
  fits : EventFits v e
  stands : Stands p e

line_fits : (p : Place) (v : ℕ) (line : List ℕ) (e : Event) → line_event p v line ≡ Ok e → Fits p v e
unfolding line_event
line_fits p v line e h = by (nat_le (length line) 255) (list_all (is_code 32 126) line) h
  where
    by : (a b : Bool) → (if a then (if b then event_of_words p v (words_of line) else Err bads.Syntax) else Err bads.Long) ≡ Ok e → Fits p v e
    by true true k = record { fits = words_fit p v (words_of line) (Ok e) (sym k); stands = words_stand p v (words_of line) (Ok e) (sym k) }
    by true false k = cc
    by false b k = cc

-- line 1 is over
abbrev IsPast : Place → Type 0
IsPast places.First = ⊥
IsPast _ = Unit {0}

none_first : (p : Place) → IsPast p → is_at p places.First ≡ true → ⊥
none_first places.First i h = i
none_first places.System i h = cc
none_first places.Plain i h = cc
none_first places.Load i h = cc
none_first places.File i h = cc

state_later : (p : Place) (l : StateLine) → IsPast p → Stands p (events.Restore l) → NoSystem l
state_later p (states.System w) i h = none_first p i h
state_later p l i h = tt

is_later : (p : Place) (e : Event) → IsPast p → Stands p e → Later e
is_later p (events.Version w) i h = none_first p i h
is_later p (events.Restore l) i h = state_later p l i h
is_later p e i h = tt

state_past : (p : Place) (l : StateLine) → IsPast (place_after p (events.Restore l))
state_past p (states.System v) = tt
state_past p states.Ready = tt
state_past places.First _ = tt
state_past places.Plain _ = tt
state_past places.System _ = tt
state_past places.Load _ = tt
state_past places.File _ = tt

past_after : (p : Place) (e : Event) → IsPast (place_after p e)
past_after p (events.Load u j c) = tt
past_after p (events.Go a) = tt
past_after p (events.Restore l) = state_past p l
past_after p (events.File d x y) = tt
past_after p events.EndFile = tt
past_after places.First e = tt
past_after places.Plain e = tt
past_after places.System e = tt
past_after places.Load e = tt
past_after places.File e = tt

state_same : (v : ℕ) (l : StateLine) → NoSystem l → version_after v (events.Restore l) ≡ v
state_same v (states.System w) i = absurd i
state_same v l i = refl

version_same : (v : ℕ) (e : Event) → Later e → version_after v e ≡ v
version_same v (events.Version w) i = absurd i
version_same v (events.Restore l) i = state_same v l i
version_same v e i = refl

module _ (v : ℕ) where
  -- a machine of this version
  record At (m : Machine) : Type 0 where
    forest : Forest m
    version : m.version ≡ v

  -- the run that follows a turn of this slot
  record Ended (last : ℕ) (u : Course) : Type 0 where
    turn : TurnFits v (turn_past last u.moments)
    version : u.last.version ≡ v

  ends_rests : (w : Walk) (last : ℕ) → At w.machine → TurnFits v last → Ended last (rests w)
  ends_rests w last a t = record { turn = t; version = a.version }

  ends_onward : (w : Walk) (d : Deed) (u : Course) (last : ℕ) → Ended (turn_at last d) u → Ended last (onward w d u)
  ends_onward w d u last h = record { turn = h.turn; version = h.version }

  -- letters
  letter_at : (m : Machine) (i : ℕ) (p : Pace) → At m → At (machine_after m i p)
  letter_at m i Step a = by (step m i) refl
    where
      by : (o : Option Machine) → step m i ≡ o → At (unwrap_or o m)
      by (Some n) e = record { forest = forest_steps m n i a.forest e; version = step_version m n i e ∙ a.version }
      by None e = a
  letter_at m i Work a = a
  letter_at m i Wait a = a
  letter_at m i Off a = a

  paced_ends : (ps : List Pace) (last : ℕ) (w : Walk) (i : ℕ) (next : Walk → Course) → At w.machine
      → ((x : Walk) → At x.machine → Ended last (next x)) → Ended last (paced w i ps next)
  paced_ends [] last w i next a h = h w a
  paced_ends (p ∷ ps) last w i next a h =
      let n = machine_after w.machine i p in
      ends_onward w (Letter i p) (paced (after_letter w i p n) i ps next) last
      (paced_ends ps last (after_letter w i p n) i next (letter_at w.machine i p a) h)

  -- turns
  turn_small : (last : ℕ) → TurnFits v last → last < slots
  turn_small last t = elim t [
    | inl e ↦ omega arith
    | inr l ↦ (let few = slot_small v last l in omega arith)
  ]

  running_below : (m : Machine) (s : ℕ) → Forest m → runs m s ≡ true → s < limit m
  running_below m s f r = elim (cases_lt s (limit m)) [
    | inl l ↦ l
    | inr g ↦ absurd (let none : false ≡ true = ap is_running (sym (f.few s g)) ∙ r in cc)
  ]

  turn_fits : (m : Machine) (last s : ℕ) → At m → TurnFits v last → turn_after m last ≡ Some s → TurnFits v s
  turn_fits m last s a t e =
      let next = robin_next slots last s (runs m) (turn_small last t) e in
      inr (subst (λ (u : ℕ). s ≤ last_slot u) a.version (below_last m.version s (running_below m s a.forest next.running)))

  abbrev Goes : (Walk → ℕ → List Line → Course) → Type 0
  Goes next = (w : Walk) (l : ℕ) (rest : List Line) → At w.machine → TurnFits v l → Ended l (next w l rest)

  turn_ends : (w : Walk) (last : ℕ) (lines : List Line) (o : Option ℕ) (more : Walk → ℕ → List Line → Course) (done : Course)
      → turn_after w.machine last ≡ o → At w.machine → TurnFits v last → Goes more → Ended last done → Ended last (turned_by o w lines more done)
  turn_ends w last lines (Some s) more done e a t h d =
      ends_onward w (Turns s) (paced w s (letters lines) (λ x. more x s (drop 1 lines))) last
      (paced_ends (letters lines) s w s (λ x. more x s (drop 1 lines)) a (λ x b. h x s (drop 1 lines) b (turn_fits w.machine last s a t e)))
  turn_ends w last lines None more done e a t h d = d

  turned_ends : (n : ℕ) (w : Walk) (last : ℕ) (lines : List Line) (next : Walk → ℕ → List Line → Course) → At w.machine → TurnFits v last → Goes next
      → Ended last (turned n w last lines next)
  turned_ends zero w last lines next a t h = h w last lines a t
  turned_ends (suc n) w last lines next a t h =
      turn_ends w last lines (turn_after w.machine last) (λ x s rest. turned n x s rest next) (next w last lines) refl a t
      (λ x s rest b u. turned_ends n x s rest next b u h) (h w last lines a t)

  -- a line
  past_ends : (w : Walk) (last : ℕ) (e : Event) (o : Lined) (lines : List Line) (next : Walk → List Line → Course) → lined w.machine w.block e ≡ o
      → At w.machine → TurnFits v last → Later e → ((x : Walk) (rest : List Line) → At x.machine → Ended (turn_kept last e) (next x rest))
      → Ended last (past w e o lines next)
  past_ends w last e (Done (Refuses r)) lines next is a t i h = ends_rests w last a t
  past_ends w last e (Done (Does n out touched c)) lines next is a t i h =
      let x = walk_after w n touched c in
      let b : At n = record {
        forest = line_forest w.machine n w.block c e out touched a.forest is;
        version = line_version w.machine n w.block c e out touched i is ∙ a.version;
      } in
      ends_onward w (Lines e) (next x (drop (length out) lines)) last (h x (drop (length out) lines) b)
  past_ends w last e (Done (Ticks s k)) lines next is a t i h =
      paced_ends (letters lines) last w s (λ x. next x (drop 1 lines)) a
      (λ x b. subst (λ (l : ℕ). Ended l (next x (drop 1 lines))) (ticks_keep_turn w.machine w.block e s k last is) (h x (drop 1 lines) b))
  past_ends w last e (Done Quits) lines next is a t i h = ends_rests w last a t
  past_ends w last e (Peeks s) lines next is a t i h =
      subst (λ (l : ℕ). Ended l (next w (drop 1 lines))) (peek_keeps_turn w.machine w.block e s last is) (h w (drop 1 lines) a)

  kept_fits : (last : ℕ) (e : Event) → EventFits v e → TurnFits v last → TurnFits v (turn_kept last e)
  kept_fits last (events.Restore (states.Turn s)) f t = inr f
  kept_fits last e f t = t

  abbrev Lead : List Item → Type 0
  Lead es = (w : Walk) (l : ℕ) (more : List Line) → At w.machine → TurnFits v l → Ended l (course w l es more)

  read_ends : (e : Event) (es : List Item) → EventFits v e → Later e → Lead es → Lead (Read e ∷ es)
  read_ends e es f i h = λ w last lines a t.
      past_ends w last e (lined w.machine w.block e) lines
      (λ x rest. turned (turns_asked e) x (turn_kept last e) rest (λ y l more. course (next_line y) l es more)) refl a t i
      (λ x rest b. turned_ends (turns_asked e) x (turn_kept last e) rest (λ y l more. course (next_line y) l es more) b (kept_fits last e f t)
      (λ y l more c u. h (next_line y) l more c u))

  item_ends : (e : Event) (f : Event → List Item) → EventFits v e → Later e → Lead (f e) → Lead (item_then (Ok e) f)
  item_ends events.End f fits i h = read_ends events.End [] fits i (λ w l more a t. ends_rests w l a t)
  item_ends e f fits i h = read_ends e (f e) fits i h

  -- the end of input
  end_ends : (p : Place) → Lead (end_of true p)
  end_ends places.System = λ w l more a t. ends_rests w l a t
  end_ends places.Load = λ w l more a t. ends_rests w l a t
  end_ends places.File = λ w l more a t. ends_rests w l a t
  end_ends places.First = λ w l more a t. ends_rests w l a t
  end_ends places.Plain = λ w l more a t. ends_rests w l a t

  lines_end : (ls : List (List ℕ)) (n : ℕ) (p : Place) → IsPast p → Lead (items_from true n p v ls)
  lines_end [] n p i = end_ends p
  lines_end (line ∷ ls) n p i = by (nat_lt most_lines n) (line_event p v line) refl (λ q j. lines_end ls (n + 1) q j)
    where
      by : (b : Bool) (r : Result Event Bad) → line_event p v line ≡ r → ((q : Place) → IsPast q → Lead (items_from true (n + 1) q v ls))
          → Lead (if b then Beyond ∷ [] else item_then r (λ e. items_from true (n + 1) (place_after p e) (version_after v e) ls))
      by true r is more = λ w l rest a t. ends_rests w l a t
      by false (Err bad) is more = λ w l rest a t. ends_rests w l a t
      by false (Ok e) is more =
          let f = line_fits p v line e is in
          let later = is_later p e i f.stands in
          item_ends e (λ x. items_from true (n + 1) (place_after p x) (version_after v x) ls) f.fits later
          (subst (λ (u : ℕ). Lead (items_from true (n + 1) (place_after p e) u ls)) (sym (version_same v e later)) (more (place_after p e) (past_after p e)))

-- the first line
record Ends (u : Course) : Type 0 where
  fits : TurnFits u.last.version (turn_past highest u.moments)

ended : (v : ℕ) (u : Course) → Ended v highest u → Ends u
ended v u h = record { fits = subst (λ (w : ℕ). TurnFits w (turn_past highest u.moments)) (sym h.version) h.turn }

start_at : At 1 no_machine
unfolding no_machine
start_at = record { forest = forest_starts; version = refl }

set_at : (w : ℕ) → (with_version no_machine w).version ≡ w
unfolding with_version no_machine
set_at w = ap (λ (b : Bool). (if b then record no_machine { version = w } else no_machine).version) (no_job_at_all (λ k. none k) (λ k. refl))
  where
    none : ℕ → Option Whole
    none k = None

version_forest : (w : ℕ) → Forest (with_version no_machine w)
unfolding lined operate
version_forest w = line_forest no_machine (with_version no_machine w) no_block no_block (events.Version w) [] nobody forest_starts refl

version_at : (w : ℕ) → At w (with_version no_machine w)
version_at w = record { forest = version_forest w; version = set_at w }

version_ends : (w : ℕ) (es : List Item) (lines : List Line) → Lead w es → Ends (course at_start highest (Read (events.Version w) ∷ es) lines)
unfolding lined operate
version_ends w es lines h =
    let x = walk_after at_start (with_version no_machine w) nobody no_block in
    let u = course (next_line x) highest es lines in
    ended w _ (ends_onward w at_start (Lines (events.Version w)) u highest (h (next_line x) highest lines (version_at w) (inl refl)))

system_ends : (w : ℕ) (es : List Item) (lines : List Line) → Lead w es → Ends (course at_start highest (Read (events.Restore (states.System w)) ∷ es) lines)
unfolding lined operate restored
system_ends w es lines h =
    let x = walk_after at_start (with_version no_machine w) nobody no_block in
    let u = course (next_line x) highest es lines in
    ended w _ (ends_onward w at_start (Lines (events.Restore (states.System w))) u highest (h (next_line x) highest lines (version_at w) (inl refl)))

-- any other line
other_ends : (e : Event) (es : List Item) (lines : List Line) → EventFits 1 e → Later e → Lead 1 es → Ends (course at_start highest (Read e ∷ es) lines)
other_ends e es lines f i h = ended 1 _ (read_ends 1 e es f i h at_start highest lines start_at (inl refl))

state_ends : (l : StateLine) (f : Event → List Item) (lines : List Line) → EventFits 1 (events.Restore l)
    → Lead (version_after 1 (events.Restore l)) (f (events.Restore l)) → Ends (course at_start highest (Read (events.Restore l) ∷ f (events.Restore l)) lines)
state_ends (states.System w) f lines fits h = system_ends w (f (events.Restore (states.System w))) lines h
state_ends l f lines fits h = other_ends (events.Restore l) (f (events.Restore l)) lines fits tt h

first_ends : (e : Event) (f : Event → List Item) (lines : List Line) → EventFits 1 e → Lead (version_after 1 e) (f e)
    → Ends (course at_start highest (item_then (Ok e) f) lines)
first_ends (events.Version w) f lines fits h = version_ends w (f (events.Version w)) lines h
first_ends (events.Restore l) f lines fits h = state_ends l f lines fits h
first_ends events.End f lines fits h = other_ends events.End [] lines fits tt (λ w l more a t. ends_rests 1 w l a t)
first_ends e f lines fits h = other_ends e (f e) lines fits tt h

start_ends : Ends (rests at_start)
start_ends = record { fits = inl refl }

all_end : (ls : List (List ℕ)) (lines : List Line) → Ends (course at_start highest (items_from true 1 places.First 1 ls) lines)
all_end [] lines = start_ends
all_end (line ∷ ls) lines = by (nat_lt most_lines 1) (line_event places.First 1 line) refl
  where
    by : (b : Bool) (r : Result Event Bad) → line_event places.First 1 line ≡ r
        → Ends (course at_start highest (if b then Beyond ∷ [] else item_then r (λ e. items_from true 2 (place_after places.First e) (version_after 1 e) ls)) lines)
    by true r is = start_ends
    by false (Err bad) is = start_ends
    by false (Ok e) is =
        let f = line_fits places.First 1 line e is in
        first_ends e (λ x. items_from true 2 (place_after places.First x) (version_after 1 x) ls) lines f.fits
        (lines_end (version_after 1 e) ls 2 (place_after places.First e) (past_after places.First e))

pub run_turn_fits : (bytes : List ℕ) (lines : List Line)
    → TurnFits (run_of (events_of bytes) lines).last.version (last_turn (run_of (events_of bytes) lines))
unfolding events_of last_turn
run_turn_fits bytes lines = (all_end (lines_from true [] bytes) lines).fits

-- so the text of the system at the end of a session is read as its lines
pub run_read : (bytes : List ℕ) (lines : List Line) → let u = run_of (events_of bytes) lines in
    Addressed u.last → KeptByTypes u.last → Worded u.last
    → events_of (state_text (saved_lines u.last (last_turn u))) ≡ map Read (saved_events (saved_lines u.last (last_turn u)))
run_read bytes lines addressed types worded =
    let es = events_of bytes in
    let u = run_of es lines in
    saved_read u.last (last_turn u) (run_well_formed es lines addressed types) (run_named es lines) worded (run_turn_fits bytes lines)
