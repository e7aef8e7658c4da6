-- A transcript as a walk that takes the rest of the session as a continuation: a form for proofs,
-- which says the same as the rules of `Transcript`, both ways. It computes by the events, the
-- letters, the turns and the result of a line.
use Rattle.std.specs.Prelude.{◌≡◌, ◌<◌, ℕ, zero, suc, Option, Some, None, List, [], ◌∷◌, ◌++◌, length, refl}
use Rattle.std.proofs.Common.{sym, subst}
use Rattle.its_records.specs.Item.{Item, Read, Unread, Beyond}
use Rattle.its_records.specs.declared.calls.Pace.{Pace}
use Rattle.its_records.specs.declared.calls.Pace.TheVariants.{Work}
use Rattle.its_records.specs.declared.session.Event.{Event}
use Rattle.its_records.specs.declared.session.Event.TheVariants as events
use Rattle.its_records.specs.declared.show.Peek.{Peek}
use Rattle.its_records.specs.declared.state_line.StateLine.TheVariants as states
use Rattle.its_print.specs.Printing.{Line}
use Rattle.its_print.specs.Printing as printed
use Rattle.its_plain.specs.Operator.Lines.{Lined, Done, Peeks, lined, operate}
use Rattle.its_plain.specs.Transcript.Licence.{Licensed, most_dots}
use Rattle.its_plain.specs.Machine.{Machine}
use Rattle.its_plain.specs.Operator.{Block, Refuses, Does, Ticks, Quits}
use Rattle.its_plain.specs.Transcript.{Fate, Ended, Open, Refused, TooLong, Walk, after_letter, walk_after, next_line, Paced, none, letter, Turned, all_made, none_runs, a_turn, Shows, end_line, input_end, too_long, unread_line, refused_line, obeyed_line, tick_line, peek_line}
use Rattle.its_plain.specs.Operator.State.{restored}
use Rattle.its_plain.specs.Transcript.Turns.{turn_after, turn_kept, turns_asked, ticks_asked}

-- each letter is licensed in turn, and what follows goes on from there
abbrev pub PacedOn : Walk → ℕ → List Pace → (Walk → Type 0) → Type 0
PacedOn v i [] next = next v
PacedOn v i (p ∷ ps) next = (n : Machine) × Licensed v.machine i p n × (p ≡ Work → v.dots i < most_dots) × PacedOn (after_letter v i p n) i ps next

-- up to n turns of q ticks, after a turn of slot `last`, and what follows them
abbrev pub TurnBy : ℕ → Walk → Option ℕ → (Walk → ℕ → List Line → Type 0) → Type 0 → List Line → Type 0
TurnBy q v (Some s) more done lines = (ps : List Pace) × (rest : List Line) × (lines ≡ printed.Ticks s ps ∷ rest) × (length ps ≡ q)
    × PacedOn v s ps (λ w. more w s rest)
TurnBy q v None more done lines = done

abbrev pub TurnsOn : ℕ → ℕ → Walk → ℕ → (Walk → ℕ → List Line → Type 0) → List Line → Type 0
TurnsOn zero q v last next lines = next v last lines
TurnsOn (suc n) q v last next lines = TurnBy q v (turn_after v.machine last) (λ w s rest. TurnsOn n q w s next rest) (next v last lines) lines

-- a line with this result
abbrev pub LinedOn : Walk → Lined → (Walk → List Line → Type 0) → List Line → Fate → Type 0
LinedOn v (Done (Refuses r)) next lines fate = (lines ≡ printed.Refused v.line r ∷ []) × (fate ≡ Refused)
LinedOn v (Done (Does n out touched b)) next lines fate = (rest : List Line) × (lines ≡ out ++ rest) × next (next_line (walk_after v n touched b)) rest
LinedOn v (Done (Ticks i k)) next lines fate =
    (ps : List Pace) × (rest : List Line) × (lines ≡ printed.Ticks i ps ∷ rest) × (length ps ≡ k) × PacedOn v i ps (λ w. next (next_line w) rest)
LinedOn v (Done Quits) next lines fate = (lines ≡ []) × (fate ≡ Ended)
LinedOn v (Peeks i) next lines fate = (peek : Peek) × (rest : List Line) × (lines ≡ printed.Peeked i peek ∷ rest) × next (next_line v) rest

-- the events from here on
abbrev pub Run : Walk → ℕ → List Item → List Line → Fate → Type 0
Run v last [] lines fate = (lines ≡ []) × (fate ≡ Open)
Run v last (Read e ∷ es) lines fate =
    LinedOn v (lined v.machine v.block e)
    (λ w rest. TurnsOn (turns_asked e) (ticks_asked e) w (turn_kept last e) (λ x l more. Run x l es more fate) rest) lines fate
Run v last (Unread r ∷ es) lines fate = (lines ≡ printed.Refused v.line r ∷ []) × (fate ≡ Refused)
Run v last (Beyond ∷ es) lines fate = (lines ≡ []) × (fate ≡ TooLong)

-- TICK and PEEK ask for no turns, and the last turn is that of the same slot
pub ticks_no_turns : (m : Machine) (b : Block) (e : Event) (i k : ℕ) → lined m b e ≡ Done (Ticks i k) → turns_asked e ≡ 0
unfolding lined operate
ticks_no_turns m b (events.Run n q) i k is = cc
ticks_no_turns m b _ i k is = refl

pub peek_no_turns : (m : Machine) (b : Block) (e : Event) (i : ℕ) → lined m b e ≡ Peeks i → turns_asked e ≡ 0
unfolding lined operate
peek_no_turns m b (events.Run n q) i is = cc
peek_no_turns m b _ i is = refl

pub ticks_keep_turn : (m : Machine) (b : Block) (e : Event) (i k last : ℕ) → lined m b e ≡ Done (Ticks i k) → turn_kept last e ≡ last
unfolding lined operate restored
ticks_keep_turn m b (events.Restore (states.Turn s)) i k last is = cc
ticks_keep_turn m b _ i k last is = refl

pub peek_keeps_turn : (m : Machine) (b : Block) (e : Event) (i last : ℕ) → lined m b e ≡ Peeks i → turn_kept last e ≡ last
unfolding lined operate restored
peek_keeps_turn m b (events.Restore (states.Turn s)) i last is = cc
peek_keeps_turn m b _ i last is = refl

turns_none : (n q last : ℕ) (v : Walk) (next : Walk → ℕ → List Line → Type 0) (lines : List Line) → n ≡ 0 → TurnsOn n q v last next lines ≡ next v last lines
turns_none zero q last v next lines e = refl
turns_none (suc n) q last v next lines e = cc

-- the rules lead to the walk
paced_on : {i : ℕ} {v w : Walk} {ps : List Pace} → Paced i v ps w → (next : Walk → Type 0) → next w → PacedOn v i ps next
paced_on none next h = h
paced_on (letter n l few more) next h = (n, l, few, paced_on more next h)

turn_is : (q n last s : ℕ) (v : Walk) (next : Walk → ℕ → List Line → Type 0) (lines : List Line) (o : Option ℕ) → turn_after v.machine last ≡ o
    → TurnBy q v o (λ w s rest. TurnsOn n q w s next rest) (next v last lines) lines → TurnsOn (suc n) q v last next lines
turn_is q n last s v next lines o is h =
    subst (λ (o : Option ℕ). TurnBy q v o (λ w s rest. TurnsOn n q w s next rest) (next v last lines) lines) (sym is) h

turned_on : {q n last l : ℕ} {v w : Walk} {lines rest : List Line} → Turned q n v last lines w l rest → (next : Walk → ℕ → List Line → Type 0) → next w l rest
    → TurnsOn n q v last next lines
turned_on all_made next h = h
turned_on {q = q} {last = last} {v = v} {lines = lines} (none_runs {n = n} is) next h = turn_is q n last 0 v next lines None is h
turned_on {q = q} {last = last} {v = v} (a_turn {n = n} {s = s} {w = w} {ps = ps} {lines = lines} is long paces more) next h =
    turn_is q n last s v next (printed.Ticks s ps ∷ lines) (Some s) is
    (ps, lines, refl, long, paced_on paces (λ w. TurnsOn n q w s next lines) (turned_on more next h))

lined_run : (v : Walk) (last : ℕ) (e : Event) (es : List Item) (lines : List Line) (fate : Fate) (l : Lined) → lined v.machine v.block e ≡ l
    → LinedOn v l (λ w rest. TurnsOn (turns_asked e) (ticks_asked e) w (turn_kept last e) (λ x l more. Run x l es more fate) rest) lines fate
    → Run v last (Read e ∷ es) lines fate
lined_run v last e es lines fate l is h =
    subst (λ (l : Lined). LinedOn v l (λ w rest. TurnsOn (turns_asked e) (ticks_asked e) w (turn_kept last e) (λ x l more. Run x l es more fate) rest)
    lines fate) (sym is) h

-- what follows a line that asks for no turns
no_turns : (v : Walk) (last : ℕ) (e : Event) (es : List Item) (lines : List Line) (fate : Fate) → turns_asked e ≡ 0 → turn_kept last e ≡ last
    → Run v last es lines fate
    → TurnsOn (turns_asked e) (ticks_asked e) v (turn_kept last e) (λ x l more. Run x l es more fate) lines
no_turns v last e es lines fate asks keeps h =
    subst (λ (t : Type 0). t) (sym (turns_none (turns_asked e) (ticks_asked e) (turn_kept last e) v (λ x l more. Run x l es more fate) lines asks))
    (subst (λ (i : ℕ). Run v i es lines fate) (sym keeps) h)

pub shows_run : (v : Walk) (last : ℕ) (es : List Item) (lines : List Line) (fate : Fate) → Shows v last es lines fate → Run v last es lines fate
shows_run v last (Read e ∷ es) lines fate (end_line is) = lined_run v last e es [] Ended (Done Quits) is (refl, refl)
shows_run v last [] lines fate input_end = (refl, refl)
shows_run v last (Beyond ∷ es) lines fate too_long = (refl, refl)
shows_run v last (Unread r ∷ es) lines fate unread_line = (refl, refl)
shows_run v last (Read e ∷ es) lines fate (refused_line {r = r} is) =
    lined_run v last e es (printed.Refused v.line r ∷ []) Refused (Done (Refuses r)) is (refl, refl)
shows_run v last (Read e ∷ es) lines fate (obeyed_line {w = w} {l = l} {n = n} {out = out} {touched = touched} {b = b} {more = more}
    {rest = rest} is at turns goes) =
    lined_run v last e es lines fate (Done (Does n out touched b)) is
    (more, at, turned_on turns (λ x k ls. Run x k es ls fate) (shows_run w l es rest fate goes))
shows_run v last (Read e ∷ es) lines fate (tick_line {w = w} {i = i} {k = k} {ps = ps} {rest = rest} is long paces goes) =
    lined_run v last e es (printed.Ticks i ps ∷ rest) fate (Done (Ticks i k)) is (
      ps,
      rest,
      refl,
      long,
      paced_on paces (λ w. TurnsOn (turns_asked e) (ticks_asked e) (next_line w) (turn_kept last e) (λ x l more. Run x l es more fate) rest)
          (no_turns (next_line w) last e es rest fate (ticks_no_turns v.machine v.block e i k is) (ticks_keep_turn v.machine v.block e i k last is)
          (shows_run (next_line w) last es rest fate goes)),
    )
shows_run v last (Read e ∷ es) lines fate (peek_line {i = i} {peek = peek} {rest = rest} is goes) =
    lined_run v last e es (printed.Peeked i peek ∷ rest) fate (Peeks i) is (
      peek,
      rest,
      refl,
      no_turns (next_line v) last e es rest fate (peek_no_turns v.machine v.block e i is) (peek_keeps_turn v.machine v.block e i last is)
          (shows_run (next_line v) last es rest fate goes),
    )

-- and the walk to the rules
record PacedTo (v : Walk) (i : ℕ) (ps : List Pace) (Next : Walk → Type 0) : Type 0 where
  to : Walk
  paces : Paced i v ps to
  next : Next to

on_paced : (v : Walk) (i : ℕ) (ps : List Pace) (next : Walk → Type 0) → PacedOn v i ps next → PacedTo v i ps next
on_paced v i [] next h = record { to = v; paces = none; next = h }
on_paced v i (p ∷ ps) next h =
    let more = on_paced (after_letter v i p h.0) i ps next h.3 in
    record { to = more.to; paces = letter h.0 h.1 h.2 more.paces; next = more.next }

record TurnedTo (q n : ℕ) (v : Walk) (last : ℕ) (lines : List Line) (Next : Walk → ℕ → List Line → Type 0) : Type 0 where
  to : Walk
  slot : ℕ
  rest : List Line
  turns : Turned q n v last lines to slot rest
  next : Next to slot rest

turn_by : (q n last : ℕ) (v : Walk) (lines : List Line) (next : Walk → ℕ → List Line → Type 0) (o : Option ℕ) → turn_after v.machine last ≡ o
    → ((w : Walk) (s : ℕ) (rest : List Line) → TurnsOn n q w s next rest → TurnedTo q n w s rest next)
    → TurnBy q v o (λ w s rest. TurnsOn n q w s next rest) (next v last lines) lines → TurnedTo q (suc n) v last lines next
turn_by q n last v lines next None is more h = record { to = v; slot = last; rest = lines; turns = none_runs is; next = h }
turn_by q n last v lines next (Some s) is more h =
    let p = on_paced v s h.0 (λ w. TurnsOn n q w s next h.1) h.4 in
    let t = more p.to s h.1 p.next in
    rw h.2 (record { to = t.to; slot = t.slot; rest = t.rest; turns = a_turn is h.3 p.paces t.turns; next = t.next })

on_turned : (q n last : ℕ) (v : Walk) (lines : List Line) (next : Walk → ℕ → List Line → Type 0) → TurnsOn n q v last next lines
    → TurnedTo q n v last lines next
on_turned q zero last v lines next h = record { to = v; slot = last; rest = lines; turns = all_made; next = h }
on_turned q (suc n) last v lines next h =
    turn_by q n last v lines next (turn_after v.machine last) refl (λ w s rest t. on_turned q n s w rest next t) h

after_no_turns : (v : Walk) (last : ℕ) (e : Event) (es : List Item) (lines : List Line) (fate : Fate) → turns_asked e ≡ 0 → turn_kept last e ≡ last
    → TurnsOn (turns_asked e) (ticks_asked e) v (turn_kept last e) (λ x l more. Run x l es more fate) lines → Run v last es lines fate
after_no_turns v last e es lines fate asks keeps h =
    subst (λ (i : ℕ). Run v i es lines fate) keeps
    (subst (λ (t : Type 0). t) (turns_none (turns_asked e) (ticks_asked e) (turn_kept last e) v (λ x l more. Run x l es more fate) lines asks) h)

lined_shows : (v : Walk) (last : ℕ) (e : Event) (es : List Item) (l : Lined) (lines : List Line) (fate : Fate) → lined v.machine v.block e ≡ l
    → LinedOn v l (λ w rest. TurnsOn (turns_asked e) (ticks_asked e) w (turn_kept last e) (λ x l more. Run x l es more fate) rest) lines fate
    → ((w : Walk) (i : ℕ) (rest : List Line) → Run w i es rest fate → Shows w i es rest fate) → Shows v last (Read e ∷ es) lines fate
lined_shows v last e es (Done (Refuses r)) lines fate is h goes = rw (h.0, h.1) (refused_line is)
lined_shows v last e es (Done (Does n out touched b)) lines fate is h goes =
    let t = on_turned (ticks_asked e) (turns_asked e) (turn_kept last e) (next_line (walk_after v n touched b)) h.0 (λ x l more. Run x l es more fate) h.2 in
    obeyed_line is h.1 t.turns (goes t.to t.slot t.rest t.next)
lined_shows v last e es (Done (Ticks i k)) lines fate is h goes =
    let p = on_paced v i h.0 (λ w. TurnsOn (turns_asked e) (ticks_asked e) (next_line w) (turn_kept last e) (λ x l more. Run x l es more fate) h.1) h.4 in
    let run = after_no_turns (next_line p.to) last e es h.1 fate (ticks_no_turns v.machine v.block e i k is)
    (ticks_keep_turn v.machine v.block e i k last is) p.next in
    rw h.2 (tick_line is h.3 p.paces (goes (next_line p.to) last h.1 run))
lined_shows v last e es (Done Quits) lines fate is h goes = rw (h.0, h.1) (end_line is)
lined_shows v last e es (Peeks i) lines fate is h goes =
    let run = after_no_turns (next_line v) last e es h.1 fate (peek_no_turns v.machine v.block e i is) (peek_keeps_turn v.machine v.block e i last is) h.3 in
    rw h.2 (peek_line is (goes (next_line v) last h.1 run))

pub run_shows : (v : Walk) (last : ℕ) (es : List Item) (lines : List Line) (fate : Fate) → Run v last es lines fate → Shows v last es lines fate
run_shows v last [] lines fate h = rw (h.0, h.1) input_end
run_shows v last (Read e ∷ es) lines fate h =
    lined_shows v last e es (lined v.machine v.block e) lines fate refl h (λ w i rest r. run_shows w i es rest fate r)
run_shows v last (Unread r ∷ es) lines fate h = rw (h.0, h.1) unread_line
run_shows v last (Beyond ∷ es) lines fate h = rw (h.0, h.1) too_long
