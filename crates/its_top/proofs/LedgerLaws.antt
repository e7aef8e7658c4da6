-- No byte of a console is lost, doubled or out of its order (docs/MACHINE.md, "The ledger").
use Rattle.std.specs.Prelude.{◌≡◌, ℕ, zero, suc, ◌+◌, Option, Some, None, List, [], ◌∷◌, ◌++◌, length, drop, flat_map, unwrap_or, refl}
use Rattle.std.proofs.Common.{sym, ◌∙◌, ap, subst, arith, append_assoc, append-nil}
use Rattle.std.proofs.lemmas.Grind.{flat_map-append}
use Rattle.std.proofs.lemmas.List.{length-append, drop_at}
use Rattle.its_records.specs.Item.{Item, Read}
use Rattle.its_records.specs.declared.calls.Pace.{Pace}
use Rattle.its_records.specs.declared.calls.Pace.TheVariants.{Step, Work, Wait, Off}
use Rattle.its_records.specs.declared.session.Event.{Event}
use Rattle.its_print.specs.Printing.{Line}
use Rattle.its_print.specs.Printing as printed
use Rattle.its_plain.specs.Operator.Lines.{Lined, Done, Peeks, lined}
use Rattle.its_plain.specs.Transcript.Course.{Lines, Letter, Course, rests, onward, after_step, paced, letters, turned_by, turned, past, course, run_of}
use Rattle.its_plain.specs.Promise.Ledger.{typed_by, typed_at, placed_by, put_out_at, byte_of, drained_by, Balanced, Ledger}
use Rattle.its_plain.specs.Promise.Ledger as books
use Rattle.its_plain.specs.Machine.{Machine, no_machine}
use Rattle.its_plain.specs.Operator.{Refuses, Does, Ticks, Quits}
use Rattle.its_plain.specs.Transcript.{Fate, Walk, at_start, after_letter, walk_after, next_line, Transcript}
use Rattle.its_plain.specs.Transcript.Turns.{turn_after, highest, turn_kept, turns_asked, ticks_asked}
use Rattle.its_plain.proofs.RunLaws.{PacedOn, TurnBy, TurnsOn, LinedOn, Run, shows_run}
use Rattle.its_top.proofs.MoveLaws.{Passes, step_passes}
use Rattle.its_top.proofs.ShownLaws.{Shows, ShowsBy, Few, line_shows}
use Rattle.its_plain.specs.Call.Moves.{Inward, Outward}
use Rattle.its_plain.specs.Call.Step.{moves}

-- the ledger of console c from machine m on, along a run that shows these lines
record From (c : ℕ) (m : Machine) (u : Course) (lines : List Line) : Type 0 where
  pub input : (m.consoles c).input ++ flat_map (typed_at c) u.moments ≡ flat_map (books.moved_at c Inward) u.moments ++ (u.last.consoles c).input
  pub output : (m.consoles c).output ++ flat_map (put_out_at c) u.moments ≡ flat_map (drained_by c) lines ++ (u.last.consoles c).output

-- the walk of a course: that of the transcript, at a line with this number
abbrev at : ℕ → Walk → Walk
at k v = record v { line = k }

from_rest : (c k : ℕ) (v : Walk) (lines : List Line) → flat_map (drained_by c) lines ≡ [] → From c v.machine (rests (at k v)) lines
from_rest c k v lines none = record {
  input = append-nil (v.machine.consoles c).input;
  output = append-nil (v.machine.consoles c).output ∙ ap (λ l. l ++ (v.machine.consoles c).output) (sym none);
}

-- first a step of slot i, which leads to machine n
from_step : (c i k : ℕ) (v : Walk) (n : Machine) (u : Course) (lines : List Line)
    → Passes (v.machine.consoles c) (n.consoles c) (moves v.machine i) c → From c n u lines
    → From c v.machine (onward (at k v) (Letter i Step) u) lines
from_step c i k v n u lines h f =
    let m = v.machine in
    let ins = flat_map (byte_of c Inward) (moves m i) in
    let outs = flat_map (byte_of c Outward) (moves m i) in
    let typed_in = flat_map (typed_at c) u.moments in
    let put_out = flat_map (put_out_at c) u.moments in
    record {
      input = ap (λ l. l ++ typed_in) h.input ∙ append_assoc ins (n.consoles c).input typed_in ∙ ap (λ l. ins ++ l) f.input
          ∙ sym (append_assoc ins (flat_map (books.moved_at c Inward) u.moments) (u.last.consoles c).input);
      output = sym (append_assoc (m.consoles c).output outs put_out) ∙ ap (λ l. l ++ put_out) (sym h.output) ∙ f.output;
    }

-- first a line, which leads to machine n and shows these lines
from_line : (c k : ℕ) (v : Walk) (n : Machine) (e : Event) (out : List Line) (u : Course) (rest : List Line) → Shows c v.machine n e out → From c n u rest
    → From c v.machine (onward (at k v) (Lines e) u) (out ++ rest)
from_line c k v n e out u rest h f =
    let m = v.machine in
    let typed_in = flat_map (typed_at c) u.moments in
    let put_out = flat_map (put_out_at c) u.moments in
    let shown = flat_map (drained_by c) out in
    record {
      input = sym (append_assoc (m.consoles c).input (typed_by c m e) typed_in) ∙ ap (λ l. l ++ typed_in) h.input ∙ f.input;
      output = ap (λ l. (m.consoles c).output ++ (l ++ put_out)) (append-nil (placed_by c e))
          ∙ sym (append_assoc (m.consoles c).output (placed_by c e) put_out) ∙ ap (λ l. l ++ put_out) h.output ∙ append_assoc shown (n.consoles c).output put_out
          ∙ ap (λ l. shown ++ l) f.output
          ∙ sym (append_assoc shown (flat_map (drained_by c) rest) (u.last.consoles c).output)
          ∙ ap (λ l. l ++ (u.last.consoles c).output) (sym (flat_map-append (drained_by c) out rest));
    }

-- a line of no bytes before the lines of a run
from_shown : (c : ℕ) (m : Machine) (u : Course) (line : Line) (rest : List Line) → drained_by c line ≡ [] → From c m u rest → From c m u (line ∷ rest)
from_shown c m u line rest none f = record {
  input = f.input;
  output = f.output ∙ ap (λ l. (l ++ flat_map (drained_by c) rest) ++ (u.last.consoles c).output) (sym none);
}

-- a step types nothing
step_few : (m n : Machine) (i c : ℕ) → Passes (m.consoles c) (n.consoles c) (moves m i) c → Few c m → Few c n
step_few m n i c h few =
    let ins = flat_map (byte_of c Inward) (moves m i) in
    let all : length (m.consoles c).input ≡ length ins + length (n.consoles c).input = ap length h.input ∙ length-append ins (n.consoles c).input in
    omega arith

-- what goes on after the letters of a `T` line goes on from here
from_letters : (c i k : ℕ) (v : Walk) (ps : List Pace) (next : Walk → Type 0) (walk : Walk → Course) (lines : List Line) → Few c v.machine
    → PacedOn v i ps next → ((w : Walk) → Few c w.machine → next w → From c w.machine (walk (at k w)) lines)
    → From c v.machine (paced (at k v) i ps walk) lines
from_letters c i k v [] next walk lines few t h = h v few t
from_letters c i k v (Step ∷ ps) next walk lines few t h =
    let n = t.0 in
    let passes = step_passes v.machine n i c t.1 in
    let is : after_step v.machine i ≡ n = ap (λ o. unwrap_or o v.machine) t.1 in
    subst (λ l. From c v.machine (onward (at k v) (Letter i Step) (paced (after_letter (at k v) i Step l) i ps walk)) lines) (sym is)
    (from_step c i k v n (paced (after_letter (at k v) i Step n) i ps walk) lines passes
    (from_letters c i k (after_letter v i Step n) ps next walk lines (step_few v.machine n i c passes few) t.3 h))
from_letters c i k v (Work ∷ ps) next walk lines few t h =
    let more = from_letters c i k (after_letter v i Work t.0) ps next walk lines (subst (Few c) (sym t.1.1) few) t.3 h in
    let f = subst (λ l. From c l (paced (after_letter (at k v) i Work l) i ps walk) lines) t.1.1 more in
    record { input = f.input; output = f.output }
from_letters c i k v (Wait ∷ ps) next walk lines few t h =
    let more = from_letters c i k (after_letter v i Wait t.0) ps next walk lines (subst (Few c) (sym t.1.2) few) t.3 h in
    let f = subst (λ l. From c l (paced (after_letter (at k v) i Wait l) i ps walk) lines) t.1.2 more in
    record { input = f.input; output = f.output }
from_letters c i k v (Off ∷ ps) next walk lines few t h =
    let more = from_letters c i k (after_letter v i Off t.0) ps next walk lines (subst (Few c) (sym t.1.1) few) t.3 h in
    let f = subst (λ l. From c l (paced (after_letter (at k v) i Off l) i ps walk) lines) t.1.1 more in
    record { input = f.input; output = f.output }

-- turns, if what follows them goes on
abbrev GoesOn : ℕ → ℕ → (Walk → ℕ → List Line → Type 0) → (Walk → ℕ → List Line → Course) → Type 0
GoesOn c k next more = (w : Walk) (l : ℕ) (rest : List Line) → Few c w.machine → next w l rest → From c w.machine (more (at k w) l rest) rest

from_turn : (c k q last : ℕ) (v : Walk) (o : Option ℕ) (next : Walk → ℕ → List Line → Type 0) (done : Type 0)
    (more : Walk → ℕ → List Line → Course) (end : Course) (lines : List Line)
    → Few c v.machine → GoesOn c k next more → (done → From c v.machine end lines) → TurnBy q v o next done lines
    → From c v.machine (turned_by o (at k v) lines more end) lines
from_turn c k q last v None next done more end lines few h d t = d t
from_turn c k q last v (Some s) next done more end lines few h d t =
    let ps = t.0 in
    let rest = t.1 in
    let walk : Walk → Course = λ w. more w s rest in
    let f = from_letters c s k v ps (λ w. next w s rest) walk rest few t.4 (λ w few' x. h w s rest few' x) in
    let g = from_shown c v.machine (paced (at k v) s ps walk) (printed.Ticks s ps) rest refl f in
    subst (λ ls. From c v.machine (turned_by (Some s) (at k v) ls more end) ls) (sym t.2) (record { input = g.input; output = g.output })

from_turns : (c k n q last : ℕ) (v : Walk) (next : Walk → ℕ → List Line → Type 0) (more : Walk → ℕ → List Line → Course) (lines : List Line)
    → Few c v.machine → GoesOn c k next more
    → TurnsOn n q v last next lines → From c v.machine (turned n (at k v) last lines more) lines
from_turns c k zero q last v next more lines few h t = h v last lines few t
from_turns c k (suc n) q last v next more lines few h t =
    from_turn c k q last v (turn_after v.machine last) (λ w s rest. TurnsOn n q w s next rest) (next v last lines)
    (λ w s rest. turned n w s rest more) (more (at k v) last lines) lines few
    (λ w s rest few' x. from_turns c k n q s w next more rest few' h x) (λ x. h v last lines few x) t

-- a line, if the lines after it go on
from_lined : (c k : ℕ) (v : Walk) (e : Event) (lines : List Line) (fate : Fate) (l : Lined) (next : Walk → List Line → Type 0)
    (more : Walk → List Line → Course)
    → Few c v.machine → ShowsBy c v.machine e l
    → LinedOn v l next lines fate
    → ((w : Walk) (rest : List Line) → Few c w.machine → next w rest → From c w.machine (more (at k w) rest) rest)
    → From c v.machine (past (at k v) e l lines more) lines
from_lined c k v e lines fate (Done (Refuses r)) next more few s t h = from_rest c k v lines (ap (flat_map (drained_by c)) t.0)
from_lined c k v e lines fate (Done (Does l out touched b)) next more few s t h =
    let m = v.machine in
    let rest = t.0 in
    let w = walk_after (at k v) l touched b in
    let f = from_line c k v l e out (more w rest) rest s (h (next_line (walk_after v l touched b)) rest s.few t.2) in
    subst (λ ls. From c m (onward (at k v) (Lines e) (more w (drop (length out) ls))) ls) (sym t.1)
    (subst (λ r. From c m (onward (at k v) (Lines e) (more w r)) (out ++ rest)) (sym (drop_at out rest (length out) refl)) f)
from_lined c k v e lines fate (Done (Ticks i q)) next more few s t h =
    let m = v.machine in
    let ps = t.0 in
    let rest = t.1 in
    let walk : Walk → Course = λ w. more w rest in
    let f = from_letters c i k v ps (λ w. next (next_line w) rest) walk rest few t.4 (λ w few' x. h (next_line w) rest few' x) in
    subst (λ ls. From c m (paced (at k v) i (letters ls) (λ w. more w (drop 1 ls))) ls) (sym t.2)
    (from_shown c m (paced (at k v) i ps walk) (printed.Ticks i ps) rest refl f)
from_lined c k v e lines fate (Done Quits) next more few s t h = from_rest c k v lines (ap (flat_map (drained_by c)) t.0)
from_lined c k v e lines fate (Peeks i) next more few s t h =
    let m = v.machine in
    let rest = t.1 in
    subst (λ ls. From c m (more (at k v) (drop 1 ls)) ls) (sym t.2)
    (from_shown c m (more (at k v) rest) (printed.Peeked i t.0) rest refl (h (next_line v) rest few t.3))

from_run : (c k : ℕ) (v : Walk) (last : ℕ) (es : List Item) (lines : List Line) (fate : Fate) → Few c v.machine → Run v last es lines fate
    → From c v.machine (course (at k v) last es lines) lines
from_run c k v last (Read e ∷ es) lines fate few t =
    from_lined c k v e lines fate (lined v.machine v.block e) _ _ few (line_shows c v.machine v.block e few) t
    (λ w rest few' x.
    from_turns c k (turns_asked e) (ticks_asked e) (turn_kept last e) w (λ y l more. Run y l es more fate) (λ y l more. course (next_line y) l es more) rest few'
    (λ y l more fine z. from_run c (k + 1) y l es more fate fine z) x)
from_run c k v last _ lines fate few t = from_rest c k v lines (ap (flat_map (drained_by c)) t.0)

-- at the start of a session nothing waits
balanced : (c : ℕ) (es : List Item) (lines : List Line) (fate : Fate) → Transcript es lines fate → Balanced (run_of es lines) lines c
unfolding no_machine
balanced c es lines fate t =
    let f = from_run c 1 at_start highest es lines fate (omega arith) (shows_run at_start highest es lines fate t) in record
    { input = f.input; output = f.output }

-- the lines of a transcript keep the ledger
pub ledger : (es : List Item) (lines : List Line) (fate : Fate) → Transcript es lines fate → Ledger es lines
ledger es lines fate t = record { balanced = λ c. balanced c es lines fate t }
