-- What holds of every moment of a run: it is shown of a letter, of a turn and of a line, and then
-- of the run of any lines.
use Rattle.std.specs.Prelude.{◌≡◌, ℕ, zero, suc, Bool, Option, Some, None, List, [], ◌∷◌, ◌++◌, length, drop, unwrap_or, refl}
use Rattle.std.proofs.Common.{sym, subst}
use Rattle.its_records.specs.Item.{Item, Read}
use Rattle.its_records.specs.declared.calls.Pace.{Pace}
use Rattle.its_records.specs.declared.calls.Pace.TheVariants.{Step, Work, Wait, Off}
use Rattle.its_records.specs.declared.session.Event.{Event}
use Rattle.its_print.specs.Printing.{Line}
use Rattle.its_plain.specs.Call.Step.{step}
use Rattle.its_plain.specs.Transcript.Course.{Deed, Lines, Turns, Letter, Moment, Course, rests, moment_at, onward, machine_after, paced, letters, turned_by, turned, past, course}
use Rattle.its_plain.specs.Machine.{Machine}
use Rattle.its_plain.specs.Operator.{Block, Refuses, Does, Ticks, Quits}
use Rattle.its_plain.specs.Operator.Lines.{Lined, Done, Peeks, lined}
use Rattle.its_plain.specs.Promise.Stretch.{machine_at}
use Rattle.its_plain.specs.Transcript.{Walk, after_letter, walk_after, next_line}
use Rattle.its_plain.specs.Transcript.Turns.{turn_after, turn_kept, turns_asked}
use Rattle.its_stepped.specs.Forest.{Forest}
use Rattle.its_stepped.proofs.Duties.FitLaws.{forest_steps}
use Rattle.its_stepped.proofs.Running.WrittenLaws.{line_forest}

-- this holds of each moment and the machine after it
abbrev pub Linked : (Moment → Machine → Type 0) → List Moment → Machine → Type 0
Linked P [] n = Unit {0}
Linked P (t ∷ ts) n = P t (machine_at ts n) × Linked P ts n

-- it holds of every moment that a run can have, which finds a forest of jobs
pub record EachMoment (P : Moment → Machine → Type 0) : Type 0 where
  pub letter : (v : Walk) (i : ℕ) (p : Pace) → Forest v.machine → P (moment_at v (Letter i p)) (machine_after v.machine i p)
  pub turn : (v : Walk) (s : ℕ) → Forest v.machine → P (moment_at v (Turns s)) v.machine
  pub line : (v : Walk) (e : Event) (n : Machine) (out : List Line) (touched : ℕ → Bool) (c : Block) → Forest v.machine
      → lined v.machine v.block e ≡ Done (Does n out touched c)
      → P (moment_at v (Lines e)) n

-- a run from a machine on
pub record RunFrom (P : Moment → Machine → Type 0) (m : Machine) (u : Course) : Type 0 where
  pub begins : machine_at u.moments u.last ≡ m
  pub linked : Linked P u.moments u.last

forest_after : (m : Machine) (i : ℕ) (p : Pace) → Forest m → Forest (machine_after m i p)
forest_after m i Step forest = go (step m i) refl
  where
    go : (o : Option Machine) → step m i ≡ o → Forest (unwrap_or o m)
    go (Some n) e = forest_steps m n i forest e
    go None e = forest
forest_after m i Work forest = forest
forest_after m i Wait forest = forest
forest_after m i Off forest = forest

module _ {P : Moment → Machine → Type 0} (each : EachMoment P) where
  run_rests : (v : Walk) → RunFrom P v.machine (rests v)
  run_rests v = record { begins = refl; linked = tt }

  run_onward : (v : Walk) (n : Machine) (d : Deed) (u : Course) → P (moment_at v d) n → RunFrom P n u → RunFrom P v.machine (onward v d u)
  run_onward v n d u one h = record { begins = refl; linked = (subst (P (moment_at v d)) (sym h.begins) one, h.linked) }

  run_paced : (v : Walk) (i : ℕ) (ps : List Pace) (next : Walk → Course) → Forest v.machine → ((w : Walk) → Forest w.machine → RunFrom P w.machine (next w))
      → RunFrom P v.machine (paced v i ps next)
  run_paced v i [] next forest h = h v forest
  run_paced v i (p ∷ ps) next forest h =
      let n = machine_after v.machine i p in
      run_onward v n (Letter i p) (paced (after_letter v i p n) i ps next) (each.letter v i p forest)
      (run_paced (after_letter v i p n) i ps next (forest_after v.machine i p forest) h)

  abbrev Runs : (Walk → ℕ → List Line → Course) → Type 0
  Runs next = (w : Walk) (l : ℕ) (rest : List Line) → Forest w.machine → RunFrom P w.machine (next w l rest)

  run_turn : (v : Walk) (lines : List Line) (o : Option ℕ) (more : Walk → ℕ → List Line → Course) (done : Course) → Forest v.machine
      → Runs more → RunFrom P v.machine done
      → RunFrom P v.machine (turned_by o v lines more done)
  run_turn v lines (Some s) more done forest h d =
      let u = paced v s (letters lines) (λ w. more w s (drop 1 lines)) in
      run_onward v v.machine (Turns s) u (each.turn v s forest)
      (run_paced v s (letters lines) (λ w. more w s (drop 1 lines)) forest (λ w f. h w s (drop 1 lines) f))
  run_turn v lines None more done forest h d = d

  run_turned : (n : ℕ) (v : Walk) (last : ℕ) (lines : List Line) (next : Walk → ℕ → List Line → Course) → Forest v.machine → Runs next
      → RunFrom P v.machine (turned n v last lines next)
  run_turned zero v last lines next forest h = h v last lines forest
  run_turned (suc n) v last lines next forest h =
      run_turn v lines (turn_after v.machine last) (λ w s rest. turned n w s rest next) (next v last lines) forest
      (λ w s rest f. run_turned n w s rest next f h) (h v last lines forest)

  run_past : (v : Walk) (e : Event) (l : Lined) (lines : List Line) (next : Walk → List Line → Course) → lined v.machine v.block e ≡ l → Forest v.machine
      → ((w : Walk) (rest : List Line) → Forest w.machine → RunFrom P w.machine (next w rest)) → RunFrom P v.machine (past v e l lines next)
  run_past v e (Done (Refuses r)) lines next is forest h = run_rests v
  run_past v e (Done (Does n out touched c)) lines next is forest h =
      let rest = drop (length out) lines in
      let w = walk_after v n touched c in
      run_onward v n (Lines e) (next w rest) (each.line v e n out touched c forest is) (h w rest (line_forest v.machine n v.block c e out touched forest is))
  run_past v e (Done (Ticks s k)) lines next is forest h = run_paced v s (letters lines) (λ w. next w (drop 1 lines)) forest (λ w f. h w (drop 1 lines) f)
  run_past v e (Done Quits) lines next is forest h = run_rests v
  run_past v e (Peeks s) lines next is forest h = h v (drop 1 lines) forest

  pub run_course : (v : Walk) (last : ℕ) (es : List Item) (lines : List Line) → Forest v.machine → RunFrom P v.machine (course v last es lines)
  run_course v last (Read e ∷ es) lines forest =
      run_past v e (lined v.machine v.block e) lines
      (λ w rest. turned (turns_asked e) w (turn_kept last e) rest (λ x l more. course (next_line x) l es more)) refl forest
      (λ w rest f.
      run_turned (turns_asked e) w (turn_kept last e) rest (λ x l more. course (next_line x) l es more) f
      (λ x l more g. run_course (next_line x) l es more g))
  run_course v last _ lines forest = run_rests v

-- some moments of a run, one after the other
at_joined : (xs ys : List Moment) (n : Machine) → machine_at (xs ++ ys) n ≡ machine_at xs (machine_at ys n)
at_joined [] ys n = refl
at_joined (x ∷ xs) ys n = refl

linked_front : (P : Moment → Machine → Type 0) (xs ys : List Moment) (n : Machine) → Linked P (xs ++ ys) n → Linked P xs (machine_at ys n)
linked_front P [] ys n h = tt
linked_front P (x ∷ xs) ys n h = (subst (P x) (at_joined xs ys n) h.0, linked_front P xs ys n h.1)

linked_back : (P : Moment → Machine → Type 0) (xs ys : List Moment) (n : Machine) → Linked P (xs ++ ys) n → Linked P ys n
linked_back P [] ys n h = h
linked_back P (x ∷ xs) ys n h = linked_back P xs ys n h.1

pub linked_middle : (P : Moment → Machine → Type 0) (before ts after : List Moment) (n : Machine) → Linked P (before ++ ts ++ after) n
    → Linked P ts (machine_at after n)
linked_middle P before ts after n h = linked_back P before ts (machine_at after n) (linked_front P (before ++ ts) after n h)
