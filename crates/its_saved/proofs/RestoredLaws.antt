-- The lines of a saved system, in the form that a session has, restore its machine.
use Rattle.std.specs.Prelude.{if◌then◌else◌, ◌≡◌, ◌==◌, ℕ, ◌+◌, Bool, true, false, Option, Some, None, List, [], ◌∷◌, ◌++◌, length, option_and_then, refl}
use Rattle.std.proofs.Common.{◌∙◌, arith}
use Rattle.std.proofs.lemmas.List.{length-append}
use Rattle.std.proofs.lemmas.Option.{same_Some}
use Rattle.its_records.specs.Item.{Item}
use Rattle.its_records.specs.declared.state_line.StateLine.{StateLine}
use Rattle.its_records.specs.declared.state_line.StateLine.TheVariants as states
use Rattle.its_print.specs.Printing.{Line}
use Rattle.its_plain.specs.Machine.{Machine, no_machine}
use Rattle.its_plain.specs.Operator.{Block, no_block, Does, nobody}
use Rattle.its_plain.specs.Operator.State.{restored}
use Rattle.its_plain.specs.Transcript.{Walk, at_start, walk_after, next_line}
use Rattle.its_plain.specs.Transcript.Course.{run_of}
use Rattle.its_plain.specs.Transcript.Licence.{Dots, dots_after_line}
use Rattle.its_plain.specs.Transcript.Turns.{highest}
use Rattle.its_stepped.specs.Address.{Addressed}
use Rattle.its_saved.specs.StateLine.{StateLine as Saved}
use Rattle.its_saved.specs.Building.{build, build_all}
use Rattle.its_saved.specs.Saving.{saved}
use Rattle.its_saved.specs.Text.{line_of, lines_of, turn_lines, saved_lines, Obeys, no_line, a_line, Restored}
use Rattle.its_saved.specs.WellFormed.{KeptByTypes, WellFormed, Named}
use Rattle.its_saved.proofs.AboutLaws.{AllAbout, saved_about}
use Rattle.its_saved.proofs.ObeyedLaws.{Silent, block_past, line_silent}
use Rattle.its_saved.proofs.RunLaws.{run_well_formed, run_named}
use Rattle.its_saved.proofs.SavedLaws.{restored as builds}

-- some lines are obeyed in silence, and no slot has dots at their end
record Obeyed (v : Walk) (ls : List StateLine) (m : Machine) : Type 0 where
  walk : Walk
  obeys : Obeys v ls walk
  machine : walk.machine ≡ m
  dots : (k : ℕ) → walk.dots k ≡ 0
  line : walk.line ≡ v.line + length ls

no_dots : (d : Dots) (touched : ℕ → Bool) → ((k : ℕ) → d k ≡ 0) → (k : ℕ) → dots_after_line d touched k ≡ 0
no_dots d touched h k = by (touched k)
  where
    by : (b : Bool) → (if b then 0 else d k) ≡ 0
    by true = refl
    by false = h k

-- lines that build a machine
lines_obeyed : (ls : List Saved) (v : Walk) (n : Machine) → AllAbout v.block ls → ((k : ℕ) → v.dots k ≡ 0) → build_all v.machine ls ≡ Some n
    → Obeyed v (lines_of ls) n
lines_obeyed [] v n h none e = record { walk = v; obeys = no_line; machine = same_Some v.machine n e; dots = none; line = omega arith }
lines_obeyed (l ∷ ls) v n h none e = by (λ w. lines_obeyed ls w n) (build v.machine l) refl e
  where
    by : ((w : Walk) → AllAbout w.block ls → ((k : ℕ) → w.dots k ≡ 0) → build_all w.machine ls ≡ Some n → Obeyed w (lines_of ls) n)
        → (o : Option Machine) → build v.machine l ≡ o → option_and_then (λ k. build_all k ls) o ≡ Some n → Obeyed v (line_of l ∷ lines_of ls) n
    by rest (Some k) is e =
        let s : Silent (restored v.machine v.block (line_of l)) k (block_past v.block l) = line_silent v.machine k v.block l h.0 is in
        let r = rest (next_line (walk_after v k s.touched (block_past v.block l))) h.1 (no_dots v.dots s.touched none) e in
        let line = r.line in
        record { walk = r.walk; obeys = a_line s.does r.obeys; machine = r.machine; dots = r.dots; line = omega arith }
    by rest None is e = cc

pub obeys_append : {u v w : Walk} {xs ys : List StateLine} → Obeys u xs v → Obeys v ys w → Obeys u (xs ++ ys) w
obeys_append no_line h = h
obeys_append (a_line is more) h = a_line is (obeys_append more h)

-- TURN and READY change no machine
turn_does : (m : Machine) (b : Block) (s : ℕ) → restored m b (states.Turn s) ≡ Does m [] nobody b
unfolding restored
turn_does m b s = refl

turn_obeyed : (v : Walk) (last : ℕ) → ((k : ℕ) → v.dots k ≡ 0) → Obeyed v (turn_lines last) v.machine
turn_obeyed v last none = by (last == highest)
  where
    by : (t : Bool) → Obeyed v (if t then [] else states.Turn last ∷ []) v.machine
    by true = record { walk = v; obeys = no_line; machine = refl; dots = none; line = omega arith }
    by false = record {
      walk = next_line (walk_after v v.machine nobody v.block);
      obeys = a_line (turn_does v.machine v.block last) no_line;
      machine = refl;
      dots = no_dots v.dots nobody none;
      line = refl;
    }

pub lines_restore : (m : Machine) (last : ℕ) → WellFormed m → Named m → Restored (saved_lines m last) m
unfolding restored no_machine
lines_restore m last fit named =
    let a = lines_obeyed (saved m) at_start m (saved_about m named) (λ k. refl) (builds m fit) in
    let b = turn_obeyed a.walk last a.dots in
    let ready : Obeys b.walk (states.Ready ∷ []) (next_line (walk_after b.walk b.walk.machine nobody no_block)) = a_line refl no_line in
    let long = length-append (lines_of (saved m)) (turn_lines last ++ states.Ready ∷ []) in
    let more = length-append (turn_lines last) (states.Ready ∷ []) in
    let first = a.line in
    let second = b.line in
    record {
      walk = next_line (walk_after b.walk b.walk.machine nobody no_block);
      obeys = obeys_append a.obeys (obeys_append b.obeys ready);
      machine = b.machine ∙ a.machine;
      block = refl;
      dots = no_dots b.walk.dots nobody b.dots;
      line = omega arith;
    }

-- and so do those of the machine at the end of a run
pub run_restored : (es : List Item) (lines : List Line) (turn : ℕ) → Addressed (run_of es lines).last → KeptByTypes (run_of es lines).last
    → Restored (saved_lines (run_of es lines).last turn) (run_of es lines).last
run_restored es lines turn addressed types =
    lines_restore (run_of es lines).last turn (run_well_formed es lines addressed types) (run_named es lines)
