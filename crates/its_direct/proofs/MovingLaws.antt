-- A part of a call that moves a byte or word, when the slots that are touched stay as they were.
use Rattle.std.specs.Prelude.{◌≡◌, ◌-◌, ℕ, true, false, Option, Some, List, [], ◌∷◌, drop, length, slice_get, refl}
use Rattle.std.specs.List.{list_any}
use Rattle.std.proofs.Common.{ap, ◌∙◌, subst, arith}
use Rattle.its_records.specs.declared.calls.Ask.{Ask}
use Rattle.its_records.specs.declared.calls.Operand.{Operand}
use Rattle.its_frame.specs.declared.decision.Held.{Held}
use Rattle.its_plain.specs.Call.Arguments.{debts, operands_with_values, place_in, place_of_input, store_of, stores_of, with_new_values}
use Rattle.its_plain.specs.Call.Step.{after_moves}
use Rattle.its_plain.specs.Machine.Change.{effects, in_job}
use Rattle.its_plain.specs.Machine.{Machine}
use Rattle.its_plain.specs.Call.Tests.{goes}
use Rattle.its_stepped.specs.Alarmed.{Alarmed}
use Rattle.its_stepped.specs.Consoled.{Consoled}
use Rattle.its_stepped.specs.Forest.{Forest}
use Rattle.its_decide.specs.Moving.{change_of}
use Rattle.its_decide.specs.declared.moving.Shift.{Shift}
use Rattle.its_decide.specs.declared.moving.Shift.TheVariants as shifts
use Rattle.its_direct.specs.Effects.{Becomes}
use Rattle.its_direct.specs.Events.{Kept, SpotFits}
use Rattle.its_direct.specs.Parts.{AtCall, Decides, OnePart, PartIf}
use Rattle.its_direct.specs.Plain.{machine_of, no_slots, Tidy}
use Rattle.its_direct.specs.Steps.{is_making}
use Rattle.its_direct.specs.declared.plain.Plain.{Plain}
use Rattle.its_direct.specs.declared.plain.Spot.TheVariants as spots
use Rattle.its_direct.proofs.MovedLaws.{debts_are}
use Rattle.its_direct.proofs.PartLaws.{part_kept, part_row}
use Rattle.its_direct.proofs.SlotLaws.{touch_machine, touch_tidy}

-- the stores of the last two of three inputs, both of which have words
two_stores : (xs : List Operand) (v w p k : ℕ) → length xs ≡ 3 → place_in (slice_get xs 1) ≡ Some p → place_in (slice_get xs 2) ≡ Some k
    → stores_of (operands_with_values (drop (length xs - 2) xs) (v ∷ w ∷ [])) ≡ record { at = p; word = v } ∷ record { at = k; word = w } ∷ []
two_stores (x ∷ y ∷ z ∷ []) v w p k l e f =
    ap (λ (o : Option ℕ). store_of (record { value = v; place = o }) (store_of (record { value = w; place = z.place }) [])) e
    ∙ ap (λ (o : Option ℕ). record { at = p; word = v } ∷ store_of (record { value = w; place = o }) []) f
two_stores [] v w p k l e f = absurd cc
two_stores (x ∷ []) v w p k l e f = absurd (omega arith)
two_stores (x ∷ y ∷ []) v w p k l e f = absurd (omega arith)
two_stores (x ∷ y ∷ z ∷ u ∷ xs) v w p k l e f = absurd (omega arith)

pub two_debts : (a : Ask) (v w p k : ℕ) → length a.inputs.items ≡ 3 → place_of_input a 1 ≡ Some p → place_of_input a 2 ≡ Some k
    → debts (with_new_values a (v ∷ w ∷ [])) 2 ≡ record { at = p; word = v } ∷ record { at = k; word = w } ∷ []
two_debts a v w p k l e f = debts_are a (v ∷ w ∷ []) ∙ two_stores a.inputs.items v w p k l e f

-- what SIOT changes makes no job
pub shift_unmade : (x : Shift) → list_any is_making (change_of x ∷ []) ≡ false
shift_unmade (shifts.Move n at) = refl
shift_unmade (shifts.Append n w) = refl
shift_unmade (shifts.Take c) = refl
shift_unmade (shifts.Put c b) = refl
shift_unmade (shifts.Send l w) = refl
shift_unmade (shifts.Receive l) = refl

-- what holds of a machine of which no slot is marked holds of it with its marks
kept_marked : (p : Plain) → Tidy p → Kept (record p { touched = no_slots }) → Kept p
kept_marked p tidy kept = record {
  tidy = tidy;
  forest = subst Forest (touch_machine p no_slots) kept.forest;
  alarmed = subst Alarmed (touch_machine p no_slots) kept.alarmed;
  consoled = subst Consoled (touch_machine p no_slots) kept.consoled;
  placed = subst (λ (m : Machine). SpotFits m p.place) (touch_machine p no_slots) kept.placed;
}

-- a part that is decided
module _ (old new : Plain) (s : ℕ) (a b : Ask) (x : Shift) (h : Option Held) (v w : ℕ) (kept : Kept old) (at : AtCall (machine_of old) s a)
    (dec : Decides (machine_of old) s a (goes (change_of x ∷ []) h (v ∷ w ∷ [])))
    (row : Becomes old new (in_job (effects (change_of x ∷ []) s (machine_of old)) s (after_moves a h (v ∷ w ∷ []))))
    (renewed : b ≡ with_new_values a (v ∷ w ∷ [])) where
  pub moved_row : PartIf true old new s b
  moved_row = subst (λ (m : Machine). OnePart (machine_of old) s m × AtCall m s b) (touch_machine new no_slots)
      (part_row old s a (record { items = change_of x ∷ [] }) h (record { items = v ∷ w ∷ [] }) kept at dec new
      (record new { touched = no_slots }) b (shift_unmade x) row refl renewed)

  pub moved_kept : old.place ≡ spots.Plain → Tidy new → Kept new
  moved_kept outside tidy = kept_marked new tidy
      (part_kept old s a (record { items = change_of x ∷ [] }) h (record { items = v ∷ w ∷ [] }) kept at dec new
      (record new { touched = no_slots }) b (shift_unmade x) row refl renewed outside
      (touch_tidy new no_slots tidy))
