-- Unwinding a job to user mode, one step at a time (docs/STEPS.md, "Unwinding"; Bawden, "PCLSRing:
-- Keeping Process State Modular").
-- No promise rests on this.
use Rattle.std.specs.Prelude.{ℕ, zero, suc, Bool, true, false, Option, Some, None, List, [], ◌∷◌}
use Rattle.its_records.specs.declared.calls.Ask.{Ask}
use Rattle.its_records.specs.declared.calls.Owed.{Owed}
use Rattle.its_records.specs.declared.calls.Owed.TheVariants.{Store, GiveBack, Unlink, Link, Free, Leave}
use Rattle.its_records.specs.declared.calls.Site.{Site}
use Rattle.its_word.specs.declared.plan.Store as stores
use Rattle.its_frame.specs.Left.{left_of}
use Rattle.its_frame.specs.declared.frame.Frame.{Frame}
use Rattle.its_frame.specs.declared.frame.Frame.TheVariants.{Entered, Parsed, Asked, Holding, Waiting, Moving, Ending}
use Rattle.its_plain.specs.Machine.Own.{with_stores, after_leave}
use Rattle.its_plain.specs.Machine.Change.{poke}
use Rattle.its_plain.specs.Call.Arguments.{debts}
use Rattle.its_plain.specs.Call.Step.{with_held}
use Rattle.its_stepped.specs.State.{Part, Mark, State, after_part, mine, after_help, held_at, with_slot, same, reserving, asked, holding, waiting, ending}

-- a call with pending words that is still there stores the first one; a call without any drops its
-- frame
abbrev pub first_debt : List stores.Store → List stores.Store
first_debt (s ∷ ss) = s ∷ []
first_debt [] = []

abbrev pub less : ℕ → (ℕ → Frame) → Option Frame
less zero f = None
less (suc n) f = Some (f n)

abbrev pub paid : State → ℕ → Ask → ℕ → (ℕ → Frame) → State
paid w j a n f = with_slot w j (with_stores (first_debt (debts a n))) (less n f)

-- the next part of a marked close
abbrev pub rest_marked : Mark → List Part → Option Mark
rest_marked m [] = None
rest_marked m (p ∷ ps) = Some (record m { parts = p ∷ ps })

abbrev pub with_part : Option Mark → State → State
with_part (Some m) w = by_parts m.parts
  where
    by_parts : List Part → State
    by_parts (p ∷ ps) = record w { raw = record w.raw { files = after_part m.draft p w.raw.files }; mark = rest_marked m ps }
    by_parts [] = w
with_part None w = w

-- the pending steps of a call that has ended: file steps that were helped are passed over
abbrev pub due : Bool → List Owed → List Owed
due after_help [] = []
due true os = os
due false (Unlink ∷ os) = due false os
due false (Link ∷ os) = due false os
due false (Free ∷ os) = due false os
due false (o ∷ os) = o ∷ os

abbrev pub after_settling : State → ℕ → Site → Ask → List Owed → State
after_settling w j s a [] = with_slot w j same None
after_settling w j s a (Store p v ∷ os) = with_slot w j (with_stores (poke p v ∷ [])) (Some (ending s a os))
after_settling w j s a (GiveBack ∷ os) = reserving (with_slot w j same (Some (ending s a os))) j None
after_settling w j s a (Unlink ∷ os) = with_part w.mark (with_slot w j same (Some (ending s a os)))
after_settling w j s a (Link ∷ os) = with_part w.mark (with_slot w j same (Some (ending s a os)))
after_settling w j s a (Free ∷ os) = with_part w.mark (with_slot w j same (Some (ending s a os)))
after_settling w j s a (Leave e ∷ os) = with_slot w j (after_leave e) None

-- a call that has reserved a page gives it back, and is as before it was prepared
abbrev pub after_giving_back : State → ℕ → Site → Ask → Option ℕ → ℕ → State
after_giving_back w j s a (Some p) n = reserving (with_slot w j same (Some (asked s a))) j None
after_giving_back w j s a None n = paid w j a n (holding s a None)

abbrev pub unwind_by : State → ℕ → Option Frame → State
unwind_by w j None = w
unwind_by w j (Some (Entered f)) = with_slot w j same None
unwind_by w j (Some (Parsed f)) = with_slot w j same None
unwind_by w j (Some (Asked f)) = with_slot w j same None
unwind_by w j (Some (Holding f)) = after_giving_back w j f.site f.ask f.page f.owes
unwind_by w j (Some (Waiting f)) = paid w j f.ask f.owes (waiting f.site f.ask)
unwind_by w j (Some (Moving f)) =
    with_slot w j (with_held f.ask (Some (held_at f.place f.byte))) (Some (holding f.site f.ask None 2))
unwind_by w j (Some (Ending f)) = after_settling w j f.site f.ask (due (mine w.mark j) f.owed.items)

-- one step of unwinding
unfoldable pub unwind_one : State → ℕ → State
unwind_one w j = unwind_by w j (w.frames j)

abbrev pub left_by : Bool → Option Frame → ℕ
left_by marked (Some f) = left_of marked f
left_by marked None = 0

-- how many steps a slot is from user mode
unfoldable pub left : State → ℕ → ℕ
left w j = left_by (mine w.mark j) (w.frames j)

unfoldable pub unwind_times : ℕ → State → ℕ → State
unwind_times zero w j = w
unwind_times (suc n) w j = unwind_times n (unwind_one w j) j

-- a job unwound to user mode
unfoldable pub unwound : State → ℕ → State
unwound w j = unwind_times (left w j) w j

-- several
unfoldable pub all_unwound : List ℕ → State → State
all_unwound [] w = w
all_unwound (k ∷ ks) w = all_unwound ks (unwound w k)

-- the pending parts of a marked close performed
unfoldable pub help : State → State
help w = record w { raw = record w.raw { files = after_help w.mark w.raw.files }; mark = None }
