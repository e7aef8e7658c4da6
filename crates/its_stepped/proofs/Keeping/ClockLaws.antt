-- The clock stays below its end: no step of the plain machine changes it, and of the lines CLOCK
-- alone does.
use Rattle.std.specs.Prelude.{◌≡◌, ◌<◌, ◌⊎◌, ℕ, Bool, Some, List, [], ◌∷◌, refl}
use Rattle.std.proofs.Common.{sym, ◌∙◌, ap, subst, inl, inr}
use Rattle.its_records.specs.declared.calls.Ask.{Ask}
use Rattle.its_records.specs.declared.session.Event.{Event}
use Rattle.its_records.specs.declared.session.Event.TheVariants as events
use Rattle.its_records.specs.declared.state_line.StateLine.{StateLine}
use Rattle.its_records.specs.declared.state_line.StateLine.TheVariants as states
use Rattle.its_print.specs.Printing.{Line}
use Rattle.its_frame.specs.declared.change.Change.{Change}
use Rattle.its_frame.specs.declared.change.Change.TheVariants as changes
use Rattle.its_frame.specs.declared.decision.Decision.{Decision}
use Rattle.its_frame.specs.declared.decision.Decision.TheVariants.{Waits, Goes, Ends, Gone}
use Rattle.its_plain.specs.Operator.Clock.{clock_end}
use Rattle.its_plain.specs.Operator.Lines.{Done, lined}
use Rattle.its_plain.specs.Call.Step.{acted, decision, informs, step}
use Rattle.its_plain.specs.Call.Decide.{reach}
use Rattle.its_plain.specs.Machine.Change.{after_removal, effect, effects}
use Rattle.its_plain.specs.Unit.Interrupt.{delivered}
use Rattle.its_plain.specs.Machine.{Machine}
use Rattle.its_plain.specs.Operator.{Block, Does}
use Rattle.its_plain.proofs.CallLineLaws.{Restores, job_keeps, Leaves, line_does}
use Rattle.its_plain.proofs.RestoredLaws.{words_appended}
use Rattle.its_plain.proofs.StepLaws.{AllOf, step_has}

-- a change
effect_clock : (c : Change) (j : ℕ) (m : Machine) → (effect c j m).clock ≡ m.clock
unfolding effect after_removal
effect_clock (changes.Open n on) j m = refl
effect_clock (changes.Shut n) j m = refl
effect_clock (changes.Move n at) j m = refl
effect_clock (changes.Append n w) j m = refl
effect_clock (changes.Close n) j m = refl
effect_clock (changes.Take c) j m = refl
effect_clock (changes.Put c b) j m = refl
effect_clock (changes.Hold c s) j m = refl
effect_clock (changes.Poke s p w) j m = refl
effect_clock (changes.Set s v w) j m = refl
effect_clock (changes.Map s k) j m = refl
effect_clock (changes.Unmap s k) j m = refl
effect_clock (changes.Protect s k on) j m = refl
effect_clock (changes.Make s u n) j m = refl
effect_clock (changes.Remove s) j m = refl
effect_clock (changes.Inform s) j m = refl
effect_clock (changes.Arm alarm) j m = refl
effect_clock (changes.Join n l write x y) j m = refl
effect_clock (changes.CloseEnd n l write) j m = refl
effect_clock (changes.Send l w) j m = refl
effect_clock (changes.Receive l) j m = refl
effect_clock (changes.Delete x y z) j m = refl
effect_clock (changes.Rename x y z u v) j m = refl

effects_clock : (cs : List Change) (j : ℕ) (m : Machine) → (effects cs j m).clock ≡ m.clock
effects_clock [] j m = refl
effects_clock (c ∷ cs) j m = effects_clock cs j (effect c j m) ∙ effect_clock c j m

-- a step
acted_clock : (m : Machine) (j : ℕ) (a : Ask) (ks : List ℕ) (d : Decision) → AllOf (λ t. t.machine.clock ≡ m.clock) (acted m j a ks d)
unfolding acted
acted_clock m j a ks (Waits r) = tt
acted_clock m j a ks (Goes cs h vs) = effects_clock cs.items j m
acted_clock m j a ks (Ends cs ss e) = effects_clock cs.items j m
acted_clock m j a ks (Gone cs) = effects_clock (changes.Remove j ∷ cs.items) j m

pub step_clock : (m n : Machine) (j : ℕ) → step m j ≡ Some n → n.clock ≡ m.clock
step_clock m n j e = step_has (λ (x : Machine). x.clock ≡ m.clock) m n j (λ q is. record {
  delivers = effects_clock (informs (delivered q.core q.job).stops q.superior) j m;
  changes = λ c k u. refl;
  faults = λ f. refl;
  calls = λ a. acted_clock m j a (reach m j q a) (decision m j q a);
}) e

-- a line: of those of the state part too CLOCK alone changes it
abbrev Timed : Machine → Machine → Type 0
Timed m n = (n.clock ≡ m.clock) ⊎ (n.clock < clock_end)

same_clock : (m n k : Machine) → n ≡ k → k.clock ≡ m.clock → Timed m n
same_clock m n k is same = inl (ap (λ (x : Machine). x.clock) is ∙ same)

restored_clock : (m n : Machine) (line : StateLine) → Restores m line n → Timed m n
restored_clock m n (states.Job s u j console) f = (job_keeps m n s u j console f).clock
restored_clock m n (states.Alarm s period next) f = same_clock m n _ f.is (effect_clock (changes.Arm (Some (period, next))) s m)
restored_clock m n (states.Under s t) f = same_clock m n _ f.is refl
restored_clock m n (states.Tty s i write) f = same_clock m n _ f.is refl
restored_clock m n (states.Disk s i d x y at) f = same_clock m n _ f.is refl
restored_clock m n (states.Draft s i d x y) f = same_clock m n _ f.is refl
restored_clock m n (states.Usr s i t write at) f = same_clock m n _ f.is refl
restored_clock m n (states.Wrote s i words) f = same_clock m n _ f.is (effects_clock (words_appended i words.items) s m)
restored_clock m n (states.Join s i l write x y) f = same_clock m n _ f.is (effect_clock (changes.Join i l write x y) s m)
restored_clock m n (states.Sent l words) f = same_clock m n _ f.is refl
restored_clock m n (states.EndShut l write) f = same_clock m n _ f.is refl
restored_clock m n (states.Input c bytes) f = same_clock m n _ f.is refl
restored_clock m n (states.Output c bytes) f = same_clock m n _ f.is refl
restored_clock m n (states.Hold c s) f = same_clock m n _ f.is (effect_clock (changes.Hold c s) s m)
restored_clock m n line f = f.clock

pub line_timed : (m n : Machine) (b c : Block) (e : Event) (out : List Line) (touched : ℕ → Bool) → m.clock < clock_end
    → lined m b e ≡ Done (Does n out touched c) → n.clock < clock_end
line_timed m n b c e out touched below is = elim (by e (line_does m n b c e out touched is)) [
  | inl same ↦ subst (λ (t : ℕ). t < clock_end) (sym same) below
  | inr under ↦ under
]
  where
    by : (e : Event) → Leaves m e n → Timed m n
    by (events.Restore line) h = restored_clock m n line h
    by e h = h.clock
