-- A decision without a change that makes a job makes none.
use Rattle.std.specs.Prelude.{◌≡◌, ◌&&◌, ◌||◌, ℕ, Bool, true, false, not, Option, Some, None, is_some, List, [], ◌∷◌, refl}
use Rattle.std.specs.List.{list_any}
use Rattle.std.proofs.Common.{sym, ◌∙◌}
use Rattle.std.proofs.lemmas.Bool.{false≢true}
use Rattle.its_word.specs.ArrayVec.{ArrayVec}
use Rattle.its_records.specs.declared.calls.Ask.{Ask}
use Rattle.its_frame.specs.declared.change.Change.{Change}
use Rattle.its_frame.specs.declared.change.Change.TheVariants as changes
use Rattle.its_frame.specs.declared.decision.Decision.{Decision}
use Rattle.its_frame.specs.declared.decision.Held.{Held}
use Rattle.its_frame.specs.declared.decision.Decision.TheVariants.{Waits, Goes, Ends, Gone}
use Rattle.its_plain.specs.Call.Step.{acted, after_end, after_moves, is_made}
use Rattle.its_plain.specs.Machine.Change.{after_removal, effect, effects, in_job, is_gone, job_after_removal, superiors}
use Rattle.its_plain.specs.Machine.{Machine, Whole}
use Rattle.its_plain.specs.Machine.Own.{after_leave}
use Rattle.its_plain.proofs.StepLaws.{AllOf}
use Rattle.its_direct.specs.Steps.{is_making, makes_job}
use Rattle.its_direct.proofs.TouchLaws.{slot_some}

-- an empty slot stays empty
gone_empty : (gone : ℕ → Bool) (b : Bool) (o : Option Whole) → is_some o ≡ false → is_some (job_after_removal gone b o) ≡ false
gone_empty gone true o e = refl
gone_empty gone false None e = refl
gone_empty gone false (Some q) e = e

made_one : (c : Change) (j k : ℕ) (m : Machine) → is_making c ≡ false → is_some (m.jobs k) ≡ false → is_some ((effect c j m).jobs k) ≡ false
unfolding effect after_removal
made_one (changes.Take c) j k m none e = e
made_one (changes.Put c b) j k m none e = e
made_one (changes.Hold c s) j k m none e = e
made_one (changes.Poke s a x) j k m none e = slot_some m.jobs s _ k ∙ e
made_one (changes.Set s v x) j k m none e = slot_some m.jobs s _ k ∙ e
made_one (changes.Map s n) j k m none e = slot_some m.jobs s _ k ∙ e
made_one (changes.Unmap s n) j k m none e = slot_some m.jobs s _ k ∙ e
made_one (changes.Protect s n on) j k m none e = slot_some m.jobs s _ k ∙ e
made_one (changes.Make s u n) j k m none e = absurd (false≢true (sym none))
made_one (changes.Remove s) j k m none e = gone_empty (is_gone (superiors m) s) (is_gone (superiors m) s k) (m.jobs k) e
made_one (changes.Inform s) j k m none e = slot_some m.jobs s _ k ∙ e
made_one (changes.Delete d x y) j k m none e = e
made_one (changes.Rename d x y u v) j k m none e = e
made_one (changes.Send l x) j k m none e = e
made_one (changes.Receive l) j k m none e = e
made_one _ j k m none e = slot_some m.jobs j _ k ∙ e

or_left : (a b : Bool) → (a || b) ≡ false → a ≡ false
or_left true b e = e
or_left false b e = refl

or_right : (a b : Bool) → (a || b) ≡ false → b ≡ false
or_right true b e = absurd (false≢true (sym e))
or_right false b e = e

made_none : (cs : List Change) (j k : ℕ) (m : Machine) → list_any is_making cs ≡ false → is_some (m.jobs k) ≡ false
    → is_some ((effects cs j m).jobs k) ≡ false
made_none [] j k m none e = e
made_none (c ∷ cs) j k m none e =
    made_none cs j k (effect c j m) (or_right (is_making c) (list_any is_making cs) none)
    (made_one c j k m (or_left (is_making c) (list_any is_making cs) none) e)

-- so none is made
unless_some : (b c : Bool) → (b ≡ false → c ≡ false) → (not b && c) ≡ false
unless_some true c h = refl
unless_some false c h = h refl

unmade : (m n : Machine) (k : ℕ) → (is_some (m.jobs k) ≡ false → is_some (n.jobs k) ≡ false) → is_made m n k ≡ false
unmade m n k h = unless_some (is_some (m.jobs k)) (is_some (n.jobs k)) h

pub unmade_going : (m : Machine) (j : ℕ) (a : Ask) (cs : ArrayVec Change) (h : Option Held) (vs : ArrayVec ℕ) (k : ℕ) → list_any is_making cs.items ≡ false
    → is_made m (in_job (effects cs.items j m) j (after_moves a h vs.items)) k ≡ false
unmade_going m j a cs h vs k none = unmade m (in_job (effects cs.items j m) j (after_moves a h vs.items)) k
    (λ e. slot_some (effects cs.items j m).jobs j (after_moves a h vs.items) k ∙ made_none cs.items j k m none e)

-- nor by a decision that is carried out
pub unmade_by : (m : Machine) (j : ℕ) (a : Ask) (ks : List ℕ) (d : Decision) (k : ℕ) → makes_job d ≡ false
    → AllOf (λ t. is_made m t.machine k ≡ false) (acted m j a ks d)
unfolding acted
unmade_by m j a ks (Waits r) k none = tt
unmade_by m j a ks (Goes cs h vs) k none = unmade_going m j a cs h vs k none
unmade_by m j a ks (Ends cs ss x) k none = unmade m (in_job (effects cs.items j m) j (after_end ss.items (after_leave x))) k
    (λ e. slot_some (effects cs.items j m).jobs j (after_end ss.items (after_leave x)) k ∙ made_none cs.items j k m none e)
unmade_by m j a ks (Gone cs) k none = unmade m (effects (changes.Remove j ∷ cs.items) j m) k (λ e. made_none (changes.Remove j ∷ cs.items) j k m none e)
