-- The caller's own slot during the changes of its call.
use Rattle.std.specs.Prelude.{if◌then◌else◌, ◌==◌, ◌≡◌, ◌≤◌, ◌⊎◌, ℕ, Bool, true, false, Option, Some, None, List, [], ◌∷◌, option_map, refl}
use Rattle.std.proofs.Common.{sym, ◌∙◌, ap, inl, inr, arith}
use Rattle.std.proofs.lemmas.Bool.{cases_eq}
use Rattle.its_word.specs.Core.{Core}
use Rattle.its_records.specs.declared.jobs.Job.{Job}
use Rattle.its_frame.specs.Left.{kept}
use Rattle.its_frame.specs.declared.change.Change.{Change}
use Rattle.its_frame.specs.declared.change.Change.TheVariants as changes
use Rattle.its_frame.specs.declared.frame.Frame.{Frame}
use Rattle.its_plain.specs.Machine.{Whole}
use Rattle.its_plain.specs.Machine.Change.{on_slot, after_shut, job_after_removal, is_gone, superiors, effect, after_removal}
use Rattle.its_stepped.specs.State.{State}
use Rattle.its_stepped.specs.Commit.{effect_on, effects_on}
use Rattle.its_stepped.specs.Duty.{Remains, Spares, AllRemain, AllSpare}
use Rattle.its_stepped.proofs.Frame.FrameLaws.{changed_only, on_slot_here, on_slot_other}

-- a slot has a job of which this is seen
pub record Sees {X : Type 0} (g : Whole → X) (o : Option Whole) (x : X) : Type 0 where
  pub whole : Whole
  pub is : o ≡ Some whole
  pub same : g whole ≡ x

sees_it : {X : Type 0} (g : Whole → X) (o : Option Whole) (q : Whole) → o ≡ Some q → Sees g o (g q)
sees_it g o q e = record { whole = q; is = e; same = refl }

sees_slot : {X : Type 0} (g : Whole → X) (jobs : ℕ → Option Whole) (s j : ℕ) (f : Whole → Whole) (q : Whole) → ((p : Whole) → g (f p) ≡ g p) → jobs j ≡ Some q
    → Sees g (on_slot jobs s f j) (g q)
sees_slot g jobs s j f q same e = elim (cases_eq j s) [
  | inl t ↦ record { whole = f q; is = ap (λ (k : ℕ). on_slot jobs k f j) (sym t) ∙ on_slot_here jobs j f ∙ ap (option_map f) e; same = same q }
  | inr ne ↦ record { whole = q; is = on_slot_other jobs s j f ne ∙ e; same = refl }
]

sees_left : {X : Type 0} (g : Whole → X) (gone : ℕ → Bool) (b : Bool) (o : Option Whole) (q : Whole)
    → ((p : Whole) → g (after_shut gone p) ≡ g p) → b ≡ false → o ≡ Some q
    → Sees g (job_after_removal gone b o) (g q)
sees_left g gone true o q same h e = cc
sees_left g gone false o q same h e = record { whole = after_shut gone q; is = ap (option_map (after_shut gone)) e; same = same q }

-- words and registers
abbrev pub own_of : Whole → Core × Job
own_of q = (q.core, q.job)

spared_one : (c : Change) (j : ℕ) (w : State) (q : Whole) → Spares c j w → w.raw.jobs j ≡ Some q → Sees own_of ((effect_on c j w).raw.jobs j) (own_of q)
unfolding effect_on effect after_removal
spared_one (changes.Take c) j w q h e = sees_it own_of _ q e
spared_one (changes.Put c b) j w q h e = sees_it own_of _ q e
spared_one (changes.Hold c s) j w q h e = sees_it own_of _ q e
spared_one (changes.Poke s a x) j w q h e = sees_it own_of _ q (on_slot_other w.raw.jobs s j _ (λ t. h (sym t)) ∙ e)
spared_one (changes.Set s v x) j w q h e = sees_it own_of _ q (on_slot_other w.raw.jobs s j _ (λ t. h (sym t)) ∙ e)
spared_one (changes.Map s k) j w q h e = sees_it own_of _ q (on_slot_other w.raw.jobs s j _ (λ t. h (sym t)) ∙ e)
spared_one (changes.Unmap s k) j w q h e = sees_it own_of _ q (on_slot_other w.raw.jobs s j _ (λ t. h (sym t)) ∙ e)
spared_one (changes.Protect s k on) j w q h e = sees_it own_of _ q (on_slot_other w.raw.jobs s j _ (λ t. h (sym t)) ∙ e)
spared_one (changes.Make s u n) j w q h e = sees_it own_of _ q ((changed_only w.raw.jobs s _).others j (λ t. h (sym t)) ∙ e)
spared_one (changes.Remove s) j w q h e = sees_left own_of (is_gone (superiors w.raw) s) _ _ q (λ p. refl) h e
spared_one (changes.Inform s) j w q h e = sees_it own_of _ q (on_slot_other w.raw.jobs s j _ (λ t. h (sym t)) ∙ e)
spared_one (changes.Send l x) j w q h e = sees_it own_of _ q e
spared_one (changes.Receive l) j w q h e = sees_it own_of _ q e
spared_one (changes.Delete d x y) j w q h e = sees_it own_of _ q e
spared_one (changes.Rename d x y u v) j w q h e = sees_it own_of _ q e
spared_one _ j w q h e = sees_slot own_of w.raw.jobs j j _ q (λ p. refl) e

pub spared : (cs : List Change) (j : ℕ) (w : State) (q : Whole) → AllSpare cs j w → w.raw.jobs j ≡ Some q
    → Sees own_of ((effects_on cs j w).raw.jobs j) (own_of q)
spared [] j w q h e = sees_it own_of _ q e
spared (c ∷ cs) j w q h e =
    let one = spared_one c j w q h.0 e in
    let all = spared cs j (effect_on c j w) one.whole h.1 one.is in
    record { whole = all.whole; is = all.is; same = all.same ∙ one.same }

-- registers alone
abbrev pub job_of : Whole → Job
job_of q = q.job

kept_one : (c : Change) (j : ℕ) (w : State) (q : Whole) → Remains c j w → w.raw.jobs j ≡ Some q → Sees job_of ((effect_on c j w).raw.jobs j) (job_of q)
unfolding effect_on effect after_removal
kept_one (changes.Take c) j w q h e = sees_it job_of _ q e
kept_one (changes.Put c b) j w q h e = sees_it job_of _ q e
kept_one (changes.Hold c s) j w q h e = sees_it job_of _ q e
kept_one (changes.Poke s a x) j w q h e = sees_slot job_of w.raw.jobs s j _ q (λ p. refl) e
kept_one (changes.Set s v x) j w q h e = sees_it job_of _ q (on_slot_other w.raw.jobs s j _ (λ t. h (sym t)) ∙ e)
kept_one (changes.Map s k) j w q h e = sees_slot job_of w.raw.jobs s j _ q (λ p. refl) e
kept_one (changes.Unmap s k) j w q h e = sees_slot job_of w.raw.jobs s j _ q (λ p. refl) e
kept_one (changes.Protect s k on) j w q h e = sees_slot job_of w.raw.jobs s j _ q (λ p. refl) e
kept_one (changes.Make s u n) j w q h e = sees_it job_of _ q ((changed_only w.raw.jobs s _).others j (λ t. h (sym t)) ∙ e)
kept_one (changes.Remove s) j w q h e = sees_left job_of (is_gone (superiors w.raw) s) _ _ q (λ p. refl) h e
kept_one (changes.Inform s) j w q h e = sees_it job_of _ q (on_slot_other w.raw.jobs s j _ (λ t. h (sym t)) ∙ e)
kept_one (changes.Send l x) j w q h e = sees_it job_of _ q e
kept_one (changes.Receive l) j w q h e = sees_it job_of _ q e
kept_one (changes.Delete d x y) j w q h e = sees_it job_of _ q e
kept_one (changes.Rename d x y u v) j w q h e = sees_it job_of _ q e
kept_one _ j w q h e = sees_slot job_of w.raw.jobs j j _ q (λ p. refl) e

pub job_kept : (cs : List Change) (j : ℕ) (w : State) (q : Whole) → AllRemain cs j w → w.raw.jobs j ≡ Some q
    → Sees job_of ((effects_on cs j w).raw.jobs j) (job_of q)
job_kept [] j w q h e = sees_it job_of _ q e
job_kept (c ∷ cs) j w q h e =
    let one = kept_one c j w q h.0 e in
    let all = job_kept cs j (effect_on c j w) one.whole h.1 one.is in
    record { whole = all.whole; is = all.is; same = all.same ∙ one.same }

-- what spares the caller lets it remain
spares_remains : (c : Change) (j : ℕ) (w : State) → Spares c j w → Remains c j w
spares_remains (changes.Set s v x) j w h = h
spares_remains (changes.Make s u n) j w h = h
spares_remains (changes.Remove s) j w h = h
spares_remains (changes.Inform s) j w h = h
spares_remains _ j w h = tt

pub all_remain : (cs : List Change) (j : ℕ) (w : State) → AllSpare cs j w → AllRemain cs j w
all_remain [] j w h = tt
all_remain (c ∷ cs) j w h = (spares_remains c j w h.0, all_remain cs j (effect_on c j w) h.1)

-- its frame
frame_kept : (c : Change) (j : ℕ) (w : State) → Remains c j w → (effect_on c j w).frames j ≡ w.frames j
unfolding effect_on
frame_kept (changes.Remove s) j w h = rw h refl
frame_kept _ j w h = refl

pub frames_kept : (cs : List Change) (j : ℕ) (w : State) → AllRemain cs j w → (effects_on cs j w).frames j ≡ w.frames j
frames_kept [] j w h = refl
frames_kept (c ∷ cs) j w h = frames_kept cs j (effect_on c j w) h.1 ∙ frame_kept c j w h.0

-- no change makes a frame, or reserves a page
pub frame_none : (c : Change) (j : ℕ) (w : State) (k : ℕ) → w.frames k ≡ None → (effect_on c j w).frames k ≡ None
unfolding effect_on
frame_none (changes.Remove s) j w k h = go (is_gone (superiors w.raw) s k) (w.frames k) h
  where
    go : (b : Bool) (o : Option Frame) → o ≡ None → (if b then None else o) ≡ None
    go true o h = refl
    go false o h = h
frame_none _ j w k h = h

pub frames_none : (cs : List Change) (j : ℕ) (w : State) (k : ℕ) → w.frames k ≡ None → (effects_on cs j w).frames k ≡ None
frames_none [] j w k h = h
frames_none (c ∷ cs) j w k h = frames_none cs j (effect_on c j w) k (frame_none c j w k h)

reserved_by : (c : Change) (j : ℕ) (w : State) (k : ℕ) → ((effect_on c j w).reserved k ≡ w.reserved k) ⊎ ((effect_on c j w).reserved k ≡ None)
unfolding effect_on
reserved_by (changes.Map s n) j w k = go (k == j) (w.reserved k)
  where
    go : (b : Bool) (o : Option ℕ) → ((if b then None else o) ≡ o) ⊎ ((if b then None else o) ≡ None)
    go true o = inr refl
    go false o = inl refl
reserved_by _ j w k = inl refl

pub reserved_none : (cs : List Change) (j : ℕ) (w : State) (k : ℕ) → w.reserved k ≡ None → (effects_on cs j w).reserved k ≡ None
reserved_none [] j w k h = h
reserved_none (c ∷ cs) j w k h = reserved_none cs j (effect_on c j w) k (elim (reserved_by c j w k) [ inl e ↦ e ∙ h | inr e ↦ e ])

kept_less : (o r : Option ℕ) → (o ≡ r) ⊎ (o ≡ None) → kept o ≤ kept r
kept_less None r h = omega arith
kept_less (Some n) (Some k) h = omega arith
kept_less (Some n) None h = elim h [ inl e ↦ cc | inr e ↦ cc ]

le_le : (a b c : ℕ) → a ≤ b → b ≤ c → a ≤ c
le_le a b c h k = omega arith

pub reserved_less : (cs : List Change) (j : ℕ) (w : State) (k : ℕ) → kept ((effects_on cs j w).reserved k) ≤ kept (w.reserved k)
reserved_less [] j w k = omega arith
reserved_less (c ∷ cs) j w k = le_le _ _ _ (reserved_less cs j (effect_on c j w) k)
    (kept_less ((effect_on c j w).reserved k) (w.reserved k) (reserved_by c j w k))
