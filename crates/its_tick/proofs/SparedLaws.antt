-- What the changes of a call leave of another slot: one that has a frame they leave as it is, and
-- in an empty one they can make an inferior of the caller alone.
use Rattle.std.specs.Prelude.{if◌then◌else◌, ◌==◌, ◌≡◌, ◌≢◌, ◌||◌, ◌&&◌, not, ℕ, suc, Bool, true, false, Option, Some, None, IfSome, List, [], ◌∷◌, option_map, refl}
use Rattle.std.proofs.Common.{sym, ◌∙◌, ap, subst, inl, inr}
use Rattle.std.proofs.lemmas.Bool.{cases_Bool, cases_eq, and_parts, ne_eqb}
use Rattle.its_word.specs.Limits.{slots}
use Rattle.its_records.specs.Tree.{climbs_to, is_below}
use Rattle.its_records.proofs.ClimbLaws.{more}
use Rattle.its_frame.specs.declared.change.Change.{Change}
use Rattle.its_frame.specs.declared.change.Change.TheVariants as changes
use Rattle.its_frame.specs.declared.frame.Frame.{Frame}
use Rattle.its_plain.specs.Call.Basic.{told_superior}
use Rattle.its_plain.specs.Machine.Change.{on_slot, in_job, channel_in, chan_after_removal, after_shut, job_after_removal, is_gone, superiors, inferior, with_page_at, with_protection, poke, with_alarm, with_inf, after_removal, effect}
use Rattle.its_plain.specs.Machine.{Chan, Shut, On, Whole, Machine, changed}
use Rattle.its_plain.specs.Machine.Own.{with_stores, with_registers, on_channel, with_variable}
use Rattle.its_stepped.specs.Commit.{effect_on, effects_on}
use Rattle.its_stepped.specs.Forest.{OnInferior, Forest}
use Rattle.its_stepped.specs.Quiet.{Reached, Quiet, AllQuiet}
use Rattle.its_stepped.specs.State.{State, plain}
use Rattle.its_stepped.proofs.Committing.EffectLaws.{superiors_plain, effect_plain, effect_others}
use Rattle.its_stepped.proofs.Keeping.ForestLaws.{ChangeFits, AllFit, forest_raw, effect_forest, gone_forest}
use Rattle.its_stepped.proofs.Frame.FrameLaws.{changed_only, on_slot_other}

-- the superior of a job that is removed is removed too, except for that of the root
climb_on : (sup : ℕ → Option ℕ) (r n k : ℕ) → climbs_to sup r (suc n) (Some k) ≡ ((k == r) || climbs_to sup r n (sup k))
unfolding climbs_to
climb_on sup r n k = refl

either_way : (b c : Bool) → (b || c) ≡ true → (b || (not b && c)) ≡ true
either_way true c h = refl
either_way false c h = h

above_gone : (sup : ℕ → Option ℕ) (r i k : ℕ) → is_below sup r i ≡ true → sup i ≡ Some k → is_gone sup r k ≡ true
unfolding is_below
above_gone sup r i k below e =
    let climbs : climbs_to sup r slots (sup i) ≡ true = (and_parts (not (i == r)) (climbs_to sup r slots (sup i)) below).1 in
    either_way (k == r) (climbs_to sup r slots (sup k)) (sym (climb_on sup r slots k)
    ∙ more sup r slots (Some k) (ap (climbs_to sup r slots) (sym e) ∙ climbs))

-- a job that stays, other than the superior of the root, has no channel on one that is removed
inferior_stays : (m : Machine) (r i k : ℕ) → is_gone (superiors m) r k ≡ false → superiors m r ≢ Some k → superiors m i ≡ Some k
    → is_gone (superiors m) r i ≡ false
inferior_stays m r i k stays apart e = elim (cases_eq i r) [
  | inl at ↦ absurd (apart (subst (λ (x : ℕ). superiors m x ≡ Some k) at e))
  | inr ne ↦ elim (cases_Bool (is_below (superiors m) r i)) [
    | inl below ↦ absurd (let no : false ≡ true = sym stays ∙ above_gone (superiors m) r i k below e in cc)
    | inr f ↦ ap (λ (b : Bool). b || is_below (superiors m) r i) (ne_eqb i r ne) ∙ f
  ]
]

channel_stays : (m : Machine) (r k : ℕ) (c : Chan) → is_gone (superiors m) r k ≡ false → superiors m r ≢ Some k → OnInferior m k c
    → chan_after_removal (is_gone (superiors m) r) c ≡ c
channel_stays m r k (On i write at) stays apart on = ap (λ (b : Bool). if b then Shut else On i write at) (inferior_stays m r i k stays apart on)
channel_stays m r k _ stays apart on = refl

job_stays : (m : Machine) (r k : ℕ) → Forest m → is_gone (superiors m) r k ≡ false → superiors m r ≢ Some k
    → job_after_removal (is_gone (superiors m) r) (is_gone (superiors m) r k) (m.jobs k) ≡ m.jobs k
job_stays m r k forest stays apart = ap (λ (b : Bool). job_after_removal (is_gone (superiors m) r) b (m.jobs k)) stays ∙ go (m.jobs k) refl
  where
    go : (o : Option Whole) → m.jobs k ≡ o → option_map (after_shut (is_gone (superiors m) r)) o ≡ o
    go None at = refl
    go (Some q) at =
        let same : (n : ℕ) → chan_after_removal (is_gone (superiors m) r) (q.channels n) ≡ q.channels n =
        λ n. channel_stays m r k (q.channels n) stays apart (subst (λ (o : Option Whole). OnInferior m k (channel_in o n)) at (forest.channels k n)) in
        λ t. Some (record q { channels = λ n. same n t })

-- a slot that has a frame, beside the caller's. States u and v have the same raw machine: what is
-- reached has no frame in u
reached_other : (u : State) (j s k : ℕ) (f : Frame) → Reached u j s → k ≢ j → u.frames k ≡ Some f → k ≢ s
reached_other u j s k f r ne fr e = let none : u.frames k ≡ None = ap u.frames e ∙ r.other (λ t. ne (e ∙ t)) in cc

stays_there : (u v : State) (j s k : ℕ) (f : Frame) → Quiet (changes.Remove s) j u → u.raw ≡ v.raw → k ≢ j → u.frames k ≡ Some f
    → is_gone (superiors v.raw) s k ≡ false
stays_there u v j s k f h e ne fr = elim (cases_Bool (is_gone (superiors v.raw) s k)) [
  | inl gone ↦ absurd (let none : u.frames k ≡ None = h k (ap (λ (m : Machine). is_gone (superiors m) s k) e ∙ gone) ne in cc)
  | inr stays ↦ stays
]

removed_same : (j : ℕ) (u v : State) (s k : ℕ) (f : Frame) → Quiet (changes.Remove s) j u → superiors (plain v) s ≢ Some k
    → Forest (plain v) → u.raw ≡ v.raw → k ≢ j → u.frames k ≡ Some f
    → (effect_on (changes.Remove s) j v).raw.jobs k ≡ v.raw.jobs k
unfolding effect_on effect after_removal
removed_same j u v s k f h apart forest e ne fr =
    job_stays v.raw s k (forest_raw v forest) (stays_there u v j s k f h e ne fr) (subst (λ (sup : ℕ → Option ℕ). sup s ≢ Some k) (superiors_plain v) apart)

effect_same : (c : Change) (j : ℕ) (u v : State) (k : ℕ) (f : Frame) → Quiet c j u → ChangeFits c j (plain v) → Forest (plain v)
    → u.raw ≡ v.raw → k ≢ j → u.frames k ≡ Some f
    → (effect_on c j v).raw.jobs k ≡ v.raw.jobs k
unfolding effect_on effect
effect_same (changes.Take c) j u v k f h fits forest e ne fr = refl
effect_same (changes.Put c b) j u v k f h fits forest e ne fr = refl
effect_same (changes.Hold c s) j u v k f h fits forest e ne fr = refl
effect_same (changes.Send l x) j u v k f h fits forest e ne fr = refl
effect_same (changes.Receive l) j u v k f h fits forest e ne fr = refl
effect_same (changes.Poke s a x) j u v k f h fits forest e ne fr =
    on_slot_other v.raw.jobs s k (with_stores (poke a x ∷ [])) (reached_other u j s k f h ne fr)
effect_same (changes.Set s y x) j u v k f h fits forest e ne fr =
    on_slot_other v.raw.jobs s k (with_registers (with_variable y x)) (reached_other u j s k f h ne fr)
effect_same (changes.Map s p) j u v k f h fits forest e ne fr = on_slot_other v.raw.jobs s k _ (reached_other u j s k f h.reached ne fr)
effect_same (changes.Unmap s p) j u v k f h fits forest e ne fr = on_slot_other v.raw.jobs s k (with_page_at p None) (reached_other u j s k f h ne fr)
effect_same (changes.Protect s p b) j u v k f h fits forest e ne fr = on_slot_other v.raw.jobs s k (with_protection p b) (reached_other u j s k f h ne fr)
effect_same (changes.Make s x n) j u v k f h fits forest e ne fr =
    (changed_only v.raw.jobs s (Some (inferior j (v.raw.jobs j) x n))).others k (λ at. let none : u.frames k ≡ None = ap u.frames at ∙ h in cc)
effect_same (changes.Remove s) j u v k f h fits forest e ne fr =
    removed_same j u v s k f h (λ at. let same : Some j ≡ Some k = sym fits ∙ at in let is : j ≡ k = cc in ne (sym is)) forest e ne fr
effect_same (changes.Inform s) j u v k f h fits forest e ne fr = on_slot_other v.raw.jobs s k with_inf (reached_other u j s k f h ne fr)
effect_same (changes.Arm alarm) j u v k f h fits forest e ne fr = on_slot_other v.raw.jobs j k (with_alarm alarm) ne
effect_same (changes.Delete d x y) j u v k f h fits forest e ne fr = refl
effect_same (changes.Rename d x y a b) j u v k f h fits forest e ne fr = refl
effect_same _ j u v k f h fits forest e ne fr = on_slot_other v.raw.jobs j k _ ne

-- what a change makes of the raw machine hangs on that alone
raw_on : (c : Change) (j : ℕ) (u v : State) → u.raw ≡ v.raw → (effect_on c j u).raw ≡ (effect_on c j v).raw
unfolding effect_on effect
raw_on (changes.Close n) j u v e = ap (λ (m : Machine). in_job m j (on_channel n (λ c. Shut))) e
raw_on (changes.Map s p) j u v e = ap (effect (changes.Map s p) j) e
raw_on (changes.Remove s) j u v e = ap (effect (changes.Remove s) j) e
raw_on c j u v e = ap (effect c j) e

-- several changes, of which each keeps jobs as they lie
pub effects_same : (cs : List Change) (j : ℕ) (u v : State) (k : ℕ) (f : Frame) → AllQuiet cs j u → AllQuiet cs j v → AllFit cs j (plain v)
    → Forest (plain v) → u.raw ≡ v.raw → k ≢ j
    → u.frames k ≡ Some f → (effects_on cs j v).raw.jobs k ≡ v.raw.jobs k
effects_same [] j u v k f qu qv fits forest e ne fr = refl
effects_same (c ∷ cs) j u v k f qu qv fits forest e ne fr =
    let next : plain (effect_on c j v) ≡ effect c j (plain v) = effect_plain c j v qv.0 in
    effects_same cs j (effect_on c j u) (effect_on c j v) k f qu.1 qv.1
    (subst (AllFit cs j) (sym next) fits.1) (subst Forest (sym next) (effect_forest c j (plain v) fits.0 forest)) (raw_on c j u v e) ne
    ((effect_others c j u k qu.0 ne).frame ∙ fr)
    ∙ effect_same c j u v k f qu.0 fits.0 forest e ne fr

-- a job that goes: its superior is reached, as INF is set in it
superior_reached : (cs : List Change) (j : ℕ) (u : State) (o : Option ℕ) (k : ℕ) (f : Frame) → AllQuiet (changes.Remove j ∷ cs) j u
    → cs ≡ told_superior o → k ≢ j → u.frames k ≡ Some f → o ≢ Some k
superior_reached cs j u o k f q is ne fr e =
    let quiet : AllQuiet (changes.Inform k ∷ []) j (effect_on (changes.Remove j) j u) =
    subst (λ (cs : List Change). AllQuiet cs j (effect_on (changes.Remove j) j u)) (is ∙ ap told_superior e) q.1 in
    let none : (effect_on (changes.Remove j) j u).frames k ≡ None = quiet.0.other ne in
    let some : (effect_on (changes.Remove j) j u).frames k ≡ Some f = (effect_others (changes.Remove j) j u k q.0 ne).frame ∙ fr in
    let no : None ≡ Some f = sym none ∙ some in cc

pub gone_same : (cs : List Change) (j : ℕ) (u v : State) (k : ℕ) (f : Frame) → AllQuiet (changes.Remove j ∷ cs) j u → AllQuiet (changes.Remove j ∷ cs) j v
    → AllFit cs j (effect (changes.Remove j) j (plain v)) → cs ≡ told_superior (superiors (plain v) j) → Forest (plain v) → u.raw ≡ v.raw → k ≢ j
    → u.frames k ≡ Some f → (effects_on (changes.Remove j ∷ cs) j v).raw.jobs k ≡ v.raw.jobs k
gone_same cs j u v k f qu qv fits told forest e ne fr =
    let c : Change = changes.Remove j in
    let next : plain (effect_on c j v) ≡ effect c j (plain v) = effect_plain c j v qv.0 in
    effects_same cs j (effect_on c j u) (effect_on c j v) k f qu.1 qv.1
    (subst (AllFit cs j) (sym next) fits) (subst Forest (sym next) (gone_forest (plain v) j j forest)) (raw_on c j u v e) ne
    ((effect_others c j u k qu.0 ne).frame ∙ fr)
    ∙ removed_same j u v j k f qu.0 (superior_reached cs j u (superiors (plain v) j) k f qu told ne fr) forest e ne fr

-- in an empty slot
abbrev pub InferiorOf : ℕ → Option Whole → Type 0
InferiorOf j o = IfSome o (λ q. q.superior ≡ Some j)

slot_inferior : (jobs : ℕ → Option Whole) (j s k : ℕ) (h : Whole → Whole) → ((q : Whole) → (h q).superior ≡ q.superior)
    → InferiorOf j (jobs k) → InferiorOf j (on_slot jobs s h k)
slot_inferior jobs j s k h same x = go (k == s) (jobs k) x
  where
    go : (b : Bool) (o : Option Whole) → InferiorOf j o → InferiorOf j (if b then option_map h o else o)
    go true (Some q) x = same q ∙ x
    go true None x = tt
    go false o x = x

made_inferior : (jobs : ℕ → Option Whole) (j s k u n : ℕ) → InferiorOf j (jobs k) → InferiorOf j (changed jobs s (Some (inferior j (jobs j) u n)) k)
made_inferior jobs j s k u n x = go (k == s)
  where
    go : (b : Bool) → InferiorOf j (if b then Some (inferior j (jobs j) u n) else jobs k)
    go true = refl
    go false = x

left_inferior : (j : ℕ) (gone : ℕ → Bool) (b : Bool) (o : Option Whole) → InferiorOf j o → InferiorOf j (job_after_removal gone b o)
left_inferior j gone true o x = tt
left_inferior j gone false None x = tt
left_inferior j gone false (Some q) x = x

effect_inferior : (c : Change) (j : ℕ) (v : State) (k : ℕ) → InferiorOf j (v.raw.jobs k) → InferiorOf j ((effect_on c j v).raw.jobs k)
unfolding effect_on effect after_removal
effect_inferior (changes.Take c) j v k x = x
effect_inferior (changes.Put c b) j v k x = x
effect_inferior (changes.Hold c s) j v k x = x
effect_inferior (changes.Send l w) j v k x = x
effect_inferior (changes.Receive l) j v k x = x
effect_inferior (changes.Poke s a w) j v k x = slot_inferior v.raw.jobs j s k _ (λ q. refl) x
effect_inferior (changes.Set s y w) j v k x = slot_inferior v.raw.jobs j s k _ (λ q. refl) x
effect_inferior (changes.Map s p) j v k x = slot_inferior v.raw.jobs j s k _ (λ q. refl) x
effect_inferior (changes.Unmap s p) j v k x = slot_inferior v.raw.jobs j s k _ (λ q. refl) x
effect_inferior (changes.Protect s p b) j v k x = slot_inferior v.raw.jobs j s k _ (λ q. refl) x
effect_inferior (changes.Make s u n) j v k x = made_inferior v.raw.jobs j s k u n x
effect_inferior (changes.Remove s) j v k x = left_inferior j (is_gone (superiors v.raw) s) (is_gone (superiors v.raw) s k) (v.raw.jobs k) x
effect_inferior (changes.Inform s) j v k x = slot_inferior v.raw.jobs j s k _ (λ q. refl) x
effect_inferior (changes.Delete d a b) j v k x = x
effect_inferior (changes.Rename d a b y z) j v k x = x
effect_inferior _ j v k x = slot_inferior v.raw.jobs j j k _ (λ q. refl) x

pub effects_inferior : (cs : List Change) (j : ℕ) (v : State) (k : ℕ) → InferiorOf j (v.raw.jobs k) → InferiorOf j ((effects_on cs j v).raw.jobs k)
effects_inferior [] j v k x = x
effects_inferior (c ∷ cs) j v k x = effects_inferior cs j (effect_on c j v) k (effect_inferior c j v k x)
