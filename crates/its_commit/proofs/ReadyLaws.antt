-- What the tick of a slot finds whose call is tried: the jobs that the call reaches are unwound, it
-- is decided on raw jobs there, and its decision can be carried out.
use Rattle.std.specs.Prelude.{if◌then◌else◌, ◌||◌, ◌==◌, ◌≡◌, ◌≢◌, ◌<◌, ◌≤◌, ℕ, Bool, true, false, Option, Some, None, IfSome, List, [], ◌∷◌, ◌++◌, length, refl}
use Rattle.std.proofs.Common.{sym, ◌∙◌, ap, subst, inl, inr, arith}
use Rattle.std.proofs.lemmas.Bool.{cases_eq, eq-eqb, ne_eqb}
use Rattle.its_records.specs.Tree.{is_below, slots_below}
use Rattle.its_records.specs.declared.calls.Ask.{Ask}
use Rattle.its_frame.specs.declared.change.Change.{Change}
use Rattle.its_frame.specs.declared.decision.Decision.{Decision}
use Rattle.its_frame.specs.declared.decision.Decision.TheVariants.{Waits, Goes, Ends, Gone}
use Rattle.its_frame.specs.declared.frame.Frame.{Frame}
use Rattle.its_frame.specs.declared.frame.Frame.TheVariants as frames
use Rattle.its_frame.specs.declared.frame.Holding.{Holding}
use Rattle.its_frame.specs.declared.name.CallName.{CallName}
use Rattle.its_frame.specs.declared.name.CallName.TheVariants.{Logout, Uclose}
use Rattle.its_plain.specs.Call.Arguments.{debts, input}
use Rattle.its_plain.specs.Call.Basic.{channel_at}
use Rattle.its_plain.specs.Call.Step.{among, decision}
use Rattle.its_plain.specs.Machine.Change.{superiors, is_gone}
use Rattle.its_plain.specs.Call.Decide.{call_named, target_by, argument_of, target, listed, reach_by, reach, with_below}
use Rattle.its_plain.specs.Machine.{On, Whole, Machine}
use Rattle.its_stepped.specs.Tick.{helps, reserves, quarters}
use Rattle.its_stepped.specs.Commit.{effects_on, owed_parts}
use Rattle.its_stepped.specs.Duty.{parts_in, Duty}
use Rattle.its_stepped.specs.Quiet.{IsStill, AllQuiet}
use Rattle.its_stepped.specs.Sound.{parts_in_frame, IsWaitable, Sound}
use Rattle.its_stepped.specs.State.{State}
use Rattle.its_stepped.specs.Forest.{Forest}
use Rattle.its_stepped.proofs.Frame.MarkLaws.{marking_begins, marking_all}
use Rattle.its_stepped.proofs.Unwinding.UnwindLaws.{among_first}
use Rattle.its_stepped.proofs.Committing.ViewLaws.{StillAt}
use Rattle.its_stepped.proofs.Keeping.ForestLaws.{forest_few}
use Rattle.its_stepped.proofs.Duties.LogoutDuty.{among_left, among_right, among_below}
use Rattle.its_plain.proofs.TargetLaws.{target_on, reach_named}
use Rattle.its_commit.specs.Built.{Removable}
use Rattle.its_commit.specs.Carried.{standing_of, CanCommit}
use Rattle.its_commit.proofs.CommittingLaws.{all_mild}
use Rattle.its_commit.proofs.RemovalLaws.{no_page}
use Rattle.its_commit.proofs.CanLaws.{DecisionCan, decision_on}
use Rattle.its_shared.proofs.CanLaws.{Beside}
use Rattle.its_shared.proofs.CallCanLaws.{decision_can as plain_can}
use Rattle.its_stepped.proofs.Duties.GivenLaws.{below_itself}

-- the state in which the call of slot j's job is carried out: it is sound, the jobs that the call
-- reaches are in user mode, and all quarters of the page that it reserves are clear
pub record Prepared (v : State) (j : ℕ) (q : Whole) (a : Ask) : Type 0 where
  pub job : v.raw.jobs j ≡ Some q
  pub forest : Forest v.raw
  pub sound : Sound v
  pub unmarked : helps q a ≡ true → v.mark ≡ None
  pub free : (k : ℕ) → among k (reach v.raw j q a) ≡ true → v.frames k ≡ None
  pub full : reserves a ≡ true → v.reserved j ≡ Some quarters

-- UCLOSE removes an inferior with all below it, which are in user mode; the caller is not below its
-- inferior
module _ (v : State) (j s at : ℕ) (q : Whole) (a : Ask) (write : Bool) (c : Prepared v j q a) (z : a.fail ≡ 0) (e : call_named a.name ≡ Some Uclose)
    (is : channel_at q.channels (input a 0) ≡ On s write at) where
  removal_reach : reach v.raw j q a ≡ slots_below (superiors v.raw) s ++ s ∷ []
  removal_reach = reach_named v.raw j q a Uclose z e ∙ ap (with_below v.raw) (target_on q a Uclose 0 s at write z e refl is)

  below_free : (k : ℕ) → is_below (superiors v.raw) s k ≡ true → v.frames k ≡ None
  below_free k h = c.free k (ap (among k) removal_reach ∙ among_left k (slots_below (superiors v.raw) s) (s ∷ [])
      (among_below v.raw s k (forest_few v.raw c.forest) h))

  root_free : v.frames s ≡ None
  root_free = c.free s (ap (among s) removal_reach ∙ among_right s (slots_below (superiors v.raw) s) (s ∷ []) (among_first s []))

  removable : Removable v s
  removable = record { sound = c.sound; unwound = below_free; page = no_page v s c.sound root_free }

-- it is decided on the machine of the state in which it is carried out
pub decision_can : (v : State) (j : ℕ) (q : Whole) (a : Ask) → Prepared v j q a → IfSome q.job.console (λ c. c < 8) → DecisionCan (decision v.raw j q a) j v
decision_can v j q a c h =
    let b : Beside = record { files = v.mark ≡ None; page = v.reserved j ≡ Some quarters; tree = Removable v } in
    decision_on b (decision v.raw j q a) j v (record { files = λ x. x; page = λ x. x; tree = λ s x. x })
    (plain_can b v.raw j q a c.forest c.job (record {
      files = c.unmarked;
      page = c.full;
      tree = λ z e s at write is. removable v j s at q a write c z e is;
    }) h)

-- a call that has no argument for a channel on a job reaches into none
target_none : (q : Whole) (a : Ask) → argument_of (call_named a.name) ≡ None → target q a ≡ None
unfolding target
target_none q a e = ap (λ (o : Option ℕ). if a.fail == 0 then target_by q a o else None) e ∙ go (a.fail == 0)
  where
    go : (b : Bool) → (if b then target_by q a None else None) ≡ None
    go true = refl
    go false = refl

-- a call that can be found not ready and that reaches into no job disturbs none
waits_by : (m : Machine) (j : ℕ) (q : Whole) (a : Ask) (o : Option CallName) → IsWaitable o → target q a ≡ None → reach_by m j q a o ≡ []
waits_by m j q a (Some Logout) h e = absurd h
waits_by m j q a (Some Uclose) h e = absurd h
waits_by m j q a _ h e = ap listed e

no_slots : (b : Bool) (ks : List ℕ) → ks ≡ [] → (if b then ks else []) ≡ []
no_slots true ks e = e
no_slots false ks e = refl

pub waits_reach : (m : Machine) (j : ℕ) (q : Whole) (a : Ask) → IsWaitable (call_named a.name) → target q a ≡ None → reach m j q a ≡ []
unfolding reach
waits_reach m j q a h e = no_slots (a.fail == 0) (reach_by m j q a (call_named a.name)) (waits_by m j q a (call_named a.name) h e)

-- the job into which a call reaches is among those that its commit disturbs
listed_in : (o : Option ℕ) (s : ℕ) → o ≡ Some s → among s (listed o) ≡ true
listed_in (Some k) s e = let is : k ≡ s = cc in subst (λ (i : ℕ). among i (k ∷ []) ≡ true) is (among_first k [])
listed_in None s e = cc

target_by_name : (m : Machine) (j : ℕ) (q : Whole) (a : Ask) (o : Option CallName) (s : ℕ) → call_named a.name ≡ o → target q a ≡ Some s
    → among s (reach_by m j q a o) ≡ true
target_by_name m j q a (Some Logout) s e t = let none : target q a ≡ None = target_none q a (ap argument_of e) in cc
target_by_name m j q a (Some Uclose) s e t = ap (λ (o : Option ℕ). among s (with_below m o)) t
    ∙ among_right s (slots_below (superiors m) s) (s ∷ []) (among_first s [])
target_by_name m j q a _ s e t = listed_in (target q a) s t

target_fails : (q : Whole) (a : Ask) → a.fail ≢ 0 → target q a ≡ None
unfolding target
target_fails q a ne = ap (λ (b : Bool). if b then target_by q a (argument_of (call_named a.name)) else None) (ne_eqb a.fail 0 ne)

pub target_reached : (m : Machine) (j : ℕ) (q : Whole) (a : Ask) (s : ℕ) → target q a ≡ Some s → among s (reach m j q a) ≡ true
unfolding reach
target_reached m j q a s t = elim (cases_eq a.fail 0) [
  | inl z ↦ rw (eq-eqb a.fail 0 z) (target_by_name m j q a (call_named a.name) s refl t)
  | inr ne ↦ absurd (let none : target q a ≡ None = target_fails q a ne in cc)
]

pub still_at : (v : State) (o : Option ℕ) → ((s : ℕ) → o ≡ Some s → v.frames s ≡ None) → StillAt v o
still_at v (Some s) h = subst IsStill (sym (h s refl)) tt
still_at v None h = tt

below_other : (sup : ℕ → Option ℕ) (j k : ℕ) → is_below sup j k ≡ true → k ≢ j
below_other sup j k h e = let none : is_below sup j k ≡ false = ap (is_below sup j) e ∙ below_itself sup j in cc

or_true : (b : Bool) → (b || true) ≡ true
or_true true = refl
or_true false = refl

below_gone : (sup : ℕ → Option ℕ) (j k : ℕ) → is_below sup j k ≡ true → is_gone sup j k ≡ true
below_gone sup j k h = ap (λ (b : Bool). (k == j) || b) h ∙ or_true (k == j)

-- the pending parts of a slot's close after some changes are at most those of these changes, if
-- none were pending before
no_parts : (o : Option Frame) (h : Holding) → standing_of o ≡ Some h → parts_in_frame o ≡ []
no_parts (Some (frames.Ending f)) h e = cc
no_parts _ h e = refl

parts_after : (cs : List Change) (j : ℕ) (v : State) (h : Holding) → Sound v → standing_of (v.frames j) ≡ Some h → AllQuiet cs j v
    → length (owed_parts (effects_on cs j v).mark j) ≤ parts_in cs
parts_after cs j v h sound stands quiet =
    let m = marking_all cs j v 0 quiet (marking_begins j v.mark v.frames sound.mark (no_parts (v.frames j) h stands)) in
    let k = m.few in omega arith

pub ready_by : (v : State) (j : ℕ) (own : Whole) (h : Holding) (d : Decision) → Sound v → standing_of (v.frames j) ≡ Some h
    → length (debts h.ask h.owes) ≡ h.owes
    → DecisionCan d j v → Duty v j own h.site h.ask h.owes d → CanCommit v j h d
ready_by v j own h (Waits r) sound stands read can duty = tt
ready_by v j own h (Goes cs b vs) sound stands read can duty = can
ready_by v j own h (Ends cs ss e) sound stands read can duty = (
  can,
  record {
    read = read;
    few =
        let few = duty.few in
        let page = (all_mild cs.items j v can).page in
        let parts : length (owed_parts (effects_on cs.items j v).mark j) ≤ parts_in cs.items = parts_after cs.items j v h sound stands duty.quiet in
        omega arith;
  },
)
ready_by v j own h (Gone cs) sound stands read can duty = (
  can,
  record {
    sound = sound;
    unwound = λ k below. duty.quiet.0 k (below_gone (superiors v.raw) j k below) (below_other (superiors v.raw) j k below);
    page = duty.page;
  },
)
