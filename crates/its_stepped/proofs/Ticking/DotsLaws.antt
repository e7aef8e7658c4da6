-- The dots of a slot keep to the bound of its frame, and fewer than sixteen come in a row.
use Rattle.std.specs.Prelude.{if◌then◌else◌, ◌≡◌, ◌≢◌, ◌<◌, ◌≤◌, ℕ, ◌+◌, ◌-◌, Bool, true, false, Option, Some, None, IfSome, List, [], ◌∷◌, length, Result, Ok, Err, nat_lt, refl, ◌||◌}
use Rattle.std.proofs.Common.{sym, ◌∙◌, ap, subst, inl, inr, arith}
use Rattle.std.proofs.lemmas.Bool.{cases_eq, eq-eqb, ne_eqb}
use Rattle.its_word.specs.Core.{Core}
use Rattle.its_word.specs.declared.access.Fault.{Fault}
use Rattle.its_records.specs.declared.calls.Ask.{Ask}
use Rattle.its_records.specs.declared.calls.Owed.{Owed}
use Rattle.its_records.specs.declared.calls.Owed.TheVariants as owed
use Rattle.its_records.specs.declared.calls.Pace.{Pace}
use Rattle.its_records.specs.declared.calls.Pace.TheVariants.{Step, Work, Wait, Off}
use Rattle.its_records.specs.declared.calls.Site.{Site}
use Rattle.its_frame.specs.declared.change.Change.TheVariants as changes
use Rattle.its_frame.specs.declared.decision.Decision.{Decision}
use Rattle.its_frame.specs.declared.decision.Decision.TheVariants.{Waits, Goes, Ends, Gone}
use Rattle.its_frame.specs.declared.frame.Frame.{Frame}
use Rattle.its_frame.specs.declared.frame.Frame.TheVariants.{Entered, Parsed, Asked, Holding, Waiting, Moving, Ending}
use Rattle.its_stepped.specs.TwoParts.{parse, fetch}
use Rattle.its_plain.specs.Call.Arguments.{debts}
use Rattle.its_plain.specs.Call.Step.{informs, informed_slots, decision, among, disturbed, Transition, acted, transition, disturbs_in, makes}
use Rattle.its_plain.specs.Call.Decide.{reach}
use Rattle.its_plain.specs.Unit.Interrupt.{deliverable, delivered}
use Rattle.its_plain.specs.Machine.{Whole, Machine, changed}
use Rattle.its_plain.specs.Machine.Own.{with_stores}
use Rattle.its_plain.specs.Transcript.Licence.{Dots, most_dots, dots_after}
use Rattle.its_plain.specs.Unit.{Outcome, Changed, Faulted, Called, unit}
use Rattle.its_stepped.specs.State.{Part, Mark, mine, State, plain, seen, with_slot, same, reserving, entered, parsed, asked, holding, ending}
use Rattle.its_stepped.specs.Unwind.{with_part, due, after_settling, unwind_by, unwind_one, all_unwound}
use Rattle.its_stepped.specs.Commit.{effects_on, after_commit}
use Rattle.its_stepped.specs.Tick.{Ticked, off, works, helps, user_on, unit_on, parsed_on, fetched_on, after_preparation, reserves, with_preparation, tried, tried_by, quarters, held_on, tick_in, tick_unless, tick_of, tick}
use Rattle.its_stepped.specs.Sound.{Owes, Paged, SoundFrame, SoundBy, Sound}
use Rattle.its_stepped.specs.Duty.{Duty, Meets, GivenBy, Given, IsTried}
use Rattle.its_stepped.proofs.Frame.FrameLaws.{changed_only}
use Rattle.its_stepped.proofs.Unwinding.UnwindLaws.{all_unwound_others}
use Rattle.its_stepped.proofs.Committing.HelpLaws.{helped_if_others}
use Rattle.its_stepped.proofs.Committing.EffectLaws.{effects_others}
use Rattle.its_stepped.proofs.Ticking.TickLaws.{told_quiet, seen_at, seen_none, Trying, trying_holding, trying_waiting, trying_acts}
use Rattle.its_plain.proofs.StepLaws.{transition_delivers}
use Rattle.its_stepped.proofs.Committing.CommitLaws.{Acts}

-- a call that has ended has four pending steps at most; then come entry, block, arguments,
-- preparation, and the four quarters of a page. After a part of a call the count begins anew
abbrev pub cleared : Option ℕ → ℕ
cleared (Some p) = p
cleared None = 0

abbrev pub bound : Option Frame → ℕ
bound None = 4
bound (Some (Entered f)) = 5
bound (Some (Parsed f)) = 6
bound (Some (Asked f)) = 7
bound (Some (Holding f)) = 8 + cleared f.page
bound (Some (Waiting f)) = 12
bound (Some (Moving f)) = 0
bound (Some (Ending f)) = 4 - length f.owed.items

-- the frame bounds how many `.` came since the last `*` or disturbance
pub record Dotted (d : Dots) (frames : ℕ → Option Frame) : Type 0 where
  pub each : (k : ℕ) → d k ≤ bound (frames k)

-- what a row of a tick does to the bounds: it is one more at its own slot for a `.`, and no less
-- for `w` and `-`; and the frames of slots that it does not disturb are as they were
abbrev pub OwnDots : Pace → ℕ → ℕ → Type 0
OwnDots Step b after = Unit {0}
OwnDots Work b after = b + 1 ≤ after
OwnDots Wait b after = b ≤ after
OwnDots Off b after = b ≤ after

abbrev pub Spared : Machine → ℕ → Pace → ℕ → Type 0
Spared m j Step k = disturbed m j k ≡ false
Spared m j _ k = Unit {0}

pub record RowDots (w : State) (j : ℕ) (t : Ticked) : Type 0 where
  pub own : OwnDots t.pace (bound (w.frames j)) (bound (t.state.frames j))
  pub others : (k : ℕ) → k ≢ j → Spared (plain w) j t.pace k → t.state.frames k ≡ w.frames k

-- a turn of the own slot
slot_works : (w v : State) (j : ℕ) (f g : Option Frame) → v.frames ≡ changed w.frames j g → w.frames j ≡ f → bound f + 1 ≤ bound g → RowDots w j (works v)
slot_works w v j f g e is h = record {
  own =
      let new : v.frames j ≡ g = ap (λ (fs : ℕ → Option Frame). fs j) e ∙ (changed_only w.frames j g).here in
      let b : bound (v.frames j) ≡ bound g = ap bound new in
      let c : bound (w.frames j) ≡ bound f = ap bound is in
      omega arith;
  others = λ k ne t. ap (λ (fs : ℕ → Option Frame). fs k) e ∙ (changed_only w.frames j g).others k ne;
}

slot_steps : (w v : State) (j : ℕ) (g : Option Frame) → ((k : ℕ) → k ≢ j → disturbed (plain w) j k ≡ false → v.frames k ≡ w.frames k)
    → RowDots w j (record { state = v; pace = Step })
slot_steps w v j g h = record { own = tt; others = h }

-- whom a step disturbs
pub disturbs_by : (m : Machine) (j k : ℕ) (o : Option Transition) → transition m j ≡ o → disturbed m j k ≡ among k (disturbs_in o)
unfolding disturbed
disturbs_by m j k o e = ap (λ (o : Option Transition). among k (disturbs_in o)) e

acted_disturbs : (m : Machine) (j : ℕ) (a : Ask) (ks : List ℕ) (d : Decision) → Acts d → disturbs_in (acted m j a ks d) ≡ ks
unfolding acted
acted_disturbs m j a ks (Waits r) t = absurd t
acted_disturbs m j a ks _ t = refl

-- user mode
unit_dots : (w : State) (j : ℕ) (o : Outcome) → w.frames j ≡ None → RowDots w j (unit_on w j o)
unit_dots w j (Changed c k) none = slot_steps w _ j None (λ i ne t. (changed_only w.frames j None).others i ne)
unit_dots w j (Faulted f) none = slot_steps w _ j None (λ i ne t. (changed_only w.frames j None).others i ne)
unit_dots w j (Called s) none = slot_works w _ j None (Some (entered s)) refl none (omega arith)

user_dots : (w : State) (j : ℕ) (q : Whole) (b : Bool) → Sound w → w.raw.jobs j ≡ Some q → q.job.stopped ≡ false → w.frames j ≡ None → deliverable q.job ≡ b
    → RowDots w j (user_on w j q b)
user_dots w j q false sound is runs none d = unit_dots w j (unit q.core q.job) none
user_dots w j q true sound is runs none d =
    let n = delivered q.core q.job in
    let ks = informed_slots n.stops q.superior in
    let cs = informs n.stops q.superior in
    let v = all_unwound ks w in
    slot_steps w _ j None (λ k ne t.
    (changed_only (effects_on cs j v).frames j None).others k ne
    ∙ (effects_others cs j v k (told_quiet w j n.stops q.superior sound) ne).frame
    ∙ (all_unwound_others ks w k
    (sym (disturbs_by (plain w) j k _ (transition_delivers (plain w) j q (seen_at w j q None is none ∙ ap Some (seen_none q)) runs d)) ∙ t)).frame)

-- the decoding
parsed_dots : (w : State) (j : ℕ) (s : Site) (f : Option Frame) (r : Result (List ℕ) Fault) → w.frames j ≡ f → bound f ≡ 5 → RowDots w j (parsed_on w j s r)
parsed_dots w j s f (Ok b) is e = slot_works w _ j f (Some (parsed s b)) refl is (omega arith)
parsed_dots w j s f (Err x) is e = slot_steps w _ j None (λ i ne t. (changed_only w.frames j None).others i ne)

fetched_dots : (w : State) (j : ℕ) (s : Site) (f : Option Frame) (r : Result Ask Fault) → w.frames j ≡ f → bound f ≡ 6 → RowDots w j (fetched_on w j s r)
fetched_dots w j s f (Ok a) is e = slot_works w _ j f (Some (asked s a)) refl is (omega arith)
fetched_dots w j s f (Err x) is e = slot_steps w _ j None (λ i ne t. (changed_only w.frames j None).others i ne)

prepared_dots : (w : State) (j : ℕ) (s : Site) (a : Ask) (f : Option Frame) (b : Bool) → w.frames j ≡ f → bound f ≡ 7
    → RowDots w j (works (after_preparation w j s a b))
prepared_dots w j s a f true is e = slot_works w _ j f (Some (holding s a (Some 0) 0)) refl is (omega arith)
prepared_dots w j s a f false is e = slot_works w _ j f (Some (holding s a None 0)) refl is (omega arith)

-- a call that is tried
found_others : (w : State) (j k : ℕ) (own : Whole) (a : Ask) → among k (reach (plain w) j own a) ≡ false → (with_preparation w j own a).frames k ≡ w.frames k
unfolding with_preparation
found_others w j k own a h =
    let u = all_unwound (reach (plain w) j own a) w in
    (helped_if_others (helps own a) u k).frame ∙ (all_unwound_others (reach (plain w) j own a) w k h).frame

pub trying_reach : (w : State) (j k : ℕ) (q : Whole) (s : Site) (a : Ask) (n : ℕ) (d : Decision) → Trying w j q s a n
    → decision (plain w) j (with_stores (debts a n) q) a ≡ d → Acts d
    → disturbed (plain w) j k ≡ among k (reach (plain w) j (with_stores (debts a n) q) a)
trying_reach w j k q s a n d t e acts =
    disturbs_by (plain w) j k _ (trying_acts w j q s a n d t e)
    ∙ ap (among k) (acted_disturbs (plain w) j a (reach (plain w) j (with_stores (debts a n) q) a) d acts)

decided_dots : (w v : State) (j : ℕ) (own : Whole) (s : Site) (a : Ask) (n : ℕ) (d : Decision) → Duty v j own s a n d
    → (Acts d → (k : ℕ) → k ≢ j → disturbed (plain w) j k ≡ false → v.frames k ≡ w.frames k) → bound (w.frames j) ≤ 12 → RowDots w j (tried w v j s a n d)
unfolding after_commit
decided_dots w v j own s a n (Waits r) duty h few = record {
  own = subst (λ (f : Option Frame). bound (w.frames j) ≤ bound f) (sym (changed_only w.frames j _).here) few;
  others = λ k ne t. (changed_only w.frames j _).others k ne;
}
decided_dots w v j own s a n (Goes cs b vs) duty h few =
    slot_steps w _ j None (λ k ne t. (changed_only (effects_on cs.items j v).frames j _).others k ne
    ∙ (effects_others cs.items j v k duty.quiet ne).frame ∙ h tt k ne t)
decided_dots w v j own s a n (Ends cs ss e) duty h few =
    slot_steps w _ j None (λ k ne t. (changed_only (effects_on cs.items j v).frames j _).others k ne
    ∙ (effects_others cs.items j v k duty.quiet ne).frame ∙ h tt k ne t)
decided_dots w v j own s a n (Gone cs) duty h few =
    slot_steps w _ j None (λ k ne t. (effects_others (changes.Remove j ∷ cs.items) j v k duty.quiet ne).frame ∙ h tt k ne t)

tried_dots : (w : State) (j : ℕ) (q : Whole) (s : Site) (a : Ask) (n : ℕ) → Trying w j q s a n → Meets w j (with_stores (debts a n) q) s a n
    → bound (w.frames j) ≤ 12
    → RowDots w j (tried_by w j (with_stores (debts a n) q) s a n)
tried_dots w j q s a n t m few =
    let own : Whole = with_stores (debts a n) q in
    let d : Decision = decision (plain w) j own a in
    decided_dots w (with_preparation w j own a) j own s a n d m.duty
    (λ acts k ne x. found_others w j k own a (sym (trying_reach w j k q s a n d t refl acts) ∙ x)) few

held_dots : (w : State) (j : ℕ) (q : Whole) (s : Site) (a : Ask) (page : Option ℕ) (n : ℕ) → Trying w j q s a n
    → (IsTried page → Meets w j (with_stores (debts a n) q) s a n)
    → w.frames j ≡ Some (holding s a page n) → bound (w.frames j) ≤ 12 → RowDots w j (held_on w j (with_stores (debts a n) q) s a page n)
held_dots w j q s a None n t m is few = tried_dots w j q s a n t (m tt) few
held_dots w j q s a (Some p) n t m is few = go (nat_lt p quarters) m
  where
    go : (b : Bool) → (b ≡ false → Meets w j (with_stores (debts a n) q) s a n)
        → RowDots w j (if b then works (reserving (with_slot w j same (Some (holding s a (Some (p + 1)) n))) j (Some (p + 1))) else tried_by
        w j (with_stores (debts a n) q) s a n)
    go true m = slot_works w _ j (Some (holding s a (Some p) n)) (Some (holding s a (Some (p + 1)) n)) refl is (omega arith)
    go false m = tried_dots w j q s a n t (m refl) few

-- unwinding: a call that has ended has fewer pending steps
due_few : (b : Bool) (os : List Owed) → length (due b os) ≤ length os
due_few true [] = omega arith
due_few false [] = omega arith
due_few true (o ∷ os) = omega arith
due_few false (owed.Unlink ∷ os) = let h = due_few false os in omega arith
due_few false (owed.Link ∷ os) = let h = due_few false os in omega arith
due_few false (owed.Free ∷ os) = let h = due_few false os in omega arith
due_few false (owed.Store a w ∷ os) = omega arith
due_few false (owed.GiveBack ∷ os) = omega arith
due_few false (owed.Leave e ∷ os) = omega arith

part_frames : (m : Option Mark) (w : State) → (with_part m w).frames ≡ w.frames
part_frames None w = refl
part_frames (Some m) w = go m.parts
  where
    go : (ps : List Part) → (with_part (Some (record m { parts = ps })) w).frames ≡ w.frames
    go [] = refl
    go (p ∷ ps) = refl

-- the frame after it: none, or that of fewer steps
pub record Shorter (w v : State) (j : ℕ) (most : ℕ) : Type 0 where
  pub frame : Option Frame
  pub is : v.frames ≡ changed w.frames j frame
  pub more : 4 - most + 1 ≤ bound frame

settled_frames : (w : State) (j : ℕ) (s : Site) (a : Ask) (os : List Owed) (most : ℕ) → length os ≤ most → 1 ≤ most → most ≤ 4
    → Shorter w (after_settling w j s a os) j most
settled_frames w j s a [] most h some few = record { frame = None; is = refl; more = omega arith }
settled_frames w j s a (owed.Store p v ∷ os) most h some few = record { frame = Some (ending s a os); is = refl; more = omega arith }
settled_frames w j s a (owed.GiveBack ∷ os) most h some few = record { frame = Some (ending s a os); is = refl; more = omega arith }
settled_frames w j s a (owed.Unlink ∷ os) most h some few = record { frame = Some (ending s a os); is = part_frames w.mark _; more = omega arith }
settled_frames w j s a (owed.Link ∷ os) most h some few = record { frame = Some (ending s a os); is = part_frames w.mark _; more = omega arith }
settled_frames w j s a (owed.Free ∷ os) most h some few = record { frame = Some (ending s a os); is = part_frames w.mark _; more = omega arith }
settled_frames w j s a (owed.Leave e ∷ os) most h some few = record { frame = None; is = refl; more = omega arith }

owes_some : (c : Core) (os : List Owed) → Owes c os → 1 ≤ length os
owes_some c [] h = absurd h
owes_some c (o ∷ os) h = omega arith

-- a job inside a call
frame_dots : (w : State) (j : ℕ) (q : Whole) (f : Frame) → Sound w → w.raw.jobs j ≡ Some q → w.frames j ≡ Some f
    → SoundFrame q f (w.reserved j) → GivenBy w j q (Some f)
    → bound (w.frames j) ≤ 12 → RowDots w j (tick_in w j q (Some f))
unfolding seen unwind_one
frame_dots w j q (Entered f) sound is fr h g few = parsed_dots w j f.site _ (parse q.core f.site) fr refl
frame_dots w j q (Parsed f) sound is fr h g few = fetched_dots w j f.site _ (fetch q.core f.site f.block.items) fr refl
frame_dots w j q (Asked f) sound is fr h g few = prepared_dots w j f.site f.ask _ (reserves f.ask) fr refl
frame_dots w j q (Holding f) sound is fr h g few = held_dots w j q f.site f.ask f.page f.owes (trying_holding w j q f is fr h) g fr few
frame_dots w j q (Waiting f) sound is fr h g few = tried_dots w j q f.site f.ask f.owes (trying_waiting w j q f is fr h) g few
frame_dots w j q (Moving f) sound is fr h g few =
    slot_works w (unwind_one w j) j (Some (Moving f)) (Some (holding f.site f.ask None 2))
    (ap (λ (o : Option Frame). (unwind_by w j o).frames) fr) fr (omega arith)
frame_dots w j q (Ending f) sound is fr h g few =
    let some = owes_some q.core f.owed.items h.pays.owes in
    let s = settled_frames w j f.site f.ask (due (mine w.mark j) f.owed.items) (length f.owed.items) (due_few (mine w.mark j) f.owed.items) some h.pays.few in
    slot_works w (unwind_one w j) j (Some (Ending f)) s.frame (ap (λ (o : Option Frame). (unwind_by w j o).frames) fr ∙ s.is) fr s.more

-- a bound is at most twelve
bound_frame : (q : Whole) (f : Frame) (r : Option ℕ) → SoundFrame q f r → bound (Some f) ≤ 12
bound_frame q (Holding f) r h = go f.page h.pays.paged
  where
    go : (o : Option ℕ) → IfSome o (Paged f.ask f.owes) → 8 + cleared o ≤ 12
    go None p = omega arith
    go (Some k) p = let m = p.most in omega arith
bound_frame q _ r h = omega arith

bound_by : (o : Option Whole) (f : Option Frame) (r : Option ℕ) → SoundBy o f r → bound f ≤ 12
bound_by None f r h = subst (λ (g : Option Frame). bound g ≤ 12) (sym h.0) (omega arith)
bound_by (Some q) None r h = omega arith
bound_by (Some q) (Some f) r h = bound_frame q f r h

pub bound_few : (w : State) (k : ℕ) → Sound w → bound (w.frames k) ≤ 12
bound_few w k s = bound_by (w.raw.jobs k) (w.frames k) (w.reserved k) (s.each k).by

-- a tick
off_dots : (w : State) (j : ℕ) → RowDots w j (off w)
off_dots w j = record { own = omega arith; others = λ k ne t. refl }

running_dots : (w : State) (j : ℕ) (q : Whole) (o : Option Frame) → Sound w → w.raw.jobs j ≡ Some q → q.job.stopped ≡ false → w.frames j ≡ o
    → SoundBy (Some q) o (w.reserved j) → GivenBy w j q o
    → RowDots w j (tick_in w j q o)
running_dots w j q None sound is runs fr h g = user_dots w j q (deliverable q.job) sound is runs fr refl
running_dots w j q (Some f) sound is runs fr h g = frame_dots w j q f sound is fr h g (bound_few w j sound)

unless_dots : (w : State) (j : ℕ) (q : Whole) (b : Bool) → Sound w → Given w j → w.raw.jobs j ≡ Some q → q.job.stopped ≡ b → RowDots w j (tick_unless w j q b)
unless_dots w j q true sound g is e = off_dots w j
unless_dots w j q false sound g is e =
    running_dots w j q (w.frames j) sound is e refl (subst (λ (o : Option Whole). SoundBy o (w.frames j) (w.reserved j)) is (sound.each j).by) (g.by q is)

slot_dots : (w : State) (j : ℕ) (o : Option Whole) → Sound w → Given w j → w.raw.jobs j ≡ o → RowDots w j (tick_of w j o)
slot_dots w j None sound g is = off_dots w j
slot_dots w j (Some q) sound g is = unless_dots w j q q.job.stopped sound g is refl

pub tick_dots : (w : State) (j : ℕ) → Sound w → Given w j → RowDots w j (tick w j)
unfolding tick
tick_dots w j sound g = slot_dots w j (w.raw.jobs j) sound g refl

-- the dots after it keep to the bounds
after_step : (m : Machine) (d : Dots) (j k b : ℕ) → (k ≢ j → disturbed m j k ≡ false → d k ≤ b) → dots_after m d j Step k ≤ b
after_step m d j k b h = elim (cases_eq k j) [
  | inl e ↦ rw (eq-eqb k j e) (omega arith)
  | inr ne ↦ rw (ne_eqb k j ne) (go (disturbed m j k) (makes m j k) (h ne))
]
  where
    go : (t u : Bool) → (t ≡ false → d k ≤ b) → (if t || u then 0 else d k) ≤ b
    go true u f = omega arith
    go false true f = omega arith
    go false false f = f refl

after_by : (w : State) (d : Dots) (j k : ℕ) (p : Pace) (v : State) → Dotted d w.frames → RowDots w j (record { state = v; pace = p })
    → dots_after (plain w) d j p k ≤ bound (v.frames k)
after_by w d j k Step v h r = after_step (plain w) d j k (bound (v.frames k))
    (λ ne t. subst (λ (f : Option Frame). d k ≤ bound f) (sym (r.others k ne t)) (h.each k))
after_by w d j k Work v h r = elim (cases_eq k j) [
  | inl e ↦ rw (eq-eqb k j e) (subst (λ (i : ℕ). d i + 1 ≤ bound (v.frames i)) (sym e) (let a = h.each j in let b = r.own in omega arith))
  | inr ne ↦ rw (ne_eqb k j ne) (subst (λ (f : Option Frame). d k ≤ bound f) (sym (r.others k ne tt)) (h.each k))
]
after_by w d j k Wait v h r = elim (cases_eq k j) [
  | inl e ↦ subst (λ (i : ℕ). d i ≤ bound (v.frames i)) (sym e) (let a = h.each j in let b = r.own in omega arith)
  | inr ne ↦ subst (λ (f : Option Frame). d k ≤ bound f) (sym (r.others k ne tt)) (h.each k)
]
after_by w d j k Off v h r = elim (cases_eq k j) [
  | inl e ↦ subst (λ (i : ℕ). d i ≤ bound (v.frames i)) (sym e) (let a = h.each j in let b = r.own in omega arith)
  | inr ne ↦ subst (λ (f : Option Frame). d k ≤ bound f) (sym (r.others k ne tt)) (h.each k)
]

pub tick_dotted : (w : State) (d : Dots) (j : ℕ) → Sound w → Given w j → Dotted d w.frames
    → Dotted (dots_after (plain w) d j (tick w j).pace) (tick w j).state.frames
tick_dotted w d j sound g h = record { each = λ k. after_by w d j k (tick w j).pace (tick w j).state h (tick_dots w j sound g) }

-- a `.` comes only if fewer than the most came
pub tick_few : (w : State) (d : Dots) (j : ℕ) → Sound w → Dotted d w.frames → d j < most_dots
tick_few w d j sound h = let a = h.each j in let b = bound_few w j sound in omega arith
