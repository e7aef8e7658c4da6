-- What a tick of one slot leaves of another.
use Rattle.std.specs.Prelude.{if◌then◌else◌, ◌≡◌, ◌≢◌, ℕ, ◌+◌, Bool, true, false, Option, Some, None, IfSome, List, [], ◌∷◌, ◌++◌, Result, Ok, Err, option_map, nat_lt, refl, ◌≤◌}
use Rattle.std.proofs.Common.{arith, sym, ◌∙◌, ap, subst, inl, inr}
use Rattle.std.proofs.lemmas.Bool.{cases_eq}
use Rattle.its_word.specs.ArrayVec.{ArrayVec}
use Rattle.its_word.specs.Core.{Core}
use Rattle.its_word.specs.declared.access.Fault.{Fault}
use Rattle.its_records.specs.declared.calls.Ask.{Ask}
use Rattle.its_records.specs.declared.calls.Pace.{Pace}
use Rattle.its_records.specs.declared.calls.Pace.TheVariants.{Step, Work, Wait, Off}
use Rattle.its_records.specs.declared.calls.Site.{Site}
use Rattle.its_word.specs.Stores.{stored}
use Rattle.its_frame.specs.declared.change.Change.{Change}
use Rattle.its_frame.specs.declared.change.Change.TheVariants as changes
use Rattle.its_frame.specs.declared.decision.Decision.{Decision}
use Rattle.its_frame.specs.declared.decision.Decision.TheVariants.{Waits, Goes, Ends, Gone}
use Rattle.its_frame.specs.declared.frame.Frame.{Frame}
use Rattle.its_frame.specs.declared.frame.Frame.TheVariants.{Entered, Parsed, Asked, Holding, Waiting, Moving, Ending}
use Rattle.its_plain.specs.Call.Arguments.{debts}
use Rattle.its_stepped.specs.TwoParts.{items_of, parse, fetch, parse_by}
use Rattle.its_plain.specs.Call.Step.{with_core_and_job, with_fault, informs, informed_slots, decision, among, disturbed}
use Rattle.its_plain.specs.Machine.Change.{superiors, with_inf, effect}
use Rattle.its_plain.specs.Call.Decide.{reach}
use Rattle.its_plain.specs.Call.Decode.{Shape, shaped, ask, ask_of, ask_by}
use Rattle.its_plain.specs.Call.Decode as decode
use Rattle.its_plain.specs.Unit.Interrupt.{deliverable, delivered}
use Rattle.its_plain.specs.Machine.{Whole, Machine}
use Rattle.its_plain.specs.Machine.Own.{with_stores}
use Rattle.its_plain.specs.Unit.{Outcome, Changed, Faulted, Called, unit}
use Rattle.its_plain.specs.Unit.Plans as plans
use Rattle.its_stepped.specs.Calling.{Calling}
use Rattle.its_stepped.specs.Commit.{effect_on, effects_on, after_commit}
use Rattle.its_stepped.specs.Duty.{Duty, IsTried, Meets, GivenBy, Given}
use Rattle.its_stepped.specs.Forest.{Forest}
use Rattle.its_stepped.specs.Quiet.{IsStill, AllQuiet}
use Rattle.its_stepped.specs.SlotSame.{SlotSame}
use Rattle.its_stepped.specs.Sound.{SoundFrame, SoundBy, Sound, Paged, most_owed}
use Rattle.its_stepped.specs.State.{State, plain, seen, with_slot, same, reserving, entered, parsed, asked, holding, waiting}
use Rattle.its_stepped.specs.Tick.{Ticked, after_help_if, works, helps, user_on, unit_on, parsed_on, fetched_on, after_preparation, reserves, with_preparation, tried, tried_by, quarters, held_on, tick_in, tick_unless, tick_of, tick}
use Rattle.its_stepped.specs.Unwind.{all_unwound}
use Rattle.its_stepped.proofs.Frame.DecodingLaws.{decoding}
use Rattle.its_stepped.proofs.Ticking.DotsLaws.{trying_reach, disturbs_by}
use Rattle.its_stepped.proofs.Committing.EffectLaws.{superiors_plain, effects_others}
use Rattle.its_stepped.proofs.Duties.FitLaws.{decision_fits}
use Rattle.its_stepped.proofs.Keeping.ForestLaws.{FitsAll}
use Rattle.its_stepped.proofs.Frame.FrameLaws.{changed_only, on_slot_other}
use Rattle.its_stepped.proofs.Duties.GivenLaws.{decision_duty, given}
use Rattle.its_stepped.proofs.Committing.HelpLaws.{helped_if_others}
use Rattle.its_stepped.proofs.Frame.OverLaws.{can_stored, debts_alike}
use Rattle.its_stepped.proofs.Frame.OwnLaws.{frames_none, reserved_none}
use Rattle.its_stepped.proofs.Ticking.SoundLaws.{tick_sound, page_none}
use Rattle.its_stepped.proofs.Ticking.TickLaws.{asks, seen_at, seen_none, found, Trying, trying_holding, trying_waiting, asks_none}
use Rattle.its_stepped.proofs.Unwinding.UnwindLaws.{slot_same, slot_then, unwind_others, all_unwound_none, all_unwound_others, among_not_first}
use Rattle.its_world.specs.World.{state_of}
use Rattle.its_world.specs.declared.world.World.{World}
use Rattle.its_tick.specs.Kept.{Kept}
use Rattle.its_tick.specs.Beside.{Unwound, Undisturbed, Beside, AllBeside}
use Rattle.its_tick.specs.Ticks.{ticked}
use Rattle.its_tick.proofs.SparedLaws.{effects_same, gone_same, InferiorOf, effects_inferior}
use Rattle.its_stepped.proofs.Frame.PageLaws.{owes_reserves_none}
use Rattle.its_stepped.proofs.Lining.StartLaws.{seen_none as seen_free}
use Rattle.its_plain.proofs.TracedLaws.{stops_answer}
use Rattle.its_stepped.proofs.Committing.CommitLaws.{Acts}
use Rattle.its_plain.proofs.StepLaws.{transition_delivers, transition_unit, transition_called}

-- an empty slot in a sound state has no frame and no page
empty_by : (o : Option Whole) (f : Option Frame) (r : Option ℕ) → SoundBy o f r → o ≡ None → (f ≡ None) × (r ≡ None)
empty_by None f r h e = h
empty_by (Some q) f r h e = cc

empty_slot : (w : State) (k : ℕ) → Sound w → w.raw.jobs k ≡ None → (w.frames k ≡ None) × (w.reserved k ≡ None)
empty_slot w k sound e = empty_by (w.raw.jobs k) (w.frames k) (w.reserved k) (sound.each k).by e

-- what a row of a tick of slot j leaves of slot k: with a `*`, a slot that is disturbed has no
-- frame
record Empty (v : State) (j k : ℕ) : Type 0 where
  frame : v.frames k ≡ None
  page : v.reserved k ≡ None
  inferior : InferiorOf j (v.raw.jobs k)

abbrev Spared : State → State → ℕ → ℕ → Option Whole → Type 0
Spared w v j k (Some q) = SlotSame w v k
Spared w v j k None = Empty v j k

record Steps (w v : State) (j k : ℕ) : Type 0 where
  spared : disturbed (plain w) j k ≡ false → Spared w v j k (w.raw.jobs k)
  free : disturbed (plain w) j k ≡ true → v.frames k ≡ None

abbrev Leaves : State → State → ℕ → ℕ → Pace → Type 0
Leaves w v j k Step = Steps w v j k
Leaves w v j k Work = SlotSame w v k
Leaves w v j k Wait = SlotSame w v k
Leaves w v j k Off = SlotSame w v k

abbrev Row : State → ℕ → ℕ → Ticked → Type 0
Row w j k t = Leaves w t.state j k t.pace

-- a turn of another slot, or of its page
slot_others : (w : State) (j k : ℕ) (h : Whole → Whole) (f : Option Frame) → k ≢ j → SlotSame w (with_slot w j h f) k
slot_others w j k h f ne = record { job = on_slot_other w.raw.jobs j k h ne; frame = (changed_only w.frames j f).others k ne; page = refl }

page_others : (w : State) (j k : ℕ) (h : Whole → Whole) (f : Option Frame) (r : Option ℕ) → k ≢ j → SlotSame w (reserving (with_slot w j h f) j r) k
page_others w j k h f r ne = record {
  job = on_slot_other w.raw.jobs j k h ne;
  frame = (changed_only w.frames j f).others k ne;
  page = (changed_only w.reserved j r).others k ne;
}

-- a slot that is as it was
no_inferior : (j : ℕ) (o : Option Whole) → o ≡ None → InferiorOf j o
no_inferior j o e = subst (InferiorOf j) (sym e) tt

same_spared : (w v : State) (j k : ℕ) → Sound w → SlotSame w v k → Spared w v j k (w.raw.jobs k)
same_spared w v j k sound s = go (w.raw.jobs k) refl
  where
    go : (o : Option Whole) → w.raw.jobs k ≡ o → Spared w v j k o
    go (Some q) at = s
    go None at =
        let empty = empty_slot w k sound at in
        record { frame = s.frame ∙ empty.0; page = s.page ∙ empty.1; inferior = no_inferior j (v.raw.jobs k) (s.job ∙ at) }

spared_then : (w v u : State) (j k : ℕ) (o : Option Whole) → Spared w v j k o → SlotSame v u k → Spared w u j k o
spared_then w v u j k (Some q) x s = slot_then w v u k x s
spared_then w v u j k None x s = record { frame = s.frame ∙ x.frame; page = s.page ∙ x.page; inferior = subst (InferiorOf j) (sym s.job) x.inferior }

-- a step that disturbs nobody, and one after which a slot stays
steps_alone : (w v : State) (j k : ℕ) → Sound w → disturbed (plain w) j k ≡ false → SlotSame w v k → Steps w v j k
steps_alone w v j k sound d s = record { spared = λ t. same_spared w v j k sound s; free = λ t. absurd cc }

steps_then : (w v u : State) (j k : ℕ) → Steps w v j k → SlotSame v u k → Steps w u j k
steps_then w v u j k h s = record {
  spared = λ t. spared_then w v u j k (w.raw.jobs k) (h.spared t) s;
  free = λ t. s.frame ∙ h.free t;
}

disturbs_fault : (m : Machine) (j k : ℕ) (q : Whole) (s : Site) (f : Fault) → m.jobs j ≡ Some q → q.job.stopped ≡ false
    → deliverable q.job ≡ false → unit q.core q.job ≡ Called s
    → ask q.core s ≡ Err f → disturbed m j k ≡ false
disturbs_fault m j k q s f is runs d u e = disturbs_by m j k _ (transition_called m j q s (Err f) is runs d u e)

-- user mode
unit_beside : (w : State) (j k : ℕ) (q : Whole) (o : Outcome) → k ≢ j → Sound w → w.raw.jobs j ≡ Some q → q.job.stopped ≡ false
    → w.frames j ≡ None → deliverable q.job ≡ false
    → unit q.core q.job ≡ o → Row w j k (unit_on w j o)
unit_beside w j k q (Changed c x) ne sound is runs none d u =
    steps_alone w _ j k sound (disturbs_by (plain w) j k _ (transition_unit (plain w) j q (Changed c x)
    (seen_at w j q None is none ∙ ap Some (seen_none q)) runs d u))
    (slot_others w j k (with_core_and_job c x) None ne)
unit_beside w j k q (Faulted f) ne sound is runs none d u =
    steps_alone w _ j k sound (disturbs_by (plain w) j k _ (transition_unit (plain w) j q (Faulted f)
    (seen_at w j q None is none ∙ ap Some (seen_none q)) runs d u))
    (slot_others w j k (with_fault f) None ne)
unit_beside w j k q (Called s) ne sound is runs none d u = slot_others w j k same (Some (entered s)) ne

informs_others : (b : Bool) (o : Option ℕ) (v : State) (j k : ℕ) → among k (informed_slots b o) ≡ false → SlotSame v (effects_on (informs b o) j v) k
unfolding effect_on effect
informs_others true (Some s) v j k h = record { job = on_slot_other v.raw.jobs s k with_inf (among_not_first s k [] h); frame = refl; page = refl }
informs_others true None v j k h = slot_same v k
informs_others false o v j k h = slot_same v k

user_beside : (w : State) (j k : ℕ) (q : Whole) (b : Bool) → k ≢ j → Sound w → w.raw.jobs j ≡ Some q → q.job.stopped ≡ false
    → w.frames j ≡ None → deliverable q.job ≡ b
    → Row w j k (user_on w j q b)
user_beside w j k q false ne sound is runs none d = unit_beside w j k q (unit q.core q.job) ne sound is runs none d refl
user_beside w j k q true ne sound is runs none d =
    let n = delivered q.core q.job in
    let ks : List ℕ = informed_slots n.stops q.superior in
    let cs : List Change = informs n.stops q.superior in
    let v : State = all_unwound ks w in
    let whom : disturbed (plain w) j k ≡ among k ks =
    disturbs_by (plain w) j k _ (transition_delivers (plain w) j q (seen_at w j q None is none ∙ ap Some (seen_none q)) runs d) in
    steps_then w (effects_on cs j v) _ j k
    (record {
      spared = λ t.
          same_spared w (effects_on cs j v) j k sound
          (slot_then w v (effects_on cs j v) k (all_unwound_others ks w k (sym whom ∙ t)) (informs_others n.stops q.superior v j k (sym whom ∙ t)));
      free = λ t. frames_none cs j v k (all_unwound_none ks w k sound (sym whom ∙ t));
    })
    (slot_others (effects_on cs j v) j k (with_core_and_job n.core n.job) None ne)

shaped_fails : (c : Core) (s : Site) (f : Fault) → (decode.parsed c s.e).answer ≡ Err f → (shaped c s).answer ≡ Err f
unfolding shaped
shaped_fails c s f e = stops_answer (decode.parsed c s.e) _ f e

asks_by : (c : Core) (s : Site) (f : Fault) (o : Option ℕ) → parse_by c s o ≡ Err f → ask_by c s o ≡ Err f
asks_by c s f (Some n) e = cc
asks_by c s f None e = ap (λ (r : Result Shape Fault). plans.given r (λ h. Ok (ask_of c (s.decode.items ++ (shaped c s).reads) h))) (shaped_fails c s f e)

items_fail : (r : Result (ArrayVec ℕ) Fault) (f : Fault) → items_of r ≡ Err f → r ≡ Err f
items_fail (Ok b) f e = cc
items_fail (Err g) f e = let is : g ≡ f = cc in ap Err is

parsed_beside : (w : State) (j k : ℕ) (q : Whole) (s : Site) (r : Result (List ℕ) Fault) → k ≢ j → Sound w → (plain w).jobs j ≡ Some q
    → q.job.stopped ≡ false → deliverable q.job ≡ false
    → unit q.core q.job ≡ Called s → parse q.core s ≡ r → Row w j k (parsed_on w j s r)
parsed_beside w j k q s (Ok b) ne sound is runs d u p = slot_others w j k same (Some (parsed s b)) ne
parsed_beside w j k q s (Err f) ne sound is runs d u p =
    steps_alone w _ j k sound (disturbs_fault (plain w) j k q s f is runs d u (asks_none q.core s f p)) (slot_others w j k (with_fault f) None ne)

fetched_beside : (w : State) (j k : ℕ) (q : Whole) (s : Site) (b : List ℕ) (r : Result Ask Fault) → k ≢ j → Sound w
    → (plain w).jobs j ≡ Some q → q.job.stopped ≡ false → deliverable q.job ≡ false
    → unit q.core q.job ≡ Called s → parse q.core s ≡ Ok b → fetch q.core s b ≡ r → Row w j k (fetched_on w j s r)
fetched_beside w j k q s b (Ok a) ne sound is runs d u p e = slot_others w j k same (Some (asked s a)) ne
fetched_beside w j k q s b (Err f) ne sound is runs d u p e =
    steps_alone w _ j k sound (disturbs_fault (plain w) j k q s f is runs d u (asks q.core s b (Err f) p e)) (slot_others w j k (with_fault f) None ne)

prepared_beside : (w : State) (j k : ℕ) (s : Site) (a : Ask) (b : Bool) → k ≢ j → SlotSame w (after_preparation w j s a b) k
prepared_beside w j k s a true ne = page_others w j k same (Some (holding s a (Some 0) 0)) (Some 0) ne
prepared_beside w j k s a false ne = slot_others w j k same (Some (holding s a None 0)) ne

-- a call does its duty in every state that it can find. In this one all jobs are inside a call
-- except for those that it reaches: so it changes none but these
abbrev crowd_by : Site → Bool → Option Whole → Option Frame
crowd_by s false (Some q) = Some (entered s)
crowd_by s false None = None
crowd_by s true o = None

abbrev crowd : Machine → List ℕ → Site → ℕ → Option Frame
crowd m ks s i = crowd_by s (among i ks) (m.jobs i)

-- a page is reserved if the call reserves one
abbrev crowd_page : Bool → Option ℕ
crowd_page true = Some quarters
crowd_page false = None

abbrev crowded : State → Machine → List ℕ → Site → Ask → State
crowded v m ks s a = record { raw = v.raw; frames = crowd m ks s; reserved = λ i. crowd_page (reserves a); mark = None }

crowd_paged : (a : Ask) (n : ℕ) (b : Bool) → n ≤ most_owed a → reserves a ≡ b → IfSome (crowd_page b) (Paged a n)
crowd_paged a n false few e = tt
crowd_paged a n true few e = record {
  most = omega arith;
  reserves = e;
  owes = elim (cases_eq n 0) [
    | inl z ↦ z
    | inr ne ↦ let none : reserves a ≡ false = owes_reserves_none a n (omega arith) few in cc
  ];
}

crowd_none : (s : Site) (b : Bool) (o : Option Whole) → o ≡ None → crowd_by s b o ≡ None
crowd_none s true o e = refl
crowd_none s false None e = refl
crowd_none s false (Some q) e = cc

crowd_some : (m : Machine) (ks : List ℕ) (s : Site) (i : ℕ) (q : Whole) → among i ks ≡ false → m.jobs i ≡ Some q → crowd m ks s i ≡ Some (entered s)
crowd_some m ks s i q apart at = (λ t. crowd_by s (apart t) (at t))

calling_crowded : (w : State) (j : ℕ) (q : Whole) (s : Site) (a : Ask) (n : ℕ) → Sound w → Forest (plain w) → Trying w j q s a n
    → Meets w j (with_stores (debts a n) q) s a n
    → (plain w).jobs j ≡ Some (with_stores (debts a n) q)
    → Calling (plain w) (crowded (with_preparation w j (with_stores (debts a n) q) a) (plain w)
    (reach (plain w) j (with_stores (debts a n) q) a) s a) j (with_stores (debts a n) q) s a n
calling_crowded w j q s a n sound forest t m here =
    let own : Whole = with_stores (debts a n) q in
    let v : State = with_preparation w j own a in
    let f = found w j own a sound m.apart in
    record {
      stands = t.stands;
      fetched = decoding.fetched (stored q.core (debts a n)) q.job s a t.stands;
      debts = debts_alike q.core (stored q.core (debts a n)) a n (λ p. can_stored q.core (debts a n) p) t.here.debts;
      page = crowd_paged a n (reserves a) t.here.debts.few refl;
      still = λ z. subst IsStill (sym (crowd_some (plain w) (reach (plain w) j own a) s j own m.apart here)) tt;
      reached = λ k h. ap (λ (b : Bool). crowd_by s b ((plain w).jobs k)) h;
      apart = m.apart;
      here = here;
      tree = λ k. ap (λ (sup : ℕ → Option ℕ). sup k) (sym (superiors_plain v)) ∙ ap (λ (x : Machine). superiors x k) f.plain;
      forest = forest;
      empty = λ k e. crowd_none s (among k (reach (plain w) j own a)) ((plain w).jobs k) e;
      unmarked = λ e. refl;
      full = λ e. ap crowd_page e;
    }

-- the changes of a call, on slot k that its commit finds in v as it is in w if it is not disturbed:
-- one with a job has a frame in u then, which has the same raw machine
record Finds (w v u : State) (j k : ℕ) (s : Site) : Type 0 where
  same : disturbed (plain w) j k ≡ false → SlotSame w v k
  inside : disturbed (plain w) j k ≡ false → (q : Whole) → w.raw.jobs k ≡ Some q → u.frames k ≡ Some (entered s)
  free : disturbed (plain w) j k ≡ true → v.frames k ≡ None

changes_beside : (w v u : State) (j k : ℕ) (s : Site) (cs : List Change) → k ≢ j → Sound w → AllQuiet cs j v → Finds w v u j k s
    → (u.frames k ≡ Some (entered s) → (effects_on cs j v).raw.jobs k ≡ v.raw.jobs k) → Steps w (effects_on cs j v) j k
changes_beside w v u j k s cs ne sound quiet h stays = record {
  spared = λ t. go t (w.raw.jobs k) refl;
  free = λ t. frames_none cs j v k (h.free t);
}
  where
    go : disturbed (plain w) j k ≡ false → (o : Option Whole) → w.raw.jobs k ≡ o → Spared w (effects_on cs j v) j k o
    go t (Some q) at =
        let x = h.same t in
        let y = effects_others cs j v k quiet ne in
        record { job = stays (h.inside t q at) ∙ x.job; frame = y.frame ∙ x.frame; page = y.page ∙ x.page }
    go t None at =
        let x = h.same t in
        let empty = empty_slot w k sound at in
        record {
          frame = frames_none cs j v k (x.frame ∙ empty.0);
          page = reserved_none cs j v k (x.page ∙ empty.1);
          inferior = effects_inferior cs j v k (no_inferior j (v.raw.jobs k) (x.job ∙ at));
        }

decided_beside : (w v u : State) (j k : ℕ) (own : Whole) (s : Site) (a : Ask) (n : ℕ) (d : Decision) → k ≢ j → Sound w
    → Duty v j own s a n d → Duty u j own s a n d → FitsAll d j (plain v) → Forest (plain v)
    → u.raw ≡ v.raw → (Acts d → Finds w v u j k s) → Row w j k (tried w v j s a n d)
unfolding after_commit
decided_beside w v u j k own s a n (Waits r) ne sound dv du fits forest e h = slot_others w j k same (Some (waiting s a n)) ne
decided_beside w v u j k own s a n (Goes cs b vs) ne sound dv du fits forest e h =
    steps_then w (effects_on cs.items j v) _ j k
    (changes_beside w v u j k s cs.items ne sound dv.quiet (h tt) (λ fr. effects_same cs.items j u v k (entered s) du.quiet dv.quiet fits forest e ne fr))
    (slot_others (effects_on cs.items j v) j k same _ ne)
decided_beside w v u j k own s a n (Ends cs ss x) ne sound dv du fits forest e h =
    steps_then w (effects_on cs.items j v) _ j k
    (changes_beside w v u j k s cs.items ne sound dv.quiet (h tt) (λ fr. effects_same cs.items j u v k (entered s) du.quiet dv.quiet fits forest e ne fr))
    (slot_others (effects_on cs.items j v) j k same _ ne)
decided_beside w v u j k own s a n (Gone cs) ne sound dv du fits forest e h =
    changes_beside w v u j k s (changes.Remove j ∷ cs.items) ne sound dv.quiet (h tt)
    (λ fr. gone_same cs.items j u v k (entered s) du.quiet dv.quiet fits.0 fits.1 forest e ne fr)

-- what its commit finds of another slot
found_others : (w : State) (j k : ℕ) (own : Whole) (a : Ask) → among k (reach (plain w) j own a) ≡ false → SlotSame w (with_preparation w j own a) k
unfolding with_preparation
found_others w j k own a h =
    let u : State = all_unwound (reach (plain w) j own a) w in
    slot_then w u (after_help_if (helps own a) u) k (all_unwound_others (reach (plain w) j own a) w k h) (helped_if_others (helps own a) u k)

found_free : (w : State) (j k : ℕ) (own : Whole) (a : Ask) → Sound w → among k (reach (plain w) j own a) ≡ true → (with_preparation w j own a).frames k ≡ None
unfolding with_preparation
found_free w j k own a sound h =
    let u : State = all_unwound (reach (plain w) j own a) w in
    (helped_if_others (helps own a) u k).frame ∙ all_unwound_none (reach (plain w) j own a) w k sound h

tried_beside : (w : State) (j k : ℕ) (q : Whole) (s : Site) (a : Ask) (n : ℕ) → k ≢ j → Sound w → Forest (plain w) → Trying w j q s a n
    → Meets w j (with_stores (debts a n) q) s a n → Row w j k (tried_by w j (with_stores (debts a n) q) s a n)
tried_beside w j k q s a n ne sound forest t m =
    let own : Whole = with_stores (debts a n) q in
    let v : State = with_preparation w j own a in
    let ks : List ℕ = reach (plain w) j own a in
    let u : State = crowded v (plain w) ks s a in
    let d : Decision = decision (plain w) j own a in
    let whom : Acts d → disturbed (plain w) j k ≡ among k ks = trying_reach w j k q s a n d t refl in
    let here : (plain w).jobs j ≡ Some own = seen_at w j q (w.frames j) t.here.job_is refl ∙ ap Some (t.here.seen_is q) in
    let shows : plain v ≡ plain w = (found w j own a sound m.apart).plain in
    decided_beside w v u j k own s a n d ne sound m.duty
    (decision_duty decoding (plain w) u j own s a n (calling_crowded w j q s a n sound forest t m here))
    (subst (FitsAll d j) (sym shows) (decision_fits (plain w) j own a forest here)) (subst Forest (sym shows) forest) refl
    (λ acts. record {
      same = λ x. found_others w j k own a (sym (whom acts) ∙ x);
      inside = λ x p at. crowd_some (plain w) ks s k (seen (w.frames k) p) (sym (whom acts) ∙ x) (seen_at w k p (w.frames k) at refl);
      free = λ x. found_free w j k own a sound (sym (whom acts) ∙ x);
    })

held_beside : (w : State) (j k : ℕ) (q : Whole) (s : Site) (a : Ask) (page : Option ℕ) (n : ℕ) → k ≢ j → Sound w → Forest (plain w) → Trying w j q s a n
    → (IsTried page → Meets w j (with_stores (debts a n) q) s a n) → Row w j k (held_on w j (with_stores (debts a n) q) s a page n)
held_beside w j k q s a None n ne sound forest t m = tried_beside w j k q s a n ne sound forest t (m tt)
held_beside w j k q s a (Some p) n ne sound forest t m = go (nat_lt p quarters) refl
  where
    go : (b : Bool) → nat_lt p quarters ≡ b → Row w j k (if b then works
        (reserving (with_slot w j same (Some (holding s a (Some (p + 1)) n))) j (Some (p + 1))) else tried_by w j (with_stores (debts a n) q) s a n)
    go true e = page_others w j k same (Some (holding s a (Some (p + 1)) n)) (Some (p + 1)) ne
    go false e = tried_beside w j k q s a n ne sound forest t (m e)

-- a job inside a call
frame_beside : (w : State) (j k : ℕ) (q : Whole) (f : Frame) → k ≢ j → Sound w → Forest (plain w) → w.raw.jobs j ≡ Some q
    → w.frames j ≡ Some f → SoundFrame q f (w.reserved j)
    → GivenBy w j q (Some f) → Row w j k (tick_in w j q (Some f))
unfolding seen
frame_beside w j k q (Entered f) ne sound forest is fr h g =
    parsed_beside w j k q f.site (parse q.core f.site) ne sound (seen_at w j q (Some (Entered f)) is fr) h.runs h.quiet h.standing refl
frame_beside w j k q (Parsed f) ne sound forest is fr h g =
    fetched_beside w j k q f.site f.block.items (fetch q.core f.site f.block.items) ne sound (seen_at w j q (Some (Parsed f)) is fr) h.runs
    h.quiet h.standing.0 h.standing.1 refl
frame_beside w j k q (Asked f) ne sound forest is fr h g = prepared_beside w j k f.site f.ask (reserves f.ask) ne
frame_beside w j k q (Holding f) ne sound forest is fr h g =
    held_beside w j k q f.site f.ask f.page f.owes ne sound forest (trying_holding w j q f is fr h) g
frame_beside w j k q (Waiting f) ne sound forest is fr h g =
    tried_beside w j k q f.site f.ask f.owes ne sound forest (trying_waiting w j q f is fr h) g
frame_beside w j k q (Moving f) ne sound forest is fr h g = unwind_others w j k ne
frame_beside w j k q (Ending f) ne sound forest is fr h g = unwind_others w j k ne

-- a tick
running_beside : (w : State) (j k : ℕ) (q : Whole) (o : Option Frame) → k ≢ j → Sound w → Forest (plain w) → w.raw.jobs j ≡ Some q
    → q.job.stopped ≡ false → w.frames j ≡ o
    → SoundBy (Some q) o (w.reserved j)
    → GivenBy w j q o → Row w j k (tick_in w j q o)
running_beside w j k q None ne sound forest is runs fr h g = user_beside w j k q (deliverable q.job) ne sound is runs fr refl
running_beside w j k q (Some f) ne sound forest is runs fr h g = frame_beside w j k q f ne sound forest is fr h g

unless_beside : (w : State) (j k : ℕ) (q : Whole) (b : Bool) → k ≢ j → Sound w → Forest (plain w) → Given w j → w.raw.jobs j ≡ Some q → q.job.stopped ≡ b
    → Row w j k (tick_unless w j q b)
unless_beside w j k q true ne sound forest g is e = slot_same w k
unless_beside w j k q false ne sound forest g is e =
    running_beside w j k q (w.frames j) ne sound forest is e refl
    (subst (λ (o : Option Whole). SoundBy o (w.frames j) (w.reserved j)) is (sound.each j).by) (g.by q is)

slot_beside : (w : State) (j k : ℕ) (o : Option Whole) → k ≢ j → Sound w → Forest (plain w) → Given w j → w.raw.jobs j ≡ o → Row w j k (tick_of w j o)
slot_beside w j k None ne sound forest g is = slot_same w k
slot_beside w j k (Some q) ne sound forest g is = unless_beside w j k q q.job.stopped ne sound forest g is refl

tick_row : (w : State) (j k : ℕ) → k ≢ j → Sound w → Forest (plain w) → Given w j → Row w j k (tick w j)
unfolding tick
tick_row w j k ne sound forest g = slot_beside w j k (w.raw.jobs j) ne sound forest g refl

raw_free : (v : State) (k : ℕ) → v.frames k ≡ None → v.raw.jobs k ≡ (plain v).jobs k
unfolding plain
raw_free v k none = sym (ap (λ (f : Option Frame). option_map (seen f) (v.raw.jobs k)) none ∙ seen_free (v.raw.jobs k))

free_unwound : (v : State) (k : ℕ) → Sound v → v.frames k ≡ None → Unwound v k
free_unwound v k sound none = record {
  frame = none;
  page = page_none (v.raw.jobs k) (v.frames k) (v.reserved k) (sound.each k).by none;
  job = raw_free v k none;
}

spared_undisturbed : (w v : State) (j k : ℕ) (o : Option Whole) → Sound v → Spared w v j k o → Undisturbed w v j k o
spared_undisturbed w v j k (Some q) sound h = h
spared_undisturbed w v j k None sound h = record { unwound = free_unwound v k sound h.frame; inferior = h.inferior }

by_letter : (w v : State) (j k : ℕ) (p : Pace) → Sound v → Leaves w v j k p → Beside w v j k p
by_letter w v j k Step sound h = (λ t. spared_undisturbed w v j k (w.raw.jobs k) sound (h.spared t), λ t. free_unwound v k sound (h.free t))
by_letter w v j k _ sound h = h

pub tick_beside : (w : State) (j k : ℕ) → Sound w → Forest (plain w) → k ≢ j → Beside w (tick w j).state j k (tick w j).pace
tick_beside w j k sound forest ne =
    let g : Given w j = given decoding w j forest sound in
    by_letter w (tick w j).state j k (tick w j).pace (tick_sound w j sound g) (tick_row w j k ne sound forest g)

-- the same of worlds
pub beside_ticked : (old new : World) (s : ℕ) (p : Pace) → Kept old → tick (state_of old) s ≡ ticked (state_of new) p → (k : ℕ) → k ≢ s
    → Beside (state_of old) (state_of new) s k p
beside_ticked old new s p kept e k ne =
    subst (λ (t : Ticked). Beside (state_of old) t.state s k t.pace) e (tick_beside (state_of old) s k kept.sound kept.forest ne)

-- of all other slots
pub all_beside : (old new : World) (s : ℕ) (p : Pace) → Kept old → tick (state_of old) s ≡ ticked (state_of new) p
    → AllBeside (state_of old) (state_of new) s p
all_beside old new s p kept e = record { each = λ k ne. beside_ticked old new s p kept e k ne }
