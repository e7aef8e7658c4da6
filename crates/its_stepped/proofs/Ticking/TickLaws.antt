-- A tick, seen as a plain machine, is licensed by its letter.
use Rattle.std.specs.Prelude.{if◌then◌else◌, ◌≡◌, ℕ, ◌+◌, Bool, true, false, Option, Some, None, List, [], Result, Ok, Err, option_map, nat_lt, refl, is_some}
use Rattle.std.proofs.Common.{sym, ◌∙◌, ap, subst}
use Rattle.its_word.specs.Core.{Core}
use Rattle.its_word.specs.declared.access.Fault.{Fault}
use Rattle.its_records.specs.declared.calls.Ask.{Ask}
use Rattle.its_records.specs.declared.calls.Site.{Site}
use Rattle.its_frame.specs.declared.decision.Decision.{Decision}
use Rattle.its_frame.specs.declared.decision.Decision.TheVariants.{Waits, Goes, Ends, Gone}
use Rattle.its_frame.specs.declared.decision.Wait
use Rattle.its_frame.specs.declared.frame.Frame.{Frame}
use Rattle.its_frame.specs.declared.frame.Holding
use Rattle.its_frame.specs.declared.frame.Waiting
use Rattle.its_frame.specs.declared.frame.Frame.TheVariants.{Entered, Parsed, Asked, Holding, Waiting, Moving, Ending}
use Rattle.its_stepped.specs.TwoParts.{parse, fetch}
use Rattle.its_plain.specs.Call.Decode.{ask}
use Rattle.its_plain.specs.Call.Arguments.{debts}
use Rattle.its_plain.specs.Call.Step.{with_core_and_job, with_fault, informs, informed_slots, delivery, acted, decision, step, among, Transition, transition}
use Rattle.its_plain.specs.Machine.Change.{in_job, effects}
use Rattle.its_plain.specs.Call.Decide.{reach}
use Rattle.its_plain.specs.Unit.Interrupt.{Delivered, deliverable, delivered}
use Rattle.its_plain.specs.Machine.{Whole, Machine}
use Rattle.its_plain.specs.Machine.Own.{with_stores}
use Rattle.its_plain.specs.Transcript.Licence.{IsRunning, IsOff, Licensed}
use Rattle.its_plain.specs.Unit.{Outcome, Changed, Faulted, Called, unit}
use Rattle.its_word.specs.Stores.{stored}
use Rattle.its_plain.specs.Unit.Plans.{given}
use Rattle.its_stepped.proofs.Frame.TwoLaws.{in_two}
use Rattle.its_stepped.specs.State.{State, plain, seen, with_slot, same, reserving, entered, parsed, asked, holding, waiting}
use Rattle.its_stepped.specs.Unwind.{all_unwound, unwind_one}
use Rattle.its_stepped.specs.Commit.{effects_on, after_commit}
use Rattle.its_stepped.specs.Tick.{Ticked, after_help_if, works, after_delivery, user_on, unit_on, parsed_on, fetched_on, after_preparation, reserves, helps, with_preparation, tried, tried_by, quarters, held_on, tick_in, tick_unless, tick_of, tick}
use Rattle.its_stepped.specs.Sound.{Stands, parts_in_frame, SoundFrame, SoundBy, Sound}
use Rattle.its_stepped.specs.Quiet.{IsStill, AllQuiet}
use Rattle.its_stepped.specs.Duty.{Duty, Meets, GivenBy, Given, IsTried}
use Rattle.its_stepped.proofs.Frame.FrameLaws.{seen_stopped, stores_none, turned}
use Rattle.its_stepped.proofs.Frame.DebtLaws.{debts_none}
use Rattle.its_stepped.proofs.Frame.PageLaws.{waits_reserves_none}
use Rattle.its_stepped.specs.SlotSame.{SlotSame}
use Rattle.its_stepped.proofs.Unwinding.UnwindLaws.{slot_then, unwind_plain, all_unwound_plain, all_unwound_sound, all_unwound_keeps, all_unwound_none, all_unwound_others, among_first}
use Rattle.its_stepped.proofs.Committing.HelpLaws.{helped_if_plain, helped_if_sound, helped_if_others}
use Rattle.its_stepped.proofs.Frame.OwnLaws.{frames_none}
use Rattle.its_stepped.proofs.Committing.CommitLaws.{Here, Acts, waits_plain, committed_plain}
use Rattle.its_stepped.proofs.Committing.EffectLaws.{effects_plain}
use Rattle.its_stepped.proofs.Unwinding.RowLaws.{same_job}
use Rattle.its_plain.proofs.StepLaws.{transition_delivers, transition_unit, transition_called, step_by}

-- a job that runs is seen to run
pub seen_at : (w : State) (j : ℕ) (q : Whole) (f : Option Frame) → w.raw.jobs j ≡ Some q → w.frames j ≡ f → (plain w).jobs j ≡ Some (seen f q)
unfolding plain
seen_at w j q f is fr = ap (option_map (seen (w.frames j))) is ∙ ap (λ (o : Option Frame). Some (seen o q)) fr

running_at : (o : Option Whole) (q : Whole) → o ≡ Some q → q.job.stopped ≡ false → IsRunning o
running_at o q is h = subst IsRunning (sym is) h

pub plain_runs : (w : State) (j : ℕ) (q : Whole) → w.raw.jobs j ≡ Some q → q.job.stopped ≡ false → IsRunning ((plain w).jobs j)
plain_runs w j q is runs = running_at _ (seen (w.frames j) q) (seen_at w j q (w.frames j) is refl) (seen_stopped (w.frames j) q ∙ runs)

off_at : (o : Option Whole) (q : Whole) → o ≡ Some q → q.job.stopped ≡ true → IsOff o
off_at o q is h = subst IsOff (sym is) h

plain_off : (w : State) (j : ℕ) (q : Whole) → w.raw.jobs j ≡ Some q → q.job.stopped ≡ true → IsOff ((plain w).jobs j)
plain_off w j q is h = off_at _ (seen (w.frames j) q) (seen_at w j q (w.frames j) is refl) (seen_stopped (w.frames j) q ∙ h)

plain_empty : (w : State) (j : ℕ) → w.raw.jobs j ≡ None → IsOff ((plain w).jobs j)
unfolding plain
plain_empty w j is = subst IsOff (sym (ap (option_map (seen (w.frames j))) is)) tt

-- a frame that shows the same job
still : (w : State) (j : ℕ) (f : Option Frame) → ((p : Whole) → seen f p ≡ seen (w.frames j) p) → plain (with_slot w j same f) ≡ plain w
still w j f h = turned w j same same f (λ p e. h p) ∙ same_job (plain w) j

-- a job whose frame has nothing pending is seen as it is
abbrev pub AsIs : State → ℕ → Type 0
AsIs w j = (p : Whole) → seen (w.frames j) p ≡ p

as_is : (w : State) (j : ℕ) (f : Option Frame) → w.frames j ≡ f → ((p : Whole) → seen f p ≡ p) → AsIs w j
as_is w j f e h p = ap (λ (o : Option Frame). seen o p) e ∙ h p

pub seen_none : (p : Whole) → seen None p ≡ p
unfolding seen
seen_none p = refl

pub seen_entered : (s : Site) (p : Whole) → seen (Some (entered s)) p ≡ p
unfolding seen
seen_entered s p = refl

seen_parsed : (s : Site) (b : List ℕ) (p : Whole) → seen (Some (parsed s b)) p ≡ p
unfolding seen
seen_parsed s b p = refl

seen_asked : (s : Site) (a : Ask) (p : Whole) → seen (Some (asked s a)) p ≡ p
unfolding seen
seen_asked s a p = refl

seen_holding : (s : Site) (a : Ask) (page : Option ℕ) (n : ℕ) (p : Whole) → seen (Some (holding s a page n)) p ≡ with_stores (debts a n) p
unfolding seen
seen_holding s a page n p = refl

seen_waiting : (s : Site) (a : Ask) (n : ℕ) (p : Whole) → seen (Some (waiting s a n)) p ≡ with_stores (debts a n) p
unfolding seen
seen_waiting s a n p = refl

pub seen_held : (s : Site) (a : Ask) (page : Option ℕ) (p : Whole) → seen (Some (holding s a page 0)) p ≡ p
seen_held s a page p = seen_holding s a page 0 p ∙ ap (λ ss. with_stores ss p) (debts_none a) ∙ stores_none p

-- user mode: a job that changes, or faults
becomes_plain : (w : State) (j : ℕ) (h : Whole → Whole) → AsIs w j → plain (with_slot w j h None) ≡ in_job (plain w) j h
becomes_plain w j h e = turned w j h h None (λ p is. seen_none (h p) ∙ ap h (sym (e p)))

-- what a row of a tick shows: its letter is licensed
abbrev pub RowIs : State → ℕ → Ticked → Type 0
RowIs w j t = Licensed (plain w) j t.pace (plain t.state)

works_is : (w v : State) (j : ℕ) (q : Whole) → w.raw.jobs j ≡ Some q → q.job.stopped ≡ false → plain v ≡ plain w → RowIs w j (works v)
works_is w v j q is runs e = (plain_runs w j q is runs, e)

reserving_plain : (w : State) (j : ℕ) (r : Option ℕ) → plain (reserving w j r) ≡ plain w
unfolding plain
reserving_plain w j r = refl

-- a delivery: the superior that gets the report is unwound first
informs_quiet : (v : State) (j : ℕ) (b : Bool) (o : Option ℕ) → ((s : ℕ) → among s (informed_slots b o) ≡ true → v.frames s ≡ None)
    → AllQuiet (informs b o) j v
informs_quiet v j true (Some s) h = (record { still = subst IsStill (sym (h s (among_first s []))) tt; other = λ ne. h s (among_first s []) }, tt)
informs_quiet v j true None h = tt
informs_quiet v j false o h = tt

pub told_quiet : (w : State) (j : ℕ) (b : Bool) (o : Option ℕ) → Sound w → AllQuiet (informs b o) j (all_unwound (informed_slots b o) w)
told_quiet w j b o sound = informs_quiet (all_unwound (informed_slots b o) w) j b o (λ s h. all_unwound_none (informed_slots b o) w s sound h)

delivered_plain : (w : State) (j : ℕ) (q : Whole) (d : Delivered) → Sound w → w.frames j ≡ None
    → plain (after_delivery w j q d) ≡ (delivery (plain w) j q d).machine
delivered_plain w j q d sound none =
    let ks = informed_slots d.stops q.superior in
    let cs = informs d.stops q.superior in
    let v = all_unwound ks w in
    let here : (effects_on cs j v).frames j ≡ None = frames_none cs j v j (all_unwound_keeps ks w j sound none) in
    becomes_plain (effects_on cs j v) j (with_core_and_job d.core d.job) (as_is (effects_on cs j v) j None here seen_none)
    ∙ ap (λ (m : Machine). in_job m j (with_core_and_job d.core d.job))
    (effects_plain cs j v (told_quiet w j d.stops q.superior sound) ∙ ap (effects cs j) (all_unwound_plain ks w sound))

unit_is : (w : State) (j : ℕ) (q : Whole) (o : Outcome) → w.raw.jobs j ≡ Some q → q.job.stopped ≡ false → deliverable q.job ≡ false
    → w.frames j ≡ None → unit q.core q.job ≡ o
    → RowIs w j (unit_on w j o)
unit_is w j q (Changed c k) is runs quiet none u =
    step_by (plain w) j _ (transition_unit (plain w) j q _ (seen_at w j q None is none ∙ ap Some (seen_none q)) runs quiet u)
    ∙ ap Some (sym (becomes_plain w j (with_core_and_job c k) (as_is w j None none seen_none)))
unit_is w j q (Faulted f) is runs quiet none u =
    step_by (plain w) j _ (transition_unit (plain w) j q _ (seen_at w j q None is none ∙ ap Some (seen_none q)) runs quiet u)
    ∙ ap Some (sym (becomes_plain w j (with_fault f) (as_is w j None none seen_none)))
unit_is w j q (Called s) is runs quiet none u =
    works_is w _ j q is runs (still w j (Some (entered s)) (λ p. seen_entered s p ∙ sym (as_is w j None none seen_none p)))

user_is : (w : State) (j : ℕ) (q : Whole) (b : Bool) → Sound w → w.raw.jobs j ≡ Some q → q.job.stopped ≡ false → w.frames j ≡ None
    → deliverable q.job ≡ b → RowIs w j (user_on w j q b)
user_is w j q true sound is runs none d =
    step_by (plain w) j _ (transition_delivers (plain w) j q (seen_at w j q None is none ∙ ap Some (seen_none q)) runs d)
    ∙ ap Some (sym (delivered_plain w j q (delivered q.core q.job) sound none))
user_is w j q false sound is runs none d = unit_is w j q (unit q.core q.job) is runs d none refl

-- the decoding
pub asks_none : (c : Core) (s : Site) (f : Fault) → parse c s ≡ Err f → ask c s ≡ Err f
asks_none c s f e = in_two c s ∙ ap (λ r. given r (λ b. fetch c s b)) e

pub asks : (c : Core) (s : Site) (b : List ℕ) (r : Result Ask Fault) → parse c s ≡ Ok b → fetch c s b ≡ r → ask c s ≡ r
asks c s b r e f = in_two c s ∙ ap (λ r. given r (λ b. fetch c s b)) e ∙ f

fault_is : (w : State) (j : ℕ) (q : Whole) (s : Site) (f : Fault) → w.raw.jobs j ≡ Some q → q.job.stopped ≡ false → deliverable q.job ≡ false → AsIs w j
    → unit q.core q.job ≡ Called s → ask q.core s ≡ Err f → step (plain w) j ≡ Some (plain (with_slot w j (with_fault f) None))
fault_is w j q s f is runs quiet e u a =
    step_by (plain w) j _ (transition_called (plain w) j q s (Err f) (seen_at w j q (w.frames j) is refl ∙ ap Some (e q)) runs quiet u a)
    ∙ ap Some (sym (becomes_plain w j (with_fault f) e))

parsed_is : (w : State) (j : ℕ) (q : Whole) (s : Site) (r : Result (List ℕ) Fault) → w.raw.jobs j ≡ Some q → q.job.stopped ≡ false
    → deliverable q.job ≡ false → AsIs w j
    → unit q.core q.job ≡ Called s → parse q.core s ≡ r → RowIs w j (parsed_on w j s r)
parsed_is w j q s (Ok b) is runs quiet e u p = works_is w _ j q is runs (still w j (Some (parsed s b)) (λ p. seen_parsed s b p ∙ sym (e p)))
parsed_is w j q s (Err f) is runs quiet e u p = fault_is w j q s f is runs quiet e u (asks_none q.core s f p)

fetched_is : (w : State) (j : ℕ) (q : Whole) (s : Site) (b : List ℕ) (r : Result Ask Fault) → w.raw.jobs j ≡ Some q → q.job.stopped ≡ false
    → deliverable q.job ≡ false → AsIs w j
    → unit q.core q.job ≡ Called s → parse q.core s ≡ Ok b → fetch q.core s b ≡ r → RowIs w j (fetched_on w j s r)
fetched_is w j q s b (Ok a) is runs quiet e u p f = works_is w _ j q is runs (still w j (Some (asked s a)) (λ p. seen_asked s a p ∙ sym (e p)))
fetched_is w j q s b (Err f) is runs quiet e u p h = fault_is w j q s f is runs quiet e u (asks q.core s b (Err f) p h)

prepared_is : (w : State) (j : ℕ) (q : Whole) (s : Site) (a : Ask) (b : Bool) → w.raw.jobs j ≡ Some q → q.job.stopped ≡ false → AsIs w j
    → RowIs w j (works (after_preparation w j s a b))
prepared_is w j q s a true is runs e =
    works_is w _ j q is runs (reserving_plain _ j (Some 0) ∙ still w j (Some (holding s a (Some 0) 0)) (λ p. seen_held s a (Some 0) p ∙ sym (e p)))
prepared_is w j q s a false is runs e = works_is w _ j q is runs (still w j (Some (holding s a None 0)) (λ p. seen_held s a None p ∙ sym (e p)))

-- what a commit finds is the same plain machine, sound, and its own slot is as it was
pub record Found (w v : State) (j : ℕ) : Type 0 where
  pub plain : plain v ≡ plain w
  pub sound : Sound v
  pub slot : SlotSame w v j

pub found : (w : State) (j : ℕ) (own : Whole) (a : Ask) → Sound w → among j (reach (plain w) j own a) ≡ false → Found w (with_preparation w j own a) j
unfolding with_preparation
found w j own a sound apart =
    let ks = reach (plain w) j own a in
    let u = all_unwound ks w in
    record {
      plain = helped_if_plain (helps own a) u ∙ all_unwound_plain ks w sound;
      sound = helped_if_sound (helps own a) u (all_unwound_sound ks w sound);
      slot = slot_then w u (after_help_if (helps own a) u) j (all_unwound_others ks w j apart) (helped_if_others (helps own a) u j);
    }

-- a call that can be tried: it is in the frame of its slot, and is still there
pub record Trying (w : State) (j : ℕ) (q : Whole) (s : Site) (a : Ask) (n : ℕ) : Type 0 where
  pub here : Here w j q a n
  pub stands : Stands (stored q.core (debts a n)) q.job s a

pub here_found : (w v : State) (j : ℕ) (q : Whole) (a : Ask) (n : ℕ) → SlotSame w v j → Here w j q a n → Here v j q a n
here_found w v j q a n same h = record {
  job_is = same.job ∙ h.job_is;
  seen_is = λ p. ap (λ (o : Option Frame). seen o p) same.frame ∙ h.seen_is p;
  parts = ap parts_in_frame same.frame ∙ h.parts;
  runs = h.runs;
  quiet = h.quiet;
  debts = h.debts;
  page = h.page ∙ ap is_some (sym same.page);
}

pub trying_holding : (w : State) (j : ℕ) (q : Whole) (f : Holding.Holding) → w.raw.jobs j ≡ Some q → w.frames j ≡ Some (Holding f)
    → SoundFrame q (Holding f) (w.reserved j)
    → Trying w j q f.site f.ask f.owes
unfolding seen
trying_holding w j q f is fr h = record {
  here = record {
    job_is = is;
    seen_is = λ p. ap (λ (o : Option Frame). seen o p) fr;
    parts = ap parts_in_frame fr;
    runs = h.runs;
    quiet = h.quiet;
    debts = h.pays.debts;
    page = h.pays.has ∙ ap is_some (sym h.pays.page_is);
  };
  stands = h.standing;
}

pub trying_waiting : (w : State) (j : ℕ) (q : Whole) (f : Waiting.Waiting) → w.raw.jobs j ≡ Some q → w.frames j ≡ Some (Waiting f)
    → SoundFrame q (Waiting f) (w.reserved j)
    → Trying w j q f.site f.ask f.owes
unfolding seen
trying_waiting w j q f is fr h = record {
  here = record {
    job_is = is;
    seen_is = λ p. ap (λ (o : Option Frame). seen o p) fr;
    parts = ap parts_in_frame fr;
    runs = h.runs;
    quiet = h.quiet;
    debts = h.pays.debts;
    page = waits_reserves_none f.ask h.pays.waitable ∙ ap is_some (sym h.pays.page_is);
  };
  stands = h.standing;
}

-- the step of a job whose call is tried is the result of its decision
pub trying_acts : (w : State) (j : ℕ) (q : Whole) (s : Site) (a : Ask) (n : ℕ) (d : Decision) → Trying w j q s a n
    → decision (plain w) j (with_stores (debts a n) q) a ≡ d
    → transition (plain w) j ≡ acted (plain w) j a (reach (plain w) j (with_stores (debts a n) q) a) d
trying_acts w j q s a n d t e =
    let own : Whole = with_stores (debts a n) q in
    transition_called (plain w) j own s (Ok a)
    (seen_at w j q (w.frames j) t.here.job_is refl ∙ ap Some (t.here.seen_is q)) t.here.runs t.here.quiet t.stands.unit_is t.stands.ask_is
    ∙ ap (acted (plain w) j a (reach (plain w) j own a)) e

acts_is : (w v : State) (j : ℕ) (q : Whole) (s : Site) (a : Ask) (n : ℕ) (d : Decision) → Trying w j q s a n → Found w v j
    → decision (plain w) j (with_stores (debts a n) q) a ≡ d → Duty v j (with_stores (debts a n) q) s a n d → Acts d
    → step (plain w) j ≡ Some (plain (after_commit v j s a n d))
acts_is w v j q s a n d t f e duty acts =
    let own : Whole = with_stores (debts a n) q in
    let ks : List ℕ = reach (plain w) j own a in
    step_by (plain w) j _ (trying_acts w j q s a n d t e)
    ∙ ap (λ (m : Machine). option_map (λ (x : Transition). x.machine) (acted m j a ks d)) (sym f.plain)
    ∙ committed_plain v j own s a n ks d (here_found w v j q a n f.slot t.here).seen_is duty acts

acted_waits : (m : Machine) (j : ℕ) (a : Ask) (ks : List ℕ) (r : Wait.Wait) → acted m j a ks (Waits r) ≡ None
unfolding acted
acted_waits m j a ks r = refl

decided_is : (w v : State) (j : ℕ) (q : Whole) (s : Site) (a : Ask) (n : ℕ) (d : Decision) → Trying w j q s a n → Found w v j
    → decision (plain w) j (with_stores (debts a n) q) a ≡ d → Duty v j (with_stores (debts a n) q) s a n d → RowIs w j (tried w v j s a n d)
unfolding after_commit
decided_is w v j q s a n (Waits r) t f e duty =
    (plain_runs w j q t.here.job_is t.here.runs, waits_none, waits_plain w j s a n t.here.seen_is)
  where
    waits_none : step (plain w) j ≡ None
    waits_none = step_by (plain w) j _ (trying_acts w j q s a n (Waits r) t e ∙ acted_waits (plain w) j a (reach (plain w) j (with_stores (debts a n) q) a) r)
decided_is w v j q s a n (Goes cs h vs) t f e duty = acts_is w v j q s a n (Goes cs h vs) t f e duty tt
decided_is w v j q s a n (Ends cs ss x) t f e duty = acts_is w v j q s a n (Ends cs ss x) t f e duty tt
decided_is w v j q s a n (Gone cs) t f e duty = acts_is w v j q s a n (Gone cs) t f e duty tt

tried_is : (w : State) (j : ℕ) (q : Whole) (s : Site) (a : Ask) (n : ℕ) → Sound w → Trying w j q s a n → Meets w j (with_stores (debts a n) q) s a n
    → RowIs w j (tried_by w j (with_stores (debts a n) q) s a n)
tried_is w j q s a n sound t m =
    let own : Whole = with_stores (debts a n) q in
    decided_is w (with_preparation w j own a) j q s a n (decision (plain w) j own a) t (found w j own a sound m.apart) refl m.duty

-- a page that is cleared: a quarter at a tick
quarter_is : (w : State) (j : ℕ) (q : Whole) (s : Site) (a : Ask) (p n : ℕ) (b : Bool) → Sound w → Trying w j q s a n
    → (b ≡ false → Meets w j (with_stores (debts a n) q) s a n)
    → RowIs w j (if b then works (reserving (with_slot w j same (Some (holding s a (Some (p + 1)) n))) j (Some (p + 1))) else tried_by w j
    (with_stores (debts a n) q) s a n)
quarter_is w j q s a p n true sound t m =
    works_is w _ j q t.here.job_is t.here.runs
    (reserving_plain _ j (Some (p + 1)) ∙ still w j (Some (holding s a (Some (p + 1)) n)) (λ x. seen_holding s a (Some (p + 1)) n x ∙ sym (t.here.seen_is x)))
quarter_is w j q s a p n false sound t m = tried_is w j q s a n sound t (m refl)

held_is : (w : State) (j : ℕ) (q : Whole) (s : Site) (a : Ask) (page : Option ℕ) (n : ℕ) → Sound w → Trying w j q s a n
    → (IsTried page → Meets w j (with_stores (debts a n) q) s a n)
    → RowIs w j (held_on w j (with_stores (debts a n) q) s a page n)
held_is w j q s a None n sound t m = tried_is w j q s a n sound t (m tt)
held_is w j q s a (Some p) n sound t m = quarter_is w j q s a p n (nat_lt p quarters) sound t m

unwinds_is : (w : State) (j : ℕ) (q : Whole) → Sound w → w.raw.jobs j ≡ Some q → q.job.stopped ≡ false → RowIs w j (works (unwind_one w j))
unwinds_is w j q sound is runs = works_is w (unwind_one w j) j q is runs (unwind_plain w j sound)

-- a job inside a call
frame_is : (w : State) (j : ℕ) (q : Whole) (f : Frame) → Sound w → w.raw.jobs j ≡ Some q → w.frames j ≡ Some f
    → SoundFrame q f (w.reserved j) → GivenBy w j q (Some f)
    → RowIs w j (tick_in w j q (Some f))
unfolding seen
frame_is w j q (Entered f) sound is fr h g = parsed_is w j q f.site (parse q.core f.site) is h.runs h.quiet
    (as_is w j (Some (Entered f)) fr (λ p. refl)) h.standing refl
frame_is w j q (Parsed f) sound is fr h g =
    fetched_is w j q f.site f.block.items (fetch q.core f.site f.block.items) is h.runs h.quiet (as_is w j (Some (Parsed f)) fr (λ p. refl))
    h.standing.0 h.standing.1 refl
frame_is w j q (Asked f) sound is fr h g = prepared_is w j q f.site f.ask (reserves f.ask) is h.runs (as_is w j (Some (Asked f)) fr (λ p. refl))
frame_is w j q (Holding f) sound is fr h g = held_is w j q f.site f.ask f.page f.owes sound (trying_holding w j q f is fr h) g
frame_is w j q (Waiting f) sound is fr h g = tried_is w j q f.site f.ask f.owes sound (trying_waiting w j q f is fr h) g
frame_is w j q (Moving f) sound is fr h g = unwinds_is w j q sound is h.runs
frame_is w j q (Ending f) sound is fr h g = unwinds_is w j q sound is h.runs

running_is : (w : State) (j : ℕ) (q : Whole) (o : Option Frame) → Sound w → w.raw.jobs j ≡ Some q → q.job.stopped ≡ false → w.frames j ≡ o
    → SoundBy (Some q) o (w.reserved j) → GivenBy w j q o
    → RowIs w j (tick_in w j q o)
running_is w j q None sound is runs fr h g = user_is w j q (deliverable q.job) sound is runs fr refl
running_is w j q (Some f) sound is runs fr h g = frame_is w j q f sound is fr h g

unless_is : (w : State) (j : ℕ) (q : Whole) (b : Bool) → Sound w → Given w j → w.raw.jobs j ≡ Some q → q.job.stopped ≡ b → RowIs w j (tick_unless w j q b)
unless_is w j q true sound g is e = (plain_off w j q is e, refl)
unless_is w j q false sound g is e = running_is w j q (w.frames j) sound is e refl
    (subst (λ (o : Option Whole). SoundBy o (w.frames j) (w.reserved j)) is (sound.each j).by) (g.by q is)

slot_is : (w : State) (j : ℕ) (o : Option Whole) → Sound w → Given w j → w.raw.jobs j ≡ o → RowIs w j (tick_of w j o)
slot_is w j None sound g is = (plain_empty w j is, refl)
slot_is w j (Some q) sound g is = unless_is w j q q.job.stopped sound g is refl

pub tick_is : (w : State) (j : ℕ) → Sound w → Given w j → Licensed (plain w) j (tick w j).pace (plain (tick w j).state)
unfolding tick
tick_is w j sound g = slot_is w j (w.raw.jobs j) sound g refl
