-- A call that is tried: its decision on the raw machine is that on the plain one, it can be carried
-- out, and then the tick is done.
use Rattle.std.specs.Prelude.{◌≡◌, ◌<◌, ℕ, Bool, true, false, Option, Some, None, IfSome, is_some, List, refl}
use Rattle.std.proofs.Common.{sym, ◌∙◌, ap, subst}
use Rattle.its_word.specs.Core.{Core}
use Rattle.its_records.specs.declared.calls.Ask.{Ask}
use Rattle.its_records.specs.declared.calls.Site.{Site}
use Rattle.its_records.specs.declared.jobs.Job.{Job}
use Rattle.its_core.specs.Cores.{core_at}
use Rattle.its_jobs.specs.Table.{job_at, superior_at}
use Rattle.its_files.specs.Files.{Store}
use Rattle.its_frame.specs.declared.decision.Decision.{Decision}
use Rattle.its_frame.specs.declared.decision.Decision.TheVariants.{Waits}
use Rattle.its_frame.specs.declared.frame.Frame.{Frame}
use Rattle.its_frame.specs.declared.frame.Frame.TheVariants as frames
use Rattle.its_frame.specs.declared.frame.Holding.{Holding}
use Rattle.its_frame.specs.declared.frame.Waiting.{Waiting}
use Rattle.its_frame.specs.declared.decision.Wait.{Wait}
use Rattle.its_plain.specs.Call.Arguments.{debts}
use Rattle.its_plain.specs.Call.Step.{among, decision}
use Rattle.its_plain.specs.Call.Decide.{call_named, target, reach}
use Rattle.its_plain.specs.Machine.{Whole, Machine}
use Rattle.its_plain.specs.Machine.Own.{with_stores}
use Rattle.its_stepped.specs.Commit.{after_commit}
use Rattle.its_stepped.specs.Duty.{Duty, Meets, GivenBy, IsTried}
use Rattle.its_stepped.specs.SlotSame.{SlotSame}
use Rattle.its_stepped.specs.Sound.{IsWaitable, Stands, Debts, SoundFrame, SoundBy, Sound}
use Rattle.its_stepped.specs.State.{State, plain, seen}
use Rattle.its_stepped.specs.Tick.{Ticked, after_help_if, helps, with_preparation, waits, tried, tried_by, held_on, tick_in, tick_unless, tick_of, tick}
use Rattle.its_stepped.specs.Unwind.{all_unwound}
use Rattle.its_stepped.specs.Forest.{Forest}
use Rattle.its_stepped.proofs.Committing.CallLaws.{decision_behind}
use Rattle.its_stepped.proofs.Frame.DecodingLaws.{decoding}
use Rattle.its_stepped.proofs.Duties.GivenLaws.{given}
use Rattle.its_stepped.proofs.Unwinding.UnwindLaws.{all_unwound_end, all_unwound_plain, all_unwound_sound, all_unwound_none, all_unwound_others}
use Rattle.its_stepped.proofs.Committing.HelpLaws.{helped_if_plain, helped_if_sound, helped_if_others, helped_if_unmarked}
use Rattle.its_stepped.proofs.Committing.TriedLaws.{prepared_seen, decision_helped, waits_unhelped, waits_unreached}
use Rattle.its_stepped.proofs.Ticking.WaitLaws.{Goes_on}
use Rattle.its_stepped.proofs.Committing.ViewLaws.{StillAt, target_seen, reach_plain, helps_seen}
use Rattle.its_stepped.proofs.Keeping.ForestLaws.{forest_raw}
use Rattle.its_world.specs.World.{alarm_at, raw_of, raw_at, frame_at, state_of}
use Rattle.its_world.specs.declared.world.World.{World}
use Rattle.its_commit.specs.Carried.{standing_of, pace_of, CanCommit}
use Rattle.its_commit.proofs.ReadyLaws.{still_at, target_reached, waits_reach, ready_by, decision_can}
use Rattle.its_commit.proofs.CanLaws.{DecisionCan}

-- the tick that carries a decision out
abbrev pub carried : State → ℕ → Holding → Decision → Ticked
carried v j h d = record { state = after_commit v j h.site h.ask h.owes d; pace = pace_of d }

-- a call that waits finds the state as it is: it reaches nobody, and is none on files
abbrev pub Waiting_in : State → State → Ask → Decision → Type 0
Waiting_in w v a (Waits r) = IsWaitable (call_named a.name) → v ≡ w
Waiting_in w v a _ = Unit {0}

tried_carried : (w v : State) (j : ℕ) (own : Whole) (h : Holding) (d : Decision) → Waiting_in w v h.ask d → Duty v j own h.site h.ask h.owes d
    → tried w v j h.site h.ask h.owes d ≡ carried v j h d
tried_carried w v j own h (Waits r) same duty = ap (λ (x : State). waits (after_commit x j h.site h.ask h.owes (Waits r))) (sym (same duty.waitable))
tried_carried w v j own h _ same duty = refl

-- the state that the commit of a raw job's call finds
abbrev pub prepared : State → ℕ → Whole → Ask → State
prepared w j q a = after_help_if (helps q a) (all_unwound (reach w.raw j q a) w)

waits_still : (w : State) (j : ℕ) (q : Whole) (a : Ask) (r : Wait) (o : Option ℕ) → target q a ≡ o
    → ((s : ℕ) → target q a ≡ Some s → IsWaitable (call_named a.name) → Goes_on (Waits r))
    → IsWaitable (call_named a.name) → all_unwound (reach w.raw j q a) w ≡ w
waits_still w j q a r None e g wait = ap (λ (ks : List ℕ). all_unwound ks w) (waits_reach w.raw j q a wait e) ∙ all_unwound_end w
waits_still w j q a r (Some s) e g wait = absurd (g s e wait)

waiting_by : (w : State) (j : ℕ) (q : Whole) (a : Ask) (d : Decision) (b : Bool) → helps q a ≡ b → (b ≡ true → IsWaitable (call_named a.name) → Goes_on d)
    → ((s : ℕ) → target q a ≡ Some s → IsWaitable (call_named a.name) → Goes_on d) → Waiting_in w (after_help_if b (all_unwound (reach w.raw j q a) w)) a d
waiting_by w j q a (Waits r) true e h g = λ wait. absurd (h refl wait)
waiting_by w j q a (Waits r) false e h g = λ wait. waits_still w j q a r (target q a) refl g wait
waiting_by w j q a _ z e h g = tt

-- a call that is in the frame of its slot, and is to be tried
record Stood (w : State) (j : ℕ) (q : Whole) (h : Holding) : Type 0 where
  stands : standing_of (w.frames j) ≡ Some h
  standing : Stands (seen (w.frames j) q).core (seen (w.frames j) q).job h.site h.ask
  runs : q.job.stopped ≡ false
  shows : seen (w.frames j) q ≡ with_stores (debts h.ask h.owes) q
  debts : Debts q.core h.ask h.owes
  meets : Meets w j (seen (w.frames j) q) h.site h.ask h.owes
  row : tick_in w j q (w.frames j) ≡ tried_by w j (seen (w.frames j) q) h.site h.ask h.owes

-- the jobs that the call of a slot reaches are unwound, a half made close is helped if it is one on
-- files, and its own slot is as it was
pub record Cleared (w v : State) (j : ℕ) (q : Whole) (h : Holding) : Type 0 where
  pub job : v.raw.jobs j ≡ Some q
  pub frame : v.frames j ≡ w.frames j
  pub page : v.reserved j ≡ w.reserved j
  pub stands : standing_of (v.frames j) ≡ Some h
  pub sound : Sound v
  pub unmarked : helps q h.ask ≡ true → v.mark ≡ None
  pub free : (k : ℕ) → among k (reach v.raw j q h.ask) ≡ true → v.frames k ≡ None
  pub shows : plain v ≡ plain w

-- states of one plain machine have the same reach
same_reach : (w v : State) (j : ℕ) (q : Whole) (a : Ask) → plain v ≡ plain w → reach v.raw j q a ≡ reach w.raw j q a
same_reach w v j q a e = sym (reach_plain v j None q a) ∙ ap (λ (m : Machine). reach m j (seen None q) a) e ∙ reach_plain w j None q a

found_cleared : (w : State) (j : ℕ) (q : Whole) (h : Holding) → Sound w → w.raw.jobs j ≡ Some q → Stood w j q h → Cleared w (prepared w j q h.ask) j q h
found_cleared w j q h sound is s =
    let ks : List ℕ = reach w.raw j q h.ask in
    let u : State = all_unwound ks w in
    let b : Bool = helps q h.ask in
    let first : SlotSame w u j = all_unwound_others ks w j (ap (among j) (sym (reach_plain w j (w.frames j) q h.ask)) ∙ s.meets.apart) in
    let later : SlotSame u (after_help_if b u) j = helped_if_others b u j in
    let shows : plain (after_help_if b u) ≡ plain w = helped_if_plain b u ∙ all_unwound_plain ks w sound in
    record {
      job = later.job ∙ first.job ∙ is;
      frame = later.frame ∙ first.frame;
      page = later.page ∙ first.page;
      stands = ap standing_of (later.frame ∙ first.frame) ∙ s.stands;
      sound = helped_if_sound b u (all_unwound_sound ks w sound);
      unmarked = λ e. helped_if_unmarked b u e;
      free = λ k e. (helped_if_others b u k).frame ∙ all_unwound_none ks w k sound
          (ap (among k) (sym (same_reach w (after_help_if b u) j q h.ask shows)) ∙ e);
      shows = shows;
    }

-- the result of the tick of a slot whose call is tried: v is the state in which it is carried out,
-- and d its decision
pub record Tries (w v : State) (j : ℕ) (q : Whole) (h : Holding) (d : Decision) : Type 0 where
  pub cleared : Cleared w v j q h
  pub decides : decision (plain w) j (seen (w.frames j) q) h.ask ≡ d
  pub can : DecisionCan d j v
  pub ready : CanCommit v j h d
  pub row : tick_in w j q (w.frames j) ≡ carried v j h d
  pub ticks : tick w j ≡ carried v j h d

-- the tick of a slot whose job runs
running_tick : (w : State) (j : ℕ) (q : Whole) → w.raw.jobs j ≡ Some q → q.job.stopped ≡ false → tick w j ≡ tick_in w j q (w.frames j)
unfolding tick
running_tick w j q is runs = ap (tick_of w j) is ∙ ap (tick_unless w j q) runs

found_tries : (w : State) (j : ℕ) (q : Whole) (h : Holding) → Sound w → Forest (plain w) → w.raw.jobs j ≡ Some q
    → IfSome q.job.console (λ c. c < 8) → Stood w j q h
    → Tries w (prepared w j q h.ask) j q h (decision (prepared w j q h.ask).raw j q h.ask)
found_tries w j q h sound forest is housed s =
    let own : Whole = seen (w.frames j) q in
    let v : State = prepared w j q h.ask in
    let d : Decision = decision v.raw j q h.ask in
    let c : Cleared w v j q h = found_cleared w j q h sound is s in
    let finds : with_preparation w j own h.ask ≡ v = prepared_seen w j q h.ask in
    let still : StillAt v (target own h.ask) =
    still_at v (target own h.ask) (λ k e. c.free k (target_reached v.raw j q h.ask k (sym (target_seen (w.frames j) q h.ask) ∙ e))) in
    let decides : decision (plain w) j own h.ask ≡ d =
    ap (λ (m : Machine). decision m j own h.ask) (sym c.shows)
    ∙ decision_helped v j own h.ask still (λ e. c.unmarked (sym (helps_seen (w.frames j) q h.ask) ∙ e))
    ∙ ap (λ (p : Whole). decision v.raw j p h.ask) s.shows
    ∙ decision_behind v.raw j q own.core own.job h.site h.ask h.owes s.standing s.debts.few in
    let duty : Duty v j own h.site h.ask h.owes d =
    subst (λ (e : Decision). Duty v j own h.site h.ask h.owes e) decides
    (subst (λ (x : State). Duty x j own h.site h.ask h.owes (decision (plain w) j own h.ask)) finds s.meets.duty) in
    let row : tick_in w j q (w.frames j) ≡ carried v j h d =
    s.row
    ∙ (λ t. tried w (finds t) j h.site h.ask h.owes (decides t))
    ∙ tried_carried w v j own h d (waiting_by w j q h.ask d (helps q h.ask) refl (λ e. waits_unhelped v.raw j q h.ask e)
    (λ k e. waits_unreached v.raw j q h.ask k e)) duty in
    let can : DecisionCan d j v =
    decision_can v j q h.ask (record {
      job = c.job;
      forest = forest_raw v (subst Forest (sym c.shows) forest);
      sound = c.sound;
      unmarked = c.unmarked;
      free = c.free;
      full = λ e. c.page ∙ s.meets.page e;
    }) housed in
    record {
      cleared = c;
      decides = decides;
      can = can;
      ready = ready_by v j own h d c.sound c.stands s.debts.read can duty;
      row = row;
      ticks = running_tick w j q is s.runs ∙ row;
    }

-- a call that is held is tried if it has no page, or all quarters of it are clear
held_tried : (w : State) (j : ℕ) (own : Whole) (s : Site) (a : Ask) (page : Option ℕ) (n : ℕ) → IsTried page
    → held_on w j own s a page n ≡ tried_by w j own s a n
held_tried w j own s a None n t = refl
held_tried w j own s a (Some p) n t = rw t refl

sound_at : (w : State) (j : ℕ) (q : Whole) (f : Frame) → Sound w → w.raw.jobs j ≡ Some q → w.frames j ≡ Some f → SoundFrame q f (w.reserved j)
sound_at w j q f sound is fr =
    subst (λ (o : Option Frame). SoundBy (Some q) o (w.reserved j)) fr
    (subst (λ (o : Option Whole). SoundBy o (w.frames j) (w.reserved j)) is (sound.each j).by)

given_at : (w : State) (j : ℕ) (q : Whole) (f : Frame) → Sound w → Forest (plain w) → w.raw.jobs j ≡ Some q → w.frames j ≡ Some f → GivenBy w j q (Some f)
given_at w j q f sound forest is fr = subst (GivenBy w j q) fr ((given decoding w j forest sound).by q is)

stood_by : (w : State) (j : ℕ) (q : Whole) (h : Holding) (f : Frame) → standing_of (Some f) ≡ Some h → w.frames j ≡ Some f
    → Stands (seen (Some f) q).core (seen (Some f) q).job h.site h.ask → q.job.stopped ≡ false
    → seen (Some f) q ≡ with_stores (debts h.ask h.owes) q → Debts q.core h.ask h.owes → Meets w j (seen (Some f) q) h.site h.ask h.owes
    → tick_in w j q (Some f) ≡ tried_by w j (seen (Some f) q) h.site h.ask h.owes → Stood w j q h
stood_by w j q h f stands fr standing runs shows debts meets row = record {
  stands = ap standing_of fr ∙ stands;
  standing = subst (λ (o : Option Frame). Stands (seen o q).core (seen o q).job h.site h.ask) (sym fr) standing;
  runs = runs;
  shows = ap (λ (o : Option Frame). seen o q) fr ∙ shows;
  debts = debts;
  meets = subst (λ (o : Option Frame). Meets w j (seen o q) h.site h.ask h.owes) (sym fr) meets;
  row = subst (λ (o : Option Frame). tick_in w j q o ≡ tried_by w j (seen o q) h.site h.ask h.owes) (sym fr) row;
}

stood_holding : (w : State) (j : ℕ) (q : Whole) (f : Holding) → Sound w → Forest (plain w) → w.raw.jobs j ≡ Some q → IsTried f.page
    → w.frames j ≡ Some (frames.Holding f)
    → Stood w j q f
unfolding seen
stood_holding w j q f sound forest is tried fr =
    let s = sound_at w j q (frames.Holding f) sound is fr in
    stood_by w j q f (frames.Holding f) refl fr s.standing s.runs refl s.pays.debts (given_at w j q (frames.Holding f) sound forest is fr tried)
    (held_tried w j (seen (Some (frames.Holding f)) q) f.site f.ask f.page f.owes tried)

-- the call of a frame that waits
abbrev pub held : Waiting → Holding
held f = record { site = f.site; ask = f.ask; page = None; owes = f.owes }

stood_waiting : (w : State) (j : ℕ) (q : Whole) (f : Waiting) → Sound w → Forest (plain w) → w.raw.jobs j ≡ Some q
    → w.frames j ≡ Some (frames.Waiting f) → Stood w j q (held f)
unfolding seen
stood_waiting w j q f sound forest is fr =
    let s = sound_at w j q (frames.Waiting f) sound is fr in
    stood_by w j q (held f) (frames.Waiting f) refl fr s.standing s.runs refl s.pays.debts (given_at w j q (frames.Waiting f) sound forest is fr) refl

stood_at : (w : State) (j : ℕ) (q : Whole) (h : Holding) (o : Option Frame) → Sound w → Forest (plain w) → w.raw.jobs j ≡ Some q
    → IsTried h.page → w.frames j ≡ o → standing_of o ≡ Some h
    → Stood w j q h
stood_at w j q h (Some (frames.Holding f)) sound forest is tried fr e =
    let same : f ≡ h = cc in
    subst (Stood w j q) same (stood_holding w j q f sound forest is (subst (λ (g : Holding). IsTried g.page) (sym same) tried) fr)
stood_at w j q h (Some (frames.Waiting f)) sound forest is tried fr e = let same : held f ≡ h =
    cc in subst (Stood w j q) same (stood_waiting w j q f sound forest is fr)
stood_at w j q h _ sound forest is tried fr e = cc

pub cleared : (w v : State) (j : ℕ) (q : Whole) (h : Holding) → Sound w → Forest (plain w) → w.raw.jobs j ≡ Some q
    → standing_of (w.frames j) ≡ Some h → IsTried h.page
    → v ≡ prepared w j q h.ask → Cleared w v j q h
cleared w v j q h sound forest is stands tried e =
    subst (λ (x : State). Cleared w x j q h) (sym e) (found_cleared w j q h sound is (stood_at w j q h (w.frames j) sound forest is tried refl stands))

pub tries : (w v : State) (j : ℕ) (q : Whole) (h : Holding) (d : Decision) → Sound w → Forest (plain w) → w.raw.jobs j ≡ Some q
    → IfSome q.job.console (λ c. c < 8)
    → standing_of (w.frames j) ≡ Some h → IsTried h.page → v ≡ prepared w j q h.ask → d ≡ decision v.raw j q h.ask → Tries w v j q h d
tries w v j q h d sound forest is housed stands tried e f =
    let t = found_tries w j q h sound forest is housed (stood_at w j q h (w.frames j) sound forest is tried refl stands) in
    subst (Tries w v j q h) (sym f) (subst (λ (x : State). Tries w x j q h (decision x.raw j q h.ask)) (sym e) t)

-- a call that is tried, on worlds: the job of the slot is there, its call is decided by its raw
-- job, it can be carried out, and then the tick is done
some_job : (s : Store) (c : Core) (o : Option ℕ) (a : Option (ℕ × ℕ)) (j : Option Job) (q : Whole) → raw_of s c o a j ≡ Some q → is_some j ≡ true
some_job s c o a (Some x) q e = refl
some_job s c o a None q e = cc

pub job_there : (w : World) (s : ℕ) (q : Whole) → (state_of w).raw.jobs s ≡ Some q → is_some (job_at w.jobs s) ≡ true
unfolding state_of
job_there w s q e = some_job w.files (core_at w.core s) (superior_at w.jobs s) (alarm_at w.alarms.items s) (job_at w.jobs s) q e

pub decided_there : (w : World) (s : ℕ) (q : Whole) (a : Ask) (d : Decision) → (state_of w).raw.jobs s ≡ Some q
    → IfSome (raw_at w.files w.core w.jobs w.alarms.items s) (λ q. d ≡ decision (state_of w).raw s q a)
    → d ≡ decision (state_of w).raw s q a
unfolding state_of
decided_there w s q a d e h = subst (λ (o : Option Whole). IfSome o (λ q. d ≡ decision (state_of w).raw s q a)) e h

pub ready_there : (old mid : World) (s : ℕ) (q : Whole) (h : Holding) (d : Decision) → Tries (state_of old) (state_of mid) s q h d
    → IfSome (standing_of (frame_at mid.frames.items s)) (λ f. CanCommit (state_of mid) s f d)
unfolding state_of
ready_there old mid s q h d t = subst (λ (o : Option Holding). IfSome o (λ f. CanCommit (state_of mid) s f d)) (sym t.cleared.stands) t.ready

pub ticked : (old mid new : World) (s : ℕ) (q : Whole) (h : Holding) (d : Decision) → Tries (state_of old) (state_of mid) s q h d
    → IfSome (standing_of (frame_at mid.frames.items s)) (λ f. state_of new ≡ after_commit (state_of mid) s f.site f.ask f.owes d)
    → record { state = state_of new; pace = pace_of d } ≡ tick (state_of old) s
unfolding state_of
ticked old mid new s q h d t c =
    let made : state_of new ≡ after_commit (state_of mid) s h.site h.ask h.owes d =
    subst (λ (o : Option Holding). IfSome o (λ f. state_of new ≡ after_commit (state_of mid) s f.site f.ask f.owes d)) t.cleared.stands c in
    ap (λ (x : State). record { state = x; pace = pace_of d }) made ∙ sym t.ticks
