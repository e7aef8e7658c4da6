-- A call that is tried.
use Rattle.std.specs.Prelude.{◌≡◌, ℕ, Bool, true, false, Option, Some, None, IfSome, is_some, List, refl}
use Rattle.std.proofs.Common.{sym, ◌∙◌, ap, subst}
use Rattle.its_records.specs.declared.calls.Pace.{Pace}
use Rattle.its_jobs.specs.Table.{job_at}
use Rattle.its_frame.specs.declared.decision.Decision.{Decision}
use Rattle.its_frame.specs.declared.frame.Frame.{Frame}
use Rattle.its_frame.specs.declared.frame.Holding.{Holding}
use Rattle.its_commit.specs.Pages.{pages_carried}
use Rattle.its_pclsr.specs.Pages.{pages_unwound}
use Rattle.its_tick.specs.Pages.{pages_tried, pages_in}
use Rattle.its_tick.proofs.FramesLaws.{tried_pages}
use Rattle.its_commit.specs.Carried.{standing_of, pace_of, CanCommit}
use Rattle.its_commit.proofs.TriesLaws.{Cleared, Tries, prepared, cleared, tries, job_there, ready_there}
use Rattle.its_plain.specs.Call.Step.{decision}
use Rattle.its_plain.specs.Call.Decide.{reach}
use Rattle.its_plain.specs.Machine.{Whole}
use Rattle.its_stepped.specs.Commit.{after_commit}
use Rattle.its_stepped.specs.Forest.{Forest}
use Rattle.its_stepped.specs.Sound.{SoundBy, Sound}
use Rattle.its_stepped.specs.State.{State}
use Rattle.its_stepped.specs.Tick.{helps, after_help_if, tick_in}
use Rattle.its_stepped.specs.Unwind.{all_unwound}
use Rattle.its_stepped.proofs.Keeping.ConsoledLaws.{raw_consoled}
use Rattle.its_stepped.proofs.Keeping.ForestLaws.{forest_raw}
use Rattle.its_world.specs.World.{state_of, raw_at, frame_at}
use Rattle.its_world.specs.declared.world.World.{World}
use Rattle.its_world.proofs.MarkLaws.{mark_none}
use Rattle.its_tick.specs.Kept.{Kept}
use Rattle.its_tick.specs.Ticks.{ticked}
use Rattle.its_stepped.specs.Duty.{IsTried}
use Rattle.its_tick.proofs.ReachLaws.{raw_is}
use Rattle.its_world.proofs.StorageLaws.{frame_is, marks_are}

-- the call in the frame of a slot, and the raw job that makes it
record Calls (w : World) (s : ℕ) (h : Holding) (q : Whole) : Type 0 where
  stands : standing_of ((state_of w).frames s) ≡ Some h
  raw : (state_of w).raw.jobs s ≡ Some q

record Caller (w : World) (s : ℕ) : Type 0 where
  call : Holding
  job : Whole
  calls : Calls w s call job

there : {X : Type 0} (o : Option X) → is_some o ≡ true → (x : X) × (o ≡ Some x)
there (Some x) h = (x, refl)
there None h = cc

-- a slot whose call is still there has a job
sound_some : (o : Option Whole) (f : Option Frame) (r : Option ℕ) → SoundBy o f r → is_some (standing_of f) ≡ true → (q : Whole) × (o ≡ Some q)
sound_some (Some q) f r h e = (q, refl)
sound_some None f r h e = let none : is_some (standing_of f) ≡ false = ap (λ (g : Option Frame). is_some (standing_of g)) h.0 in cc

caller : (w : World) (s : ℕ) → Sound (state_of w) → is_some (standing_of (frame_at w.frames.items s)) ≡ true → Caller w s
caller w s sound e =
    let stands : is_some (standing_of ((state_of w).frames s)) ≡ true = ap (λ (g : Option Frame). is_some (standing_of g)) (frame_is w s) ∙ e in
    let h = there (standing_of ((state_of w).frames s)) stands in
    let q = sound_some ((state_of w).raw.jobs s) ((state_of w).frames s) ((state_of w).reserved s) (sound.each s).by stands in
    record { call = h.0; job = q.0; calls = record { stands = h.1; raw = q.1 } }

pub stands_job : (w : World) (s : ℕ) → Sound (state_of w) → is_some (standing_of (frame_at w.frames.items s)) ≡ true → is_some (job_at w.jobs s) ≡ true
stands_job w s sound e = let c = caller w s sound e in job_there w s c.job c.calls.raw

-- the jobs of the raw machine are a forest too
pub kept_forest : (w : World) → Kept w → Forest (state_of w).raw
kept_forest w kept = forest_raw (state_of w) kept.forest

-- the call can be tried: it has reserved no page, or all quarters of it are clear
abbrev pub Clear : World → ℕ → Type 0
Clear w s = IfSome (standing_of (frame_at w.frames.items s)) (λ f. IsTried f.page)

clear_call : (w : World) (s : ℕ) (h : Holding) (q : Whole) → Calls w s h q → Clear w s → IsTried h.page
clear_call w s h q c t = subst (λ (o : Option Holding). IfSome o (λ f. IsTried f.page)) (sym (ap standing_of (frame_is w s)) ∙ c.stands) t

-- a fact on the two
abbrev pub OnCall : World → ℕ → (Holding → Whole → Type 0) → Type 0
OnCall w s P = IfSome (standing_of (frame_at w.frames.items s)) (λ f. IfSome (raw_at w.files w.core w.jobs w.alarms.items s) (λ q. P f q))

of_call : (w : World) (s : ℕ) (P : Holding → Whole → Type 0) (h : Holding) (q : Whole) → Calls w s h q → OnCall w s P → P h q
unfolding state_of
of_call w s P h q c x =
    subst (λ (o : Option Whole). IfSome o (P h)) c.raw (subst
    (λ (o : Option Holding). IfSome o (λ f. IfSome (raw_at w.files w.core w.jobs w.alarms.items s) (λ q. P f q))) c.stands x)

on_call : (w : World) (s : ℕ) (P : Holding → Whole → Type 0) (h : Holding) (q : Whole) → Calls w s h q → P h q → OnCall w s P
unfolding state_of
on_call w s P h q c x =
    subst (λ (o : Option Holding). IfSome o (λ f. IfSome (raw_at w.files w.core w.jobs w.alarms.items s) (λ q. P f q))) (sym c.stands)
    (subst (λ (o : Option Whole). IfSome o (P h)) (sym c.raw) x)

-- the world is made ready: the jobs are unwound that it reaches, and if it is one on files, the
-- pending parts of a half made close are performed. What its commit finds, and the frames of pages
-- before
abbrev pub Readies : World → World → ℕ → Type 0
Readies old new s = OnCall old s (λ f q. state_of new ≡ prepared (state_of old) s q f.ask)

abbrev pub ReachPages : World → World → ℕ → Type 0
ReachPages old mid s = OnCall old s (λ f q. mid.core.frames ≡ pages_unwound (reach (state_of old).raw s q f.ask) (state_of old) old.core.frames)

-- a fact of the two that follows from two others
on_both : (o : Option Holding) (p : Option Whole) (P Q R : Holding → Whole → Type 0) → ((f : Holding) (q : Whole) → P f q → Q f q → R f q)
    → IfSome o (λ f. IfSome p (λ q. P f q)) → IfSome o (λ f. IfSome p (λ q. Q f q)) → IfSome o (λ f. IfSome p (λ q. R f q))
on_both (Some f) (Some q) P Q R h a b = h f q a b
on_both (Some f) None P Q R h a b = tt
on_both None p P Q R h a b = tt

pub made_ready : (old mid new : World) (s : ℕ) (ks : List ℕ) (b : Bool) → OnCall old s (λ f q. ks ≡ reach (state_of old).raw s q f.ask)
    → OnCall old s (λ f q. b ≡ helps q f.ask)
    → state_of mid ≡ all_unwound ks (state_of old) → state_of new ≡ after_help_if b (state_of mid) → Readies old new s
made_ready old mid new s ks b reached helped row help =
    on_both (standing_of (frame_at old.frames.items s)) (raw_at old.files old.core old.jobs old.alarms.items s)
    (λ f q. ks ≡ reach (state_of old).raw s q f.ask) (λ f q. b ≡ helps q f.ask) (λ f q. state_of new ≡ prepared (state_of old) s q f.ask)
    (λ f q r h. help ∙ (λ t. after_help_if (h t) (row t)) ∙ ap
    (λ (ls : List ℕ). after_help_if (helps q f.ask) (all_unwound ls (state_of old))) r) reached helped

-- it is decided, and can be carried out
abbrev pub Decides : World → ℕ → Decision → Type 0
Decides mid s d = OnCall mid s (λ f q. d ≡ decision (state_of mid).raw s q f.ask)

module _ (old mid : World) (s : ℕ) (kept : Kept old) (e : is_some (standing_of (frame_at old.frames.items s)) ≡ true) (clear : Clear old s)
    (row : Readies old mid s) where
  ready_is : (c : Caller old s) → state_of mid ≡ prepared (state_of old) s c.job c.call.ask
  ready_is c = of_call old s (λ f q. state_of mid ≡ prepared (state_of old) s q f.ask) c.call c.job c.calls row

  found : (c : Caller old s) → Cleared (state_of old) (state_of mid) s c.job c.call
  found c = cleared (state_of old) (state_of mid) s c.job c.call kept.sound kept.forest c.calls.raw c.calls.stands
      (clear_call old s c.call c.job c.calls clear) (ready_is c)

  still : (c : Caller old s) → Calls mid s c.call c.job
  still c = record { stands = (found c).stands; raw = (found c).job }

  pub mid_job : is_some (job_at mid.jobs s) ≡ true
  mid_job = let c = caller old s kept.sound e in job_there mid s c.job (found c).job

  pub mid_stands : is_some (standing_of (frame_at mid.frames.items s)) ≡ true
  mid_stands =
      let c = caller old s kept.sound e in
      ap (λ (g : Option Frame). is_some (standing_of g)) (sym (frame_is mid s)) ∙ ap is_some (found c).stands

  pub mid_unmarked : OnCall mid s (λ f q. helps q f.ask ≡ true → mid.files.mark ≡ None)
  mid_unmarked =
      let c = caller old s kept.sound e in
      on_call mid s (λ f q. helps q f.ask ≡ true → mid.files.mark ≡ None) c.call c.job (still c)
      (λ h. mark_none mid.files (sym (marks_are mid) ∙ (found c).unmarked h))

  pub mid_forest : Forest (state_of mid).raw
  mid_forest = let c = caller old s kept.sound e in forest_raw (state_of mid) (subst Forest (sym (found c).shows) kept.forest)

  found_tries : (c : Caller old s) (d : Decision) → Decides mid s d → Tries (state_of old) (state_of mid) s c.job c.call d
  found_tries c d h =
      tries (state_of old) (state_of mid) s c.job c.call d kept.sound kept.forest c.calls.raw
      (raw_consoled (state_of old) s c.job (record { each = kept.consoled }) c.calls.raw) c.calls.stands
      (clear_call old s c.call c.job c.calls clear) (ready_is c)
      (of_call mid s (λ f q. d ≡ decision (state_of mid).raw s q f.ask) c.call c.job (still c) h)

  pub mid_ready : (d : Decision) → Decides mid s d → IfSome (standing_of (frame_at mid.frames.items s)) (λ f. CanCommit (state_of mid) s f d)
  mid_ready d h = let c = caller old s kept.sound e in ready_there old mid s c.job c.call d (found_tries c d h)

  pub trial_made : (new : World) (d : Decision) (p : Pace) → Decides mid s d
      → IfSome (standing_of (frame_at mid.frames.items s)) (λ f. state_of new ≡ after_commit (state_of mid) s f.site f.ask f.owes d)
      → p ≡ pace_of d → IfSome (raw_at old.files old.core old.jobs old.alarms.items s)
      (λ q. tick_in (state_of old) s q (frame_at old.frames.items s) ≡ ticked (state_of new) p)
  trial_made new d p h carried pace =
      let c = caller old s kept.sound e in
      let t = found_tries c d h in
      let made : state_of new ≡ after_commit (state_of mid) s c.call.site c.call.ask c.call.owes d =
      subst (λ (o : Option Holding). IfSome o (λ f. state_of new ≡ after_commit (state_of mid) s f.site f.ask f.owes d))
      (ap standing_of (sym (frame_is mid s)) ∙ (found c).stands) carried in
      subst (λ (o : Option Whole). IfSome o (λ q. tick_in (state_of old) s q (frame_at old.frames.items s) ≡ ticked (state_of new) p))
      (sym c.calls.raw ∙ raw_is old s)
      (ap (tick_in (state_of old) s c.job) (sym (frame_is old s)) ∙ t.row ∙ (λ i. record { state = sym made i; pace = sym pace i }))

  pub trial_pages : (new : World) (d : Decision) → Decides mid s d → ReachPages old mid s → new.core.frames ≡ pages_carried d s (state_of mid) mid.core.frames
      → IfSome (raw_at old.files old.core old.jobs old.alarms.items s)
      (λ q. new.core.frames ≡ pages_in (state_of old) s q (frame_at old.frames.items s) old.core.frames)
  trial_pages new d h reaches carried =
      let c = caller old s kept.sound e in
      let w : State = state_of old in
      let g : mid.core.frames ≡ pages_unwound (reach w.raw s c.job c.call.ask) w old.core.frames =
      of_call old s (λ f q. mid.core.frames ≡ pages_unwound (reach w.raw s q f.ask) w old.core.frames) c.call c.job c.calls reaches in
      let is : d ≡ decision (state_of mid).raw s c.job c.call.ask =
      of_call mid s (λ f q. d ≡ decision (state_of mid).raw s q f.ask) c.call c.job (still c) h in
      let made : new.core.frames ≡ pages_tried w s c.job c.call.ask old.core.frames =
      carried ∙ (λ t. pages_carried (is t) s (state_of mid) (g t))
      ∙ ap (λ (v : State). pages_carried (decision v.raw s c.job c.call.ask) s v
      (pages_unwound (reach w.raw s c.job c.call.ask) w old.core.frames)) (ready_is c) in
      subst (λ (o : Option Whole). IfSome o (λ q. new.core.frames ≡ pages_in w s q (frame_at old.frames.items s) old.core.frames))
      (sym c.calls.raw ∙ raw_is old s)
      (made ∙ sym (ap (λ (o : Option Frame). pages_in w s c.job o old.core.frames) (sym (frame_is old s))
      ∙ tried_pages w s c.job (w.frames s) c.call old.core.frames c.calls.stands (clear_call old s c.call c.job c.calls clear)))
