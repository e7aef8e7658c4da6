-- The tick of a slot that is on a wait list: `w`, and nothing changes; and a slot whose call was
-- found not ready has this letter in no other case.
use Rattle.std.specs.Prelude.{if◌then◌else◌, ◌≡◌, ◌<◌, ◌==◌, ℕ, zero, suc, Bool, true, false, Option, Some, None, IfSome, List, [], ◌∷◌, replicate, refl}
use Rattle.std.proofs.Common.{sym, ◌∙◌, ap, subst}
use Rattle.its_records.specs.declared.calls.Ask.{Ask}
use Rattle.its_records.specs.declared.calls.Pace.TheVariants.{Wait as Waited}
use Rattle.its_records.specs.declared.calls.Site.{Site}
use Rattle.its_records.specs.declared.jobs.Job.{Job}
use Rattle.its_core.specs.Cores.{core_at}
use Rattle.its_core.specs.Frames.{Frames}
use Rattle.its_jobs.specs.Table.{job_at, superior_at}
use Rattle.its_frame.specs.declared.decision.Decision.{Decision}
use Rattle.its_frame.specs.declared.decision.Decision.TheVariants.{Waits}
use Rattle.its_frame.specs.declared.decision.Wait.{Wait}
use Rattle.its_frame.specs.declared.frame.Frame.{Frame}
use Rattle.its_frame.specs.declared.frame.Frame.TheVariants as frames
use Rattle.its_frame.specs.declared.frame.Holding.{Holding}
use Rattle.its_frame.specs.declared.frame.Waiting.{Waiting}
use Rattle.its_frame.specs.declared.name.CallName.{CallName}
use Rattle.its_frame.specs.declared.name.CallName.TheVariants as calls
use Rattle.its_plain.specs.Call.Arguments.{input}
use Rattle.its_plain.specs.Call.Step.{decision}
use Rattle.its_plain.specs.Call.Decide.{call_named, listed, target, reach_by, reach}
use Rattle.its_plain.specs.Machine.{Whole, Machine}
use Rattle.its_plain.specs.Call.Reasons.{held_up}
use Rattle.its_stepped.specs.Commit.{after_commit}
use Rattle.its_stepped.specs.Forest.{Forest}
use Rattle.its_stepped.specs.Sound.{Sound, IsWaitable}
use Rattle.its_stepped.specs.State.{State, plain, seen, same, waiting}
use Rattle.its_stepped.specs.Lines.{paces_of, after_ticks}
use Rattle.its_stepped.specs.Tick.{Ticked, tick_in, tick, tried, with_preparation, helps, after_help_if}
use Rattle.its_stepped.specs.Unwind.{all_unwound}
use Rattle.its_stepped.proofs.Keeping.ConsoledLaws.{raw_consoled}
use Rattle.its_stepped.proofs.Committing.TriedLaws.{waits_unreached}
use Rattle.its_stepped.proofs.Committing.ViewLaws.{reach_plain}
use Rattle.its_stepped.proofs.Ticking.WaitLaws.{Goes_on}
use Rattle.its_world.specs.WaitLists.{list_for}
use Rattle.its_world.specs.Filed.{doors_of, wait_list_of, Blocked}
use Rattle.its_world.specs.World.{alarm_at, frame_at, raw_at, state_of}
use Rattle.its_world.specs.declared.world.World.{World}
use Rattle.its_world.proofs.StateLaws.{raw_job, raw_some}
use Rattle.its_world.proofs.StorageLaws.{frame_is}
use Rattle.its_commit.specs.Carried.{standing_of}
use Rattle.its_commit.specs.Pages.{pages_carried}
use Rattle.its_pclsr.specs.Pages.{pages_unwound}
use Rattle.its_commit.proofs.TriesLaws.{tries}
use Rattle.its_tick.specs.Kept.{Kept}
use Rattle.its_tick.proofs.WaitsLaws.{Placed, placed, stands_there, stands_here, held_place, list_within, frame_none, housed_at, raw_is, sound_at, waits_decided, waits_place}
use Rattle.its_tick.specs.Pages.{pages_in, pages_ticked}
use Rattle.its_tick.specs.Ticks.{is_waiting, ticked}
use Rattle.its_tick.proofs.FramesLaws.{frames_call}
use Rattle.its_tick.proofs.StepsLaws.{slot_nothing}
use Rattle.its_tick.proofs.TickLaws.{runs_by}

-- its tick, which leaves all as it was
waits_row : (w : State) (s : ℕ) (q : Whole) (f : Waiting) (r : Wait) → w.raw.jobs s ≡ Some q → w.frames s ≡ Some (frames.Waiting f)
    → decision (plain w) s (seen (Some (frames.Waiting f)) q) f.ask ≡ Waits r → tick_in w s q (Some (frames.Waiting f)) ≡ ticked w Waited
unfolding after_commit
waits_row w s q f r is fr d =
    ap (tried w (with_preparation w s (seen (Some (frames.Waiting f)) q) f.ask) s f.site f.ask f.owes) d
    ∙ ap (λ (v : State). ticked v Waited) (sym (slot_nothing w s q same (Some (waiting f.site f.ask f.owes)) is refl fr))

record IsWaiting (o : Option Frame) : Type 0 where
  frame : Waiting
  is : o ≡ Some (frames.Waiting frame)

waiting_of : (o : Option Frame) → is_waiting o ≡ true → IsWaiting o
waiting_of (Some (frames.Waiting f)) h = record { frame = f; is = refl }
waiting_of _ h = absurd cc

-- a call that waits reaches no job, and its tick leaves the pages in their frames
no_target : (m : Machine) (j : ℕ) (q : Whole) (a : Ask) (r : Wait) (o : Option ℕ) → IsWaitable (call_named a.name)
    → decision m j q a ≡ Waits r → target q a ≡ o → o ≡ None
no_target m j q a r None w d e = refl
no_target m j q a r (Some s) w d e = absurd (subst Goes_on d (waits_unreached m j q a s e w))

reach_named : (m : Machine) (j : ℕ) (q : Whole) (a : Ask) (o : Option CallName) → IsWaitable o → target q a ≡ None → reach_by m j q a o ≡ []
reach_named m j q a (Some calls.Hang) w e = ap listed e
reach_named m j q a (Some calls.Sleep) w e = ap listed e
reach_named m j q a (Some calls.Iot) w e = ap listed e
reach_named m j q a (Some calls.Siot) w e = ap listed e
reach_named m j q a (Some calls.Finish) w e = ap listed e
reach_named m j q a (Some calls.Listen) w e = ap listed e
reach_named m j q a _ w e = absurd w

reach_if : (b : Bool) (ks : List ℕ) → ks ≡ [] → (if b then ks else []) ≡ []
reach_if true ks e = e
reach_if false ks e = refl

pub reach_none : (m : Machine) (j : ℕ) (q : Whole) (a : Ask) (r : Wait) → IsWaitable (call_named a.name) → decision m j q a ≡ Waits r → reach m j q a ≡ []
unfolding reach
reach_none m j q a r w d =
    reach_if (a.fail == 0) (reach_by m j q a (call_named a.name))
    (reach_named m j q a (call_named a.name) w (let n = no_target m j q a r (target q a) w d refl in n))

pages_waits : (w : State) (j : ℕ) (q : Whole) (f : Waiting) (g : Frames) (r : Wait) → Sound w → Forest (plain w) → w.raw.jobs j ≡ Some q
    → IfSome q.job.console (λ c. c < 8) → w.frames j ≡ Some (frames.Waiting f)
    → decision (plain w) j (seen (Some (frames.Waiting f)) q) f.ask ≡ Waits r → pages_in w j q (Some (frames.Waiting f)) g ≡ g
pages_waits w j q f g r sound forest is housed fr e =
    let h : Holding = record { site = f.site; ask = f.ask; page = None; owes = f.owes } in
    let v : State = after_help_if (helps q f.ask) (all_unwound (reach w.raw j q f.ask) w) in
    let t = tries w v j q h (decision v.raw j q f.ask) sound forest is housed (ap standing_of fr) tt refl refl in
    let d : decision v.raw j q f.ask ≡ Waits r = sym t.decides ∙ ap (λ (o : Option Frame). decision (plain w) j (seen o q) f.ask) fr ∙ e in
    let k = sound_at w j q (frames.Waiting f) sound is fr in
    let none : reach w.raw j q f.ask ≡ [] = sym (reach_plain w j (Some (frames.Waiting f)) q f.ask)
    ∙ reach_none (plain w) j (seen (Some (frames.Waiting f)) q) f.ask r k.pays.waitable e in
    ap (λ (x : Decision). pages_carried x j v (pages_unwound (reach w.raw j q f.ask) w g)) d ∙ ap (λ ks. pages_unwound ks w g) none

-- a slot that is on a wait list
record Rung (w : World) (s : ℕ) : Type 0 where
  job : Job
  frame : Waiting
  reason : Wait
  in_job : job_at w.jobs s ≡ Some job
  in_frame : frame_at w.frames.items s ≡ Some (frames.Waiting frame)
  runs : job.stopped ≡ false
  waits : decision (plain (state_of w)) s (seen (Some (frames.Waiting frame))
      (raw_job w.files (core_at w.core s) job (superior_at w.jobs s) (alarm_at w.alarms.items s))) frame.ask ≡ Waits reason

rung : (w : World) (s : ℕ) → Kept w → Blocked w s → Rung w s
rung w s kept b =
    let x : Placed w s b.list = placed w s b.list kept.sound
    (stands_there w.wait_lists.lists s b.list (wait_list_of w s) (kept.tidy.on_lists.each s) b.here) in
    let h = held_place x.reason (held_up (doors_of w) s (input x.frame.ask 0) x.reason) b.list x.within x.at b.within in
    let q : Whole = raw_job w.files (core_at w.core s) x.job (superior_at w.jobs s) (alarm_at w.alarms.items s) in
    let k = sound_at (state_of w) s q (frames.Waiting x.frame) kept.sound (raw_is w s x.job x.in_job) (frame_is w s ∙ x.in_frame) in
    record {
      job = x.job;
      frame = x.frame;
      reason = x.reason;
      in_job = x.in_job;
      in_frame = x.in_frame;
      runs = k.runs;
      waits = waits_decided w s x.job x.frame x.reason kept.sound x.in_job x.in_frame x.can_wait h.0;
    }

-- its tick
pub tick_blocked : (w : World) (s : ℕ) → Kept w → Blocked w s → tick (state_of w) s ≡ ticked (state_of w) Waited
tick_blocked w s kept b =
    let x = rung w s kept b in
    let q : Whole = raw_job w.files (core_at w.core s) x.job (superior_at w.jobs s) (alarm_at w.alarms.items s) in
    runs_by w s x.job (Some (frames.Waiting x.frame)) (ticked (state_of w) Waited) x.in_job x.runs x.in_frame
    (subst (λ (o : Option Whole). IfSome o (λ p. tick_in (state_of w) s p (Some (frames.Waiting x.frame)) ≡ ticked (state_of w) Waited))
    (sym (raw_some w s x.job x.in_job))
    (waits_row (state_of w) s q x.frame x.reason (raw_is w s x.job x.in_job) (frame_is w s ∙ x.in_frame) x.waits))

pub pages_blocked : (w : World) (s : ℕ) → Kept w → Blocked w s → w.core.frames ≡ pages_ticked (state_of w) s w.core.frames
pages_blocked w s kept b =
    let x = rung w s kept b in
    let q : Whole = raw_job w.files (core_at w.core s) x.job (superior_at w.jobs s) (alarm_at w.alarms.items s) in
    frames_call w s x.job w.core.frames x.in_job x.runs
    (subst (λ (f : Option Frame). IfSome (raw_at w.files w.core w.jobs w.alarms.items s)
    (λ p. w.core.frames ≡ pages_in (state_of w) s p f w.core.frames)) (sym x.in_frame)
    (subst (λ (o : Option Whole). IfSome o (λ p. w.core.frames ≡ pages_in (state_of w) s p (Some (frames.Waiting x.frame)) w.core.frames))
    (sym (raw_some w s x.job x.in_job))
    (sym (pages_waits (state_of w) s q x.frame w.core.frames x.reason kept.sound kept.forest (raw_is w s x.job x.in_job)
    (raw_consoled (state_of w) s q (record { each = kept.consoled }) (raw_is w s x.job x.in_job)) (frame_is w s ∙ x.in_frame) x.waits))))

-- a call that was found not ready, and waits again, is on the list of its reason
tried_waits : (w v : State) (j : ℕ) (s : Site) (a : Ask) (n : ℕ) (d : Decision) → (tried w v j s a n d).pace ≡ Waited → (r : Wait) × (d ≡ Waits r)
tried_waits w v j s a n (Waits r) e = (r, refl)
tried_waits w v j s a n _ e = absurd cc

waits_by : (w : World) (s : ℕ) (f : Waiting) (o : Option Job) → Kept w → job_at w.jobs s ≡ o
    → frame_at w.frames.items s ≡ Some (frames.Waiting f) → (tick (state_of w) s).pace ≡ Waited → Blocked w s
waits_by w s f (Some j) kept job fr e =
    let q : Whole = raw_job w.files (core_at w.core s) j (superior_at w.jobs s) (alarm_at w.alarms.items s) in
    let own : Whole = seen (Some (frames.Waiting f)) q in
    let k = sound_at (state_of w) s q (frames.Waiting f) kept.sound (raw_is w s j job) (frame_is w s ∙ fr) in
    let row : tick (state_of w) s ≡ tick_in (state_of w) s q (Some (frames.Waiting f)) =
    runs_by w s j (Some (frames.Waiting f)) (tick_in (state_of w) s q (Some (frames.Waiting f))) job k.runs fr
    (subst (λ (o : Option Whole). IfSome o (λ p. tick_in (state_of w) s p (Some (frames.Waiting f)) ≡ tick_in (state_of w) s q
    (Some (frames.Waiting f)))) (sym (raw_some w s j job)) refl) in
    let d = tried_waits (state_of w) (with_preparation (state_of w) s own f.ask) s f.site f.ask f.owes
    (decision (plain (state_of w)) s own f.ask) (ap (λ t. t.pace) (sym row) ∙ e) in
    let p = waits_place w s j f d.0 kept.sound kept.forest job fr d.1 (housed_at w s j kept.consoled job) in
    record {
      list = list_for d.0;
      within = list_within d.0 p.1;
      here = stands_here w.wait_lists.lists s (list_for d.0) (wait_list_of w s) (kept.tidy.on_lists.each s) p.0;
    }
waits_by w s f None kept job fr e = let n = sym (frame_none w s kept.sound job) ∙ fr in absurd cc

pub waits_blocked : (w : World) (s : ℕ) → Kept w → is_waiting (frame_at w.frames.items s) ≡ true → (tick (state_of w) s).pace ≡ Waited → Blocked w s
waits_blocked w s kept h e = let f = waiting_of (frame_at w.frames.items s) h in waits_by w s f.frame (job_at w.jobs s) kept refl f.is e

-- a slot that is on a wait list of a kept world waits
pub blocked_waits : (w : World) (s : ℕ) → Kept w → Blocked w s → is_waiting (frame_at w.frames.items s) ≡ true
blocked_waits w s kept b = ap is_waiting (rung w s kept b).in_frame

-- all its ticks
pub ticks_blocked : (w : World) (s n : ℕ) → Kept w → Blocked w s → (paces_of (state_of w) s n ≡ replicate n Waited)
    × (after_ticks (state_of w) s n ≡ state_of w)
ticks_blocked w s zero kept b = (refl, refl)
ticks_blocked w s (suc n) kept b =
    let t = tick_blocked w s kept b in
    let more = ticks_blocked w s n kept b in (
      ap (λ (x : Ticked). x.pace ∷ paces_of x.state s n) t ∙ ap (λ ps. Waited ∷ ps) more.0,
      ap (λ (x : Ticked). after_ticks x.state s n) t ∙ more.1,
    )
