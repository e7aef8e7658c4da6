-- The rows of a tick of a world, and what a tick keeps.
use Rattle.std.specs.Prelude.{◌≡◌, ◌<◌, ℕ, Bool, true, false, Option, Some, None, IfSome, is_some, refl}
use Rattle.std.proofs.Common.{sym, ◌∙◌, ap, subst}
use Rattle.its_word.specs.Core.{Core}
use Rattle.its_records.specs.declared.calls.Pace.{Pace}
use Rattle.its_records.specs.declared.calls.Pace.TheVariants.{Step, Work, Wait, Off}
use Rattle.its_records.specs.declared.jobs.Job.{Job}
use Rattle.its_core.specs.Cores.{core_at}
use Rattle.its_files.specs.Files.{Store}
use Rattle.its_jobs.specs.Table.{job_at, superior_at}
use Rattle.its_frame.specs.declared.frame.Frame.{Frame}
use Rattle.its_world.specs.Tidy.{Tidy}
use Rattle.its_plain.specs.Operator.Clock.{clock_end}
use Rattle.its_plain.specs.Unit.Interrupt.{deliverable, delivered}
use Rattle.its_plain.specs.Machine.{Whole, Machine}
use Rattle.its_plain.specs.Unit.{unit}
use Rattle.its_stepped.specs.Address.{Addressed}
use Rattle.its_stepped.specs.Consoled.{Consoled}
use Rattle.its_stepped.specs.Duty.{Given}
use Rattle.its_stepped.specs.Alarmed.{Alarmed}
use Rattle.its_stepped.specs.Forest.{Forest}
use Rattle.its_plain.specs.Transcript.Licence.{Licensed}
use Rattle.its_stepped.specs.Sound.{Sound}
use Rattle.its_stepped.specs.State.{State, plain}
use Rattle.its_stepped.specs.Tick.{Ticked, after_delivery, unit_on, user_on, tick_in, tick_unless, tick_of, tick}
use Rattle.its_stepped.proofs.Keeping.AddressLaws.{step_addressed}
use Rattle.its_stepped.proofs.Keeping.ClockLaws.{step_clock}
use Rattle.its_stepped.proofs.Keeping.AlarmLaws.{step_alarmed}
use Rattle.its_stepped.proofs.Keeping.ConsoledLaws.{step_consoled}
use Rattle.its_stepped.proofs.Frame.DecodingLaws.{decoding}
use Rattle.its_stepped.proofs.Duties.FitLaws.{forest_steps}
use Rattle.its_stepped.proofs.Duties.GivenLaws.{given}
use Rattle.its_stepped.proofs.Ticking.SoundLaws.{tick_sound}
use Rattle.its_stepped.proofs.Ticking.TickLaws.{tick_is}
use Rattle.its_world.specs.World.{alarm_at, state_of, raw_at, frame_at}
use Rattle.its_world.specs.declared.world.World.{World}
use Rattle.its_shared.proofs.BareLaws.{deliverable_bare}
use Rattle.its_world.proofs.StateLaws.{raw_job, raw_some, raw_none}
use Rattle.its_tick.specs.Kept.{Kept}
use Rattle.its_tick.specs.Ticks.{ticked}
use Rattle.its_records.proofs.FreeLaws.{none_is}
use Rattle.its_world.proofs.StorageLaws.{frame_is}
use Rattle.its_tick.proofs.WaitsLaws.{kept_is}

-- the state and the letter of a tick
pub state_ticked : (t : Ticked) (w : State) (p : Pace) → t ≡ ticked w p → w ≡ t.state
state_ticked t w p e = sym (ap (λ (x : Ticked). x.state) e)

pub pace_ticked : (t : Ticked) (w : State) (p : Pace) → t ≡ ticked w p → p ≡ t.pace
pace_ticked t w p e = sym (ap (λ (x : Ticked). x.pace) e)

-- a slot without a job, and one whose job is stopped
tick_at : (w : World) (s : ℕ) (o : Option Whole) → raw_at w.files w.core w.jobs w.alarms.items s ≡ o → tick (state_of w) s ≡ tick_of (state_of w) s o
unfolding tick state_of
tick_at w s o e = ap (tick_of (state_of w) s) e

pub tick_absent : (w : World) (s : ℕ) → job_at w.jobs s ≡ None → tick (state_of w) s ≡ ticked (state_of w) Off
tick_absent w s none = tick_at w s None (raw_none w s none)

pub tick_some : (w : World) (s : ℕ) (j : Job) (b : Bool) → job_at w.jobs s ≡ Some j → j.stopped ≡ b
    → tick (state_of w) s ≡ tick_unless (state_of w) s (raw_job w.files (core_at w.core s) j (superior_at w.jobs s) (alarm_at w.alarms.items s)) b
tick_some w s j b is h =
    let q : Whole = raw_job w.files (core_at w.core s) j (superior_at w.jobs s) (alarm_at w.alarms.items s) in
    tick_at w s (Some q) (raw_some w s j is) ∙ ap (tick_unless (state_of w) s q) h

pub tick_stopped : (w : World) (s : ℕ) (j : Job) → job_at w.jobs s ≡ Some j → j.stopped ≡ true → tick (state_of w) s ≡ ticked (state_of w) Off
tick_stopped w s j is h = tick_some w s j true is h

pub runs_by : (w : World) (s : ℕ) (j : Job) (f : Option Frame) (t : Ticked) → job_at w.jobs s ≡ Some j → j.stopped ≡ false → frame_at w.frames.items s ≡ f
    → IfSome (raw_at w.files w.core w.jobs w.alarms.items s) (λ q. tick_in (state_of w) s q f ≡ t) → tick (state_of w) s ≡ t
runs_by w s j f t is runs fr row =
    let q : Whole = raw_job w.files (core_at w.core s) j (superior_at w.jobs s) (alarm_at w.alarms.items s) in
    tick_some w s j false is runs
    ∙ ap (tick_in (state_of w) s q) (frame_is w s ∙ fr)
    ∙ subst (λ (o : Option Whole). IfSome o (λ q. tick_in (state_of w) s q f ≡ t)) (raw_some w s j is) row

pub tick_call : (old new : World) (s : ℕ) (j : Job) (p : Pace) → job_at old.jobs s ≡ Some j → j.stopped ≡ false
    → IfSome (raw_at old.files old.core old.jobs old.alarms.items s) (λ q. tick_in (state_of old) s q (frame_at old.frames.items s) ≡ ticked (state_of new) p)
    → tick (state_of old) s ≡ ticked (state_of new) p
tick_call old new s j p is runs row = runs_by old s j (frame_at old.frames.items s) (ticked (state_of new) p) is runs refl row

-- in user mode an interrupt is delivered, or a unit is executed
deliverable_raw : (s : Store) (c : Core) (j : Job) (o : Option ℕ) (a : Option (ℕ × ℕ)) → deliverable (raw_job s c j o a).job ≡ deliverable j
deliverable_raw s c j o a = deliverable_bare j

user_by : (w : World) (s : ℕ) (j : Job) (b : Bool) (t : Ticked) → job_at w.jobs s ≡ Some j → j.stopped ≡ false
    → frame_at w.frames.items s ≡ None → deliverable j ≡ b
    → IfSome (raw_at w.files w.core w.jobs w.alarms.items s) (λ q. user_on (state_of w) s q b ≡ t) → tick (state_of w) s ≡ t
user_by w s j b t is runs fr d row =
    let q : Whole = raw_job w.files (core_at w.core s) j (superior_at w.jobs s) (alarm_at w.alarms.items s) in
    tick_some w s j false is runs
    ∙ ap (tick_in (state_of w) s q) (frame_is w s ∙ fr)
    ∙ ap (user_on (state_of w) s q) (deliverable_raw w.files (core_at w.core s) j (superior_at w.jobs s) (alarm_at w.alarms.items s) ∙ d)
    ∙ subst (λ (o : Option Whole). IfSome o (λ q. user_on (state_of w) s q b ≡ t)) (raw_some w s j is) row

delivered_row : (o : Option Whole) (v w : State) (s : ℕ) → IfSome o (λ q. v ≡ after_delivery w s q (delivered q.core q.job))
    → IfSome o (λ q. user_on w s q true ≡ ticked v Step)
delivered_row (Some q) v w s h = ap (λ (x : State). ticked x Step) (sym h)
delivered_row None v w s h = tt

pub tick_delivery : (old new : World) (s : ℕ) (j : Job) → job_at old.jobs s ≡ Some j → j.stopped ≡ false
    → is_some (frame_at old.frames.items s) ≡ false → deliverable j ≡ true
    → IfSome (raw_at old.files old.core old.jobs old.alarms.items s)
    (λ q. state_of new ≡ after_delivery (state_of old) s q (delivered q.core q.job)) → tick (state_of old) s ≡ ticked (state_of new) Step
tick_delivery old new s j is runs fr d row =
    user_by old s j true (ticked (state_of new) Step) is runs (none_is (frame_at old.frames.items s) fr) d
    (delivered_row (raw_at old.files old.core old.jobs old.alarms.items s) (state_of new) (state_of old) s row)

pub tick_unit : (old new : World) (s : ℕ) (j : Job) (p : Pace) → job_at old.jobs s ≡ Some j → j.stopped ≡ false
    → is_some (frame_at old.frames.items s) ≡ false → deliverable j ≡ false
    → IfSome (raw_at old.files old.core old.jobs old.alarms.items s)
    (λ q. unit_on (state_of old) s (unit q.core q.job) ≡ ticked (state_of new) p) → tick (state_of old) s ≡ ticked (state_of new) p
tick_unit old new s j p is runs fr d row = user_by old s j false (ticked (state_of new) p) is runs (none_is (frame_at old.frames.items s) fr) d row

-- a tick is licensed by its letter
given_of : (w : World) (s : ℕ) → Kept w → Given (state_of w) s
given_of w s kept = given decoding (state_of w) s kept.forest kept.sound

pub tick_licensed : (old new : World) (s : ℕ) (p : Pace) → Kept old → tick (state_of old) s ≡ ticked (state_of new) p
    → Licensed (plain (state_of old)) s p (plain (state_of new))
tick_licensed old new s p kept e =
    subst (λ (t : Ticked). Licensed (plain (state_of old)) s t.pace (plain t.state)) e (tick_is (state_of old) s kept.sound (given_of old s kept))

-- what the plain machine keeps through its step
pub record Lasts (m : Machine) : Type 0 where
  pub forest : Forest m
  pub addressed : Addressed m
  pub consoled : Consoled m
  pub timed : m.clock < clock_end
  pub alarmed : Alarmed m

pub lasts : (m n : Machine) (s : ℕ) (p : Pace) → Lasts m → Licensed m s p n → Lasts n
lasts m n s Step h l = record {
  forest = forest_steps m n s h.forest l;
  addressed = step_addressed m n s h.addressed l;
  consoled = step_consoled m n s h.consoled l;
  timed = subst (λ (t : ℕ). t < clock_end) (sym (step_clock m n s l)) h.timed;
  alarmed = step_alarmed m n s h.forest h.alarmed l;
}
lasts m n s Work h (r, e) = subst Lasts (sym e) h
lasts m n s Wait h (r, d, e) = subst Lasts (sym e) h
lasts m n s Off h (r, e) = subst Lasts (sym e) h

pub tick_kept : (old new : World) (s : ℕ) (p : Pace) → Kept old → tick (state_of old) s ≡ ticked (state_of new) p → Tidy new → Kept new
tick_kept old new s p kept e tidy =
    let h : Lasts (plain (state_of old)) = record {
      forest = kept.forest;
      addressed = record { each = kept.addressed };
      consoled = record { each = kept.consoled };
      timed = kept.timed;
      alarmed = kept.alarmed;
    } in
    let l = lasts (plain (state_of old)) (plain (state_of new)) s p h (tick_licensed old new s p kept e) in
    kept_is new
    (subst (λ (t : Ticked). Sound t.state) e (tick_sound (state_of old) s kept.sound (given_of old s kept)))
    l.forest
    tidy
    l.addressed.each
    l.consoled.each
    l.timed
    l.alarmed
