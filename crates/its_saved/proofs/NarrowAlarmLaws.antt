-- What the lines of a session leave of alarms: next times have 36 bits. An alarm that CLOCK makes
-- go comes again one period after the new clock at most.
use Rattle.std.specs.Prelude.{◌==◌, ◌≡◌, ◌<◌, ◌≤◌, ◌⊎◌, ◌&&◌, ℕ, ◌+◌, ◌-◌, ◌*◌, ◌/◌, ◌^◌, Bool, true, false, Option, Some, None, IfSome, List, [], ◌∷◌, nat_lt, refl}
use Rattle.std.proofs.Common.{sym, subst, inl, inr, arith, div-mul-le_self}
use Rattle.std.proofs.lemmas.Bool.{and_parts, leb-true}
use Rattle.its_word.specs.Limits.{slots}
use Rattle.its_records.specs.declared.session.Event.{Event}
use Rattle.its_records.specs.declared.session.Event.TheVariants as events
use Rattle.its_records.specs.declared.state_line.StateLine.{StateLine}
use Rattle.its_records.specs.declared.state_line.StateLine.TheVariants as states
use Rattle.its_frame.specs.declared.change.Change.TheVariants as changes
use Rattle.its_session.specs.Fits.{EventFits}
use Rattle.its_session.specs.StateFits.{StateFits}
use Rattle.its_plain.specs.Call.Basic.{longest_period}
use Rattle.its_plain.specs.Machine.{Chan, Reads, On, Linked, Whole, Machine}
use Rattle.its_plain.specs.Machine.Alarm.{is_due, time_after, alarm_renewed}
use Rattle.its_plain.specs.Machine.Change.{in_job, with_alarm, effect, effects}
use Rattle.its_plain.specs.Machine.Own.{names_of, on_channel}
use Rattle.its_plain.specs.Operator.Clock.{alarm_in, due, after_alarm_if, at_clock, clock_end}
use Rattle.its_plain.specs.Operator.State.{on_tty, under}
use Rattle.its_plain.proofs.CallLineLaws.{AlarmsKept, Same, Went, Restores, job_keeps, Leaves}
use Rattle.its_plain.proofs.RestoredLaws.{Opens, empty_draft, words_appended}
use Rattle.its_stepped.specs.Alarmed.{Coming, Alarmed}
use Rattle.its_stepped.proofs.Keeping.AlarmLaws.{AlarmedBy, one_more}
use Rattle.its_saved.proofs.NarrowStepLaws.{Timely, TimelyIn, KeepsAlarm, mapped_timely}

-- of each job
abbrev pub TimelyOf : Machine → Type 0
TimelyOf m = (k : ℕ) → TimelyIn (m.jobs k)

job_timely : (m : Machine) (s : ℕ) (f : Whole → Whole) → KeepsAlarm f → TimelyOf m → TimelyOf (in_job m s f)
job_timely m s f h t k = mapped_timely f (k == s) (m.jobs k) h (t k)

-- an alarm that goes
time_narrow : (c : ℕ) (a : ℕ × ℕ) → c < clock_end → a.0 ≤ longest_period → a.1 ≤ c → time_after c a < 2 ^ 36
unfolding time_after
time_narrow c a below most due =
    let p = a.0 in
    let whole : (c - a.1) / p * p ≤ c - a.1 = div-mul-le_self (c - a.1) p in
    let e : ((c - a.1) / p + 1) * p ≡ (c - a.1) / p * p + p = one_more ((c - a.1) / p) p in
    rw e (omega arith)

renewed_timely : (c d : ℕ) (o : Option (ℕ × ℕ)) → d < clock_end → is_due d o ≡ true → IfSome o (λ a. Coming c a) → Timely (alarm_renewed d o)
renewed_timely c d (Some a) below due h = time_narrow d a below h.most (leb-true a.1 d due)
renewed_timely c d None below due h = tt

went_timely : (c d k : ℕ) (o : Option Whole) (b : Bool) → d < clock_end → (nat_lt k slots && is_due d (alarm_in o)) ≡ b → AlarmedBy c o → TimelyIn o
    → TimelyIn (after_alarm_if d b o)
went_timely c d k (Some q) true below is h t = renewed_timely c d q.alarm below (and_parts (nat_lt k slots) (is_due d q.alarm) is).1 h
went_timely c d k None true below is h t = tt
went_timely c d k o false below is h t = t

clock_timely : (m : Machine) (d : ℕ) → d < clock_end → Alarmed m → TimelyOf m → TimelyOf (at_clock d m)
clock_timely m d below h t k = went_timely m.clock d k (m.jobs k) (due d m.jobs k) below refl (h.each k) (t k)

-- an alarm that stays, or is gone
kept_timely : (o p : Option Whole) → (alarm_in p ≡ alarm_in o) ⊎ (alarm_in p ≡ None) → TimelyIn o → TimelyIn p
kept_timely o p (inl e) t = subst Timely (sym e) t
kept_timely o p (inr e) t = subst Timely (sym e) tt

alarms_timely : (m n : Machine) → AlarmsKept m n → n.clock < clock_end → Alarmed m → TimelyOf m → TimelyOf n
alarms_timely m n (Same clock kept) below h t = λ k. kept_timely (m.jobs k) (n.jobs k) (kept k) (t k)
alarms_timely m n (Went d later is) below h t =
    subst TimelyOf (sym is) (clock_timely m d (subst (λ (x : Machine). x.clock < clock_end) is below) h t)

-- lines of the state part
opened_timely : (m n : Machine) (s i : ℕ) (x : Chan) → Opens m s i x n → TimelyOf m → TimelyOf n
opened_timely m n s i x f t = subst TimelyOf (sym f.is) (job_timely m s (on_channel i (λ c. x)) (λ q a. a) t)

appended_timely : (ws : List ℕ) (m : Machine) (s i : ℕ) → TimelyOf m → TimelyOf (effects (words_appended i ws) s m)
unfolding effect
appended_timely [] m s i t = t
appended_timely (w ∷ ws) m s i t = appended_timely ws (effect (changes.Append i w) s m) s i (job_timely m s _ (λ q a. a) t)

restored_timely : (m n : Machine) (line : StateLine) → StateFits 2 line → Restores m line n → n.clock < clock_end → Alarmed m → TimelyOf m → TimelyOf n
unfolding effect
restored_timely m n (states.Job s u j console) i f below h t = alarms_timely m n (job_keeps m n s u j console f).alarms below h t
restored_timely m n (states.Alarm s period next) i f below h t =
    subst TimelyOf (sym f.is) (job_timely m s (with_alarm (Some (period, next))) (λ q a. i.3) t)
restored_timely m n (states.Under s k) i f below h t = subst TimelyOf (sym f.is) (job_timely m s (under k) (λ q a. a) t)
restored_timely m n (states.Tty s c write) i f below h t = opened_timely m n s c (on_tty write) f t
restored_timely m n (states.Disk s c d x y at) i f below h t = opened_timely m n s c (Reads (names_of d x y) at) f t
restored_timely m n (states.Draft s c d x y) i f below h t = opened_timely m n s c (empty_draft (names_of d x y)) f t
restored_timely m n (states.Usr s c k write at) i f below h t = opened_timely m n s c (On k write at) f t
restored_timely m n (states.Wrote s c words) i f below h t = subst TimelyOf (sym f.is) (appended_timely words.items m s c t)
restored_timely m n (states.Join s c l write x y) i f below h t =
    subst TimelyOf (sym f.is) (job_timely m s (on_channel c (λ k. Linked l write)) (λ q a. a) t)
restored_timely m n (states.Sent l words) i f below h t = subst TimelyOf (sym f.is) t
restored_timely m n (states.EndShut l write) i f below h t = subst TimelyOf (sym f.is) t
restored_timely m n (states.Input c bytes) i f below h t = subst TimelyOf (sym f.is) t
restored_timely m n (states.Output c bytes) i f below h t = subst TimelyOf (sym f.is) t
restored_timely m n (states.Hold c s) i f below h t = subst TimelyOf (sym f.is) t
restored_timely m n line i f below h t = alarms_timely m n f.alarms below h t

-- any line that leads to a machine whose clock is below its end
pub leaves_timely : (m n : Machine) (e : Event) → EventFits 2 e → Leaves m e n → n.clock < clock_end → Alarmed m → TimelyOf m → TimelyOf n
leaves_timely m n (events.Restore line) i f below h t = restored_timely m n line i f below h t
leaves_timely m n e i f below h t = alarms_timely m n f.alarms below h t
