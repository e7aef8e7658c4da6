-- The alarms that CLOCK makes go: they are the same on the raw machine as on the plain one, before
-- the jobs are unwound as afterwards, and the jobs are then in user mode.
use Rattle.std.specs.Prelude.{◌≡◌, ℕ, ◌&&◌, Bool, true, false, Option, Some, None, option_map, nat_lt, refl}
use Rattle.std.specs.List.{range_with_len}
use Rattle.std.proofs.Common.{sym, ◌∙◌, ap, arith}
use Rattle.std.proofs.lemmas.Bool.{and_parts, ltb-true}
use Rattle.its_word.specs.Limits.{slots}
use Rattle.its_frame.specs.declared.frame.Frame.{Frame}
use Rattle.its_plain.specs.Machine.Alarm.{is_due}
use Rattle.its_plain.specs.Call.Step.{among}
use Rattle.its_plain.specs.Machine.{Whole, Machine}
use Rattle.its_plain.specs.Operator.Clock.{alarm_in, due, due_slots, after_alarm, after_alarm_if, at_clock}
use Rattle.its_plain.proofs.MachineLaws.{jobs_are}
use Rattle.its_stepped.specs.State.{State, seen, plain}
use Rattle.its_stepped.specs.Unwind.{all_unwound}
use Rattle.its_stepped.specs.Sound.{Sound}
use Rattle.its_stepped.specs.Lines.{with_raw}
use Rattle.its_stepped.proofs.Frame.FrameLaws.{seen_alike}
use Rattle.its_stepped.proofs.Unwinding.UnwindLaws.{filtered_out, among_filter, among_range, all_unwound_plain, all_unwound_none, all_unwound_others}

-- a frame has no pending alarm
pub seen_alarm : (f : Option Frame) (q : Whole) → (seen f q).alarm ≡ q.alarm
seen_alarm f q = seen_alike (λ p. p.alarm) (λ s p. refl) (λ e p. refl) f q

alarm_seen : (f : Option Frame) (o : Option Whole) → alarm_in (option_map (seen f) o) ≡ alarm_in o
alarm_seen f (Some q) = seen_alarm f q
alarm_seen f None = refl

pub alarm_plain : (w : State) (k : ℕ) → alarm_in ((plain w).jobs k) ≡ alarm_in (w.raw.jobs k)
unfolding plain
alarm_plain w k = alarm_seen (w.frames k) (w.raw.jobs k)

pub due_plain : (w : State) (c : ℕ) → due c (plain w).jobs ≡ due c w.raw.jobs
due_plain w c = λ t k. nat_lt k slots && is_due c (alarm_plain w k t)

clock_plain : (w : State) → (plain w).clock ≡ w.raw.clock
unfolding plain
clock_plain w = refl

-- a state of the same plain machine
pub due_same : (w v : State) (c : ℕ) → plain v ≡ plain w → due c v.raw.jobs ≡ due c w.raw.jobs
due_same w v c e = sym (due_plain v c) ∙ ap (λ (m : Machine). due c m.jobs) e ∙ due_plain w c

pub clock_same : (w v : State) → plain v ≡ plain w → v.raw.clock ≡ w.raw.clock
clock_same w v e = sym (clock_plain v) ∙ ap (λ (m : Machine). m.clock) e ∙ clock_plain w

-- a slot that is due is one of those in their order, and no other one is
pub due_listed : (c : ℕ) (jobs : ℕ → Option Whole) (k : ℕ) → due c jobs k ≡ true → among k (due_slots c jobs) ≡ true
unfolding due_slots
due_listed c jobs k h =
    let both = and_parts (nat_lt k slots) (is_due c (alarm_in (jobs k))) h in
    let below = ltb-true k slots both.0 in
    among_filter (due c jobs) k (range_with_len 0 slots) h (among_range k 0 slots (omega arith) (omega arith))

pub undue_unlisted : (c : ℕ) (jobs : ℕ → Option Whole) (k : ℕ) → due c jobs k ≡ false → among k (due_slots c jobs) ≡ false
unfolding due_slots
undue_unlisted c jobs k h = filtered_out (due c jobs) k (range_with_len 0 slots) h

-- the jobs that are due at a clock are in user mode
pub record Hushed (c : ℕ) (v : State) : Type 0 where
  pub each : (k : ℕ) → due c v.raw.jobs k ≡ true → v.frames k ≡ None

pub unwound_hushed : (w : State) (c : ℕ) → Sound w → Hushed c (all_unwound (due_slots c w.raw.jobs) w)
unwound_hushed w c sound =
    let ks = due_slots c w.raw.jobs in
    let same = due_same w (all_unwound ks w) c (all_unwound_plain ks w sound) in
    record { each = λ k h. all_unwound_none ks w k sound (due_listed c w.raw.jobs k (ap (λ (f : ℕ → Bool). f k) (sym same) ∙ h)) }

-- no other frame changes
pub undue_frame : (w : State) (c k : ℕ) → due c w.raw.jobs k ≡ false → (all_unwound (due_slots c w.raw.jobs) w).frames k ≡ w.frames k
undue_frame w c k h = (all_unwound_others (due_slots c w.raw.jobs) w k (undue_unlisted c w.raw.jobs k h)).frame

-- they go alike
user_rung : (f : Option Frame) (c : ℕ) (b : Bool) (o : Option Whole) → (b ≡ true → f ≡ None)
    → option_map (seen f) (after_alarm_if c b o) ≡ after_alarm_if c b (option_map (seen f) o)
unfolding seen
user_rung f c false o h = refl
user_rung f c true None h = refl
user_rung f c true (Some q) h = ap (λ (g : Option Frame). Some (seen g (after_alarm c q))) (h refl)
    ∙ sym (ap (λ (g : Option Frame). Some (after_alarm c (seen g q))) (h refl))

jobs_alike : (v : State) (c k : ℕ) → after_alarm_if c (due c v.raw.jobs k) (option_map (seen (v.frames k)) (v.raw.jobs k)) ≡ after_alarm_if
    c (due c (plain v).jobs k) ((plain v).jobs k)
unfolding plain
jobs_alike v c k = ap (λ (b : Bool). after_alarm_if c b (option_map (seen (v.frames k)) (v.raw.jobs k))) (ap (λ (f : ℕ → Bool). f k) (sym (due_plain v c)))

pub rung_plain : (v : State) (c : ℕ) → Hushed c v → plain (with_raw v (at_clock c v.raw)) ≡ at_clock c (plain v)
unfolding plain
rung_plain v c hushed = jobs_are _ _ (λ k. user_rung (v.frames k) c (due c v.raw.jobs k) (v.raw.jobs k) (hushed.each k) ∙ jobs_alike v c k) refl
