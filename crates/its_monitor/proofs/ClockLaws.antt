-- CLOCK: what it makes of the state, and that it keeps what holds between calls.
use Rattle.std.specs.Prelude.{◌≡◌, ◌<◌, ◌+◌, ◌^◌, ℕ, Bool, true, false, Option, Some, None, IfSome, [], Ok, nat_lt, refl}
use Rattle.std.proofs.Common.{sym, ◌∙◌, ap, subst}
use Rattle.its_word.specs.Limits.{slots}
use Rattle.its_records.specs.declared.session.Event.TheVariants as events
use Rattle.its_records.specs.declared.session.Refusal.TheVariants as refusals
use Rattle.its_plain.specs.Machine.{Whole, Machine}
use Rattle.its_plain.specs.Operator.{no_block}
use Rattle.its_plain.specs.Operator.Lines.{by_clock, operate, Done, lined}
use Rattle.its_plain.specs.Operator.Clock.{due, due_slots, after_alarm_if, at_clock, clock_end, after_clock_if, after_clock}
use Rattle.its_stepped.specs.Lines.{after_calm, with_raw}
use Rattle.its_stepped.specs.Sound.{Sound}
use Rattle.its_stepped.specs.State.{State, plain}
use Rattle.its_stepped.specs.Unwind.{all_unwound}
use Rattle.its_stepped.proofs.Lining.DueLaws.{clock_same, Hushed, unwound_hushed, rung_plain}
use Rattle.its_stepped.proofs.Unwinding.UnwindLaws.{all_unwound_plain}
use Rattle.its_world.specs.Tidy.{Tidy}
use Rattle.its_world.specs.World.{state_of}
use Rattle.its_world.specs.declared.world.World.{World}
use Rattle.its_monitor.specs.Kept.{Kept, Lands, Refused}
use Rattle.its_monitor.specs.Rung.{roused, RangBelow}
use Rattle.its_monitor.proofs.RungLaws.{rang_all}
use Rattle.its_monitor.proofs.KeptLaws.{Made, made_sound, made_forest, made_timed, made_alarmed}
use Rattle.its_tick.proofs.WaitsLaws.{kept_is}

raw_clock : (w : World) → (state_of w).raw.clock ≡ w.clock
unfolding state_of
raw_clock w = refl

plain_clock : (v : State) → (plain v).clock ≡ v.raw.clock
unfolding plain
plain_clock v = refl

-- the clock of the state that CLOCK finds
roused_plain : (w : State) (n : ℕ) → Sound w → plain (roused w n) ≡ plain w
roused_plain w n sound = all_unwound_plain (due_slots (w.raw.clock + n) w.raw.jobs) w sound

roused_clock : (w : World) (n : ℕ) → Sound (state_of w) → (roused (state_of w) n).raw.clock ≡ w.clock
roused_clock w n sound = clock_same (state_of w) (roused (state_of w) n) (roused_plain (state_of w) n sound) ∙ raw_clock w

clocked_at : (m : Machine) (c n : ℕ) (b : Bool) → m.clock ≡ c → b ≡ nat_lt (c + n) clock_end → after_clock m n ≡ after_clock_if m n b
unfolding after_clock
clocked_at m c n b e h = ap (λ t. after_clock_if m n (nat_lt (t + n) clock_end)) e ∙ ap (after_clock_if m n) (sym h)

-- the three steps of it
pub advanced : (old mid set new : World) (n : ℕ) → state_of mid ≡ all_unwound (due_slots (old.clock + n) (state_of old).raw.jobs) (state_of old)
    → state_of set ≡ with_raw (state_of mid) (record (state_of mid).raw { clock = old.clock + n })
    → RangBelow (old.clock + n) slots (state_of set) (state_of new)
    → state_of new ≡ with_raw (roused (state_of old) n) (at_clock (old.clock + n) (roused (state_of old) n).raw)
advanced old mid set new n u e r =
    let v : state_of mid ≡ roused (state_of old) n = u ∙ ap (λ t. all_unwound (due_slots (t + n) (state_of old).raw.jobs) (state_of old))
    (sym (raw_clock old)) in
    rang_all (old.clock + n) (state_of mid) (state_of set) (state_of new) e r ∙ ap (λ (x : State). with_raw x (at_clock (old.clock + n) x.raw)) v

-- an alarm that goes leaves the PC and the console
rung_address : (c : ℕ) (b : Bool) (o : Option Whole) → IfSome o (λ q. q.job.pc < 2 ^ 18) → IfSome (after_alarm_if c b o) (λ q. q.job.pc < 2 ^ 18)
rung_address c true (Some q) h = h
rung_address c true None h = tt
rung_address c false o h = h

rung_console : (c : ℕ) (b : Bool) (o : Option Whole) → IfSome o (λ q. IfSome q.job.console (λ i. i < 8))
    → IfSome (after_alarm_if c b o) (λ q. IfSome q.job.console (λ i. i < 8))
rung_console c true (Some q) h = h
rung_console c true None h = tt
rung_console c false o h = h

module _ (old new : World) (n : ℕ) (b : Bool) (kept : Kept old) (fits : b ≡ nat_lt (old.clock + n) clock_end) (yes : b ≡ true)
    (is : state_of new ≡ with_raw (roused (state_of old) n) (at_clock (old.clock + n) (roused (state_of old) n).raw)) where
  pub clock_done : Lands (roused (state_of old) n) (state_of new) (after_clock (roused (state_of old) n).raw n)
  clock_done =
      let v = roused (state_of old) n in
      let t : v.raw.clock ≡ old.clock = roused_clock old n kept.sound in
      record {
        is = clocked_at v.raw old.clock n b t fits ∙ ap (after_clock_if v.raw n) yes
            ∙ ap (λ c. Ok (at_clock (c + n) v.raw)) t
            ∙ ap (λ (x : State). Ok x.raw) (sym is);
        rest = is ∙ ap (λ (x : State). with_raw v x.raw) (sym is);
      }

  clock_line : Made (state_of old) (state_of new) no_block (events.Clock n)
  unfolding after_calm lined operate
  clock_line =
      let v = roused (state_of old) n in
      let d = clock_done in
      record { out = []; touched = due (v.raw.clock + n) v.raw.jobs; block = no_block; is = ap (λ r. Done (by_clock v.raw no_block n r)) d.is; rest = d.rest }

  machine_new : plain (state_of new) ≡ at_clock (old.clock + n) (plain (state_of old))
  machine_new =
      let c = (state_of old).raw.clock + n in
      let v = roused (state_of old) n in
      let e : c ≡ old.clock + n = ap (λ t. t + n) (raw_clock old) in
      let hushed : Hushed (old.clock + n) v = subst (λ (t : ℕ). Hushed t v) e (unwound_hushed (state_of old) c kept.sound) in
      ap plain is ∙ rung_plain v (old.clock + n) hushed ∙ ap (at_clock (old.clock + n)) (roused_plain (state_of old) n kept.sound)

  pub clock_plain : after_clock (plain (state_of old)) n ≡ Ok (plain (state_of new))
  clock_plain =
      let t : (plain (state_of old)).clock ≡ old.clock = plain_clock (state_of old) ∙ raw_clock old in
      clocked_at (plain (state_of old)) old.clock n b t fits ∙ ap (after_clock_if (plain (state_of old)) n) yes
      ∙ ap (λ c. Ok (at_clock (c + n) (plain (state_of old)))) t
      ∙ ap Ok (sym machine_new)

  pub clock_kept : Tidy new → Kept new
  clock_kept tidy =
      kept_is new
      (made_sound (state_of old) (state_of new) no_block (events.Clock n) kept.sound clock_line)
      (made_forest (state_of old) (state_of new) no_block (events.Clock n) kept.sound kept.forest clock_line)
      tidy
      (λ k. subst (λ (m : Machine). IfSome (m.jobs k) (λ q. q.job.pc < 2 ^ 18)) (sym machine_new)
      (rung_address (old.clock + n) (due (old.clock + n) (plain (state_of old)).jobs k) ((plain (state_of old)).jobs k) (kept.addressed k)))
      (λ k. subst (λ (m : Machine). IfSome (m.jobs k) (λ q. IfSome q.job.console (λ c. c < 8))) (sym machine_new)
      (rung_console (old.clock + n) (due (old.clock + n) (plain (state_of old)).jobs k) ((plain (state_of old)).jobs k) (kept.consoled k)))
      (made_timed (state_of old) (state_of new) no_block (events.Clock n) kept.sound kept.timed clock_line)
      (made_alarmed (state_of old) (state_of new) no_block (events.Clock n) kept.sound kept.forest kept.alarmed clock_line)

-- the clock would reach its end
pub clock_refused : (w : World) (n : ℕ) (b : Bool) → Kept w → b ≡ nat_lt (w.clock + n) clock_end → b ≡ false
    → Refused (state_of w) (roused (state_of w) n) (λ m. after_clock m n) refusals.Range
clock_refused w n b kept h f = record {
  plain = clocked_at (plain (state_of w)) w.clock n b (plain_clock (state_of w) ∙ raw_clock w) h ∙ ap (after_clock_if (plain (state_of w)) n) f;
  raw = clocked_at (state_of w).raw w.clock n b (raw_clock w) h ∙ ap (after_clock_if (state_of w).raw n) f;
  calmed = clocked_at (roused (state_of w) n).raw w.clock n b (roused_clock w n kept.sound) h ∙ ap (after_clock_if (roused (state_of w) n).raw n) f;
}
