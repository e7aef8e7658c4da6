-- What CLOCK makes of a world: the jobs whose alarm is due at the new clock are unwound, and then
-- the alarms go.
-- No promise rests on this.
use Rattle.std.specs.Prelude.{◌==◌, ◌≡◌, ◌+◌, ◌-◌, ◌&&◌, ℕ, Bool, filter, nat_lt}
use Rattle.std.specs.List.{range_with_len}
use Rattle.its_word.specs.Limits.{slots}
use Rattle.its_plain.specs.Machine.Alarm.{is_due}
use Rattle.its_plain.specs.Operator.Clock.{alarm_in, due, due_slots, after_alarm_if}
use Rattle.its_stepped.specs.Lines.{with_raw}
use Rattle.its_stepped.specs.Sound.{Sound}
use Rattle.its_stepped.specs.State.{State, plain}
use Rattle.its_stepped.specs.Unwind.{all_unwound}
use Rattle.its_world.specs.Tidy.{Tidy}
use Rattle.its_world.specs.World.{state_of}
use Rattle.its_world.specs.declared.world.World.{World}
use Rattle.its_pclsr.specs.Pages.{pages_unwound}

-- the state that CLOCK finds if the clock gains n
abbrev pub roused : State → ℕ → State
roused w n = all_unwound (due_slots (w.raw.clock + n) w.raw.jobs) w

-- of those that are due at clock c the slots below n are unwound
pub record Rousing (c n : ℕ) (old new : World) : Type 0 where
  pub sound : Sound (state_of new)
  pub tidy : Tidy new
  pub same : plain (state_of new) ≡ plain (state_of old)
  pub rest : all_unwound (filter (due c (state_of old).raw.jobs) (range_with_len n (slots - n))) (state_of new) ≡ all_unwound (due_slots c (state_of old).raw.jobs) (state_of old)
  pub pages : pages_unwound (filter (due c (state_of old).raw.jobs) (range_with_len n (slots - n))) (state_of new) new.core.frames
      ≡ pages_unwound (due_slots c (state_of old).raw.jobs) (state_of old) old.core.frames

-- the alarms that are due at clock c of slots that pass a test have gone, and nothing else has
-- changed
pub record Rang (c : ℕ) (test : ℕ → Bool) (old new : State) : Type 0 where
  pub jobs : (k : ℕ) → new.raw.jobs k ≡ after_alarm_if c (test k && is_due c (alarm_in (old.raw.jobs k))) (old.raw.jobs k)
  pub rest : new ≡ with_raw old (record old.raw { jobs = new.raw.jobs })

abbrev pub RangAt : ℕ → ℕ → State → State → Type 0
RangAt c s old new = Rang c (λ k. k == s) old new

abbrev pub RangBelow : ℕ → ℕ → State → State → Type 0
RangBelow c n old new = Rang c (λ k. nat_lt k n) old new
