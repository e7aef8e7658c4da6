-- The effect of CLOCK on the second machine, whose alarms go slot after slot.
-- No promise rests on this.
use Rattle.std.specs.Prelude.{◌≡◌, ◌==◌, ◌+◌, ◌&&◌, ◌||◌, ℕ, Bool, false, Option, IfSome, Result, Ok, nat_lt}
use Rattle.its_word.specs.Only.{Only}
use Rattle.its_records.specs.declared.session.Reason.{Reason}
use Rattle.its_plain.specs.Machine.Alarm.{is_due}
use Rattle.its_plain.specs.Machine.{Machine}
use Rattle.its_plain.specs.Operator.Clock.{due, after_alarm_if}
use Rattle.its_stepped.specs.Alarmed.{Periodic}
use Rattle.its_shared.specs.Parts.{alarm_at}
use Rattle.its_direct.specs.Contents.{contents}
use Rattle.its_direct.specs.Plain.{machine_of, is_touched}
use Rattle.its_direct.specs.declared.plain.Plain.{Plain}

-- CLOCK: a line that changes the machine, and touches the jobs whose alarm is due at the new clock
pub record Clocks (old new : Plain) (n : ℕ) (r : Result Machine Reason) : Type 0 where
  pub is : r ≡ Ok (machine_of new)
  pub touched : (k : ℕ) → is_touched new k ≡ due ((machine_of old).clock + n) (machine_of old).jobs k
  pub place : new.place ≡ old.place

-- the next time of each alarm can be found
abbrev pub Periods : Plain → Type 0
Periods p = (k : ℕ) → IfSome (alarm_at p.alarms.items k) Periodic

-- only the alarm of slot s is another
pub record AlarmBecomes (old new : Plain) (s : ℕ) (a : Option (ℕ × ℕ)) : Type 0 where
  pub alarms : Only (alarm_at old.alarms.items) (alarm_at new.alarms.items) s a
  pub rest : contents new ≡ record (contents old) { alarms = new.alarms }

-- the alarms that are due at clock c of the slots that pass a test have gone, these slots are also
-- touched, and nothing else has changed
pub record Rang (c : ℕ) (test : ℕ → Bool) (old new : Plain) : Type 0 where
  pub jobs : (k : ℕ) → (machine_of new).jobs k ≡ after_alarm_if c (test k && is_due c (alarm_at old.alarms.items k)) ((machine_of old).jobs k)
  pub rest : machine_of new ≡ record (machine_of old) { jobs = (machine_of new).jobs }
  pub touched : (k : ℕ) → is_touched new k ≡ (is_touched old k || (test k && is_due c (alarm_at old.alarms.items k)))
  pub alarms : (k : ℕ) → test k ≡ false → alarm_at new.alarms.items k ≡ alarm_at old.alarms.items k
  pub place : new.place ≡ old.place

abbrev pub RangAt : ℕ → ℕ → Plain → Plain → Type 0
RangAt c s old new = Rang c (λ k. k == s) old new

abbrev pub RangBelow : ℕ → ℕ → Plain → Plain → Type 0
RangBelow c n old new = Rang c (λ k. nat_lt k n) old new
