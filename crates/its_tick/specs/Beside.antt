-- What a tick of one slot leaves of another.
-- No promise rests on this.
use Rattle.std.specs.Prelude.{◌≡◌, ◌≢◌, ℕ, true, false, Option, Some, None, IfSome}
use Rattle.its_records.specs.declared.calls.Pace.{Pace}
use Rattle.its_records.specs.declared.calls.Pace.TheVariants.{Step, Work, Wait, Off}
use Rattle.its_plain.specs.Call.Step.{disturbed}
use Rattle.its_plain.specs.Machine.{Whole}
use Rattle.its_stepped.specs.SlotSame.{SlotSame}
use Rattle.its_stepped.specs.State.{State, plain}

-- a slot that the step of another disturbs is unwound first, so that it is in user mode with
-- nothing pending, and is then what the step of the plain machine makes of it
pub record Unwound (v : State) (k : ℕ) : Type 0 where
  pub frame : v.frames k ≡ None
  pub page : v.reserved k ≡ None
  pub job : v.raw.jobs k ≡ (plain v).jobs k

-- an empty slot stays empty, but that the step of slot j can make an inferior of its job there,
-- which is in user mode
pub record Vacant (v : State) (j k : ℕ) : Type 0 where
  pub unwound : Unwound v k
  pub inferior : IfSome (v.raw.jobs k) (λ q. q.superior ≡ Some j)

-- a slot that the step of slot j does not disturb is wholly as it was, if it has a job
abbrev pub Undisturbed : State → State → ℕ → ℕ → Option Whole → Type 0
Undisturbed w v j k (Some q) = SlotSame w v k
Undisturbed w v j k None = Vacant v j k

-- what a tick of slot j with this letter leaves of slot k: with another letter than `*` it is
-- wholly as it was
abbrev pub Beside : State → State → ℕ → ℕ → Pace → Type 0
Beside w v j k Step = (disturbed (plain w) j k ≡ false → Undisturbed w v j k (w.raw.jobs k)) × (disturbed (plain w) j k ≡ true → Unwound v k)
Beside w v j k Work = SlotSame w v k
Beside w v j k Wait = SlotSame w v k
Beside w v j k Off = SlotSame w v k

-- what it leaves of all other slots
pub record AllBeside (w v : State) (j : ℕ) (p : Pace) : Type 0 where
  pub each : (k : ℕ) → k ≢ j → Beside w v j k p
