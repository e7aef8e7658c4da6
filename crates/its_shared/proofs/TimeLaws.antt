-- The next time of an alarm, as the code finds it; and an alarm that goes, of one slot after the
-- other.
use Rattle.std.specs.Prelude.{if◌then◌else◌, ◌≡◌, ◌≢◌, ◌≤◌, ◌<◌, ◌+◌, ◌-◌, ◌*◌, ◌/◌, ◌%◌, ◌^◌, ◌&&◌, ℕ, Bool, true, false, Option, Some, None, option_map, nat_lt, refl}
use Rattle.std.proofs.Common.{sym, ◌∙◌, ap, inl, inr, arith}
use Rattle.std.proofs.Math.Nat.{add-mul, one-mul}
use Rattle.std.proofs.lemmas.Nat.{mod_below, div-add-mod'}
use Rattle.std.proofs.lemmas.Bool.{cases_lt, lt-ltb, le-ltb}
use Rattle.its_plain.specs.Machine.Alarm.{is_due, time_after}
use Rattle.its_plain.specs.Call.Basic.{longest_period}
use Rattle.its_plain.specs.Machine.Change.{with_alarm}
use Rattle.its_plain.specs.Machine.Registers.{ALR, with_pending}
use Rattle.its_plain.specs.Machine.{Whole}
use Rattle.its_plain.specs.Operator.Clock.{alarm_in, clock_end, after_alarm_if}
use Rattle.its_plain.specs.Machine.Own.{with_registers}

pub next_time : (c p t : ℕ) → 1 ≤ p → t ≤ c → c + p - (c - t) % p ≡ time_after c (p, t)
unfolding time_after
next_time c p t some late =
    let e : (c - t) / p * p + (c - t) % p ≡ c - t = div-add-mod' (c - t) p in
    let l : (c - t) % p < p = mod_below (c - t) p (omega arith) in
    let m : ((c - t) / p + 1) * p ≡ (c - t) / p * p + p = add-mul ((c - t) / p) 1 p ∙ ap (λ x. (c - t) / p * p + x) (one-mul p) in
    rw m (omega arith)

pub next_fits : (c p t : ℕ) → p ≤ longest_period → c < clock_end → c + p < 2 ^ 64
next_fits c p t most below = omega arith

-- ALR set and the next time: both changes of one slot are what an alarm that goes does to it
pub rung_slot : (c p t : ℕ) (b : Bool) (o : Option Whole) → (b ≡ true → alarm_in o ≡ Some (p, t)) → is_due c (Some (p, t)) ≡ true
    → (if b then option_map (with_alarm (Some (p, time_after c (p, t)))) (if b then option_map (with_registers (λ j. with_pending j ALR)) o else o)
    else (if b then option_map (with_registers (λ j. with_pending j ALR)) o else o))
    ≡ after_alarm_if c (b && is_due c (alarm_in o)) o
rung_slot c p t false o has d = refl
rung_slot c p t true None has d = let wrong : None ≡ Some (p, t) = has refl in cc
rung_slot c p t true (Some q) has d =
    sym
    (ap (λ (x : Bool). after_alarm_if c x (Some q)) (ap (is_due c) (has refl) ∙ d)
    ∙ ap (λ (x : Option (ℕ × ℕ)). Some (record q { job = with_pending q.job ALR; alarm = option_map (λ (y : ℕ × ℕ). (y.0, time_after c y)) x })) (has refl))

pub below_next : (k n : ℕ) → k ≢ n → nat_lt k n ≡ nat_lt k (n + 1)
below_next k n ne = elim (cases_lt k n) [
  | inl l ↦ lt-ltb k n l ∙ sym (lt-ltb k (n + 1) (omega arith))
  | inr ge ↦ le-ltb k n ge ∙ sym (le-ltb k (n + 1) (let more : n ≢ k = λ e. ne (sym e) in omega arith))
]
