-- A call that is tried: what its commit finds, and that it is decided on the raw machine as on the
-- plain one, whether a close is half made or not.
use Rattle.std.specs.Prelude.{if◌then◌else◌, ◌≡◌, ◌==◌, ℕ, Bool, true, false, Option, Some, None, refl}
use Rattle.std.proofs.Common.{◌∙◌, ap}
use Rattle.its_records.specs.declared.calls.Ask.{Ask}
use Rattle.its_frame.specs.declared.name.CallName.{CallName}
use Rattle.its_frame.specs.declared.name.CallName.TheVariants.{Hang, Sleep, Iot, Siot, Finish, Listen}
use Rattle.its_plain.specs.Machine.{Chan, TtyIn, TtyOut, Linked, Whole, Machine}
use Rattle.its_plain.specs.Call.Arguments.{input}
use Rattle.its_plain.specs.Machine.View.{View, view}
use Rattle.its_plain.specs.Call.Basic.{is_oneself, channel_at}
use Rattle.its_plain.specs.Call.Step.{decision}
use Rattle.its_plain.specs.Call.Decide.{call_named, decided_by, decided, inferior_on, reached_by, target_by, argument_of, target, reach}
use Rattle.its_stepped.specs.Sound.{IsWaitable}
use Rattle.its_stepped.specs.State.{State, plain, seen}
use Rattle.its_stepped.specs.Unwind.{all_unwound}
use Rattle.its_stepped.specs.Tick.{is_disk, helps_by, helps, after_help_if, with_preparation}
use Rattle.its_stepped.proofs.Duties.CallWays.{CanWait}
use Rattle.its_stepped.proofs.Ticking.WaitLaws.{Goes_on, iot_ready, siot_ready}
use Rattle.its_stepped.proofs.Committing.ViewLaws.{StillAt, decision_plain, view_plain, reach_plain, helps_seen}
use Rattle.its_stepped.proofs.Committing.UnseenLaws.{files_unseen}

-- what the commit of a raw job's call finds
pub prepared_seen : (w : State) (j : ℕ) (q : Whole) (a : Ask)
    → with_preparation w j (seen (w.frames j) q) a ≡ after_help_if (helps q a) (all_unwound (reach w.raw j q a) w)
unfolding with_preparation
prepared_seen w j q a =
    (λ i. after_help_if (helps_seen (w.frames j) q a i) (all_unwound (reach_plain w j (w.frames j) q a i) w))

-- the directory is that of the plain machine, or is not looked at
decision_unhelped : (w : State) (j : ℕ) (own : Whole) (a : Ask) → StillAt w (target own a) → helps own a ≡ false
    → decision (plain w) j own a ≡ decision w.raw j own a
unfolding decision view
decision_unhelped w j own a still h =
    ap (λ v. decided v a) (view_plain w j own (target own a) still) ∙ files_unseen (view w.raw j own (target own a)) (plain w).files a h

decision_by : (w : State) (j : ℕ) (own : Whole) (a : Ask) (b : Bool) → StillAt w (target own a) → helps own a ≡ b → (b ≡ true → w.mark ≡ None)
    → decision (plain w) j own a ≡ decision w.raw j own a
decision_by w j own a true still e h = decision_plain w j own a still (h refl)
decision_by w j own a false still e h = decision_unhelped w j own a still e

pub decision_helped : (w : State) (j : ℕ) (own : Whole) (a : Ask) → StillAt w (target own a) → (helps own a ≡ true → w.mark ≡ None)
    → decision (plain w) j own a ≡ decision w.raw j own a
decision_helped w j own a still h = decision_by w j own a (helps own a) still refl h

-- no call on files, on an inferior or on pages is found not ready: its channel is on no console and
-- on no link
disk_off : (c : Chan) → is_disk c ≡ true → CanWait c → ⊥
disk_off TtyIn h k = cc
disk_off TtyOut h k = cc
disk_off (Linked l write) h k = cc
disk_off _ h k = k

inferior_off : (c : Chan) (s : ℕ) → inferior_on c ≡ Some s → CanWait c → ⊥
inferior_off TtyIn s h k = cc
inferior_off TtyOut s h k = cc
inferior_off (Linked l write) s h k = cc
inferior_off _ s h k = k

named_goes : (x : View) (a : Ask) (o : Option CallName) → helps_by x.own a o ≡ true → IsWaitable o → Goes_on (decided_by x a o)
named_goes x a (Some Iot) h w = iot_ready x a (disk_off (channel_at x.own.channels (input a 0)) h)
named_goes x a (Some Siot) h w = siot_ready x a (disk_off (channel_at x.own.channels (input a 0)) h)
named_goes x a (Some Hang) h w = absurd cc
named_goes x a (Some Sleep) h w = absurd cc
named_goes x a (Some Finish) h w = absurd cc
named_goes x a (Some Listen) h w = absurd cc
named_goes x a _ h w = absurd w

goes_by : (x : View) (a : Ask) (z : Bool) → (a.fail == 0) ≡ z → helps x.own a ≡ true → IsWaitable (call_named a.name) → Goes_on (decided x a)
unfolding decided helps
goes_by x a true z h w =
    let e : helps_by x.own a (call_named a.name) ≡ helps x.own a = rw z refl in
    rw z (named_goes x a (call_named a.name) (e ∙ h) w)
goes_by x a false z h w = rw z tt

-- if a call is found not ready, it is none on files
pub waits_unhelped : (m : Machine) (j : ℕ) (q : Whole) (a : Ask) → helps q a ≡ true → IsWaitable (call_named a.name) → Goes_on (decision m j q a)
unfolding decision view
waits_unhelped m j q a h w = goes_by (view m j q (target q a)) a (a.fail == 0) refl h w

-- nor does it reach into another job
reached_off : (q : Whole) (w s : ℕ) → reached_by q w ≡ Some s → CanWait (channel_at q.channels w) → ⊥
reached_off q w s h = go (is_oneself w) h
  where
    go : (b : Bool) → (if b then None else inferior_on (channel_at q.channels w)) ≡ Some s → CanWait (channel_at q.channels w) → ⊥
    go true h = absurd cc
    go false h = inferior_off (channel_at q.channels w) s h

named_reaches : (x : View) (a : Ask) (o : Option CallName) (s : ℕ) → target_by x.own a (argument_of o) ≡ Some s → IsWaitable o → Goes_on (decided_by x a o)
named_reaches x a (Some Iot) s h w = iot_ready x a (reached_off x.own (input a 0) s h)
named_reaches x a (Some Siot) s h w = siot_ready x a (reached_off x.own (input a 0) s h)
named_reaches x a (Some Hang) s h w = absurd cc
named_reaches x a (Some Sleep) s h w = absurd cc
named_reaches x a (Some Finish) s h w = absurd cc
named_reaches x a (Some Listen) s h w = absurd cc
named_reaches x a _ s h w = absurd w

reaches_by : (x : View) (a : Ask) (s : ℕ) (z : Bool) → (a.fail == 0) ≡ z → target x.own a ≡ Some s → IsWaitable (call_named a.name) → Goes_on (decided x a)
unfolding decided target
reaches_by x a s true z h w =
    let e : target_by x.own a (argument_of (call_named a.name)) ≡ target x.own a = rw z refl in
    rw z (named_reaches x a (call_named a.name) s (e ∙ h) w)
reaches_by x a s false z h w = rw z tt

pub waits_unreached : (m : Machine) (j : ℕ) (q : Whole) (a : Ask) (s : ℕ) → target q a ≡ Some s → IsWaitable (call_named a.name) → Goes_on (decision m j q a)
unfolding decision view
waits_unreached m j q a s h w = reaches_by (view m j q (target q a)) a s (a.fail == 0) refl h w
