-- Whom a call reaches through the channel that one of its arguments names.
use Rattle.std.specs.Prelude.{if◌then◌else◌, ◌==◌, ◌≡◌, ◌≢◌, ℕ, Bool, true, false, Option, Some, None, [], ◌∷◌, refl}
use Rattle.std.proofs.Common.{sym, ◌∙◌, ap, subst}
use Rattle.its_records.specs.declared.calls.Ask.{Ask}
use Rattle.its_records.specs.declared.calls.Site.{Site}
use Rattle.its_frame.specs.declared.name.CallName.{CallName}
use Rattle.its_plain.specs.Call.Arguments.{input}
use Rattle.its_plain.specs.Call.Basic.{is_oneself, channel_at}
use Rattle.its_plain.specs.Call.Step.{among}
use Rattle.its_plain.specs.Machine.Change.{superiors}
use Rattle.its_plain.specs.Call.Decide.{call_named, reaching, inferior_on, reached_by, target_by, argument_of, target, listed, reach_by, reach}
use Rattle.its_plain.specs.Machine.{Chan, On, Whole, Machine}
use Rattle.its_plain.proofs.TargetLaws.{reach_named, target_on}
use Rattle.its_stepped.specs.State.{State}
use Rattle.its_stepped.specs.Forest.{Forest}
use Rattle.its_stepped.specs.Quiet.{Reached, IsStill}
use Rattle.its_stepped.specs.Calling.{Calling}
use Rattle.its_stepped.proofs.Keeping.ForestLaws.{on_inferior}
use Rattle.its_stepped.proofs.Unwinding.UnwindLaws.{among_first, among_not_first}

-- another slot than the caller's, with no call in progress
pub record Aimed (v : State) (j s : ℕ) : Type 0 where
  pub other : s ≢ j
  pub free : v.frames s ≡ None

pub aimed_reached : (v : State) (j s : ℕ) → Aimed v j s → Reached v j s
aimed_reached v j s h = record { still = subst IsStill (sym h.free) tt; other = λ ne. h.free }

-- that of the job that a call reaches alone
aimed : (m : Machine) (v : State) (j : ℕ) (q : Whole) (s : Site) (a : Ask) (n k : ℕ) → Calling m v j q s a n → reach m j q a ≡ k ∷ [] → Aimed v j k
aimed m v j q s a n k c is = record {
  other = λ e. among_not_first k j [] (sym (ap (among j) is) ∙ c.apart) (sym e);
  free = c.reached k (ap (among k) is ∙ among_first k []);
}

pub aimed_on : (m : Machine) (v : State) (j : ℕ) (q : Whole) (s : Site) (a : Ask) (n : ℕ) (c : CallName) (i k at : ℕ) (write : Bool)
    → Calling m v j q s a n → call_named a.name ≡ Some c
    → a.fail ≡ 0 → reaching c ≡ Some i → reach_by m j q a (Some c) ≡ listed (target q a) → channel_at q.channels (input a i) ≡ On k write at → Aimed v j k
aimed_on m v j q s a n c i k at write l e z names alone is =
    aimed m v j q s a n k l (reach_named m j q a c z e ∙ alone ∙ ap listed (target_on q a c i k at write z e names is))

-- it is an inferior of the caller
chan_inferior : (m : Machine) (j : ℕ) (q : Whole) (n s : ℕ) (h : Chan) → Forest m → m.jobs j ≡ Some q → channel_at q.channels n ≡ h
    → inferior_on h ≡ Some s → superiors m s ≡ Some j
chan_inferior m j q n s (On k write at) f is e i = let same : k ≡ s =
    cc in subst (λ (t : ℕ). superiors m t ≡ Some j) same (on_inferior m j q n k at write f is e)
chan_inferior m j q n s _ f is e i = cc

reached_inferior : (m : Machine) (j : ℕ) (q : Whole) (n s : ℕ) → Forest m → m.jobs j ≡ Some q → reached_by q n ≡ Some s → superiors m s ≡ Some j
reached_inferior m j q n s f is = go (is_oneself n)
  where
    go : (b : Bool) → (if b then None else inferior_on (channel_at q.channels n)) ≡ Some s → superiors m s ≡ Some j
    go true i = cc
    go false i = chan_inferior m j q n s (channel_at q.channels n) f is refl i

target_inferior_by : (m : Machine) (j : ℕ) (q : Whole) (a : Ask) (s : ℕ) (o : Option ℕ) → Forest m → m.jobs j ≡ Some q
    → target_by q a o ≡ Some s → superiors m s ≡ Some j
target_inferior_by m j q a s None f is t = cc
target_inferior_by m j q a s (Some k) f is t = reached_inferior m j q (input a k) s f is t

pub target_inferior : (m : Machine) (j : ℕ) (q : Whole) (a : Ask) (s : ℕ) → Forest m → m.jobs j ≡ Some q → target q a ≡ Some s → superiors m s ≡ Some j
unfolding target
target_inferior m j q a s f is = go (a.fail == 0)
  where
    go : (b : Bool) → (if b then target_by q a (argument_of (call_named a.name)) else None) ≡ Some s → superiors m s ≡ Some j
    go true t = target_inferior_by m j q a s (argument_of (call_named a.name)) f is t
    go false t = cc
