-- Whom a call reaches through the channel that one of its arguments names.
use Rattle.std.specs.Prelude.{if◌then◌else◌, ◌==◌, ◌≡◌, ℕ, Bool, false, Option, Some, None, []}
use Rattle.std.proofs.Common.{◌∙◌, ap, arith, inl, inr}
use Rattle.std.proofs.lemmas.Bool.{cases_lt, le-ltb, eq-eqb, ne_eqb, or_from}
use Rattle.its_records.specs.declared.calls.Ask.{Ask}
use Rattle.its_frame.specs.declared.name.CallName.{CallName}
use Rattle.its_plain.specs.Call.Arguments.{input}
use Rattle.its_plain.specs.Call.Basic.{is_oneself, channel_at}
use Rattle.its_plain.specs.Call.Decide.{call_named, reaching, inferior_on, target_by, argument_of, target, reach_by, reach}
use Rattle.its_plain.specs.Machine.{Chan, Shut, On, Whole, Machine}

-- the number of a channel does not name oneself
channel_number : (cs : ℕ → Chan) (n s at : ℕ) (write : Bool) → channel_at cs n ≡ On s write at → is_oneself n ≡ false
channel_number cs n s at write e = elim (cases_lt n 16) [
  | inl l ↦ or_from (n == 0o777777) (n == 0o777777777777) (ne_eqb n 0o777777 (λ t. absurd (omega arith)))
      (ne_eqb n 0o777777777777 (λ t. absurd (omega arith)))
  | inr ge ↦ let shut : channel_at cs n ≡ Shut = ap (λ (b : Bool). if b then cs n else Shut) (le-ltb n 16 ge) in cc
]

pub target_on : (q : Whole) (a : Ask) (c : CallName) (i s at : ℕ) (write : Bool) → a.fail ≡ 0 → call_named a.name ≡ Some c → reaching c ≡ Some i
    → channel_at q.channels (input a i) ≡ On s write at → target q a ≡ Some s
unfolding target
target_on q a c i s at write z e names is =
    ap (λ (b : Bool). if b then target_by q a (argument_of (call_named a.name)) else None) (eq-eqb a.fail 0 z)
    ∙ ap (λ (o : Option CallName). target_by q a (argument_of o)) e
    ∙ ap (target_by q a) names
    ∙ ap (λ (b : Bool). if b then None else inferior_on (channel_at q.channels (input a i))) (channel_number q.channels (input a i) s at write is)
    ∙ ap inferior_on is

-- whom a call by its name reaches
pub reach_named : (m : Machine) (j : ℕ) (q : Whole) (a : Ask) (c : CallName) → a.fail ≡ 0 → call_named a.name ≡ Some c
    → reach m j q a ≡ reach_by m j q a (Some c)
unfolding reach
reach_named m j q a c z e = ap (λ (b : Bool). if b then reach_by m j q a (call_named a.name) else []) (eq-eqb a.fail 0 z) ∙ ap (reach_by m j q a) e
