-- Which calls reserve a page: a call with no pending argument that is never found not ready. If it
-- is tried, all quarters of its page are clear.
use Rattle.std.specs.Prelude.{◌==◌, ◌&&◌, ◌≡◌, ◌≤◌, ℕ, ◌-◌, Bool, true, false, Option, Some, None, IfSome, List, [], ◌∷◌, ◌++◌, is_some, length, take, drop, refl}
use Rattle.std.proofs.Common.{◌∙◌, ap, arith}
use Rattle.std.proofs.lemmas.Bool.{ltb-false}
use Rattle.std.proofs.lemmas.List.{take-append-drop}
use Rattle.its_records.specs.declared.calls.Ask.{Ask}
use Rattle.its_records.specs.declared.calls.Operand.{Operand}
use Rattle.its_frame.specs.declared.name.CallName.{CallName}
use Rattle.its_frame.specs.declared.name.CallName.TheVariants.{Corblk}
use Rattle.its_plain.specs.Call.Arguments.{input, operands_with_values, with_new_values}
use Rattle.its_plain.specs.Call.Decide.{call_named}
use Rattle.its_stepped.specs.Tick.{makes_page, reserves, quarters}
use Rattle.its_stepped.specs.Sound.{Paged, IsWaitable, most_owed_by, most_owed}
use Rattle.its_stepped.specs.Duty.{IsTried}
use Rattle.its_records.proofs.TreeLaws.{and_false}

pub reserves_none : (a : Ask) → makes_page (call_named a.name) (input a 0) ≡ false → reserves a ≡ false
unfolding reserves
reserves_none a e = ap (λ (b : Bool). (a.fail == 0) && b) e ∙ and_false (a.fail == 0)

-- a call that can be found not ready
waitable_none : (o : Option CallName) (i : ℕ) → IsWaitable o → makes_page o i ≡ false
waitable_none (Some Corblk) i h = absurd h
waitable_none _ i h = refl

pub waits_reserves_none : (a : Ask) → IsWaitable (call_named a.name) → reserves a ≡ false
waits_reserves_none a h = reserves_none a (waitable_none (call_named a.name) (input a 0) h)

-- a call with a pending argument
owing_none : (o : Option CallName) (i n : ℕ) → 1 ≤ n → n ≤ most_owed_by o → makes_page o i ≡ false
owing_none (Some Corblk) i n some few = absurd (omega arith)
owing_none _ i n some few = refl

pub owes_reserves_none : (a : Ask) (n : ℕ) → 1 ≤ n → n ≤ most_owed a → reserves a ≡ false
unfolding most_owed
owes_reserves_none a n some few = reserves_none a (owing_none (call_named a.name) (input a 0) n some few)

-- a call after a part of it
pub valued_none : (os : List Operand) → operands_with_values os [] ≡ os
valued_none [] = refl
valued_none (o ∷ os) = refl

revalued_none : (a : Ask) → with_new_values a [] ≡ a
unfolding with_new_values
revalued_none a =
    let xs = a.inputs.items in
    ap (λ ys. record a { inputs = record { items = ys } }) (ap (λ ys. take (length xs - 0) xs ++ ys) (valued_none (drop (length xs - 0) xs))
    ∙ take-append-drop (length xs - 0) xs)

pub revalued_reserves_none : (a : Ask) (vs : List ℕ) → length vs ≤ most_owed (with_new_values a vs) → reserves a ≡ false
    → reserves (with_new_values a vs) ≡ false
revalued_reserves_none a [] few h = ap reserves (revalued_none a) ∙ h
revalued_reserves_none a (v ∷ vs) few h = owes_reserves_none (with_new_values a (v ∷ vs)) (length (v ∷ vs)) (omega arith) few

-- the page of a call that is tried
pub page_full : (a : Ask) (n : ℕ) (r o : Option ℕ) → r ≡ o → reserves a ≡ is_some o → IfSome o (Paged a n) → IsTried o → reserves a ≡ true → r ≡ Some quarters
page_full a n r None is has h t e = cc
page_full a n r (Some p) is has h t e =
    let most : p ≤ 4 = h.most in
    let least : 4 ≤ p = ltb-false p 4 t in
    let all : p ≡ quarters = omega arith in
    is ∙ ap Some all
