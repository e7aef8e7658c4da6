-- HANG, SLEEP, DISMIS and REALT do their duty.
use Rattle.std.specs.Prelude.{◌≡◌, ◌≤◌, ℕ, ◌+◌, ◌-◌, ◌%◌, ◌^◌, Bool, true, false, Option, Some, None, List, [], ◌∷◌, ◌++◌, length, take, drop, Result, Ok, Err, ◌||◌, nat_lt, refl}
use Rattle.std.proofs.Common.{sym, ◌∙◌, ap, subst, inl, inr, arith}
use Rattle.std.proofs.lemmas.Bool.{cases_eq, not-false}
use Rattle.its_word.specs.Core.{Core, word_at, can_store, store}
use Rattle.its_word.specs.declared.access.Fault.{Fault}
use Rattle.its_word.specs.declared.access.Fault.TheVariants.{Wro}
use Rattle.its_records.specs.declared.calls.Ask.{Ask}
use Rattle.its_records.specs.declared.calls.Exit.{Exit}
use Rattle.its_records.specs.declared.calls.Site.{Site}
use Rattle.its_records.specs.declared.jobs.Job.{Job}
use Rattle.its_word.specs.declared.plan.Store.{Store}
use Rattle.its_frame.specs.declared.change.Change.TheVariants as changes
use Rattle.its_frame.specs.declared.name.CallName.{CallName}
use Rattle.its_frame.specs.declared.name.CallName.TheVariants.{Hang, Sleep}
use Rattle.its_plain.specs.Call.Arguments.{stores_of, operands_with_values, input, place_of_input, is_shared, debts, with_new_values}
use Rattle.its_plain.specs.Call.Basic.{hang, sleep_tests, sleep, negated, shared_place, read_only, popped, dismissed_by, dismiss_at, dismiss, is_negative, longest_period, alarm_of, realt}
use Rattle.its_plain.specs.Call.Decide.{call_named}
use Rattle.its_plain.specs.Unit.Interrupt.{after_dismissal, after_dismissal_at}
use Rattle.its_plain.specs.Unit.Interrupt as interrupts
use Rattle.its_plain.specs.Machine.{Machine}
use Rattle.its_plain.specs.Call.Tests.{◌⇒◌, finishes, fails, goes}
use Rattle.its_word.specs.Stores.{stored}
use Rattle.its_plain.specs.Machine.View.{View}
use Rattle.its_stepped.specs.State.{State}
use Rattle.its_stepped.specs.Tick.{makes_page}
use Rattle.its_stepped.specs.Sound.{Stands, Stored, IsWaitable, most_owed_by, most_owed}
use Rattle.its_stepped.specs.Duty.{Within, Going, Duty}
use Rattle.its_stepped.specs.Calling.{Decoding, Calling}
use Rattle.its_stepped.proofs.Frame.DebtLaws.{debts_none}
use Rattle.its_stepped.proofs.Committing.TestLaws.{first_holds, no_page, waits_duty, ending_duty, fails_duty, faults_duty, nothing_duty}

-- a call by its name makes no page, and can be found not ready
named_page : (a : Ask) (c : CallName) → call_named a.name ≡ Some c → makes_page (Some c) (input a 0) ≡ false
    → makes_page (call_named a.name) (input a 0) ≡ false
named_page a c e h = ap (λ (o : Option CallName). makes_page o (input a 0)) e ∙ h

named_waits : (o : Option CallName) (c : CallName) → o ≡ Some c → IsWaitable (Some c) → IsWaitable o
named_waits o c e h = subst IsWaitable (sym e) h

-- HANG
pub hang_duty : (m : Machine) (v : State) (j : ℕ) (x : View) (s : Site) (a : Ask) (n : ℕ) → Calling m v j x.own s a n
    → call_named a.name ≡ Some Hang → Duty v j x.own s a n hang
hang_duty m v j x s a n c e = waits_duty m v j x.own s a n c (named_page a Hang e refl) (named_waits (call_named a.name) Hang e tt)

-- SLEEP: its time alone is pending, also after its partial step
one_debt : (a : Ask) (v p : ℕ) → a.inputs.items ≡ record { value = v; place = Some p } ∷ [] → debts a 1 ≡ record { at = p; word = v } ∷ []
unfolding debts
one_debt a v p e = ap (λ xs. stores_of (drop (length xs - 1) xs)) e

one_valued : (a : Ask) (v p w : ℕ) → a.inputs.items ≡ record { value = v; place = Some p } ∷ []
    → with_new_values a (w ∷ []) ≡ record a { inputs = record { items = record { value = w; place = Some p } ∷ [] } }
unfolding with_new_values
one_valued a v p w e = ap (λ xs. record a {
  inputs = record {
    items = take (length xs - 1) xs ++ operands_with_values
        (drop (length xs - 1) xs) (w ∷ []);
  };
}) e

new_debt : (a : Ask) (v p w : ℕ) → a.inputs.items ≡ record { value = v; place = Some p } ∷ []
    → debts (with_new_values a (w ∷ [])) 1 ≡ record { at = p; word = w } ∷ []
new_debt a v p w e =
    ap (λ (k : Ask). debts k 1) (one_valued a v p w e) ∙ one_debt
    (record a { inputs = record { items = record { value = w; place = Some p } ∷ [] } }) w p refl

pub named_same : (a : Ask) (vs : List ℕ) → (with_new_values a vs).name ≡ a.name
unfolding with_new_values
named_same a vs = refl

-- one word at most is pending
sleeper_owes : (a : Ask) → call_named a.name ≡ Some Sleep → most_owed a ≡ 1
unfolding most_owed
sleeper_owes a e = ap most_owed_by e

within_one : (a : Ask) (n v p w : ℕ) → n ≤ 1 → a.inputs.items ≡ record { value = v; place = Some p } ∷ []
    → Within (debts a n) (record { at = p; word = w } ∷ [])
within_one a n v p w few e = elim (cases_eq n 0) [
  | inl z ↦ subst (λ (ss : List Store). Within ss (record { at = p; word = w } ∷ [])) (sym (ap (debts a) z ∙ debts_none a)) tt
  | inr ne ↦
      let one : n ≡ 1 = omega arith in
      subst (λ (ss : List Store). Within ss (record { at = p; word = w } ∷ [])) (sym (ap (debts a) one ∙ one_debt a v p e)) (inl refl, tt)
]

stored_one : (c : Core) (p w : ℕ) → p % 2 ^ 18 ≡ p → stored c (record { at = p; word = w } ∷ []) ≡ store c p w
unfolding stored
stored_one c p w e = ap (λ (k : ℕ). store c k w) e

slept_duty : (d : Decoding) (m : Machine) (v : State) (j : ℕ) (x : View) (s : Site) (a : Ask) (n k p w : ℕ) → Calling m v j x.own s a n
    → call_named a.name ≡ Some Sleep
    → a.inputs.items ≡ record { value = k; place = Some p } ∷ [] → p % 2 ^ 18 ≡ p → is_shared p a ≡ false → can_store x.own.core p ≡ true
    → Going v j x.own s a n [] None (w ∷ [])
slept_duty d m v j x s a n k p w c e one at alone can =
    let owed = new_debt a k p w one in
    let few : n ≤ 1 = (let f = c.debts.few in let o = sleeper_owes a e in omega arith) in
    let same : most_owed (with_new_values a (w ∷ [])) ≡ 1 = sleeper_owes (with_new_values a (w ∷ [])) (ap call_named (named_same a (w ∷ [])) ∙ e) in
    record {
      quiet = tt;
      spare = tt;
      closes = refl;
      page = no_page m v j x.own s a n c (named_page a Sleep e refl);
      within = subst (λ (ss : List Store). Within (debts a n) ss) (sym owed) (within_one a n k p w few one);
      held = tt;
      transfers = tt;
      outside = tt;
      size = tt;
      debts = record {
        few = omega arith;
        read = ap (λ (ss : List Store). length ss) owed;
        stored = subst (λ (ss : List Store). Stored x.own.core ss) (sym owed) (ap (can_store x.own.core) at ∙ can, tt);
      };
      stands = subst (λ (i : Core). Stands i x.own.job s (with_new_values a (w ∷ []))) (sym (ap (stored x.own.core) owed ∙ stored_one x.own.core p w at))
          (subst (λ (i : Ask). Stands (store x.own.core p w) x.own.job s i) (sym (one_valued a k p w one))
          (d.slept x.own.core x.own.job s a p k w c.stands one alone can));
    }

sleep_goes : (d : Decoding) (m : Machine) (v : State) (j : ℕ) (x : View) (s : Site) (a : Ask) (n w : ℕ) (o : Option ℕ)
    → Calling m v j x.own s a n → call_named a.name ≡ Some Sleep → a.fail ≡ 0
    → place_of_input a 0 ≡ o → shared_place a o ≡ false → read_only x.own.core o ≡ false → Going v j x.own s a n [] None (w ∷ [])
sleep_goes d m v j x s a n w None c e z is alone can = absurd cc
sleep_goes d m v j x s a n w (Some p) c e z is alone can =
    let one = c.fetched.sleeper p e z is in
    slept_duty d m v j x s a n one.0 p w c e one.1 (c.fetched.input 0 p is) alone (not-false (can_store x.own.core p) can)

pub sleep_duty : (d : Decoding) (m : Machine) (v : State) (j : ℕ) (x : View) (s : Site) (a : Ask) (n : ℕ) → Calling m v j x.own s a n
    → call_named a.name ≡ Some Sleep → a.fail ≡ 0
    → Duty v j x.own s a n (sleep x a)
unfolding sleep
sleep_duty d m v j x s a n c e z =
    first_holds (Duty v j x.own s a n) (sleep_tests x a (input a 0) (place_of_input a 0)) (goes [] None (negated (x.clock + input a 0) ∷ [])) (
      λ t. nothing_duty m v j x s a n c,
      (
        λ t. waits_duty m v j x.own s a n c (named_page a Sleep e refl) (named_waits (call_named a.name) Sleep e tt),
        (
          λ t. nothing_duty m v j x s a n c,
          (λ t. fails_duty m v j x s a n 0o22 c, (λ t. fails_duty m v j x s a n 0o17 c, (λ t. faults_duty m v j x s a n Wro c, tt))),
        ),
      ),
    )
    (λ t. sleep_goes d m v j x s a n (negated (x.clock + input a 0)) (place_of_input a 0) c e z refl t.1.1.1.1.0 t.1.1.1.1.1.0)

-- DISMIS
can_dismiss : (j : Job) (can : Bool) (a b c : Option ℕ) (e : Exit) → interrupts.after_dismissal_by j can a b c ≡ Ok e → can ≡ true
can_dismiss j true a b c e h = refl
can_dismiss j false (Some w) (Some d2) (Some d1) e h = cc
can_dismiss j false (Some w) (Some d2) None e h = cc
can_dismiss j false (Some w) None c e h = cc
can_dismiss j false None b c e h = cc

can_dismiss_at : (c : Core) (j : Job) (p : ℕ) (o : Option ℕ) (e : Exit) → after_dismissal_at c j p o ≡ Ok e → can_store c p ≡ true
can_dismiss_at c j p (Some s) e h = can_dismiss j (can_store c p) _ _ _ e h
can_dismiss_at c j p None e h = cc

can_dismissed : (c : Core) (j : Job) (p : ℕ) (e : Exit) → after_dismissal c j p ≡ Ok e → can_store c p ≡ true
unfolding after_dismissal
can_dismissed c j p e h = can_dismiss_at c j p (word_at c p) e h

dismissed_duty : (m : Machine) (v : State) (j : ℕ) (x : View) (s : Site) (a : Ask) (n p : ℕ) (r : Result Exit Fault)
    → Calling m v j x.own s a n → p % 2 ^ 18 ≡ p
    → after_dismissal x.own.core x.own.job p ≡ r → Duty v j x.own s a n (dismissed_by x p (input a 0) r)
dismissed_duty m v j x s a n p (Ok e) c at is =
    ending_duty m v j x.own s a n [] (record { at = p; word = popped (input a 0) } ∷ []) c tt tt refl
    (ap (can_store x.own.core) at ∙ can_dismissed x.own.core x.own.job p e is, tt) (omega arith)
dismissed_duty m v j x s a n p (Err f) c at is = faults_duty m v j x s a n f c

dismiss_at_duty : (m : Machine) (v : State) (j : ℕ) (x : View) (s : Site) (a : Ask) (n : ℕ) (o : Option ℕ) → Calling m v j x.own s a n
    → place_of_input a 0 ≡ o
    → Duty v j x.own s a n (dismiss_at x a o)
dismiss_at_duty m v j x s a n (Some p) c is = dismissed_duty m v j x s a n p (after_dismissal x.own.core x.own.job p) c (c.fetched.input 0 p is) refl
dismiss_at_duty m v j x s a n None c is = fails_duty m v j x s a n 0o17 c

pub dismiss_duty : (m : Machine) (v : State) (j : ℕ) (x : View) (s : Site) (a : Ask) (n : ℕ) → Calling m v j x.own s a n → Duty v j x.own s a n (dismiss x a)
unfolding dismiss
dismiss_duty m v j x s a n c = dismiss_at_duty m v j x s a n (place_of_input a 0) c refl

-- REALT
pub realt_duty : (m : Machine) (v : State) (j : ℕ) (x : View) (s : Site) (a : Ask) (n : ℕ) → Calling m v j x.own s a n → Duty v j x.own s a n (realt x a)
unfolding realt
realt_duty m v j x s a n c =
    let arm = changes.Arm (alarm_of x.clock (input a 0)) in
    first_holds (Duty v j x.own s a n) ((is_negative (input a 0) || nat_lt longest_period (input a 0)) ⇒ fails x a 0o22 ∷ []) (finishes x (arm ∷ []) [])
    (λ t. fails_duty m v j x s a n 0o22 c, tt) (λ t. ending_duty m v j x.own s a n (arm ∷ []) [] c (tt, tt) (tt, tt) refl tt (omega arith))
