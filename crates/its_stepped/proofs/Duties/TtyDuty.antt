-- The calls on consoles do their duty: OPEN, `.IOT` and TTYLND; and a call that changes nothing.
use Rattle.std.specs.Prelude.{◌≡◌, ◌≢◌, ℕ, ◌%◌, ◌^◌, Bool, false, not, Option, Some, [], ◌∷◌, ◌++◌, unwrap_or, refl}
use Rattle.std.proofs.Common.{◌∙◌, ap, subst, sym, arith}
use Rattle.std.proofs.lemmas.Bool.{not-false}
use Rattle.its_word.specs.Core.{can_store}
use Rattle.its_word.specs.declared.access.Fault.TheVariants.{Mpv, Wro}
use Rattle.its_records.specs.declared.calls.Ask.{Ask}
use Rattle.its_records.specs.declared.calls.Site.{Site}
use Rattle.its_frame.specs.declared.change.Change.TheVariants as changes
use Rattle.its_frame.specs.declared.decision.Decision.TheVariants.{Waits}
use Rattle.its_frame.specs.declared.decision.Wait.TheVariants.{Input, Output}
use Rattle.its_frame.specs.declared.name.CallName.{CallName}
use Rattle.its_frame.specs.declared.name.CallName.TheVariants.{Iot}
use Rattle.its_plain.specs.Call.Arguments.{input}
use Rattle.its_plain.specs.Call.Basic.{Party, Oneself, Nobody, Channel, party}
use Rattle.its_plain.specs.Call.Tty.{view_console, has_console, input_waits, output_waits, first_typed, shown_byte, opens_on, open_tests, opens, iot_in, iot_out, can_take, is_holder, lands, ttylnd_of, ttylnd}
use Rattle.its_plain.specs.Call.Transfer.{store_tests, read_tests, word_of, iot_ends}
use Rattle.its_plain.specs.Call.Decide.{call_named}
use Rattle.its_plain.specs.Machine.{On, Machine}
use Rattle.its_plain.specs.Call.Tests.{◌⇒◌, finishes, fails}
use Rattle.its_plain.specs.Machine.View.{View}
use Rattle.its_stepped.specs.State.{State}
use Rattle.its_stepped.specs.Tick.{makes_page}
use Rattle.its_stepped.specs.Sound.{IsWaitable}
use Rattle.its_stepped.specs.Duty.{Waiting_by, Duty}
use Rattle.its_stepped.specs.Calling.{Calling}
use Rattle.its_stepped.proofs.Duties.CallWays.{Answering}
use Rattle.its_stepped.proofs.Committing.TestLaws.{first_holds, waits_duty, ending_duty, fails_duty, faults_duty, nothing_duty, output_duty}

-- a call by its name that can be found not ready, and makes no page
pub named_waits : (m : Machine) (v : State) (j : ℕ) (x : View) (s : Site) (a : Ask) (n : ℕ) (k : CallName) → Calling m v j x.own s a n
    → call_named a.name ≡ Some k
    → makes_page (Some k) (input a 0) ≡ false → IsWaitable (Some k) → Waiting_by v j a
named_waits m v j x s a n k c e page w =
    waits_duty m v j x.own s a n c (ap (λ (o : Option CallName). makes_page o (input a 0)) e ∙ page) (subst IsWaitable (sym e) w)

-- OPEN
pub opens_duty : (m : Machine) (v : State) (j : ℕ) (x : View) (s : Site) (a : Ask) (n : ℕ) → Calling m v j x.own s a n → Duty v j x.own s a n (opens x a)
unfolding opens
opens_duty m v j x s a n c =
    first_holds (Duty v j x.own s a n) (open_tests x a (input a 0) (input a 1) (unwrap_or a.control 0))
    (finishes x (changes.Open (input a 0) (opens_on (unwrap_or a.control 0)) ∷ []) []) (
      λ t. fails_duty m v j x s a n 0o4 c,
      (
        λ t. fails_duty m v j x s a n 0o5 c,
        (λ t. fails_duty m v j x s a n 0o22 c, (λ t. fails_duty m v j x s a n 0o5 c, tt)),
      ),
    )
    (λ t. ending_duty m v j x.own s a n (changes.Open (input a 0) (opens_on (unwrap_or a.control 0)) ∷ []) [] c (tt, tt) (tt, tt) refl tt (omega arith))

-- `.IOT`: the word that it stores allows it, as its tests found
pub iot_in_duty : (m : Machine) (v : State) (j : ℕ) (x : View) (s : Site) (a : Ask) (n e i : ℕ) → Calling m v j x.own s a n
    → call_named a.name ≡ Some Iot → e % 2 ^ 18 ≡ e
    → Duty v j x.own s a n (iot_in x e i)
iot_in_duty m v j x s a n e i c is at =
    first_holds (Duty v j x.own s a n) (store_tests x e ++ (input_waits x i ⇒ Waits (Input i) ∷ []))
    (iot_ends x (changes.Take i ∷ []) (record { at = e; word = first_typed x i } ∷ []))
    (λ t. faults_duty m v j x s a n Mpv c, (λ t. faults_duty m v j x s a n Wro c, (λ t. named_waits m v j x s a n Iot c is refl tt, tt)))
    (λ t. ending_duty m v j x.own s a n (changes.Take i ∷ []) (record { at = e; word = first_typed x i } ∷ []) c (tt, tt) (tt, tt) refl
    (ap (can_store x.own.core) at ∙ not-false (can_store x.own.core e) t.1.0, tt) (omega arith))

pub iot_out_duty : (m : Machine) (v : State) (j : ℕ) (x : View) (s : Site) (a : Ask) (n e i : ℕ) → Calling m v j x.own s a n → call_named a.name ≡ Some Iot
    → Duty v j x.own s a n (iot_out x e i)
iot_out_duty m v j x s a n e i c is =
    first_holds (Duty v j x.own s a n) (read_tests x e ++ (output_waits x i ⇒ Waits (Output i) ∷ []))
    (iot_ends x (changes.Put i (shown_byte (word_of x e)) ∷ []) [])
    (λ t. faults_duty m v j x s a n Mpv c, (λ t. named_waits m v j x s a n Iot c is refl tt, tt))
    (λ t. ending_duty m v j x.own s a n (changes.Put i (shown_byte (word_of x e)) ∷ []) [] c (tt, tt) (tt, tt) refl tt (omega arith))

-- TTYLND
lands_duty : (m : Machine) (v : State) (j : ℕ) (x : View) (s : Site) (a : Ask) (n : ℕ) (may : Bool) (error k : ℕ) → Calling m v j x.own s a n
    → Duty v j x.own s a n (lands x a may error k)
lands_duty m v j x s a n may error k c =
    first_holds (Duty v j x.own s a n) (not (has_console x) ⇒ fails x a 0o5 ∷ not may ⇒ fails x a error ∷ [])
    (finishes x (changes.Hold (view_console x) k ∷ []) [])
    (λ t. fails_duty m v j x s a n 0o5 c, (λ t. fails_duty m v j x s a n error c, tt))
    (λ t. ending_duty m v j x.own s a n (changes.Hold (view_console x) k ∷ []) [] c (tt, tt) (tt, tt) refl tt (omega arith))

ttylnd_of_duty : (m : Machine) (v : State) (j : ℕ) (x : View) (s : Site) (a : Ask) (n : ℕ) (p : Party) → Calling m v j x.own s a n
    → Duty v j x.own s a n (ttylnd_of x a p)
ttylnd_of_duty m v j x s a n Oneself c = lands_duty m v j x s a n (can_take x (x.holders (view_console x))) 0o13 x.slot c
ttylnd_of_duty m v j x s a n Nobody c = fails_duty m v j x s a n 0o4 c
ttylnd_of_duty m v j x s a n (Channel (On k write at)) c = lands_duty m v j x s a n (is_holder x (x.holders (view_console x))) 0o5 k c
ttylnd_of_duty m v j x s a n _ c = fails_duty m v j x s a n 0o5 c

pub ttylnd_duty : (m : Machine) (v : State) (j : ℕ) (x : View) (s : Site) (a : Ask) (n : ℕ) → Calling m v j x.own s a n → Duty v j x.own s a n (ttylnd x a)
unfolding ttylnd
ttylnd_duty m v j x s a n c = ttylnd_of_duty m v j x s a n (party x (input a 0)) c

-- a call that changes nothing but the word of its output
pub answering_duty : (m : Machine) (v : State) (j : ℕ) (x : View) (s : Site) (a : Ask) (n : ℕ) → Calling m v j x.own s a n → call_named a.name ≢ Some Iot
    → Answering (Duty v j x.own s a n) x a
answering_duty m v j x s a n c other = record {
  failing = λ k. fails_duty m v j x s a n k c;
  faulting = λ f. faults_duty m v j x s a n f c;
  finishing = nothing_duty m v j x s a n c;
  giving = λ w. output_duty m v j x s a n w c other;
}
