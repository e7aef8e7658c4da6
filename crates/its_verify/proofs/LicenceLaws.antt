-- The judge's letters lead to what the licence allows, both ways; and some letter is always
-- licensed.
use Rattle.std.proofs.Common.{◌≡◌, ◌<◌, ◌==◌, ◌&&◌, ℕ, zero, suc, Bool, true, false, not, Option, Some, None, List, [], ◌∷◌, length, refl, sym, ap, inl, inr, arith}
use Rattle.std.proofs.lemmas.Bool.{cases_Bool, false≢true, and_parts, eqb-true, eq-eqb, lt-ltb, ltb-true, not-true, not-false}
use Rattle.std.proofs.lemmas.Slice.Eq.{bytes_eq-Decides}
use Rattle.std.specs.Prelude.{is_none, nat_lt, option_and_then}
use Rattle.its_records.specs.declared.calls.Pace.{Pace}
use Rattle.its_records.specs.declared.calls.Pace.TheVariants.{Step, Work, Wait, Off}
use Rattle.its_print.specs.Printing.{Ticks, text_of_line}
use Rattle.its_plain.specs.Call.Step.{step}
use Rattle.its_plain.specs.Transcript.Licence.{IsRunning, IsOff, Licensed, most_dots}
use Rattle.its_plain.specs.Machine.{Whole, Machine}
use Rattle.its_plain.specs.Transcript.{Walk, after_letter}
use Rattle.its_plain.specs.Transcript.Turns.{is_running}
use Rattle.its_plain.proofs.RunLaws.{PacedOn}
use Rattle.its_verify.specs.Lines.{says}
use Rattle.its_verify.specs.Letters.{if_so, led_to, paces_from, paced, ticks_in, ticked}
use Rattle.its_verify.proofs.PaceLaws.{paces_again}

pub if_so_is : {X : Type 0} (b : Bool) (x y : X) → if_so b x ≡ Some y → (b ≡ true) × (x ≡ y)
if_so_is true x y h = (refl, cc)
if_so_is false x y h = absurd cc

pub record Then {A B : Type 0} (f : A → Option B) (o : Option A) (y : B) : Type 0 where
  pub value : A
  pub first : o ≡ Some value
  pub last : f value ≡ Some y

pub then_of : {A B : Type 0} (f : A → Option B) (o : Option A) (y : B) → option_and_then f o ≡ Some y → Then f o y
then_of f None y h = absurd cc
then_of f (Some x) y h = record { value = x; first = refl; last = h }

-- whether the job of a slot runs
runs_running : (o : Option Whole) → is_running o ≡ true → IsRunning o
runs_running None h = false≢true h
runs_running (Some q) h = not-true q.job.stopped h

running_runs : (o : Option Whole) → IsRunning o → is_running o ≡ true
running_runs None h = absurd h
running_runs (Some q) h = rw h refl

runs_off : (o : Option Whole) → is_running o ≡ false → IsOff o
runs_off None h = tt
runs_off (Some q) h = not-false q.job.stopped h

off_runs : (o : Option Whole) → IsOff o → is_running o ≡ false
off_runs None h = refl
off_runs (Some q) h = rw h refl

none_is : (o : Option Machine) → is_none o ≡ true → o ≡ None
none_is None h = refl
none_is (Some n) h = absurd (false≢true h)

-- a letter
abbrev Allowed : Walk → ℕ → Pace → Machine → Type 0
Allowed v i p n = Licensed v.machine i p n × (p ≡ Work → v.dots i < most_dots)

led_allowed : (v : Walk) (i : ℕ) (p : Pace) (n : Machine) → led_to v i p ≡ Some n → Allowed v i p n
led_allowed v i Step n h = (h, λ e. absurd cc)
led_allowed v i Work n h =
    let y = if_so_is (is_running (v.machine.jobs i) && nat_lt (v.dots i) most_dots) v.machine n h in
    let both = and_parts (is_running (v.machine.jobs i)) (nat_lt (v.dots i) most_dots) y.0 in
    ((runs_running (v.machine.jobs i) both.0, sym y.1), λ e. ltb-true (v.dots i) most_dots both.1)
led_allowed v i Wait n h =
    let y = if_so_is (is_running (v.machine.jobs i) && is_none (step v.machine i)) v.machine n h in
    let both = and_parts (is_running (v.machine.jobs i)) (is_none (step v.machine i)) y.0 in
    ((runs_running (v.machine.jobs i) both.0, none_is (step v.machine i) both.1, sym y.1), λ e. absurd cc)
led_allowed v i Off n h =
    let y = if_so_is (not (is_running (v.machine.jobs i))) v.machine n h in
    ((runs_off (v.machine.jobs i) (not-true (is_running (v.machine.jobs i)) y.0), sym y.1), λ e. absurd cc)

allowed_led : (v : Walk) (i : ℕ) (p : Pace) (n : Machine) → Allowed v i p n → led_to v i p ≡ Some n
allowed_led v i Step n h = h.0
allowed_led v i Work n h = rw (running_runs (v.machine.jobs i) h.0.0, lt-ltb (v.dots i) most_dots (h.1 refl), h.0.1) refl
allowed_led v i Wait n h = rw (running_runs (v.machine.jobs i) h.0.0, h.0.1, h.0.2) refl
allowed_led v i Off n h = rw (off_runs (v.machine.jobs i) h.0.0, h.0.1) refl

-- letters
pub paced_on : (v : Walk) (i : ℕ) (ps : List Pace) (w : Walk) (next : Walk → Type 0) → paced v i ps ≡ Some w → next w → PacedOn v i ps next
paced_on v i [] w next h at =
    let is : v ≡ w = cc in
    rw is at
paced_on v i (p ∷ ps) w next h at =
    let t = then_of (λ (n : Machine). paced (after_letter v i p n) i ps) (led_to v i p) w h in
    let a = led_allowed v i p t.value t.first in
    (t.value, a.0, a.1, paced_on (after_letter v i p t.value) i ps w next t.last at)

pub record PacedTo (v : Walk) (i : ℕ) (ps : List Pace) (next : Walk → Type 0) : Type 0 where
  pub to : Walk
  pub paces : paced v i ps ≡ Some to
  pub at : next to

pub on_paced : (v : Walk) (i : ℕ) (ps : List Pace) (next : Walk → Type 0) → PacedOn v i ps next → PacedTo v i ps next
on_paced v i [] next h = record { to = v; paces = refl; at = h }
on_paced v i (p ∷ ps) next h =
    let more = on_paced (after_letter v i p h.0) i ps next h.3 in
    record { to = more.to; paces = rw (allowed_led v i p h.0 (h.1, h.2)) more.paces; at = more.at }

-- some letter is always licensed
record AnyLetter (v : Walk) (i : ℕ) : Type 0 where
  pace : Pace
  to : Machine
  leads : led_to v i pace ≡ Some to

when_it_runs : (v : Walk) (i : ℕ) (o : Option Machine) → is_running (v.machine.jobs i) ≡ true → step v.machine i ≡ o → AnyLetter v i
when_it_runs v i (Some n) run is = record { pace = Step; to = n; leads = is }
when_it_runs v i None run is = record { pace = Wait; to = v.machine; leads = rw (run, is) refl }

any_letter : (v : Walk) (i : ℕ) → AnyLetter v i
any_letter v i =
    elim (cases_Bool (is_running (v.machine.jobs i))) [
      | inl run ↦ when_it_runs v i (step v.machine i) run refl
      | inr off ↦ record { pace = Off; to = v.machine; leads = rw off refl }
    ]

pub record AnyLetters (v : Walk) (i k : ℕ) : Type 0 where
  pub paces : List Pace
  pub to : Walk
  pub many : length paces ≡ k
  pub leads : paced v i paces ≡ Some to

pub any_letters : (v : Walk) (i k : ℕ) → AnyLetters v i k
any_letters v i zero = record { paces = []; to = v; many = refl; leads = refl }
any_letters v i (suc k) =
    let p = any_letter v i in
    let more = any_letters (after_letter v i p.pace p.to) i k in
    record { paces = p.pace ∷ more.paces; to = more.to; many = ap suc more.many; leads = rw p.leads more.leads }

-- the letters of a text
pub said_ticks : (i k : ℕ) (text : List ℕ) (ps : List Pace) → ticks_in i k text ≡ Some ps → (length ps ≡ k) × (says (Ticks i ps) text ≡ true)
unfolding ticks_in
said_ticks i k text ps h =
    let qs = paces_from k 0 text in
    let y = if_so_is ((length qs == k) && says (Ticks i qs) text) qs ps h in
    let both = and_parts (length qs == k) (says (Ticks i qs) text) y.0 in
    rw (← y.1) (eqb-true (length qs) k both.0, both.1)

pub ticks_said : (i k : ℕ) (text : List ℕ) (ps : List Pace) → length ps ≡ k → says (Ticks i ps) text ≡ true → ticks_in i k text ≡ Some ps
unfolding ticks_in
ticks_said i k text ps many said =
    let is : text ≡ text_of_line (Ticks i ps) = (bytes_eq-Decides text (text_of_line (Ticks i ps))).0 said in
    let again : paces_from k 0 text ≡ ps = rw is (paces_again k i ps (omega (arith, many))) in
    let test : (length ps == k) ≡ true = eq-eqb (length ps) k many in
    rw (again, test, said) refl

pub ticked_some : (v : Walk) (i k : ℕ) (text : List ℕ) (ps : List Pace) (w : Walk) → length ps ≡ k → says (Ticks i ps) text ≡ true
    → paced v i ps ≡ Some w → ticked v i k text ≡ Some w
ticked_some v i k text ps w many said leads = rw (ticks_said i k text ps many said) leads
