-- USRVAR does its duty, on its own job and through a channel on an inferior.
use Rattle.std.specs.Prelude.{if◌then◌else◌, ◌&&◌, ◌≡◌, ◌≢◌, ℕ, Bool, true, false, not, Option, Some, None, [], ◌∷◌, refl}
use Rattle.its_records.specs.declared.calls.Ask.{Ask}
use Rattle.its_records.specs.declared.calls.Site.{Site}
use Rattle.its_frame.specs.declared.name.CallName.{CallName}
use Rattle.its_frame.specs.declared.name.CallName.TheVariants.{Usrvar, Iot}
use Rattle.its_frame.specs.declared.variable.Variable.{Variable}
use Rattle.its_plain.specs.Call.Arguments.{input, has_input}
use Rattle.its_frame.specs.Variables.{variable_named}
use Rattle.its_plain.specs.Call.Basic.{Oneself, is_oneself, channel_at, party_on, by_oneself, by_superior, set_own, own_variable, set_other, value_of_other, other_variable, usrvar_of, usrvar}
use Rattle.its_plain.specs.Call.Decide.{call_named}
use Rattle.its_plain.specs.Machine.{Chan, Shut, TtyIn, TtyOut, Reads, Writes, On, Linked, Machine}
use Rattle.its_plain.specs.Machine.Own.{variable_of}
use Rattle.its_plain.specs.Call.Tests.{◌⇒◌, finishes, fails, out}
use Rattle.its_plain.specs.Machine.View.{View}
use Rattle.its_stepped.specs.State.{State}
use Rattle.its_stepped.specs.Quiet.{AllQuiet}
use Rattle.its_stepped.specs.Duty.{AllSpare, Duty, parts_in}
use Rattle.its_stepped.specs.Calling.{Calling}
use Rattle.its_stepped.proofs.Committing.TargetLaws.{Aimed, aimed_reached, aimed_on}
use Rattle.its_stepped.proofs.Committing.TestLaws.{by_test, first_holds, ending_duty, fails_duty, output_duty, out_few}

-- on the own job
set_own_duty : (m : Machine) (v : State) (j : ℕ) (x : View) (s : Site) (a : Ask) (n : ℕ) (y : Variable) (b : Bool)
    → Calling m v j x.own s a n → call_named a.name ≢ Some Iot
    → Duty v j x.own s a n (set_own x a y b)
set_own_duty m v j x s a n y true c ne = output_duty m v j x s a n (variable_of x.slot x.own y) c ne
set_own_duty m v j x s a n y false c ne = output_duty m v j x s a n (variable_of x.slot x.own y) c ne

own_variable_duty : (m : Machine) (v : State) (j : ℕ) (x : View) (s : Site) (a : Ask) (n : ℕ) (o : Option Variable)
    → Calling m v j x.own s a n → call_named a.name ≢ Some Iot
    → Duty v j x.own s a n (own_variable x a o)
own_variable_duty m v j x s a n None c ne = fails_duty m v j x s a n 0o22 c
own_variable_duty m v j x s a n (Some y) c ne =
    by_test (Duty v j x.own s a n) (has_input a 2 && not (by_oneself y)) _ (set_own x a y (has_input a 2))
    (λ t. fails_duty m v j x s a n 0o22 c) (λ t. set_own_duty m v j x s a n y (has_input a 2) c ne)

-- through a channel
set_quiet : (v : State) (j k : ℕ) (y : Variable) (w : ℕ) (b : Bool) → Aimed v j k → AllQuiet (set_other k y w b) j v
set_quiet v j k y w true h = (aimed_reached v j k h, tt)
set_quiet v j k y w false h = tt

set_spares : (v : State) (j k : ℕ) (y : Variable) (w : ℕ) (b : Bool) → Aimed v j k → AllSpare (set_other k y w b) j v
set_spares v j k y w true h = (h.other, tt)
set_spares v j k y w false h = tt

set_part : (k : ℕ) (y : Variable) (w : ℕ) (b : Bool) → parts_in (set_other k y w b) ≡ 0
set_part k y w true = refl
set_part k y w false = refl

other_variable_duty : (m : Machine) (v : State) (j : ℕ) (x : View) (s : Site) (a : Ask) (n k : ℕ) (write : Bool) (o : Option Variable)
    → Calling m v j x.own s a n → call_named a.name ≢ Some Iot
    → Aimed v j k → Duty v j x.own s a n (other_variable x a k write o)
other_variable_duty m v j x s a n k write None c ne h = fails_duty m v j x s a n 0o22 c
other_variable_duty m v j x s a n k write (Some y) c ne h =
    first_holds (Duty v j x.own s a n)
    (((has_input a 2 && not write) ⇒ fails x a 0o5) ∷ ((has_input a 2 && not (by_superior y)) ⇒ fails x a 0o22) ∷ [])
    (finishes x (set_other k y (input a 2) (has_input a 2)) (out a.outputs.items (value_of_other k y x.other)))
    (λ t. fails_duty m v j x s a n 0o5 c, (λ t. fails_duty m v j x s a n 0o22 c, tt))
    (λ t. ending_duty m v j x.own s a n (set_other k y (input a 2) (has_input a 2)) (out a.outputs.items (value_of_other k y x.other)) c
    (set_quiet v j k y (input a 2) (has_input a 2) h) (set_spares v j k y (input a 2) (has_input a 2) h) (set_part k y (input a 2) (has_input a 2))
    (c.fetched.output ne (value_of_other k y x.other)) (out_few a.outputs.items (value_of_other k y x.other)))

channel_duty : (m : Machine) (v : State) (j : ℕ) (x : View) (s : Site) (a : Ask) (n : ℕ) (h : Chan) → Calling m v j x.own s a n
    → call_named a.name ≡ Some Usrvar → a.fail ≡ 0
    → channel_at x.own.channels (input a 0) ≡ h → Duty v j x.own s a n (usrvar_of x a (party_on h))
channel_duty m v j x s a n Shut c e z is = fails_duty m v j x s a n 0o4 c
channel_duty m v j x s a n TtyIn c e z is = fails_duty m v j x s a n 0o5 c
channel_duty m v j x s a n TtyOut c e z is = fails_duty m v j x s a n 0o5 c
channel_duty m v j x s a n (Reads f at) c e z is = fails_duty m v j x s a n 0o5 c
channel_duty m v j x s a n (Writes f) c e z is = fails_duty m v j x s a n 0o5 c
channel_duty m v j x s a n (Linked l write) c e z is = fails_duty m v j x s a n 0o5 c
channel_duty m v j x s a n (On k write at) c e z is =
    other_variable_duty m v j x s a n k write (variable_named (input a 1)) c (λ t. named_apart (call_named a.name) e t)
    (aimed_on m v j x.own s a n Usrvar 0 k at write c e z refl refl is)
  where
    named_apart : (o : Option CallName) → o ≡ Some Usrvar → o ≡ Some Iot → ⊥
    named_apart o e t = cc

usrvar_by : (m : Machine) (v : State) (j : ℕ) (x : View) (s : Site) (a : Ask) (n : ℕ) (b : Bool) → Calling m v j x.own s a n
    → call_named a.name ≡ Some Usrvar → a.fail ≡ 0
    → Duty v j x.own s a n (usrvar_of x a (if b then Oneself else party_on (channel_at x.own.channels (input a 0))))
usrvar_by m v j x s a n true c e z = own_variable_duty m v j x s a n (variable_named (input a 1)) c (λ t. named_apart (call_named a.name) e t)
  where
    named_apart : (o : Option CallName) → o ≡ Some Usrvar → o ≡ Some Iot → ⊥
    named_apart o e t = cc
usrvar_by m v j x s a n false c e z = channel_duty m v j x s a n (channel_at x.own.channels (input a 0)) c e z refl

pub usrvar_duty : (m : Machine) (v : State) (j : ℕ) (x : View) (s : Site) (a : Ask) (n : ℕ) → Calling m v j x.own s a n
    → call_named a.name ≡ Some Usrvar → a.fail ≡ 0
    → Duty v j x.own s a n (usrvar x a)
unfolding usrvar
usrvar_duty m v j x s a n c e z = usrvar_by m v j x s a n (is_oneself (input a 0)) c e z
