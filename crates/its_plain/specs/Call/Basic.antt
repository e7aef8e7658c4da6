-- HANG, SLEEP, DISMIS, USRVAR, LOGOUT and REALT (docs/CALLS.md).
-- A promise rests on this.
use Rattle.std.specs.Prelude.{if◌then◌else◌, ◌==◌, ◌||◌, ◌&&◌, ℕ, ◌+◌, ◌-◌, ◌%◌, ◌^◌, Bool, true, false, not, Option, Some, None, List, [], ◌∷◌, Result, Ok, Err, nat_lt, nat_le}
use Rattle.its_word.specs.Word.{left_of, right_of, pair_of}
use Rattle.its_word.specs.Core.{Core, can_store}
use Rattle.its_word.specs.declared.access.Fault.{Fault}
use Rattle.its_word.specs.declared.access.Fault.TheVariants.{Wro}
use Rattle.its_records.specs.declared.calls.Ask.{Ask}
use Rattle.its_records.specs.declared.calls.Exit.{Exit}
use Rattle.its_frame.specs.declared.change.Change.{Change}
use Rattle.its_frame.specs.declared.change.Change.TheVariants as changes
use Rattle.its_frame.specs.declared.decision.Decision.{Decision}
use Rattle.its_frame.specs.declared.decision.Decision.TheVariants.{Waits, Ends, Gone}
use Rattle.its_frame.specs.declared.decision.Wait.TheVariants.{Hang, Clock}
use Rattle.its_frame.specs.declared.variable.Variable.{Variable}
use Rattle.its_frame.specs.declared.variable.Variable.TheVariants.{Upc, Ustp, Pirqc, Ifpir, Mask, Msk2, Df1, Df2}
use Rattle.its_frame.specs.Variables.{variable_named}
use Rattle.its_frame.specs.Errors as error
use Rattle.its_plain.specs.Unit.Interrupt.{after_dismissal}
use Rattle.its_plain.specs.Machine.Registers.{IOC, with_pending}
use Rattle.its_plain.specs.Machine.{Chan, Shut, On, Whole}
use Rattle.its_plain.specs.Machine.Own.{exit_of, with_advance, variable_of, with_variable}
use Rattle.its_plain.specs.Machine.View.{View, Outline}
use Rattle.its_plain.specs.Call.Arguments.{input, has_input, place_of_input, is_shared}
use Rattle.its_plain.specs.Call.Tests.{Test, ◌⇒◌, first, finishes, fails, faults, goes, out}

-- HANG never goes on
abbrev pub hang : Decision
hang = Waits Hang

-- the longest sleep, in thirtieths
abbrev pub longest_sleep : ℕ
longest_sleep = 0o200000000000

-- a word has bit 0 on
abbrev pub is_negative : ℕ → Bool
is_negative w = nat_le (2 ^ 35) w

abbrev pub negated : ℕ → ℕ
negated n = (2 ^ 36 - n) % 2 ^ 36

-- a place whose word cannot be stored
abbrev pub read_only : Core → Option ℕ → Bool
read_only c (Some p) = not (can_store c p)
read_only c None = false

-- no place, or the place of another argument or of a decode word
abbrev pub shared_place : Ask → Option ℕ → Bool
shared_place a (Some p) = is_shared p a
shared_place a None = true

-- SLEEP n. For n > 0 the word becomes minus the time of waking; for n < 0 the call waits for that
-- time
abbrev pub sleep_tests : View → Ask → ℕ → Option ℕ → List Test
sleep_tests v a n p =
    (n == 0) ⇒ finishes v [] []
    ∷ (is_negative n && nat_lt v.clock (2 ^ 36 - n)) ⇒ Waits Clock
    ∷ is_negative n ⇒ finishes v [] []
    ∷ nat_lt longest_sleep n ⇒ fails v a error.OUT_OF_RANGE
    ∷ shared_place a p ⇒ fails v a error.NO_WORD
    ∷ read_only v.own.core p ⇒ faults v Wro
    ∷ []

unfoldable pub sleep : View → Ask → Decision
sleep v a = first (sleep_tests v a (input a 0) (place_of_input a 0)) (goes [] None (negated (v.clock + input a 0) ∷ []))

-- DISMIS p. PC, flags and deferrals come from the stack below the word at p; 5 is taken from each
-- half of that word
abbrev pub popped : ℕ → ℕ
popped w = pair_of (left_of w + (2 ^ 18 - 5)) (right_of w + (2 ^ 18 - 5))

abbrev pub dismissed_by : View → ℕ → ℕ → Result Exit Fault → Decision
dismissed_by v p w (Ok e) = Ends (record { items = [] }) (record { items = record { at = p; word = popped w } ∷ [] }) e
dismissed_by v p w (Err f) = faults v f

abbrev pub dismiss_at : View → Ask → Option ℕ → Decision
dismiss_at v a (Some p) = dismissed_by v p (input a 0) (after_dismissal v.own.core v.own.job p)
dismiss_at v a None = fails v a error.NO_WORD

unfoldable pub dismiss : View → Ask → Decision
dismiss v a = dismiss_at v a (place_of_input a 0)

-- whom a job argument names: oneself, or whatever a channel is on; a number above 17 is no channel
pub data Party : Type 0 where
  Oneself : Party
  Nobody : Party
  Channel : Chan → Party

abbrev pub is_oneself : ℕ → Bool
is_oneself w = (w == 0o777777) || (w == 0o777777777777)

abbrev pub channel_at : (ℕ → Chan) → ℕ → Chan
channel_at channels n = if nat_lt n 16 then channels n else Shut

-- whether a channel is closed
abbrev pub is_shut : Chan → Bool
is_shut Shut = true
is_shut _ = false

-- whether there is an outline, and job j is the superior of its job
abbrev pub is_superior : ℕ → Option Outline → Bool
is_superior j (Some o) = superior_is o.superior
  where
    superior_is : Option ℕ → Bool
    superior_is (Some s) = s == j
    superior_is None = false
is_superior j None = false

abbrev pub party_on : Chan → Party
party_on Shut = Nobody
party_on c = Channel c

abbrev pub party : View → ℕ → Party
party v w = if is_oneself w then Oneself else party_on (channel_at v.own.channels w)

-- who may set a variable: nobody, the superior alone, or oneself too
abbrev pub by_oneself : Variable → Bool
by_oneself Pirqc = true
by_oneself Ifpir = true
by_oneself Mask = true
by_oneself Msk2 = true
by_oneself Df1 = true
by_oneself Df2 = true
by_oneself _ = false

abbrev pub by_superior : Variable → Bool
by_superior Upc = true
by_superior Ustp = true
by_superior x = by_oneself x

-- USRVAR job, name, optional new value: the output gets the value before, and then the new value is
-- set
abbrev pub set_own : View → Ask → Variable → Bool → Decision
set_own v a x true =
    Ends (record { items = [] }) (record { items = out a.outputs.items (variable_of v.slot v.own x) }) (exit_of (with_variable x (input a 2) (with_advance 2 v.own.job)))
set_own v a x false = finishes v [] (out a.outputs.items (variable_of v.slot v.own x))

abbrev pub own_variable : View → Ask → Option Variable → Decision
own_variable v a (Some x) =
    if has_input a 2 && not (by_oneself x) then fails v a error.OUT_OF_RANGE else set_own v a x (has_input a 2)
own_variable v a None = fails v a error.OUT_OF_RANGE

abbrev pub set_other : ℕ → Variable → ℕ → Bool → List Change
set_other s x w true = changes.Set s x w ∷ []
set_other s x w false = []

abbrev pub value_of_other : ℕ → Variable → Option Whole → ℕ
value_of_other s x (Some q) = variable_of s q x
value_of_other s x None = 0

abbrev pub other_variable : View → Ask → ℕ → Bool → Option Variable → Decision
other_variable v a s write (Some x) =
    first (((has_input a 2 && not write) ⇒ fails v a error.WRONG_DEVICE) ∷ ((has_input a 2 && not (by_superior x)) ⇒ fails v a error.OUT_OF_RANGE) ∷ [])
    (finishes v (set_other s x (input a 2) (has_input a 2)) (out a.outputs.items (value_of_other s x v.other)))
other_variable v a s write None = fails v a error.OUT_OF_RANGE

abbrev pub usrvar_of : View → Ask → Party → Decision
usrvar_of v a Oneself = own_variable v a (variable_named (input a 1))
usrvar_of v a Nobody = fails v a error.BAD_CHANNEL
usrvar_of v a (Channel (On s write at)) = other_variable v a s write (variable_named (input a 1))
usrvar_of v a (Channel c) = fails v a error.WRONG_DEVICE

unfoldable pub usrvar : View → Ask → Decision
usrvar v a = usrvar_of v a (party v (input a 0))

-- LOGOUT: the job and all jobs below it are removed, and INF is set in its superior
abbrev pub told_superior : Option ℕ → List Change
told_superior (Some s) = changes.Inform s ∷ []
told_superior None = []

abbrev pub logout : View → Decision
logout v = Gone (record { items = told_superior v.own.superior })

-- REALT n: the alarm of the job has period n, and its next time is n from now; with 0 it has none
abbrev pub longest_period : ℕ
longest_period = 0o200000000000

abbrev pub alarm_of : ℕ → ℕ → Option (ℕ × ℕ)
alarm_of c n = if n == 0 then None else Some (n, c + n)

unfoldable pub realt : View → Ask → Decision
realt v a =
    first ((is_negative (input a 0) || nat_lt longest_period (input a 0)) ⇒ fails v a error.OUT_OF_RANGE ∷ []) (finishes v (changes.Arm (alarm_of v.clock (input a 0)) ∷ []) [])

-- `.IOT` that fails: IOC is set, and PC gains 1
abbrev pub ioc : View → Decision
ioc v = Ends (record { items = [] }) (record { items = [] }) (exit_of (with_pending (with_advance 1 v.own.job) IOC))
