-- What a call decides: the bytes that it puts out have 7 bits, and the alarm that it sets has a
-- next time of 36.
use Rattle.std.specs.Prelude.{◌==◌, ◌≡◌, ◌<◌, ◌≤◌, ◌&&◌, ℕ, ◌+◌, ◌-◌, ◌^◌, Bool, true, false, not, Option, Some, None, IfSome, List, [], ◌∷◌, ◌++◌, Result, Ok, Err, nat_lt, slice_index_or, unwrap_or, refl}
use Rattle.std.proofs.Common.{sym, ◌∙◌, ap, inl, inr, arith}
use Rattle.std.proofs.lemmas.Bool.{cases_eq, eq-eqb, ltb-false, ne_eqb}
use Rattle.its_word.specs.Byte.{load_of}
use Rattle.its_word.specs.Word.{right_of}
use Rattle.its_word.specs.declared.access.Fault.{Fault}
use Rattle.its_records.specs.Tree.{least_free}
use Rattle.its_records.specs.declared.calls.Ask.{Ask}
use Rattle.its_records.specs.declared.calls.Exit.{Exit}
use Rattle.its_frame.specs.Variables.{variable_named}
use Rattle.its_frame.specs.declared.change.Change.{Change}
use Rattle.its_frame.specs.declared.change.Change.TheVariants as changes
use Rattle.its_frame.specs.declared.decision.Decision.{Decision}
use Rattle.its_frame.specs.declared.decision.Decision.TheVariants.{Waits, Goes, Ends, Gone}
use Rattle.its_frame.specs.declared.decision.Wait.TheVariants.{Input, Output}
use Rattle.its_frame.specs.declared.name.CallName.{CallName}
use Rattle.its_frame.specs.declared.name.CallName.TheVariants as calls
use Rattle.its_frame.specs.declared.variable.Variable.{Variable}
use Rattle.its_plain.specs.Call.Arguments.{input, has_input, place_of_input}
use Rattle.its_plain.specs.Call.Basic.{channel_at, sleep, dismissed_by, dismiss_at, dismiss, Party, Oneself, Channel, by_oneself, by_superior, set_own, own_variable, set_other, value_of_other, other_variable, usrvar_of, party, usrvar, told_superior, logout, longest_period, alarm_of, realt}
use Rattle.its_plain.specs.Call.Tty.{view_console, has_console, input_waits, output_waits, first_typed, shown_byte, opens, siot_in, siot_out, finish, listen, can_take, is_holder, lands, ttylnd_of, ttylnd}
use Rattle.its_plain.specs.Call.Transfer.{iot_ends, store_tests, read_tests, word_of, next_pointer, siot_tests, siot_by}
use Rattle.its_plain.specs.Call.File.{opens_disk, closes_draft, access, fillen, delete, rename}
use Rattle.its_plain.specs.Call.Usr.{inferior_named, any_named, makes_job, opens_job, usr_tests, opens_usr, usrmem, uclose_on, uclose}
use Rattle.its_plain.specs.Call.Link.{opens_link}
use Rattle.its_plain.specs.Call.Core.{corblk}
use Rattle.its_plain.specs.Call.Device.{open_call, close_call, iot_on, iot_call, siot_on, siot_call}
use Rattle.its_plain.specs.Call.Decide.{call_named, decided_by, decided, target}
use Rattle.its_plain.specs.Call.Step.{decision}
use Rattle.its_plain.specs.Call.Tests.{◌⇒◌, finishes, fails, goes, out}
use Rattle.its_plain.specs.Machine.{Chan, TtyIn, TtyOut, On, Whole, Machine}
use Rattle.its_plain.specs.Machine.View.{View, view}
use Rattle.its_plain.specs.Operator.Clock.{clock_end}
use Rattle.its_plain.specs.Unit.Interrupt.{after_dismissal}
use Rattle.its_stepped.proofs.Committing.TestLaws.{by_test, first_holds}
use Rattle.its_stepped.proofs.Duties.CallWays.{Any, AtConsole, Mild, AllStill, AllMild, Ways, Apart, iot_ways, siot_ways, call_ways}

-- a change, and all changes of a decision
abbrev pub NarrowChange : Change → Type 0
NarrowChange (changes.Put c b) = b < 128
NarrowChange (changes.Arm alarm) = IfSome alarm (λ a. a.1 < 2 ^ 36)
NarrowChange _ = Unit {0}

abbrev pub AllNarrow : List Change → Type 0
AllNarrow [] = Unit {0}
AllNarrow (c ∷ cs) = NarrowChange c × AllNarrow cs

abbrev pub NarrowAll : Decision → Type 0
NarrowAll (Waits r) = Unit {0}
NarrowAll (Goes cs h vs) = AllNarrow cs.items
NarrowAll (Ends cs ss e) = AllNarrow cs.items
NarrowAll (Gone cs) = AllNarrow cs.items

-- the same call, but another job holds each console. Then no byte is moved there, and no mild
-- change puts one out. All calls but `.IOT`, SIOT and TTYLND decide as they do for the true holders
abbrev away : View → View
away x = record x { holders = λ c. Some (x.slot + 1) }

nothing_there : (x : View) (c : ℕ) → AtConsole (away x) c → ⊥
nothing_there x c at =
    let apart : (x.slot + 1 == x.slot) ≡ false = ne_eqb (x.slot + 1) x.slot (λ e. omega arith) in
    let no : false ≡ true = sym at.free ∙ ap not apart in
    cc

mild_narrow : (x : View) (c : Change) → Mild Any (away x) c → NarrowChange c
mild_narrow x (changes.Put c b) h = absurd (nothing_there x c h)
mild_narrow x (changes.Arm alarm) h = absurd h
mild_narrow x _ h = tt

still_narrow : (cs : List Change) → AllStill cs → AllNarrow cs
still_narrow [] h = tt
still_narrow (changes.Move n at ∷ cs) h = (tt, still_narrow cs h.1)
still_narrow (c ∷ cs) h = absurd h.0

all_narrow : (x : View) (cs : List Change) → AllMild Any (away x) cs → AllNarrow cs
all_narrow x [] h = tt
all_narrow x (c ∷ cs) h = (mild_narrow x c h.0, still_narrow cs h.1)

-- REALT: the period is at most 2 ^ 34, and the clock is below
armed_narrow : (c n : ℕ) → c < clock_end → nat_lt longest_period n ≡ false → IfSome (alarm_of c n) (λ a. a.1 < 2 ^ 36)
armed_narrow c n below h = elim (cases_eq n 0) [
  | inl z ↦ rw (eq-eqb n 0 z) tt
  | inr ne ↦ (let most : n ≤ longest_period = ltb-false longest_period n h in
      let later : c + n < 2 ^ 36 = omega arith in rw (ne_eqb n 0 ne) later)
]

ways_narrow : (x : View) (a : Ask) → x.clock < clock_end → Ways NarrowAll Any (away x) a
ways_narrow x a below = record {
  failing = λ k. tt;
  faulting = λ f. tt;
  stuck = tt;
  opening = λ h f b. (tt, tt);
  arming = λ n h. (armed_narrow x.clock n below h, tt);
  ending = λ cs ss h. all_narrow x cs h;
  moved = λ cs ss h. all_narrow x cs h;
  going = λ cs o vs h. all_narrow x cs h;
}

-- DISMIS
dismissed_narrow : (x : View) (p w : ℕ) (r : Result Exit Fault) → NarrowAll (dismissed_by x p w r)
dismissed_narrow x p w (Ok e) = tt
dismissed_narrow x p w (Err f) = tt

dismiss_narrow : (x : View) (a : Ask) → NarrowAll (dismiss x a)
unfolding dismiss
dismiss_narrow x a = by (place_of_input a 0)
  where
    by : (o : Option ℕ) → NarrowAll (dismiss_at x a o)
    by (Some p) = dismissed_narrow x p (input a 0) (after_dismissal x.own.core x.own.job p)
    by None = tt

-- USRVAR
own_narrow : (x : View) (a : Ask) (y : Variable) (b : Bool) → NarrowAll (set_own x a y b)
own_narrow x a y true = tt
own_narrow x a y false = tt

own_variable_narrow : (x : View) (a : Ask) (o : Option Variable) → NarrowAll (own_variable x a o)
own_variable_narrow x a None = tt
own_variable_narrow x a (Some y) =
    by_test NarrowAll (has_input a 2 && not (by_oneself y)) (fails x a 0o22) (set_own x a y (has_input a 2)) (λ t. tt)
    (λ t. own_narrow x a y (has_input a 2))

set_narrow : (k : ℕ) (y : Variable) (w : ℕ) (b : Bool) → AllNarrow (set_other k y w b)
set_narrow k y w true = (tt, tt)
set_narrow k y w false = tt

other_variable_narrow : (x : View) (a : Ask) (k : ℕ) (write : Bool) (o : Option Variable) → NarrowAll (other_variable x a k write o)
other_variable_narrow x a k write None = tt
other_variable_narrow x a k write (Some y) =
    first_holds NarrowAll
    (((has_input a 2 && not write) ⇒ fails x a 0o5) ∷ ((has_input a 2 && not (by_superior y)) ⇒ fails x a 0o22) ∷ [])
    (finishes x (set_other k y (input a 2) (has_input a 2)) (out a.outputs.items (value_of_other k y x.other)))
    (λ t. tt, (λ t. tt, tt)) (λ t. set_narrow k y (input a 2) (has_input a 2))

usrvar_narrow : (x : View) (a : Ask) → NarrowAll (usrvar x a)
unfolding usrvar
usrvar_narrow x a = by (party x (input a 0))
  where
    by : (p : Party) → NarrowAll (usrvar_of x a p)
    by Oneself = own_variable_narrow x a (variable_named (input a 1))
    by (Channel (On k write at)) = other_variable_narrow x a k write (variable_named (input a 1))
    by _ = tt

-- LOGOUT
told_narrow : (o : Option ℕ) → AllNarrow (told_superior o)
told_narrow (Some k) = (tt, tt)
told_narrow None = tt

-- OPEN of an inferior
makes_narrow : (x : View) (a : Ask) (n u y : ℕ) (o : Option ℕ) → NarrowAll (makes_job x a n u y o)
makes_narrow x a n u y (Some s) = (tt, (tt, tt))
makes_narrow x a n u y None = tt

job_narrow : (x : View) (a : Ask) (n u y : ℕ) (write : Bool) (o : Option ℕ) → NarrowAll (opens_job x a n u y write o)
job_narrow x a n u y write (Some s) = (tt, tt)
job_narrow x a n u y write None =
    first_holds NarrowAll (any_named x u y ⇒ fails x a 0o13 ∷ not write ⇒ fails x a 0o12 ∷ [])
    (makes_job x a n u y (least_free x.limit x.outlines)) (λ t. tt, (λ t. tt, tt))
    (λ t. makes_narrow x a n u y (least_free x.limit x.outlines))

opens_usr_narrow : (x : View) (a : Ask) → NarrowAll (opens_usr x a)
unfolding opens_usr
opens_usr_narrow x a =
    let control = unwrap_or a.control 0 in
    let named = inferior_named x (input a 2) (input a 3) in
    first_holds NarrowAll (usr_tests x a (input a 0) control) (opens_job x a (input a 0) (input a 2) (input a 3) (control == 1) named)
    (λ t. tt, (λ t. tt, tt)) (λ t. job_narrow x a (input a 0) (input a 2) (input a 3) (control == 1) named)

-- UCLOSE and TTYLND
uclose_narrow : (x : View) (a : Ask) → NarrowAll (uclose x a)
unfolding uclose
uclose_narrow x a = by (channel_at x.own.channels (input a 0))
  where
    by : (c : Chan) → NarrowAll (uclose_on x a c)
    by (On s write at) = (tt, tt)
    by _ = tt

lands_narrow : (x : View) (a : Ask) (may : Bool) (error k : ℕ) → NarrowAll (lands x a may error k)
lands_narrow x a may error k =
    first_holds NarrowAll (not (has_console x) ⇒ fails x a 0o5 ∷ not may ⇒ fails x a error ∷ []) (finishes x (changes.Hold (view_console x) k ∷ []) [])
    (λ t. tt, (λ t. tt, tt)) (λ t. (tt, tt))

ttylnd_narrow : (x : View) (a : Ask) → NarrowAll (ttylnd x a)
unfolding ttylnd
ttylnd_narrow x a = by (party x (input a 0))
  where
    by : (p : Party) → NarrowAll (ttylnd_of x a p)
    by Oneself = lands_narrow x a (can_take x (x.holders (view_console x))) 0o13 x.slot
    by (Channel (On k write at)) = lands_narrow x a (is_holder x (x.holders (view_console x))) 0o5 k
    by _ = tt

apart_narrow : (x : View) (a : Ask) → Apart NarrowAll x a
apart_narrow x a = record {
  dismiss = dismiss_narrow x a;
  usrvar = usrvar_narrow x a;
  logout = told_narrow x.own.superior;
  opens_usr = opens_usr_narrow x a;
  ttylnd = ttylnd_narrow x a;
  uclose = uclose_narrow x a;
}

-- a byte that is put out
shown_narrow : (w : ℕ) → shown_byte w < 128
shown_narrow w = omega arith

-- `.IOT`
iot_narrow : (x : View) (a : Ask) (e n : ℕ) (c : Chan) → x.clock < clock_end → channel_at x.own.channels n ≡ c → NarrowAll (iot_on x e n c)
iot_narrow x a e n TtyIn below on =
    let i = view_console x in
    first_holds NarrowAll (store_tests x e ++ (input_waits x i ⇒ Waits (Input i) ∷ []))
    (iot_ends x (changes.Take i ∷ []) (record { at = e; word = first_typed x i } ∷ []))
    (λ t. tt, (λ t. tt, (λ t. tt, tt))) (λ t. (tt, tt))
iot_narrow x a e n TtyOut below on =
    let i = view_console x in
    first_holds NarrowAll (read_tests x e ++ (output_waits x i ⇒ Waits (Output i) ∷ [])) (iot_ends x (changes.Put i (shown_byte (word_of x e)) ∷ []) [])
    (λ t. tt, (λ t. tt, tt)) (λ t. (shown_narrow (word_of x e), tt))
iot_narrow x a e n c below on = iot_ways NarrowAll Any (away x) a e n c (ways_narrow x a below) (λ s at write h. tt) on (λ k r. tt)

-- SIOT
by_narrow : (x : View) (a : Ask) (d : Decision) → NarrowAll d → NarrowAll (siot_by x a false false d)
by_narrow x a d h =
    first_holds NarrowAll (siot_tests x a (input a 1) (input a 2) false false) d
    (λ t. tt, (λ t. tt, (λ t. tt, (λ t. tt, (λ t. tt, (λ t. tt, (λ t. tt, (λ t. tt, tt)))))))) (λ t. h)

siot_narrow : (x : View) (a : Ask) (n : ℕ) (c : Chan) → x.clock < clock_end → channel_at x.own.channels n ≡ c → NarrowAll (siot_on x a n c)
siot_narrow x a n TtyIn below on =
    let next = next_pointer (input a 1) in
    let i = view_console x in
    let held = Some (record { place = right_of next; byte = first_typed x i }) in
    by_narrow x a (siot_in x a next (input a 2) i)
    (first_holds NarrowAll (store_tests x (right_of next) ++ (input_waits x i ⇒ Waits (Input i) ∷ []))
    (goes (changes.Take i ∷ []) held (next ∷ (input a 2 - 1) ∷ [])) (λ t. tt, (λ t. tt, (λ t. tt, tt))) (λ t. (tt, tt)))
siot_narrow x a n TtyOut below on =
    let next = next_pointer (input a 1) in
    let i = view_console x in
    let b = load_of next (word_of x (right_of next)) in
    by_narrow x a (siot_out x a next (input a 2) i)
    (first_holds NarrowAll (read_tests x (right_of next) ++ (output_waits x i ⇒ Waits (Output i) ∷ []))
    (goes (changes.Put i (shown_byte b) ∷ []) None (next ∷ (input a 2 - 1) ∷ [])) (λ t. tt, (λ t. tt, tt)) (λ t. (shown_narrow b, tt)))
siot_narrow x a n c below on = siot_ways NarrowAll Any (away x) a n c (ways_narrow x a below) (λ s at write h. tt) on (λ k r. tt)

-- every call
away_narrow : (x : View) (a : Ask) (o : Option CallName) → x.clock < clock_end → NarrowAll (decided_by (away x) a o)
away_narrow x a o below =
    call_ways NarrowAll Any (away x) a o (ways_narrow x a below) (λ c i s at write is reaches on. tt) (λ r. tt) (apart_narrow (away x) a)

open_narrow : (x : View) (a : Ask) → x.clock < clock_end → NarrowAll (open_call x a)
unfolding open_call opens opens_disk opens_usr opens_link
open_narrow x a below = away_narrow x a (Some calls.Open) below

named_narrow : (x : View) (a : Ask) (o : Option CallName) → x.clock < clock_end → NarrowAll (decided_by x a o)
unfolding close_call iot_call siot_call sleep dismiss usrvar realt finish listen access fillen delete rename usrmem uclose corblk closes_draft
named_narrow x a (Some calls.Iot) below = iot_narrow x a (slice_index_or a.outputs.items 0 0) (input a 0) (channel_at x.own.channels (input a 0)) below refl
named_narrow x a (Some calls.Siot) below = siot_narrow x a (input a 0) (channel_at x.own.channels (input a 0)) below refl
named_narrow x a (Some calls.Ttylnd) below = ttylnd_narrow x a
named_narrow x a (Some calls.Open) below = open_narrow x a below
named_narrow x a o below = away_narrow x a o below

decided_narrow : (x : View) (a : Ask) → x.clock < clock_end → NarrowAll (decided x a)
unfolding decided
decided_narrow x a below =
    by_test NarrowAll (a.fail == 0) (decided_by x a (call_named a.name)) (fails x a a.fail) (λ t. named_narrow x a (call_named a.name) below) (λ t. tt)

pub decision_narrow : (m : Machine) (j : ℕ) (q : Whole) (a : Ask) → m.clock < clock_end → NarrowAll (decision m j q a)
unfolding decision view
decision_narrow m j q a below = decided_narrow (view m j q (target q a)) a below
