-- Every call keeps how jobs lie to each other: OPEN makes inferiors of the caller and opens
-- channels on them alone, UCLOSE removes one of them, and TTYLND gives a console to the caller or
-- to one of them.
use Rattle.std.specs.Prelude.{if◌then◌else◌, ◌==◌, ◌&&◌, ◌≡◌, ◌≢◌, ℕ, Bool, true, false, not, Option, Some, None, IfSome, List, [], ◌∷◌, find, cond, option_map, is_some, ◌<◌, ◌≤◌, nat_lt, refl, unwrap_or, Result, Ok, Err}
use Rattle.std.specs.List.{range_with_len}
use Rattle.std.proofs.Common.{sym, ◌∙◌, ap, subst, inl, inr, arith, subst}
use Rattle.std.proofs.lemmas.Bool.{and_parts, cases_eq, eq-eqb, eqb-true, ltb-false, ne_eqb}
use Rattle.its_word.specs.Limits.{slots}
use Rattle.its_records.specs.Links.{link_end, is_unopened}
use Rattle.its_records.specs.Tree.{least_free}
use Rattle.its_word.specs.declared.access.Fault.{Fault}
use Rattle.its_records.specs.declared.calls.Ask.{Ask}
use Rattle.its_records.specs.declared.calls.Exit.{Exit}
use Rattle.its_records.specs.declared.link.End.{End}
use Rattle.its_records.specs.declared.link.End.TheVariants as ends
use Rattle.its_records.proofs.FreeLaws.{least_empty, least_below}
use Rattle.its_frame.specs.declared.change.Change.{Change}
use Rattle.its_frame.specs.declared.change.Change.TheVariants as changes
use Rattle.its_frame.specs.declared.change.Opened.{Opened}
use Rattle.its_frame.specs.declared.change.Opened.TheVariants as opened
use Rattle.its_frame.specs.declared.variable.Variable.{Variable}
use Rattle.its_plain.specs.Call.Arguments.{input, has_input, place_of_input}
use Rattle.its_frame.specs.Variables.{variable_named}
use Rattle.its_plain.specs.Call.Basic.{dismissed_by, dismiss_at, dismiss, Party, Oneself, Nobody, Channel, by_oneself, by_superior, set_own, own_variable, set_other, value_of_other, other_variable, usrvar_of, party_on, party, is_oneself, usrvar, told_superior, channel_at, longest_period, alarm_of, is_superior}
use Rattle.its_plain.specs.Call.Link.{can_open}
use Rattle.its_plain.specs.Call.Tty.{view_console, has_console, can_take, is_holder, lands, ttylnd_of, ttylnd}
use Rattle.its_plain.specs.Call.Usr.{has_names, inferior_named, any_named, makes_job, opens_job, usr_tests, opens_usr, uclose_on, uclose}
use Rattle.its_plain.specs.Machine.Change.{channel_in, superior_in, superiors, console_in, inferior, effect}
use Rattle.its_plain.specs.Call.Step.{step, decision}
use Rattle.its_plain.specs.Call.Decide.{call_named, decided_by, decided, target}
use Rattle.its_plain.specs.Unit.Interrupt.{after_dismissal}
use Rattle.its_plain.specs.Machine.{Chan, Shut, Writes, On, Pipe, Whole, Machine, limit}
use Rattle.its_plain.specs.Call.Tests.{◌⇒◌, finishes, fails, out}
use Rattle.its_plain.specs.Machine.View.{View, Outline, outline, view}
use Rattle.its_stepped.specs.Alarmed.{Coming}
use Rattle.its_stepped.specs.Forest.{OnInferior, end_at, Forest}
use Rattle.its_stepped.proofs.Committing.ChannelLaws.{at_open, free_channel}
use Rattle.its_stepped.proofs.Frame.FrameLaws.{changed_only}
use Rattle.its_stepped.proofs.Keeping.JoinedLaws.{IsUnlinked, Opens}
use Rattle.its_stepped.proofs.Committing.TestLaws.{by_test, first_holds}
use Rattle.its_stepped.proofs.Keeping.ForestLaws.{CanOpen, MakesInferior, ChangeFits, AllFit, FitsAll, channel_of, inferior_stands, made_inferior, steps_where}
use Rattle.its_stepped.proofs.Duties.CallWays.{Any, OpensMildly, Joinable, Mild, AllStill, AllMild, Ways, Apart, call_ways}

dismissed_fits : (x : View) (p w j : ℕ) (m : Machine) (r : Result Exit Fault) → FitsAll (dismissed_by x p w r) j m
dismissed_fits x p w j m (Ok e) = tt
dismissed_fits x p w j m (Err f) = tt

dismiss_fits : (x : View) (a : Ask) (j : ℕ) (m : Machine) → FitsAll (dismiss x a) j m
unfolding dismiss
dismiss_fits x a j m = go (place_of_input a 0)
  where
    go : (o : Option ℕ) → FitsAll (dismiss_at x a o) j m
    go (Some p) = dismissed_fits x p (input a 0) j m (after_dismissal x.own.core x.own.job p)
    go None = tt

own_fits : (x : View) (a : Ask) (y : Variable) (j : ℕ) (m : Machine) (b : Bool) → FitsAll (set_own x a y b) j m
own_fits x a y j m true = tt
own_fits x a y j m false = tt

own_variable_fits : (x : View) (a : Ask) (j : ℕ) (m : Machine) (o : Option Variable) → FitsAll (own_variable x a o) j m
own_variable_fits x a j m None = tt
own_variable_fits x a j m (Some y) =
    by_test (λ d. FitsAll d j m) (has_input a 2 && not (by_oneself y)) (fails x a 0o22) (set_own x a y (has_input a 2)) (λ t. tt)
    (λ t. own_fits x a y j m (has_input a 2))

set_fits : (k : ℕ) (y : Variable) (w j : ℕ) (m : Machine) (b : Bool) → AllFit (set_other k y w b) j m
set_fits k y w j m true = (tt, tt)
set_fits k y w j m false = tt

other_variable_fits : (x : View) (a : Ask) (k j : ℕ) (m : Machine) (write : Bool) (o : Option Variable) → FitsAll (other_variable x a k write o) j m
other_variable_fits x a k j m write None = tt
other_variable_fits x a k j m write (Some y) =
    first_holds (λ d. FitsAll d j m)
    (((has_input a 2 && not write) ⇒ fails x a 0o5) ∷ ((has_input a 2 && not (by_superior y)) ⇒ fails x a 0o22) ∷ [])
    (finishes x (set_other k y (input a 2) (has_input a 2)) (out a.outputs.items (value_of_other k y x.other)))
    (λ t. tt, (λ t. tt, tt)) (λ t. set_fits k y (input a 2) j m (has_input a 2))

usrvar_fits : (x : View) (a : Ask) (j : ℕ) (m : Machine) → FitsAll (usrvar x a) j m
unfolding usrvar
usrvar_fits x a j m = go (party x (input a 0))
  where
    go : (p : Party) → FitsAll (usrvar_of x a p) j m
    go Oneself = own_variable_fits x a j m (variable_named (input a 1))
    go (Channel (On k write at)) = other_variable_fits x a k j m write (variable_named (input a 1))
    go _ = tt

told_fits : (o : Option ℕ) (j : ℕ) (m : Machine) → AllFit (told_superior o) j m
told_fits (Some k) j m = (tt, tt)
told_fits None j m = tt

-- what a call sees of the machine that it is in
record Sees (x : View) (j : ℕ) (m : Machine) : Type 0 where
  slot : x.slot ≡ j
  job : is_some (m.jobs j) ≡ true
  limit : x.limit ≡ limit m
  outlines : (k : ℕ) → x.outlines k ≡ option_map outline (m.jobs k)
  channels : (n : ℕ) → OnInferior m j (channel_at x.own.channels n)
  superior : superiors m j ≡ x.own.superior
  console : x.own.job.console ≡ console_in (m.jobs j)
  clock : x.clock ≡ m.clock
  own : (n : ℕ) → x.own.channels n ≡ channel_in (m.jobs j) n
  links : (l : ℕ) → x.links l ≡ m.links l

-- a mild change
opens_fit : (on : Opened) (j : ℕ) (m : Machine) → OpensMildly on → CanOpen on j m
opens_fit (opened.Reading d x y) j m h = tt
opens_fit (opened.Writing d x y) j m h = tt
opens_fit _ j m h = absurd h

-- a channel that is closed, or that is on something else, is on no link
free_fits : (x : View) (n j : ℕ) (m : Machine) (c : Chan) → Sees x j m → x.own.channels n ≡ c → IsUnlinked c → IsUnlinked (channel_in (m.jobs j) n)
free_fits x n j m c see is h = subst IsUnlinked (sym is ∙ see.own n) h

not_opened_by : (write : Bool) (o : Option Pipe) → can_open write o ≡ true → end_at write o ≡ ends.Unopened
not_opened_by write (Some p) h = go (link_end write p.link) h
  where
    go : (e : End) → is_unopened e ≡ true → e ≡ ends.Unopened
    go ends.Unopened h = refl
    go (ends.Opened k i) h = cc
    go ends.Closed h = cc
not_opened_by write None h = refl

join_fits : (x : View) (n l j : ℕ) (write : Bool) (u y : ℕ) (m : Machine) → Sees x j m → Joinable x n l write u y → Opens l n j write m
join_fits x n l j write u y m see h = record {
  few = h.few;
  maker = see.job;
  free = free_fits x n j m Shut see h.shut tt;
  unopened = not_opened_by write (m.links l) (ap (can_open write) (sym (see.links l)) ∙ h.unopened);
}

mild_fits : (x : View) (c : Change) (j : ℕ) (m : Machine) → Sees x j m → Mild Any x c → ChangeFits c j m
mild_fits x (changes.Open n on) j m see h = (opens_fit on j m h.0, free_fits x n j m Shut see h.1 tt)
mild_fits x (changes.Shut n) j m see h = free_fits x n j m (x.own.channels n) see refl h
mild_fits x (changes.Close n) j m see h = free_fits x n j m (Writes h.file) see (at_open x.own.channels n (Writes h.file) h.is (λ e. cc)) tt
mild_fits x (changes.Join n l write u y) j m see h = join_fits x n l j write u y m see h
mild_fits x (changes.CloseEnd n l write) j m see h = sym (see.own n) ∙ h
mild_fits x (changes.Make s u n) j m see h = absurd h
mild_fits x (changes.Hold c s) j m see h = absurd h
mild_fits x (changes.Remove s) j m see h = absurd h
mild_fits x (changes.Arm alarm) j m see h = absurd h
mild_fits x _ j m see h = tt

still_fit : (j : ℕ) (cs : List Change) (m : Machine) → AllStill cs → AllFit cs j m
still_fit j [] m h = tt
still_fit j (changes.Move n at ∷ cs) m h = (tt, still_fit j cs (effect (changes.Move n at) j m) h.1)
still_fit j (c ∷ cs) m h = absurd h.0

all_fit : (x : View) (j : ℕ) (cs : List Change) (m : Machine) → Sees x j m → AllMild Any x cs → AllFit cs j m
all_fit x j [] m see h = tt
all_fit x j (c ∷ cs) m see h = (mild_fits x c j m see h.0, still_fit j cs (effect c j m) h.1)

opened_fits : (b : Bool) (j : ℕ) (m : Machine) → is_some (console_in (m.jobs j)) ≡ true → CanOpen (if b then opened.TtyOut else opened.TtyIn) j m
opened_fits true j m h = h
opened_fits false j m h = h

-- an alarm that REALT sets is to come
armed_fits : (c n : ℕ) → nat_lt longest_period n ≡ false → IfSome (alarm_of c n) (λ a. Coming c a)
armed_fits c n h = elim (cases_eq n 0) [
  | inl z ↦ rw (eq-eqb n 0 z) tt
  | inr ne ↦ let some : 1 ≤ n = omega arith in rw (ne_eqb n 0 ne) (record { some = some; most = ltb-false longest_period n h; next = omega arith })
]

ways_fit : (x : View) (a : Ask) (j : ℕ) (m : Machine) → Sees x j m → Ways (λ d. FitsAll d j m) Any x a
ways_fit x a j m see = record {
  failing = λ k. tt;
  faulting = λ f. tt;
  stuck = tt;
  opening = λ h f b. ((opened_fits b j m (ap is_some (sym see.console) ∙ h), free_fits x (input a 0) j m Shut see f tt), tt);
  arming = λ n h. (subst (λ (c : ℕ). IfSome (alarm_of x.clock n) (λ a. Coming c a)) see.clock (armed_fits x.clock n h), tt);
  ending = λ cs ss h. all_fit x j cs m see h;
  moved = λ cs ss h. all_fit x j cs m see h;
  going = λ cs o vs h. all_fit x j cs m see h;
}

-- TTYLND: a channel on a job is on an inferior, which is a job
lands_fits : (x : View) (a : Ask) (may : Bool) (error k j : ℕ) (m : Machine) → is_some (m.jobs k) ≡ true → FitsAll (lands x a may error k) j m
lands_fits x a may error k j m h =
    first_holds (λ d. FitsAll d j m) (not (has_console x) ⇒ fails x a 0o5 ∷ not may ⇒ fails x a error ∷ [])
    (finishes x (changes.Hold (view_console x) k ∷ []) [])
    (λ t. tt, (λ t. tt, tt)) (λ t. (h, tt))

abbrev PartyOn : ℕ → Machine → Party → Type 0
PartyOn j m (Channel c) = OnInferior m j c
PartyOn j m Oneself = Unit {0}
PartyOn j m Nobody = Unit {0}

party_on_inferior : (j : ℕ) (m : Machine) (c : Chan) → OnInferior m j c → PartyOn j m (party_on c)
party_on_inferior j m (On k write at) h = h
party_on_inferior j m _ h = tt

party_inferior : (x : View) (w j : ℕ) (m : Machine) → Sees x j m → PartyOn j m (party x w)
party_inferior x w j m see = go (is_oneself w)
  where
    go : (b : Bool) → PartyOn j m (if b then Oneself else party_on (channel_at x.own.channels w))
    go true = tt
    go false = party_on_inferior j m (channel_at x.own.channels w) (see.channels w)

ttylnd_fits : (x : View) (a : Ask) (j : ℕ) (m : Machine) → Sees x j m → FitsAll (ttylnd x a) j m
unfolding ttylnd
ttylnd_fits x a j m see = go (party x (input a 0)) (party_inferior x (input a 0) j m see)
  where
    go : (p : Party) → PartyOn j m p → FitsAll (ttylnd_of x a p) j m
    go Oneself h = lands_fits x a (can_take x (x.holders (view_console x))) 0o13 x.slot j m (ap (λ (i : ℕ). is_some (m.jobs i)) see.slot ∙ see.job)
    go (Channel (On k write at)) h = lands_fits x a (is_holder x (x.holders (view_console x))) 0o5 k j m (inferior_stands m k j h)
    go _ h = tt

-- OPEN of an inferior
found_passes : (p : ℕ → Bool) (ks : List ℕ) (s : ℕ) → find p ks ≡ Some s → p s ≡ true
found_passes p [] s h = cc
found_passes p (k ∷ ks) s h = go (p k) refl h (λ later. found_passes p ks s later)
  where
    go : (b : Bool) → p k ≡ b → cond b (Some k) (find p ks) ≡ Some s → (find p ks ≡ Some s → p s ≡ true) → p s ≡ true
    go true e here later = ap p (sym (let same : k ≡ s = cc in same)) ∙ e
    go false e here later = later here

superior_shown : (j u n : ℕ) (o : Option ℕ) (c : ℕ → Chan) → is_superior j
    (Some (record { uname = u; jname = n; superior = o; channels = c })) ≡ true → o ≡ Some j
superior_shown j u n (Some s) c h = ap Some (eqb-true s j h)
superior_shown j u n None c h = cc

pub superior_outlined : (j : ℕ) (o : Option Whole) → is_superior j (option_map outline o) ≡ true → superior_in o ≡ Some j
superior_outlined j (Some q) h = superior_shown j q.job.uname q.job.jname q.superior q.channels h
superior_outlined j None h = cc

pub named_inferior : (x : View) (j u n s : ℕ) (m : Machine) → x.slot ≡ j → ((k : ℕ) → x.outlines k ≡ option_map outline (m.jobs k))
    → inferior_named x u n ≡ Some s → superiors m s ≡ Some j
named_inferior x j u n s m slot outlines h =
    let passes = found_passes (λ k. has_names u n (x.outlines k) && is_superior x.slot (x.outlines k)) (range_with_len 0 slots) s h in
    let both = and_parts (has_names u n (x.outlines s)) (is_superior x.slot (x.outlines s)) passes in
    superior_outlined j (m.jobs s) (ap (λ (o : Option Outline). is_superior j o) (sym (outlines s))
    ∙ ap (λ (i : ℕ). is_superior i (x.outlines s)) (sym slot) ∙ both.1)

no_outline : (o : Option Whole) → option_map outline o ≡ None → o ≡ None
no_outline None h = refl
no_outline (Some q) h = cc

least_fits : (x : View) (s j : ℕ) (m : Machine) → Sees x j m → least_free x.limit x.outlines ≡ Some s → MakesInferior s j m
least_fits x s j m see h = record {
  few = subst (λ (n : ℕ). s < n) see.limit (least_below x.limit x.outlines s h);
  free = no_outline (m.jobs s) (sym (see.outlines s) ∙ least_empty x.limit x.outlines s h);
  maker = see.job;
}

-- a job that is made leaves the channels of its maker
made_apart : (j s u y n : ℕ) (m : Machine) → MakesInferior s j m → channel_in ((effect (changes.Make s u y) j m).jobs j) n ≡ channel_in (m.jobs j) n
unfolding effect
made_apart j s u y n m fits =
    let apart : j ≢ s = λ e. (let no : false ≡ true = ap is_some (sym fits.free) ∙ ap (λ (i : ℕ). is_some (m.jobs i)) (sym e) ∙ fits.maker in cc) in
    ap (λ (o : Option Whole). channel_in o n) ((changed_only m.jobs s (Some (inferior j (m.jobs j) u y))).others j apart)

makes_fits : (x : View) (a : Ask) (n u y j : ℕ) (m : Machine) → Sees x j m → x.own.channels n ≡ Shut → (o : Option ℕ)
    → least_free x.limit x.outlines ≡ o → FitsAll (makes_job x a n u y o) j m
makes_fits x a n u y j m see free (Some s) is =
    let fits = least_fits x s j m see is in
    let still : IsUnlinked (channel_in ((effect (changes.Make s u y) j m).jobs j) n) =
    subst IsUnlinked (sym (made_apart j s u y n m fits)) (free_fits x n j m Shut see free tt) in
    (fits, ((made_inferior m s j u y, still), tt))
makes_fits x a n u y j m see free None is = tt

job_fits : (x : View) (a : Ask) (n u y j : ℕ) (m : Machine) (write : Bool) → Sees x j m → x.own.channels n ≡ Shut → (o : Option ℕ)
    → inferior_named x u y ≡ o → FitsAll (opens_job x a n u y write o) j m
job_fits x a n u y j m write see free (Some s) is = ((named_inferior x j u y s m see.slot see.outlines is, free_fits x n j m Shut see free tt), tt)
job_fits x a n u y j m write see free None is =
    first_holds (λ d. FitsAll d j m) (any_named x u y ⇒ fails x a 0o13 ∷ not write ⇒ fails x a 0o12 ∷ [])
    (makes_job x a n u y (least_free x.limit x.outlines))
    (λ t. tt, (λ t. tt, tt)) (λ t. makes_fits x a n u y j m see free (least_free x.limit x.outlines) refl)

opens_usr_fits : (x : View) (a : Ask) (j : ℕ) (m : Machine) → Sees x j m → FitsAll (opens_usr x a) j m
unfolding opens_usr
opens_usr_fits x a j m see =
    let control = unwrap_or a.control 0 in
    let named = inferior_named x (input a 2) (input a 3) in
    first_holds (λ d. FitsAll d j m) (usr_tests x a (input a 0) control) (opens_job x a (input a 0) (input a 2) (input a 3) (control == 1) named)
    (λ t. tt, (λ t. tt, tt))
    (λ t. job_fits x a (input a 0) (input a 2) (input a 3) j m (control == 1) see (free_channel x.own.channels (input a 0) t.0) named refl)

-- UCLOSE
uclose_fits : (x : View) (a : Ask) (j : ℕ) (m : Machine) → Sees x j m → FitsAll (uclose x a) j m
unfolding uclose
uclose_fits x a j m see = go (channel_at x.own.channels (input a 0)) (see.channels (input a 0))
  where
    go : (c : Chan) → OnInferior m j c → FitsAll (uclose_on x a c) j m
    go (On s write at) h = (h, tt)
    go _ h = tt

apart_fits : (x : View) (a : Ask) (j : ℕ) (m : Machine) → Sees x j m → Apart (λ d. FitsAll d j m) x a
apart_fits x a j m see = record {
  dismiss = dismiss_fits x a j m;
  usrvar = usrvar_fits x a j m;
  logout = (told_fits x.own.superior j (effect (changes.Remove j) j m), ap told_superior (sym see.superior));
  opens_usr = opens_usr_fits x a j m see;
  ttylnd = ttylnd_fits x a j m see;
  uclose = uclose_fits x a j m see;
}

decided_fits : (x : View) (a : Ask) (j : ℕ) (m : Machine) → Sees x j m → FitsAll (decided x a) j m
unfolding decided
decided_fits x a j m see =
    let o = call_named a.name in
    by_test (λ d. FitsAll d j m) (a.fail == 0) (decided_by x a o) (fails x a a.fail)
    (λ t. call_ways (λ d. FitsAll d j m) Any x a o (ways_fit x a j m see) (λ c i s at write is reaches on. tt) (λ r. tt) (apart_fits x a j m see)) (λ t. tt)

sees : (m : Machine) (j : ℕ) (q : Whole) (t : Option ℕ) → Forest m → m.jobs j ≡ Some q → Sees (view m j q t) j m
unfolding view
sees m j q t d is = record {
  slot = refl;
  job = ap is_some is;
  limit = refl;
  outlines = λ k. refl;
  channels = λ n. channel_of m j q n d is;
  superior = ap superior_in is;
  console = sym (ap console_in is);
  clock = refl;
  own = λ n. sym (ap (λ (o : Option Whole). channel_in o n) is);
  links = λ l. refl;
}

pub decision_fits : (m : Machine) (j : ℕ) (q : Whole) (a : Ask) → Forest m → m.jobs j ≡ Some q → FitsAll (decision m j q a) j m
unfolding decision
decision_fits m j q a d is = decided_fits (view m j q (target q a)) a j m (sees m j q (target q a) d is)

-- a step keeps how jobs lie to each other
pub forest_steps : (m n : Machine) (j : ℕ) → Forest m → step m j ≡ Some n → Forest n
forest_steps m n j d e = steps_where decision_fits m n j d e
