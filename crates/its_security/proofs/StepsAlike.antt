-- If two machines look alike to a job, and the table is the same at which its next call looks, then
-- it has a step on both or on neither, and after it they look alike to the job.
use Rattle.std.specs.Prelude.{if◌then◌else◌, ◌==◌, ◌&&◌, ◌≡◌, ◌++◌, ℕ, Bool, true, false, not, Option, Some, None, List, [], ◌∷◌, is_some, option_map, unwrap_or, Result, Ok, Err, refl}
use Rattle.std.proofs.Common.{sym, ◌∙◌, ap, subst}
use Rattle.std.proofs.lemmas.Bool.{eq-eqb}
use Rattle.its_word.specs.Core.{Core}
use Rattle.its_word.specs.declared.access.Fault.{Fault}
use Rattle.its_records.specs.Links.{most_links}
use Rattle.its_records.specs.Tree.{least_free, fresh_job}
use Rattle.its_records.specs.declared.calls.Ask.{Ask}
use Rattle.its_records.specs.declared.calls.Exit.{Exit}
use Rattle.its_records.specs.declared.calls.Site.{Site}
use Rattle.its_records.specs.declared.jobs.Job.{Job}
use Rattle.its_records.proofs.FreeLaws.{least_empty}
use Rattle.its_frame.specs.Variables.{variable_named}
use Rattle.its_frame.specs.declared.change.Change.{Change}
use Rattle.its_frame.specs.declared.change.Change.TheVariants as changes
use Rattle.its_frame.specs.declared.change.Opened.{Opened}
use Rattle.its_frame.specs.declared.change.Opened.TheVariants as opened
use Rattle.its_frame.specs.declared.decision.Decision.{Decision}
use Rattle.its_frame.specs.declared.decision.Decision.TheVariants.{Waits, Goes, Ends, Gone}
use Rattle.its_frame.specs.declared.name.CallName.{CallName}
use Rattle.its_frame.specs.declared.name.CallName.TheVariants as calls
use Rattle.its_frame.specs.declared.variable.Variable.{Variable}
use Rattle.its_plain.specs.Call.Arguments.{input, has_input, place_of_input}
use Rattle.its_plain.specs.Call.Basic.{dismissed_by, dismiss_at, dismiss, Oneself, by_oneself, by_superior, set_own, own_variable, set_other, value_of_other, other_variable, usrvar_of, party_on, is_oneself, usrvar, logout, told_superior, channel_at, alarm_of}
use Rattle.its_plain.specs.Call.Device.{open_by, open_call}
use Rattle.its_plain.specs.Call.File.{disk_device, file_named, has_file, names_from, is_output, opens_as, disk_tests, opens_disk, file_tests, rename}
use Rattle.its_plain.specs.Call.Link.{link_device, can_open, link_named, joins, makes_link, opens_end, link_tests, opens_link}
use Rattle.its_plain.specs.Call.Step.{acted, decision, informs, delivery, with_core_and_job, with_fault, by_ask, by_unit, by_delivery, unless_stopped, transition_of, transition}
use Rattle.its_plain.specs.Call.Tty.{view_console, has_console, can_take, is_holder, lands, ttylnd_of, ttylnd, opens_on, open_tests, opens}
use Rattle.its_plain.specs.Call.Usr.{usr_device, any_named, inferior_named, makes_job, opens_job, usr_tests, opens_usr, uclose_on, uclose}
use Rattle.its_plain.specs.Machine.Change.{in_job, channel_in, superior_in, superiors, console_in, is_gone, after_removal, inferior, with_inf, link_or_new, with_end_opened, effect, effects}
use Rattle.its_plain.specs.Call.Decide.{call_named, decided_by, decided, target, reach}
use Rattle.its_plain.specs.Call.Decode.{ask}
use Rattle.its_plain.specs.Unit.Interrupt.{after_dismissal, deliverable, delivered}
use Rattle.its_plain.specs.Machine.{Names, File, Chan, Shut, TtyIn, TtyOut, Reads, Writes, On, Linked, Whole, Machine, with_new}
use Rattle.its_plain.specs.Machine.Own.{names_of, on_channel, opened_on}
use Rattle.its_plain.specs.Call.Tests.{◌⇒◌, finishes, fails, out}
use Rattle.its_plain.specs.Unit.{Outcome, Changed, Faulted, Called, unit}
use Rattle.its_plain.specs.Machine.View.{View, view}
use Rattle.its_plain.proofs.UnitLaws.{unit_keeps}
use Rattle.its_stepped.specs.Forest.{Forest}
use Rattle.its_stepped.proofs.Keeping.ConsoledLaws.{delivered_console}
use Rattle.its_stepped.proofs.Committing.TestLaws.{by_test, first_holds}
use Rattle.its_security.specs.Alike.{SameThrough, SameAt, Alike, SameNamed, SameLinked, SameTree, SameOpened, TablesFor, SameTables, AlikeSteps, AlikeBy}
use Rattle.its_security.proofs.EffectsAlike.{same_jobs, job_alike, channel_alike, link_alike, files_alike, renamed_same}
use Rattle.its_stepped.proofs.Duties.CallWays.{Any, Ways, Apart, call_ways}
use Rattle.its_security.proofs.CallChanges.{CanMake, AllMake, AllMade, Makes, call_makes}
use Rattle.its_security.proofs.WaysAlike.{Neutral, AllNeutral, Effects, Same, all_alike, ends_same, goes_same, waits_same, nothing_same, arms_alike, holds_alike, sets_alike, closes_tree}
use Rattle.its_security.proofs.DecisionsAlike.{own_channels, channel_seen, target_seen, decided_same}

-- calls other than OPEN, RENAME and UCLOSE make neutral changes
abbrev IsNeutral : Option CallName → Type 0
IsNeutral (Some calls.Open) = ⊥
IsNeutral (Some calls.Rename) = ⊥
IsNeutral (Some calls.Uclose) = ⊥
IsNeutral _ = Unit {0}

abbrev AllAreNeutral : Decision → Type 0
AllAreNeutral (Waits r) = Unit {0}
AllAreNeutral (Goes cs h vs) = AllNeutral cs.items
AllAreNeutral (Ends cs ss e) = AllNeutral cs.items
AllAreNeutral (Gone cs) = Unit {0}

one_neutral : (o : Option CallName) → IsNeutral o → (c : Change) → CanMake o c → Neutral c
one_neutral (Some calls.Rename) w c made = absurd w
one_neutral (Some calls.Uclose) w c made = absurd w
one_neutral (Some k) w (changes.Open n on) made = absurd made
one_neutral (Some k) w (changes.Make s u y) made = absurd made
one_neutral (Some k) w (changes.Join n l write u y) made = absurd made
one_neutral (Some k) w (changes.Rename d x y u v) made = absurd made
one_neutral (Some k) w (changes.Remove s) made = absurd made
one_neutral (Some k) w c made = tt
one_neutral None w c made = absurd made

all_neutral : (o : Option CallName) → IsNeutral o → (cs : List Change) → AllMake o cs → AllNeutral cs
all_neutral o w [] made = tt
all_neutral o w (c ∷ cs) made = (one_neutral o w c made.0, all_neutral o w cs made.1)

made_neutral : (x : View) (o : Option CallName) → IsNeutral o → (cs : List Change) → AllMade x o cs → AllNeutral cs
made_neutral x o w [] made = tt
made_neutral x (Some calls.Open) w (c ∷ cs) made = absurd w
made_neutral x (Some k) w (c ∷ cs) made = all_neutral (Some k) w (c ∷ cs) made
made_neutral x None w (c ∷ cs) made = all_neutral None w (c ∷ cs) made

makes_neutral : (x : View) (o : Option CallName) → IsNeutral o → (d : Decision) → Makes x o d → AllAreNeutral d
makes_neutral x o w (Waits r) made = tt
makes_neutral x o w (Goes cs h vs) made = made_neutral x o w cs.items made
makes_neutral x o w (Ends cs ss e) made = made_neutral x o w cs.items made
makes_neutral x o w (Gone cs) made = tt

-- LOGOUT: nothing is left to see
gone_alike : (j : ℕ) (o p : Machine) → o.jobs j ≡ None → p.jobs j ≡ None → p.clock ≡ o.clock → Alike j o p
gone_alike j o p e f clock = record {
  own = f ∙ sym e;
  channels = λ i. subst (λ (w : Option Whole). SameThrough o p (channel_in w i)) (sym e) tt;
  console = subst (λ (w : Option Whole). SameAt o p (console_in w)) (sym e) tt;
  clock = clock;
}

itself_gone : (m : Machine) (j : ℕ) → (after_removal (superiors m) j m).jobs j ≡ None
unfolding after_removal
itself_gone m j = let gone : is_gone (superiors m) j j ≡ true = rw (eq-eqb j j refl) refl in rw gone refl

gone_then : (m : Machine) (j s : ℕ) → (in_job (after_removal (superiors m) j m) s with_inf).jobs j ≡ None
gone_then m j s = go (j == s)
  where
    go : (b : Bool) → (if b then option_map with_inf ((after_removal (superiors m) j m).jobs j) else (after_removal (superiors m) j m).jobs j) ≡ None
    go true = ap (option_map with_inf) (itself_gone m j)
    go false = itself_gone m j

removal_clock : (m n : Machine) (j : ℕ) → n.clock ≡ m.clock → (after_removal (superiors n) j n).clock ≡ (after_removal (superiors m) j m).clock
unfolding after_removal
removal_clock m n j e = e

logs_out : (m n : Machine) (j : ℕ) (o : Option ℕ) → Alike j m n → Same m n j (Gone (record { items = told_superior o }))
unfolding acted effect
logs_out m n j None h = λ b ks ls. record {
  machine = gone_alike j _ _ (itself_gone m j) (itself_gone n j) (removal_clock m n j h.clock);
  moves = refl;
  part = refl;
}
logs_out m n j (Some s) h = λ b ks ls. record {
  machine = gone_alike j _ _ (gone_then m j s) (gone_then n j s)
      (removal_clock m n j h.clock);
  moves = refl;
  part = refl;
}

-- OPEN: the channel is then on what looks the same
opens_alike : (j n : ℕ) (m o : Machine) (on : Opened) → SameThrough m o (opened_on on) → Alike j m o → Effects j m o (changes.Open n on ∷ [])
unfolding effect
opens_alike j n m o on e h = record {
  machine = channel_alike j n m o (λ c. opened_on on) (λ c k. go on e) h;
  moves = refl;
}
  where
    go : (on : Opened) → SameThrough m o (opened_on on) → SameThrough (in_job m j (on_channel n (λ c. opened_on on)))
        (in_job o j (on_channel n (λ c. opened_on on))) (opened_on on)
    go (opened.Usr s write) e = same_jobs m o j s (on_channel n (λ c. On s write 0)) e
    go (opened.Reading d x y) e = e
    go (opened.Writing d x y) e = tt
    go opened.TtyIn e = tt
    go opened.TtyOut e = tt

-- a new inferior
made_alike : (j s u x : ℕ) (m n : Machine) → Alike j m n → Alike j (with_new m s (inferior j (m.jobs j) u x)) (with_new n s (inferior j (n.jobs j) u x))
unfolding fresh_job
made_alike j s u x m n h = record {
  own = same j h.own;
  channels = λ i. channel i (j == s) (m.jobs j) (h.channels i);
  console = at (j == s) (m.jobs j) h.console;
  clock = h.clock;
}
  where
    o : Machine
    o = with_new m s (inferior j (m.jobs j) u x)

    p : Machine
    p = with_new n s (inferior j (n.jobs j) u x)

    same : (k : ℕ) → n.jobs k ≡ m.jobs k → p.jobs k ≡ o.jobs k
    same k e = λ i. if k == s then Some (inferior j (h.own i) u x) else e i

    through : (c : Chan) → SameThrough m n c → SameThrough o p c
    through (On k write a) e = same k e
    through (Reads f a) e = e
    through (Linked k write) e = e
    through Shut e = tt
    through TtyIn e = tt
    through TtyOut e = tt
    through (Writes f) e = tt

    channel : (i : ℕ) (b : Bool) (w : Option Whole) → SameThrough m n (channel_in w i)
        → SameThrough o p (channel_in (if b then Some (inferior j (m.jobs j) u x) else w) i)
    channel i true w e = tt
    channel i false w e = through (channel_in w i) e

    seen : (c : Option ℕ) → SameAt m n c → SameAt o p c
    seen (Some c) e = e
    seen None e = tt

    fresh_console : (w : Option Whole) → SameAt m n (console_in w) → SameAt o p (inferior j w u x).job.console
    fresh_console w e = seen (console_in w) e

    at : (b : Bool) (w : Option Whole) → SameAt m n (console_in w) → SameAt o p (console_in (if b then Some (inferior j (m.jobs j) u x) else w))
    at true w e = fresh_console (m.jobs j) h.console
    at false w e = seen (console_in w) e

makes_alike : (j s u x n : ℕ) (m o : Machine) → Alike j m o → Effects j m o (changes.Make s u x ∷ changes.Open n (opened.Usr s true) ∷ [])
unfolding effect
makes_alike j s u x n m o h =
    let p = with_new m s (inferior j (m.jobs j) u x) in
    let r = with_new o s (inferior j (o.jobs j) u x) in
    record {
      machine = channel_alike j n p r (λ c. On s true 0) (λ c e. same_jobs p r j s (on_channel n (λ c. On s true 0))
          (here m s (inferior j (m.jobs j) u x) o (inferior j (o.jobs j) u x) (λ i. inferior j (h.own i) u x))) (made_alike j s u x m o h);
      moves = refl;
    }
  where
    here : (m : Machine) (s : ℕ) (q : Whole) (n : Machine) (r : Whole) → r ≡ q → (with_new n s r).jobs s ≡ (with_new m s q).jobs s
    here m s q n r e = rw (eq-eqb s s refl) (ap Some e)

-- an end of a link
joins_alike : (j i l : ℕ) (write : Bool) (x y : ℕ) (m n : Machine) → n.links l ≡ m.links l → Alike j m n → Effects j m n (changes.Join i l write x y ∷ [])
unfolding effect
joins_alike j i l write x y m n e h = record {
  machine = link_alike j l (in_job m j (on_channel i (λ c. Linked l write))) (in_job n j (on_channel i (λ c. Linked l write)))
      (λ o. Some (with_end_opened write j i (link_or_new x y o)))
      (channel_alike j i m n (λ c. Linked l write) (λ c k. e) h);
  moves = refl;
}

-- RENAME
renames_alike : (j d x y u v : ℕ) (m n : Machine) → file_named (names_of d u v) m.files ≡ None → file_named (names_of d u v) n.files ≡ None
    → file_named (names_of d x y) n.files ≡ file_named (names_of d x y) m.files → Alike j m n → Effects j m n (changes.Rename d x y u v ∷ [])
unfolding effect
renames_alike j d x y u v m n none free old h = record {
  machine = files_alike j m n _ _ (λ z e. renamed_same z d x y u v m.files n.files none free old e) h;
  moves = refl;
}

absent : (x : Names) (fs : List File) → has_file x fs ≡ false → file_named x fs ≡ None
absent x fs h = go (file_named x fs) h
  where
    go : (o : Option File) → is_some o ≡ false → o ≡ None
    go None h = refl
    go (Some f) h = cc

module _ (m n : Machine) (j : ℕ) (q : Whole) (a : Ask) (d : Forest m) (is : m.jobs j ≡ Some q) (h : Alike j m n) where
  abbrev t : Option ℕ
  t = target q a

  abbrev x : View
  x = view m j q t

  fail_same : (k : ℕ) → Same m n j (fails x a k)
  fail_same k = nothing_same m n j _ _ h

  dismissed_same : (p w : ℕ) (r : Result Exit Fault) → Same m n j (dismissed_by x p w r)
  dismissed_same p w (Ok e) = nothing_same m n j _ _ h
  dismissed_same p w (Err f) = nothing_same m n j _ _ h

  dismiss_same : (o : Option ℕ) → Same m n j (dismiss_at x a o)
  dismiss_same (Some p) = dismissed_same p (input a 0) (after_dismissal x.own.core x.own.job p)
  dismiss_same None = fail_same 0o17

  -- USRVAR
  set_same : (y : Variable) (b : Bool) → Same m n j (set_own x a y b)
  set_same y true = nothing_same m n j _ _ h
  set_same y false = nothing_same m n j _ _ h

  own_variable_same : (o : Option Variable) → Same m n j (own_variable x a o)
  own_variable_same None = fail_same 0o22
  own_variable_same (Some y) =
      by_test (Same m n j) (has_input a 2 && not (by_oneself y)) (fails x a 0o22) (set_own x a y (has_input a 2)) (λ e. fail_same 0o22)
      (λ e. set_same y (has_input a 2))

  other_variable_same : (s : ℕ) (write : Bool) (o : Option Variable) → Same m n j (other_variable x a s write o)
  other_variable_same s write None = fail_same 0o22
  other_variable_same s write (Some y) =
      let cs = set_other s y (input a 2) (has_input a 2) in
      first_holds (Same m n j)
      (((has_input a 2 && not write) ⇒ fails x a 0o5) ∷ ((has_input a 2 && not (by_superior y)) ⇒ fails x a 0o22) ∷ [])
      (finishes x cs (out a.outputs.items (value_of_other s y x.other)))
      (λ e. fail_same 0o5, (λ e. fail_same 0o22, tt))
      (λ e. ends_same m n j cs _ _ (sets_alike m n j s y (input a 2) (has_input a 2) h))

  usrvar_same : Same m n j (usrvar x a)
  unfolding usrvar view
  usrvar_same = go (is_oneself (input a 0)) (channel_at q.channels (input a 0))
    where
      on_party : (c : Chan) → Same m n j (usrvar_of x a (party_on c))
      on_party Shut = fail_same 0o4
      on_party (On s write at) = other_variable_same s write (variable_named (input a 1))
      on_party _ = fail_same 0o5

      go : (b : Bool) (c : Chan) → Same m n j (usrvar_of x a (if b then Oneself else party_on c))
      go true c = own_variable_same (variable_named (input a 1))
      go false c = on_party c

  logout_same : Same m n j (logout x)
  unfolding view
  logout_same = logs_out m n j q.superior h

  -- OPEN
  tty_same : Same m n j (opens x a)
  unfolding opens
  tty_same =
      let control = unwrap_or a.control 0 in
      first_holds (Same m n j) (open_tests x a (input a 0) (input a 1) control) (finishes x (changes.Open (input a 0) (opens_on control) ∷ []) [])
      (λ e. fail_same 0o4, (λ e. fail_same 0o5, (λ e. fail_same 0o22, (λ e. fail_same 0o5, tt))))
      (λ e. ends_same m n j _ _ _ (opens_alike j (input a 0) m n (opens_on control) (go (control == 1)) h))
    where
      go : (b : Bool) → SameThrough m n (opened_on (if b then opened.TtyOut else opened.TtyIn))
      go true = tt
      go false = tt

  disk_same : file_named (names_from a 2) n.files ≡ file_named (names_from a 2) m.files → Same m n j (opens_disk x a)
  unfolding opens_disk
  disk_same look =
      let control = unwrap_or a.control 0 in
      first_holds (Same m n j) (disk_tests x a (input a 0) control)
      (finishes x (changes.Open (input a 0) (opens_as (is_output control) (input a 4) (input a 2) (input a 3)) ∷ []) [])
      (λ e. fail_same 0o4, (λ e. fail_same 0o22, (λ e. fail_same 0o6, tt)))
      (λ e. ends_same m n j _ _ _ (opens_alike j (input a 0) m n (opens_as (is_output control) (input a 4) (input a 2) (input a 3))
      (go (is_output control)) h))
    where
      go : (b : Bool) → SameThrough m n (opened_on (opens_as b (input a 4) (input a 2) (input a 3)))
      go true = tt
      go false = look

  makes_same : (i u y : ℕ) (o : Option ℕ) → Same m n j (makes_job x a i u y o)
  makes_same i u y (Some s) = ends_same m n j _ _ _ (makes_alike j s u y i m n h)
  makes_same i u y None = fail_same 0o14

  job_same : (i u y : ℕ) (write : Bool) (o : Option ℕ) → ((s : ℕ) → o ≡ Some s → n.jobs s ≡ m.jobs s) → Same m n j (opens_job x a i u y write o)
  job_same i u y write (Some s) look = ends_same m n j _ _ _ (opens_alike j i m n (opened.Usr s write) (look s refl) h)
  job_same i u y write None look =
      first_holds (Same m n j) (any_named x u y ⇒ fails x a 0o13 ∷ not write ⇒ fails x a 0o12 ∷ []) (makes_job x a i u y (least_free x.limit x.outlines))
      (λ e. fail_same 0o13, (λ e. fail_same 0o12, tt)) (λ e. makes_same i u y (least_free x.limit x.outlines))

  usr_same : SameNamed j m n (input a 2) (input a 3) → Same m n j (opens_usr x a)
  unfolding opens_usr view
  usr_same look =
      let control = unwrap_or a.control 0 in
      let named = inferior_named x (input a 2) (input a 3) in
      first_holds (Same m n j) (usr_tests x a (input a 0) control) (opens_job x a (input a 0) (input a 2) (input a 3) (control == 1) named)
      (λ e. fail_same 0o4, (λ e. fail_same 0o22, tt)) (λ e. job_same (input a 0) (input a 2) (input a 3) (control == 1) named look.job)

  join_same : (i l : ℕ) (write : Bool) (u y : ℕ) → n.links l ≡ m.links l → Same m n j (joins x i l write u y)
  join_same i l write u y e = ends_same m n j _ _ _ (joins_alike j i l write u y m n e h)

  makes_link_same : (i : ℕ) (write : Bool) (u y : ℕ) (o : Option ℕ) → least_free most_links m.links ≡ o → least_free most_links n.links ≡ o
      → Same m n j (makes_link x a i write u y o)
  makes_link_same i write u y (Some l) e f = join_same i l write u y (least_empty most_links n.links l f ∙ sym (least_empty most_links m.links l e))
  makes_link_same i write u y None e f = fail_same 0o25

  end_same : (i : ℕ) (write : Bool) (u y : ℕ) (o : Option ℕ) → ((k : ℕ) → o ≡ Some k → n.links k ≡ m.links k)
      → least_free most_links n.links ≡ least_free most_links m.links → Same m n j (opens_end x a i write u y o)
  unfolding view
  end_same i write u y (Some l) look free =
      first_holds (Same m n j) (not (can_open write (x.links l)) ⇒ fails x a 0o24 ∷ []) (joins x i l write u y) (λ e. fail_same 0o24, tt)
      (λ e. join_same i l write u y (look l refl))
  end_same i write u y None look free = makes_link_same i write u y (least_free most_links m.links) refl free

  link_same : SameLinked m n (input a 2) (input a 3) → Same m n j (opens_link x a)
  unfolding opens_link view
  link_same look =
      let control = unwrap_or a.control 0 in
      first_holds (Same m n j) (link_tests x a (input a 0) control)
      (opens_end x a (input a 0) (control == 1) (input a 2) (input a 3) (link_named x.links (input a 2) (input a 3)))
      (λ e. fail_same 0o4, (λ e. fail_same 0o22, tt))
      (λ e. end_same (input a 0) (control == 1) (input a 2) (input a 3) (link_named x.links (input a 2) (input a 3)) look.link look.free)

  open_same : (disk usr link : Bool) → SameOpened j m n a disk usr link → Same m n j (open_by x a disk usr link)
  open_same true usr link look = disk_same look
  open_same false true link look = usr_same look
  open_same false false true look = link_same look
  open_same false false false look = tty_same

  -- RENAME
  rename_same : TablesFor j m n q a (Some calls.Rename) → Same m n j (rename x a)
  unfolding rename view
  rename_same look =
      let change = changes.Rename (input a 3) (input a 1) (input a 2) (input a 4) (input a 5) in
      first_holds (Same m n j) (file_tests x a (names_from a 1)
      ++ (has_file (names_of (input a 3) (input a 4) (input a 5)) x.files ⇒ fails x a 0o23 ∷ [])) (finishes x (change ∷ []) [])
      (λ e. fail_same 0o5, (λ e. fail_same 0o6, (λ e. fail_same 0o11, (λ e. fail_same 0o23, tt))))
      (λ e. ends_same m n j _ _ _
      (renames_alike j (input a 3) (input a 1) (input a 2) (input a 4) (input a 5) m n
      (absent (names_of (input a 3) (input a 4) (input a 5)) m.files e.1.1.1.0)
      (absent (names_of (input a 3) (input a 4) (input a 5)) n.files (look.1.1 ∙ e.1.1.1.0)) look.0 h))

  -- TTYLND
  lands_same : (may : Bool) (number s : ℕ) → Same m n j (lands x a may number s)
  lands_same may number s =
      first_holds (Same m n j) (not (has_console x) ⇒ fails x a 0o5 ∷ not may ⇒ fails x a number ∷ []) (finishes x (changes.Hold (view_console x) s ∷ []) [])
      (λ e. fail_same 0o5, (λ e. fail_same number, tt)) (λ e. ends_same m n j _ _ _ (holds_alike m n j (view_console x) s h))

  ttylnd_same : Same m n j (ttylnd x a)
  unfolding ttylnd view
  ttylnd_same = go (is_oneself (input a 0)) (channel_at q.channels (input a 0))
    where
      on_party : (c : Chan) → Same m n j (ttylnd_of x a (party_on c))
      on_party Shut = fail_same 0o4
      on_party (On s write at) = lands_same (is_holder x (x.holders (view_console x))) 0o5 s
      on_party _ = fail_same 0o5

      go : (b : Bool) (c : Chan) → Same m n j (ttylnd_of x a (if b then Oneself else party_on c))
      go true c = lands_same (can_take x (x.holders (view_console x))) 0o13 x.slot
      go false c = on_party c

  -- UCLOSE
  uclose_same : SameTree m n (channel_at q.channels (input a 0)) → Same m n j (uclose x a)
  unfolding uclose view
  uclose_same look = go (channel_at q.channels (input a 0)) look (channel_seen m n q.channels (input a 0) (own_channels m n j q is h))
    where
      go : (c : Chan) → SameTree m n c → SameThrough m n c → Same m n j (uclose_on x a c)
      go (On s write at) gone e = ends_same m n j _ _ _ (closes_tree m n j s gone (ap superior_in e) h)
      go Shut gone e = fail_same 0o4
      go _ gone e = fail_same 0o5

  -- a call of which each change is neutral
  abbrev Fair : Decision → Type 0
  Fair d = AllAreNeutral d → Same m n j d

  ways_same : Ways Fair Any x a
  ways_same = record {
    failing = λ k w. fail_same k;
    faulting = λ f w. nothing_same m n j _ _ h;
    stuck = λ w. nothing_same m n j _ _ h;
    opening = λ has shut b w. absurd w.0;
    arming = λ i e w. ends_same m n j _ _ _ (arms_alike m n j (alarm_of x.clock i) h);
    ending = λ cs ss e w. ends_same m n j cs ss _ (all_alike m n j q t cs d is h e w);
    moved = λ cs ss e w. ends_same m n j cs ss _ (all_alike m n j q t cs d is h e w);
    going = λ cs o vs e w. goes_same m n j cs o vs (all_alike m n j q t cs d is h e w);
  }

  job_fair : (i u y : ℕ) (o : Option ℕ) → Fair (makes_job x a i u y o)
  job_fair i u y (Some s) w = absurd w.0
  job_fair i u y None w = fail_same 0o14

  usr_job_fair : (i u y : ℕ) (write : Bool) (o : Option ℕ) → Fair (opens_job x a i u y write o)
  usr_job_fair i u y write (Some s) = λ w. absurd w.0
  usr_job_fair i u y write None =
      first_holds Fair (any_named x u y ⇒ fails x a 0o13 ∷ not write ⇒ fails x a 0o12 ∷ []) (makes_job x a i u y (least_free x.limit x.outlines))
      (λ e w. fail_same 0o13, (λ e w. fail_same 0o12, tt)) (λ e. job_fair i u y (least_free x.limit x.outlines))

  usr_fair : Fair (opens_usr x a)
  unfolding opens_usr
  usr_fair =
      let control = unwrap_or a.control 0 in
      let named = inferior_named x (input a 2) (input a 3) in
      first_holds Fair (usr_tests x a (input a 0) control) (opens_job x a (input a 0) (input a 2) (input a 3) (control == 1) named)
      (λ e w. fail_same 0o4, (λ e w. fail_same 0o22, tt)) (λ e. usr_job_fair (input a 0) (input a 2) (input a 3) (control == 1) named)

  uclose_fair : Fair (uclose x a)
  unfolding uclose
  uclose_fair = go (channel_at x.own.channels (input a 0))
    where
      go : (c : Chan) → Fair (uclose_on x a c)
      go (On s write at) w = absurd w.0
      go Shut w = fail_same 0o4
      go _ w = fail_same 0o5

  apart_same : Apart Fair x a
  unfolding dismiss
  apart_same = record {
    dismiss = λ w. dismiss_same (place_of_input a 0);
    usrvar = λ w. usrvar_same;
    logout = λ w. logout_same;
    opens_usr = usr_fair;
    ttylnd = λ w. ttylnd_same;
    uclose = uclose_fair;
  }

  fair_same : (o : Option CallName) → IsNeutral o → Same m n j (decided_by x a o)
  fair_same o w =
      call_ways Fair Any x a o ways_same (λ c i s at write named reaches on. tt) (λ r v. waits_same m n j r) apart_same
      (makes_neutral x o w (decided_by x a o) (call_makes x a o))

  named_same : (o : Option CallName) → TablesFor j m n q a o → Same m n j (decided_by x a o)
  unfolding open_call
  named_same (Some calls.Open) look = open_same (input a 1 == disk_device) (input a 1 == usr_device) (input a 1 == link_device) look
  named_same (Some calls.Rename) look = rename_same look
  named_same (Some calls.Uclose) look = uclose_same look
  named_same (Some c) look = fair_same (Some c) tt
  named_same None look = fair_same None tt

  called_same : TablesFor j m n q a (call_named a.name) → Same m n j (decided x a)
  unfolding decided
  called_same look =
      let o = call_named a.name in
      by_test (Same m n j) (a.fail == 0) (decided_by x a o) (fails x a a.fail)
      (λ e. named_same o look) (λ e. fail_same a.fail)

  -- the call decides the same on both, and its results are alike
  call_alike : (ks ls : List ℕ) → TablesFor j m n q a (call_named a.name) → AlikeBy j (acted m j a ks (decision m j q a)) (acted n j a ls (decision n j q a))
  unfolding decision
  call_alike ks ls look =
      subst (λ (e : Decision). AlikeBy j (acted m j a ks (decided x a)) (acted n j a ls e))
      (sym (decided_same m n j q t a d is h (target_seen m n q a (own_channels m n j q is h)) look)) (called_same look a ks ls)

-- the own job, whose channels stay and whose console is what it was
put_channel : (f : Whole → Whole) (o : Option Whole) (i : ℕ) → ((q : Whole) → (f q).channels ≡ q.channels) → channel_in (option_map f o) i ≡ channel_in o i
put_channel f (Some q) i h = ap (λ (cs : ℕ → Chan). cs i) (h q)
put_channel f None i h = refl

put_alike : (j : ℕ) (m n : Machine) (f : Whole → Whole) → ((q : Whole) → (f q).channels ≡ q.channels)
    → console_in (option_map f (m.jobs j)) ≡ console_in (m.jobs j) → Alike j m n
    → Alike j (in_job m j f) (in_job n j f)
put_alike j m n f channels console h =
    let o = in_job m j f in
    let p = in_job n j f in
    let here : o.jobs j ≡ option_map f (m.jobs j) = rw (eq-eqb j j refl) refl in
    record {
      own = same_jobs m n j j f h.own;
      channels = λ i. subst (SameThrough o p) (sym (ap (λ (w : Option Whole). channel_in w i) here ∙ put_channel f (m.jobs j) i channels))
          (through (channel_in (m.jobs j) i) (h.channels i));
      console = subst (SameAt o p) (sym (ap (λ (w : Option Whole). console_in w) here ∙ console)) (seen (console_in (m.jobs j)) h.console);
      clock = h.clock;
    }
  where
    through : (c : Chan) → SameThrough m n c → SameThrough (in_job m j f) (in_job n j f) c
    through (On s write at) e = same_jobs m n j s f e
    through (Reads x at) e = e
    through (Linked k write) e = e
    through Shut e = tt
    through TtyIn e = tt
    through TtyOut e = tt
    through (Writes d) e = tt

    seen : (c : Option ℕ) → SameAt m n c → SameAt (in_job m j f) (in_job n j f) c
    seen (Some c) e = e
    seen None e = tt

informed_alike : (j : ℕ) (b : Bool) (o : Option ℕ) (m n : Machine) → Alike j m n → Alike j (effects (informs b o) j m) (effects (informs b o) j n)
unfolding effect
informed_alike j true (Some s) m n h = job_alike j s m n with_inf (record { channels = λ q. refl; console = λ q. refl }) h
informed_alike j true None m n h = h
informed_alike j false o m n h = h

slot_console : (f : Whole → Whole) (b : Bool) (o : Option Whole) → ((q : Whole) → (f q).job.console ≡ q.job.console)
    → console_in (if b then option_map f o else o) ≡ console_in o
slot_console f true (Some q) h = h q
slot_console f true None h = refl
slot_console f false o h = refl

informed_console : (b : Bool) (o : Option ℕ) (j : ℕ) (m : Machine) → console_in ((effects (informs b o) j m).jobs j) ≡ console_in (m.jobs j)
unfolding effect
informed_console true (Some s) j m = slot_console with_inf (j == s) (m.jobs j) (λ q. refl)
informed_console true None j m = refl
informed_console false o j m = refl

put_console : (c : Core) (k : Job) (o : Option Whole) (q : Whole) → console_in o ≡ q.job.console → k.console ≡ q.job.console
    → is_some o ≡ true → console_in (option_map (with_core_and_job c k) o) ≡ console_in o
put_console c k (Some r) q e f there = f ∙ sym e
put_console c k None q e f there = cc

module _ (m n : Machine) (j : ℕ) (q : Whole) (d : Forest m) (is : m.jobs j ≡ Some q) (h : Alike j m n) where
  -- a unit, and a delivery: no table is looked at
  unit_alike : (c : Core) (k : Job) → unit q.core q.job ≡ Changed c k → Alike j (in_job m j (with_core_and_job c k)) (in_job n j (with_core_and_job c k))
  unit_alike c k e =
      put_alike j m n (with_core_and_job c k) (λ r. refl)
      (put_console c k (m.jobs j) q (ap console_in is) (unit_keeps q.core q.job c k e).registers.console (ap (λ (o : Option Whole). is_some o) is)) h

  mapped_some : (f : Whole → Whole) (b : Bool) (o : Option Whole) → is_some (if b then option_map f o else o) ≡ is_some o
  mapped_some f true (Some q) = refl
  mapped_some f true None = refl
  mapped_some f false o = refl

  informed_some : (b : Bool) (o : Option ℕ) → is_some ((effects (informs b o) j m).jobs j) ≡ is_some (m.jobs j)
  unfolding effect
  informed_some true (Some s) = mapped_some with_inf (j == s) (m.jobs j)
  informed_some true None = refl
  informed_some false o = refl

  delivery_alike : AlikeSteps j (delivery m j q (delivered q.core q.job)) (delivery n j q (delivered q.core q.job))
  delivery_alike =
      let e = delivered q.core q.job in
      let o = effects (informs e.stops q.superior) j m in
      record {
        machine = put_alike j o (effects (informs e.stops q.superior) j n) (with_core_and_job e.core e.job) (λ r. refl)
            (put_console e.core e.job (o.jobs j) q (informed_console e.stops q.superior j m ∙ ap console_in is)
            (delivered_console q.core q.job) (informed_some e.stops q.superior ∙ ap (λ (p : Option Whole). is_some p) is))
            (informed_alike j e.stops q.superior m n h);
        moves = refl;
        part = refl;
      }

  fault_alike : (f : Fault) → Alike j (in_job m j (with_fault f)) (in_job n j (with_fault f))
  fault_alike f = job_alike j j m n (with_fault f) (record { channels = λ r. refl; console = λ r. refl }) h

  asks_alike : (r : Result Ask Fault) → ((a : Ask) → r ≡ Ok a → TablesFor j m n q a (call_named a.name)) → AlikeBy j (by_ask m j q r) (by_ask n j q r)
  asks_alike (Ok a) look = call_alike m n j q a d is h (reach m j q a) (reach n j q a) (look a refl)
  asks_alike (Err f) look = record { machine = fault_alike f; moves = refl; part = refl }

  outcome_alike : (o : Outcome) → unit q.core q.job ≡ o → ((s : Site) (a : Ask) → o ≡ Called s → ask q.core s ≡ Ok a
      → TablesFor j m n q a (call_named a.name)) → AlikeBy j (by_unit m j q o) (by_unit n j q o)
  outcome_alike (Changed c k) e look = record { machine = unit_alike c k e; moves = refl; part = refl }
  outcome_alike (Faulted f) e look = record { machine = fault_alike f; moves = refl; part = refl }
  outcome_alike (Called s) e look = asks_alike (ask q.core s) (λ a. look s a refl)

  deliveries_alike : (b : Bool) → deliverable q.job ≡ b → q.job.stopped ≡ false → SameTables j m n → AlikeBy j (by_delivery m j q b) (by_delivery n j q b)
  deliveries_alike true e runs look = delivery_alike
  deliveries_alike false e runs look =
      outcome_alike (unit q.core q.job) refl
      (λ s a u i. look q a (record { is = is; runs = runs; quiet = e; site = s; unit_is = u; ask_is = i }))

  running_alike : (b : Bool) → q.job.stopped ≡ b → SameTables j m n → AlikeBy j (unless_stopped m j q b) (unless_stopped n j q b)
  running_alike true e look = tt
  running_alike false e look = deliveries_alike (deliverable q.job) refl e look

slot_alike : (m n : Machine) (j : ℕ) (o : Option Whole) → m.jobs j ≡ o → Forest m → Alike j m n → SameTables j m n
    → AlikeBy j (transition_of m j o) (transition_of n j o)
slot_alike m n j (Some q) is d h look = running_alike m n j q d is h q.job.stopped refl look
slot_alike m n j None is d h look = tt

-- the theorem
pub step_alike : (m n : Machine) (j : ℕ) → Forest m → Alike j m n → SameTables j m n → AlikeBy j (transition m j) (transition n j)
unfolding transition
step_alike m n j d h look =
    subst (λ (o : Option Whole). AlikeBy j (transition_of m j (m.jobs j)) (transition_of n j o)) (sym h.own) (slot_alike m n j (m.jobs j) refl d h look)
