-- What a step does to its own job.
use Rattle.std.specs.Prelude.{◌+◌, if◌then◌else◌, ◌==◌, ◌&&◌, ◌≡◌, ℕ, Bool, true, false, not, Option, Some, None, List, [], ◌∷◌, option_map, unwrap_or, Result, Ok, Err, refl}
use Rattle.std.proofs.Common.{sym, ◌∙◌, ap, subst, inl, inr}
use Rattle.std.proofs.lemmas.Bool.{cases_Bool, cases_eq, eq-eqb, ne_eqb}
use Rattle.its_word.specs.Core.{Core, word_at}
use Rattle.its_word.specs.Stores.{first_fault, stored}
use Rattle.its_word.specs.Word.{right_of}
use Rattle.its_word.specs.declared.access.Fault.{Fault}
use Rattle.its_word.specs.declared.plan.Store.{Store}
use Rattle.its_records.specs.Tree.{least_free}
use Rattle.its_records.specs.declared.jobs.Job.{Job}
use Rattle.its_records.specs.declared.calls.Ask.{Ask}
use Rattle.its_records.specs.declared.calls.Exit.{Exit}
use Rattle.its_records.proofs.FreeLaws.{least_empty}
use Rattle.its_frame.specs.Variables.{variable_named}
use Rattle.its_frame.specs.declared.change.Change.{Change}
use Rattle.its_frame.specs.declared.change.Change.TheVariants as changes
use Rattle.its_frame.specs.declared.change.Opened.{Opened}
use Rattle.its_frame.specs.declared.change.Opened.TheVariants as opened
use Rattle.its_frame.specs.declared.decision.Decision.{Decision}
use Rattle.its_frame.specs.declared.decision.Decision.TheVariants.{Waits, Ends, Gone}
use Rattle.its_frame.specs.declared.decision.Held.{Held}
use Rattle.its_frame.specs.declared.decision.Wait.{Wait}
use Rattle.its_frame.specs.declared.variable.Variable.{Variable}
use Rattle.its_frame.specs.declared.variable.Variable.TheVariants.{Upc, Ustp, Pirqc, Ifpir, Mask, Msk2, Df1, Df2}
use Rattle.its_plain.specs.Call.Arguments.{input, has_input, place_of_input}
use Rattle.its_plain.specs.Call.Basic.{dismissed_by, dismiss_at, dismiss, Oneself, by_oneself, by_superior, set_own, own_variable, set_other, value_of_other, other_variable, usrvar_of, party_on, is_oneself, usrvar, logout, told_superior, channel_at, alarm_of}
use Rattle.its_plain.specs.Call.Step.{after_moves, acted, decision, Transition, informs, step}
use Rattle.its_plain.specs.Call.Tty.{view_console, has_console, can_take, is_holder, lands, ttylnd_of, ttylnd}
use Rattle.its_plain.specs.Call.Usr.{any_named, inferior_named, makes_job, opens_job, usr_tests, opens_usr, uclose_on, uclose}
use Rattle.its_plain.specs.Machine.Change.{on_slot, in_job, chan_after_removal, after_shut, job_after_removal, after_removal, superiors, with_inf, effect, effects}
use Rattle.its_plain.specs.Call.Decide.{call_named, decided_by, decided, target, reach}
use Rattle.its_plain.specs.Unit.Interrupt.{after_dismissal, delivered, unguarded, through_table, by_table, by_length, by_entry, by_pointer, by_stores, undelivered, pushed, entries_of, first_entry, Entry, at_handler}
use Rattle.its_plain.specs.Machine.{Chan, Shut, TtyIn, TtyOut, Reads, Writes, On, Linked, Whole, Machine}
use Rattle.its_plain.specs.Machine.Own.{after_exit, on_channel, at_position, with_word, opened_on, with_variable}
use Rattle.its_plain.specs.Call.Tests.{◌⇒◌, finishes, fails, goes, out}
use Rattle.its_plain.specs.Machine.View.{View, outline, view}
use Rattle.its_plain.specs.Unit.{Changed, unit}
use Rattle.its_plain.proofs.StepLaws.{AllOf, EachCase, step_has}
use Rattle.its_plain.proofs.UnitLaws.{unit_keeps}
use Rattle.its_stepped.proofs.Committing.ChannelLaws.{free_channel}
use Rattle.its_stepped.proofs.Duties.CallWays.{Any, Mild, AllStill, AllMild, Ways, Apart, call_ways, OpensMildly}
use Rattle.its_stepped.proofs.Committing.TestLaws.{by_test, first_holds}
use Rattle.its_security.specs.Integrity.{ChannelMay, channel_same, file_moves, inferior_moves, word_added, channel_closed, channel_opened}

-- names and console stay
pub record SameNames (k l : Job) : Type 0 where
  pub uname : l.uname ≡ k.uname
  pub jname : l.jname ≡ k.jname
  pub console : l.console ≡ k.console

pub record Stays (q r : Whole) : Type 0 where
  pub names : SameNames q.job r.job
  pub superior : r.superior ≡ q.superior
  pub channels : (i : ℕ) → ChannelMay (q.channels i) (r.channels i)

abbrev pub StaysBy : Whole → Option Whole → Type 0
StaysBy q (Some r) = Stays q r
StaysBy q None = Unit {0}

-- a change that leaves names, superior and channels
pub record Calm (f : Whole → Whole) : Type 0 where
  pub names : (q : Whole) → SameNames q.job (f q).job
  pub superior : (q : Whole) → (f q).superior ≡ q.superior
  pub channels : (q : Whole) → (f q).channels ≡ q.channels

names_then : (a b c : Job) → SameNames a b → SameNames b c → SameNames a c
names_then a b c h k = record { uname = k.uname ∙ h.uname; jname = k.jname ∙ h.jname; console = k.console ∙ h.console }

stays_then : (q : Whole) (f : Whole → Whole) (o : Option Whole) → Calm f → StaysBy q o → StaysBy q (option_map f o)
stays_then q f (Some r) c h = record {
  names = names_then q.job r.job (f r).job h.names (c.names r);
  superior = c.superior r ∙ h.superior;
  channels = λ i. subst (λ (d : Chan). ChannelMay (q.channels i) d) (sym (ap (λ (cs : ℕ → Chan). cs i) (c.channels r))) (h.channels i);
}
stays_then q f None c h = tt

-- at any slot
slot_then : (q : Whole) (jobs : ℕ → Option Whole) (s k : ℕ) (f : Whole → Whole) → Calm f → StaysBy q (jobs k) → StaysBy q (on_slot jobs s f k)
slot_then q jobs s k f c h = elim (cases_Bool (k == s)) [ inl t ↦ rw t (stays_then q f (jobs k) c h) | inr e ↦ rw e h ]

same_names : (k : Job) → SameNames k k
same_names k = record { uname = refl; jname = refl; console = refl }

pub unchanged : (q : Whole) → Stays q q
unchanged q = record { names = same_names q.job; superior = refl; channels = λ i. channel_same (q.channels i) }

unchanged_at : (q : Whole) (o : Option Whole) → o ≡ Some q → StaysBy q o
unchanged_at q o e = subst (StaysBy q) (sym e) (unchanged q)

-- a position that moves afterwards
moved_on : (at : ℕ) (c d : Chan) → ChannelMay c d → ChannelMay c (at_position at d)
moved_on at c d (channel_same Shut) = channel_same Shut
moved_on at c d (channel_same TtyIn) = channel_same TtyIn
moved_on at c d (channel_same TtyOut) = channel_same TtyOut
moved_on at c d (channel_same (Reads x p)) = file_moves x p at
moved_on at c d (channel_same (Writes f)) = channel_same (Writes f)
moved_on at c d (channel_same (On s write p)) = inferior_moves s write p at
moved_on at c d (channel_same (Linked k write)) = channel_same (Linked k write)
moved_on at c d (file_moves x from to) = file_moves x from at
moved_on at c d (inferior_moves s write from to) = inferior_moves s write from at
moved_on at c d (word_added f w) = word_added f w
moved_on at c d (channel_closed e) = channel_closed e
moved_on at c d (channel_opened Shut h) = channel_opened Shut h
moved_on at c d (channel_opened TtyIn h) = channel_opened TtyIn h
moved_on at c d (channel_opened TtyOut h) = channel_opened TtyOut h
moved_on at c d (channel_opened (Reads x p) h) = channel_opened (Reads x at) tt
moved_on at c d (channel_opened (Writes f) h) = channel_opened (Writes f) h
moved_on at c d (channel_opened (On s write p) h) = channel_opened (On s write at) tt
moved_on at c d (channel_opened (Linked k write) h) = channel_opened (Linked k write) h

-- a channel that changes
channel_stays : (q r : Whole) (n : ℕ) (f : Chan → Chan) → Stays q r → ChannelMay (q.channels n) (f (r.channels n)) → Stays q (on_channel n f r)
channel_stays q r n f h e = record {
  names = h.names;
  superior = h.superior;
  channels = λ i. elim (cases_eq i n) [
    | inl at ↦ rw (eq-eqb i n at) (subst (λ (k : ℕ). ChannelMay (q.channels k) (f (r.channels n))) (sym at) e)
    | inr other ↦ rw (ne_eqb i n other) (h.channels i)
  ];
}

here_is : (jobs : ℕ → Option Whole) (j : ℕ) (f : Whole → Whole) → on_slot jobs j f j ≡ option_map f (jobs j)
here_is jobs j f = rw (eq-eqb j j refl) refl

channel_at_own : (m : Machine) (j n : ℕ) (q : Whole) (f : Chan → Chan) → m.jobs j ≡ Some q → ChannelMay (q.channels n) (f (q.channels n))
    → StaysBy q ((in_job m j (on_channel n f)).jobs j)
channel_at_own m j n q f is e =
    subst (StaysBy q) (sym (here_is m.jobs j (on_channel n f) ∙ ap (option_map (on_channel n f)) is)) (channel_stays q q n f (unchanged q) e)

moves_own : (q : Whole) (jobs : ℕ → Option Whole) (j n at : ℕ) → StaysBy q (jobs j) → StaysBy q (on_slot jobs j (on_channel n (at_position at)) j)
moves_own q jobs j n at h = subst (StaysBy q) (sym (here_is jobs j (on_channel n (at_position at)))) (go (jobs j) h)
  where
    go : (o : Option Whole) → StaysBy q o → StaysBy q (option_map (on_channel n (at_position at)) o)
    go (Some r) k = channel_stays q r n (at_position at) k (moved_on at (q.channels n) (r.channels n) (k.channels n))
    go None k = tt

-- opened from closed
opened_shape : (c : Chan) (on : Opened) → OpensMildly on → c ≡ Shut → ChannelMay c (opened_on on)
opened_shape c (opened.Reading d x y) h e = subst (λ (i : Chan). ChannelMay i (Reads (d ∷ x ∷ y ∷ []) 0)) (sym e) (channel_opened _ tt)
opened_shape c (opened.Writing d x y) h e = subst (λ (i : Chan). ChannelMay i (Writes (record { names = d ∷ x ∷ y ∷ []; words = [] })))
    (sym e) (channel_opened _ refl)
opened_shape c _ h e = absurd h

-- a word that comes after those of a draft
word_shape : (w : ℕ) (c : Chan) → ChannelMay c (with_word w c)
word_shape w (Writes f) = word_added f w
word_shape w Shut = channel_same Shut
word_shape w TtyIn = channel_same TtyIn
word_shape w TtyOut = channel_same TtyOut
word_shape w (Reads x p) = channel_same (Reads x p)
word_shape w (On s write p) = channel_same (On s write p)
word_shape w (Linked k write) = channel_same (Linked k write)

-- a variable
pub variable_names : (v : Variable) (w : ℕ) (j : Job) → SameNames j (with_variable v w j)
unfolding with_variable
variable_names Upc w j = record { uname = refl; jname = refl; console = refl }
variable_names Ustp w j = record { uname = refl; jname = refl; console = refl }
variable_names Pirqc w j = record { uname = refl; jname = refl; console = refl }
variable_names Ifpir w j = record { uname = refl; jname = refl; console = refl }
variable_names Mask w j = record { uname = refl; jname = refl; console = refl }
variable_names Msk2 w j = record { uname = refl; jname = refl; console = refl }
variable_names Df1 w j = record { uname = refl; jname = refl; console = refl }
variable_names Df2 w j = record { uname = refl; jname = refl; console = refl }
variable_names _ w j = record { uname = refl; jname = refl; console = refl }

core_calm : (f : Whole → Whole) → ((q : Whole) → (f q).job ≡ q.job) → ((q : Whole) → (f q).superior ≡ q.superior)
    → ((q : Whole) → (f q).channels ≡ q.channels) → Calm f
core_calm f job superior channels = record {
  names = λ q. record { uname = ap (λ (k : Job). k.uname) (job q); jname = ap (λ (k : Job). k.jname) (job q); console = ap (λ (k : Job). k.console) (job q) };
  superior = superior;
  channels = channels;
}

-- a removal
removed_shape : (gone : ℕ → Bool) (c : Chan) → ChannelMay c (chan_after_removal gone c)
removed_shape gone (On s write at) = elim (cases_Bool (gone s)) [ inl t ↦ rw t (channel_closed _) | inr e ↦ rw e (channel_same _) ]
removed_shape gone Shut = channel_same Shut
removed_shape gone TtyIn = channel_same TtyIn
removed_shape gone TtyOut = channel_same TtyOut
removed_shape gone (Reads x p) = channel_same (Reads x p)
removed_shape gone (Writes f) = channel_same (Writes f)
removed_shape gone (Linked k write) = channel_same (Linked k write)

left_stays : (gone : ℕ → Bool) (b : Bool) (q : Whole) (o : Option Whole) → o ≡ Some q → StaysBy q (job_after_removal gone b o)
left_stays gone true q o e = tt
left_stays gone false q o e = subst (λ (p : Option Whole). StaysBy q (option_map (after_shut gone) p)) (sym e) (record {
  names = same_names q.job;
  superior = refl;
  channels = λ i. removed_shape gone (q.channels i);
})

-- a mild change
core_then : (m : Machine) (j s : ℕ) (q : Whole) (f : Whole → Whole) → m.jobs j ≡ Some q → Calm f → StaysBy q ((in_job m s f).jobs j)
core_then m j s q f is c = slot_then q m.jobs s j f c (unchanged_at q (m.jobs j) is)

module _ (m : Machine) (j : ℕ) (q : Whole) (t : Option ℕ) (is : m.jobs j ≡ Some q) where
  linked_shape : (n l : ℕ) (write : Bool) → q.channels n ≡ Shut → ChannelMay (q.channels n) (Linked l write)
  linked_shape n l write shut = subst (λ (c : Chan). ChannelMay c (Linked l write)) (sym shut) (channel_opened (Linked l write) tt)

  mild_stays : (c : Change) → Mild Any (view m j q t) c → StaysBy q ((effect c j m).jobs j)
  unfolding effect view
  mild_stays (changes.Open n on) h = channel_at_own m j n q (λ c. opened_on on) is (opened_shape (q.channels n) on h.0 h.1)
  mild_stays (changes.Shut n) h = channel_at_own m j n q (λ c. Shut) is (channel_closed _)
  mild_stays (changes.Close n) h = channel_at_own m j n q (λ c. Shut) is (channel_closed _)
  mild_stays (changes.Move n at) h = channel_at_own m j n q (at_position at) is (moved_on at _ _ (channel_same _))
  mild_stays (changes.Append n w) h = channel_at_own m j n q (with_word w) is (word_shape w (q.channels n))
  mild_stays (changes.Take c) h = unchanged_at q (m.jobs j) is
  mild_stays (changes.Put c b) h = unchanged_at q (m.jobs j) is
  mild_stays (changes.Poke s p w) h = core_then m j s q _ is (core_calm _ (λ r. refl) (λ r. refl) (λ r. refl))
  mild_stays (changes.Map s k) h = core_then m j s q _ is (core_calm _ (λ r. refl) (λ r. refl) (λ r. refl))
  mild_stays (changes.Unmap s k) h = core_then m j s q _ is (core_calm _ (λ r. refl) (λ r. refl) (λ r. refl))
  mild_stays (changes.Protect s k w) h = core_then m j s q _ is (core_calm _ (λ r. refl) (λ r. refl) (λ r. refl))
  mild_stays (changes.Delete e x y) h = unchanged_at q (m.jobs j) is
  mild_stays (changes.Rename e x y u v) h = unchanged_at q (m.jobs j) is
  mild_stays (changes.Join n l write x y) h = channel_at_own m j n q (λ c. Linked l write) is (linked_shape n l write h.shut)
  mild_stays (changes.CloseEnd n l write) h = channel_at_own m j n q (λ c. Shut) is (channel_closed _)
  mild_stays (changes.Send l w) h = unchanged_at q (m.jobs j) is
  mild_stays (changes.Receive l) h = unchanged_at q (m.jobs j) is
  mild_stays _ h = absurd h

still_stays : (n : Machine) (j : ℕ) (q : Whole) (cs : List Change) → AllStill cs → StaysBy q (n.jobs j) → StaysBy q ((effects cs j n).jobs j)
unfolding effect
still_stays n j q [] h k = k
still_stays n j q (changes.Move i at ∷ cs) h k = still_stays (effect (changes.Move i at) j n) j q cs h.1 (moves_own q n.jobs j i at k)
still_stays n j q (c ∷ cs) h k = absurd h.0

all_stay : (m : Machine) (j : ℕ) (q : Whole) (t : Option ℕ) (cs : List Change) → m.jobs j ≡ Some q → AllMild Any (view m j q t) cs
    → StaysBy q ((effects cs j m).jobs j)
all_stay m j q t [] is h = unchanged_at q (m.jobs j) is
all_stay m j q t (c ∷ cs) is h = still_stays (effect c j m) j q cs h.1 (mild_stays m j q t is c h.0)

-- what a decision does to the own job, of whatever call
abbrev Permitted : Machine → ℕ → Whole → Decision → Type 0
Permitted m j q d = (a : Ask) (ks : List ℕ) → AllOf (λ (t : Transition). StaysBy q (t.machine.jobs j)) (acted m j a ks d)

end_calm : (ss : List Store) (e : Exit) → Calm (λ r. record r { core = stored r.core ss; job = after_exit e r.job })
end_calm ss e = record { names = λ r. record { uname = refl; jname = refl; console = refl }; superior = λ r. refl; channels = λ r. refl }

moves_calm : (a : Ask) (h : Option Held) (vs : List ℕ) → Calm (after_moves a h vs)
moves_calm a None vs = core_calm _ (λ r. refl) (λ r. refl) (λ r. refl)
moves_calm a (Some b) vs = core_calm _ (λ r. refl) (λ r. refl) (λ r. refl)

module _ (m : Machine) (j : ℕ) (q : Whole) (is : m.jobs j ≡ Some q) where
  ends_stay : (cs : List Change) (ss : List Store) (e : Exit) → StaysBy q ((effects cs j m).jobs j)
      → Permitted m j q (Ends (record { items = cs }) (record { items = ss }) e)
  unfolding acted
  ends_stay cs ss e h = λ b ks. slot_then q (effects cs j m).jobs j j _ (end_calm ss e) h

  goes_stay : (cs : List Change) (o : Option Held) (vs : List ℕ) → StaysBy q ((effects cs j m).jobs j) → Permitted m j q (goes cs o vs)
  unfolding acted
  goes_stay cs o vs h = λ b ks. slot_then q (effects cs j m).jobs j j _ (moves_calm b o vs) h

  waits_stay : (r : Wait) → Permitted m j q (Waits r)
  unfolding acted
  waits_stay r = λ b ks. tt

  nothing_stays : (ss : List Store) (e : Exit) → Permitted m j q (Ends (record { items = [] }) (record { items = ss }) e)
  nothing_stays ss e = ends_stay [] ss e (unchanged_at q (m.jobs j) is)

  channel_opens : (n : ℕ) (on : Opened) → ChannelMay (q.channels n) (opened_on on) → StaysBy q ((effects (changes.Open n on ∷ []) j m).jobs j)
  unfolding effect
  channel_opens n on h = channel_at_own m j n q (λ c. opened_on on) is h

  arms : (o : Option (ℕ × ℕ)) → StaysBy q ((effects (changes.Arm o ∷ []) j m).jobs j)
  unfolding effect
  arms o = core_then m j j q _ is (core_calm _ (λ r. refl) (λ r. refl) (λ r. refl))

  holds : (c s : ℕ) → StaysBy q ((effects (changes.Hold c s ∷ []) j m).jobs j)
  unfolding effect
  holds c s = unchanged_at q (m.jobs j) is

  closes : (s : ℕ) → StaysBy q ((effects (changes.Remove s ∷ []) j m).jobs j)
  unfolding effect after_removal
  closes s = left_stays _ _ q (m.jobs j) is

  leaves : (o : Option ℕ) → Permitted m j q (Gone (record { items = told_superior o }))
  unfolding acted effect after_removal
  leaves None = λ b ks. left_stays _ _ q (m.jobs j) is
  leaves (Some s) = λ b ks.
      slot_then q (after_removal (superiors m) j m).jobs s j with_inf
      (record { names = λ r. record { uname = refl; jname = refl; console = refl }; superior = λ r. refl; channels = λ r. refl })
      (left_stays _ _ q (m.jobs j) is)

  sets : (s : ℕ) (y : Variable) (w : ℕ) (new : Bool) → StaysBy q ((effects (set_other s y w new) j m).jobs j)
  unfolding effect
  sets s y w true = core_then m j s q _ is (record { names = λ r. variable_names y w r.job; superior = λ r. refl; channels = λ r. refl })
  sets s y w false = unchanged_at q (m.jobs j) is

  makes_other : (s u y n : ℕ) → m.jobs s ≡ None → q.channels n ≡ Shut
      → StaysBy q ((effects (changes.Make s u y ∷ changes.Open n (opened.Usr s true) ∷ []) j m).jobs j)
  unfolding effect
  makes_other s u y n none shut =
      let other : (j == s) ≡ false = ne_eqb j s (λ at. let no : None ≡ Some q = sym none ∙ ap m.jobs (sym at) ∙ is in cc) in
      channel_at_own (effect (changes.Make s u y) j m) j n q (λ c. On s true 0) (rw other is) (usr_shape s true n shut)
    where
      usr_shape : (s : ℕ) (write : Bool) (n : ℕ) → q.channels n ≡ Shut → ChannelMay (q.channels n) (On s write 0)
      usr_shape s write n e = subst (λ (c : Chan). ChannelMay c (On s write 0)) (sym e) (channel_opened (On s write 0) tt)

module _ (m : Machine) (j : ℕ) (q : Whole) (t : Option ℕ) (a : Ask) (is : m.jobs j ≡ Some q) where
  abbrev x : View
  x = view m j q t

  fail_stays : (k : ℕ) → Permitted m j q (fails x a k)
  fail_stays k = nothing_stays m j q is _ _

  -- DISMIS
  dismissed_stays : (p w : ℕ) (r : Result Exit Fault) → Permitted m j q (dismissed_by x p w r)
  dismissed_stays p w (Ok e) = nothing_stays m j q is _ _
  dismissed_stays p w (Err f) = nothing_stays m j q is _ _

  dismiss_stays : (o : Option ℕ) → Permitted m j q (dismiss_at x a o)
  dismiss_stays (Some p) = dismissed_stays p (input a 0) (after_dismissal x.own.core x.own.job p)
  dismiss_stays None = fail_stays 0o17

  -- USRVAR
  set_stays : (y : Variable) (b : Bool) → Permitted m j q (set_own x a y b)
  unfolding acted
  set_stays y true = nothing_stays m j q is _ _
  set_stays y false = nothing_stays m j q is _ _

  own_variable_stays : (o : Option Variable) → Permitted m j q (own_variable x a o)
  own_variable_stays None = fail_stays 0o22
  own_variable_stays (Some y) =
      by_test (Permitted m j q) (has_input a 2 && not (by_oneself y)) (fails x a 0o22) (set_own x a y (has_input a 2))
      (λ e. fail_stays 0o22) (λ e. set_stays y (has_input a 2))

  other_variable_stays : (s : ℕ) (write : Bool) (o : Option Variable) → Permitted m j q (other_variable x a s write o)
  other_variable_stays s write None = fail_stays 0o22
  other_variable_stays s write (Some y) =
      let cs = set_other s y (input a 2) (has_input a 2) in
      first_holds (Permitted m j q)
      (((has_input a 2 && not write) ⇒ fails x a 0o5) ∷ ((has_input a 2 && not (by_superior y)) ⇒ fails x a 0o22) ∷ [])
      (finishes x cs (out a.outputs.items (value_of_other s y x.other)))
      (λ e. fail_stays 0o5, (λ e. fail_stays 0o22, tt))
      (λ e. ends_stay m j q is cs _ _ (sets m j q is s y (input a 2) (has_input a 2)))

  usrvar_stays : Permitted m j q (usrvar x a)
  unfolding usrvar view
  usrvar_stays = go (is_oneself (input a 0)) (channel_at q.channels (input a 0))
    where
      on_party : (c : Chan) → Permitted m j q (usrvar_of x a (party_on c))
      on_party Shut = fail_stays 0o4
      on_party (On s write at) = other_variable_stays s write (variable_named (input a 1))
      on_party _ = fail_stays 0o5

      go : (b : Bool) (c : Chan) → Permitted m j q (usrvar_of x a (if b then Oneself else party_on c))
      go true c = own_variable_stays (variable_named (input a 1))
      go false c = on_party c

  logout_stays : Permitted m j q (logout x)
  unfolding view
  logout_stays = leaves m j q is q.superior

  -- OPEN of an inferior
  no_outline : (o : Option Whole) → option_map outline o ≡ None → o ≡ None
  no_outline None h = refl
  no_outline (Some p) h = cc

  makes_stays : (n u y : ℕ) (o : Option ℕ) → q.channels n ≡ Shut → least_free x.limit x.outlines ≡ o → Permitted m j q (makes_job x a n u y o)
  unfolding view
  makes_stays n u y (Some s) shut e = ends_stay m j q is _ _ _
      (makes_other m j q is s u y n (no_outline (m.jobs s) (least_empty x.limit x.outlines s e)) shut)
  makes_stays n u y None shut e = fail_stays 0o14

  usr_shape : (n s : ℕ) (write : Bool) → q.channels n ≡ Shut → ChannelMay (q.channels n) (On s write 0)
  usr_shape n s write e = subst (λ (c : Chan). ChannelMay c (On s write 0)) (sym e) (channel_opened (On s write 0) tt)

  opens_stays : (n u y : ℕ) (write : Bool) (o : Option ℕ) → q.channels n ≡ Shut → Permitted m j q (opens_job x a n u y write o)
  opens_stays n u y write (Some s) shut = ends_stay m j q is _ _ _ (channel_opens m j q is n (opened.Usr s write) (usr_shape n s write shut))
  opens_stays n u y write None shut =
      first_holds (Permitted m j q) (any_named x u y ⇒ fails x a 0o13 ∷ not write ⇒ fails x a 0o12 ∷ []) (makes_job x a n u y (least_free x.limit x.outlines))
      (λ e. fail_stays 0o13, (λ e. fail_stays 0o12, tt)) (λ e. makes_stays n u y (least_free x.limit x.outlines) shut refl)

  opens_usr_stays : Permitted m j q (opens_usr x a)
  unfolding opens_usr view
  opens_usr_stays =
      let control = unwrap_or a.control 0 in
      let named = inferior_named x (input a 2) (input a 3) in
      first_holds (Permitted m j q) (usr_tests x a (input a 0) control) (opens_job x a (input a 0) (input a 2) (input a 3) (control == 1) named)
      (λ e. fail_stays 0o4, (λ e. fail_stays 0o22, tt)) (λ e. opens_stays (input a 0) (input a 2) (input a 3) (control == 1) named
      (free_channel q.channels (input a 0) e.0))

  -- TTYLND
  lands_stays : (may : Bool) (number s : ℕ) → Permitted m j q (lands x a may number s)
  lands_stays may number s =
      first_holds (Permitted m j q) (not (has_console x) ⇒ fails x a 0o5 ∷ not may ⇒ fails x a number ∷ [])
      (finishes x (changes.Hold (view_console x) s ∷ []) [])
      (λ e. fail_stays 0o5, (λ e. fail_stays number, tt)) (λ e. ends_stay m j q is _ _ _ (holds m j q is (view_console x) s))

  ttylnd_stays : Permitted m j q (ttylnd x a)
  unfolding ttylnd view
  ttylnd_stays = go (is_oneself (input a 0)) (channel_at q.channels (input a 0))
    where
      on_party : (c : Chan) → Permitted m j q (ttylnd_of x a (party_on c))
      on_party Shut = fail_stays 0o4
      on_party (On s write at) = lands_stays (is_holder x (x.holders (view_console x))) 0o5 s
      on_party _ = fail_stays 0o5

      go : (b : Bool) (c : Chan) → Permitted m j q (ttylnd_of x a (if b then Oneself else party_on c))
      go true c = lands_stays (can_take x (x.holders (view_console x))) 0o13 x.slot
      go false c = on_party c

  -- UCLOSE
  uclose_stays : Permitted m j q (uclose x a)
  unfolding uclose view
  uclose_stays = go (channel_at q.channels (input a 0))
    where
      go : (c : Chan) → Permitted m j q (uclose_on x a c)
      go (On s write at) = ends_stay m j q is _ _ _ (closes m j q is s)
      go Shut = fail_stays 0o4
      go _ = fail_stays 0o5

  tty_opened : (n : ℕ) (b : Bool) → x.own.channels n ≡ Shut → ChannelMay (q.channels n) (opened_on (if b then opened.TtyOut else opened.TtyIn))
  unfolding view
  tty_opened n true shut = subst (λ (c : Chan). ChannelMay c TtyOut) (sym shut) (channel_opened TtyOut tt)
  tty_opened n false shut = subst (λ (c : Chan). ChannelMay c TtyIn) (sym shut) (channel_opened TtyIn tt)

  -- every call
  ways_stay : Ways (Permitted m j q) Any x a
  ways_stay = record {
    failing = fail_stays;
    faulting = λ f. nothing_stays m j q is _ _;
    stuck = nothing_stays m j q is _ _;
    opening = λ h f b. ends_stay m j q is _ _ _ (channel_opens m j q is (input a 0) (if b then opened.TtyOut else opened.TtyIn) (tty_opened (input a 0) b f));
    arming = λ n h. ends_stay m j q is _ _ _ (arms m j q is (alarm_of x.clock n));
    ending = λ cs ss h. ends_stay m j q is cs ss _ (all_stay m j q t cs is h);
    moved = λ cs ss h. ends_stay m j q is cs ss _ (all_stay m j q t cs is h);
    going = λ cs o vs h. goes_stay m j q is cs o vs (all_stay m j q t cs is h);
  }

  apart_stays : Apart (Permitted m j q) x a
  unfolding dismiss
  apart_stays = record {
    dismiss = dismiss_stays (place_of_input a 0);
    usrvar = usrvar_stays;
    logout = logout_stays;
    opens_usr = opens_usr_stays;
    ttylnd = ttylnd_stays;
    uclose = uclose_stays;
  }

  decided_stays : Permitted m j q (decided x a)
  unfolding decided
  decided_stays =
      let o = call_named a.name in
      by_test (Permitted m j q) (a.fail == 0) (decided_by x a o) (fails x a a.fail)
      (λ e. call_ways (Permitted m j q) Any x a o ways_stay (λ c i s at write e r on. tt) (waits_stay m j q is) apart_stays) (λ e. fail_stays a.fail)

-- a delivery
stores_names : (c : Core) (k : Job) (e : Entry) (ss : List Store) (o : Option Fault) → SameNames k (by_stores c k e ss o).job
unfolding at_handler
stores_names c k e ss None = record { uname = refl; jname = refl; console = refl }
stores_names c k e ss (Some f) = record { uname = refl; jname = refl; console = refl }

unmade : (k : Job) (c : Core) → SameNames k (undelivered c k).job
unmade k c = record { uname = refl; jname = refl; console = refl }

pointer_names : (c : Core) (k : Job) (e : Entry) (p : ℕ) (o : Option ℕ) → SameNames k (by_pointer c k e p o).job
pointer_names c k e p (Some s) = stores_names c k e (pushed k e p s) (first_fault c (pushed k e p s))
pointer_names c k e p None = unmade k c

entry_names : (c : Core) (k : Job) (o : Option ℕ) (e : Option Entry) → SameNames k (by_entry c k o e).job
entry_names c k (Some v) (Some e) = pointer_names c k e (right_of v) (word_at c (right_of v))
entry_names c k (Some v) None = unmade k c
entry_names c k None e = unmade k c

length_names : (c : Core) (k : Job) (t : ℕ) (o : Option ℕ) → SameNames k (by_length c k t o).job
length_names c k t (Some n) = entry_names c k (word_at c t) (first_entry c k n (t + 1))
length_names c k t None = unmade k c

table_names : (c : Core) (k : Job) (o : Option ℕ) → SameNames k (by_table c k o).job
table_names c k (Some w) = length_names c k (right_of w) (entries_of w)
table_names c k None = unmade k c

pub delivered_names : (c : Core) (k : Job) → SameNames k (delivered c k).job
unfolding delivered through_table
delivered_names c k = elim (cases_Bool (unguarded k == 0)) [
  | inl t ↦ rw t (table_names c k (word_at c 0o42))
  | inr t ↦ rw t
      (record { uname = refl; jname = refl; console = refl })
]

-- a job whose core and registers are others
put_stays : (q : Whole) (jobs : ℕ → Option Whole) (j : ℕ) (f : Whole → Whole) → StaysBy q (jobs j)
    → ((r : Whole) → SameNames q.job (f r).job) → ((r : Whole) → (f r).superior ≡ r.superior) → ((r : Whole) → (f r).channels ≡ r.channels)
    → StaysBy q (on_slot jobs j f j)
put_stays q jobs j f h names superior channels = subst (StaysBy q) (sym (here_is jobs j f)) (go (jobs j) h)
  where
    go : (o : Option Whole) → StaysBy q o → StaysBy q (option_map f o)
    go (Some r) k = record {
      names = names r;
      superior = superior r ∙ k.superior;
      channels = λ i. subst (λ (d : Chan). ChannelMay (q.channels i) d) (sym (ap (λ (cs : ℕ → Chan). cs i) (channels r))) (k.channels i);
    }
    go None k = tt

informed_stays : (m : Machine) (j : ℕ) (q : Whole) (b : Bool) (o : Option ℕ) → m.jobs j ≡ Some q → StaysBy q ((effects (informs b o) j m).jobs j)
unfolding effect
informed_stays m j q false o is = unchanged_at q (m.jobs j) is
informed_stays m j q true None is = unchanged_at q (m.jobs j) is
informed_stays m j q true (Some s) is = core_then m j s q with_inf is
    (record { names = λ r. record { uname = refl; jname = refl; console = refl }; superior = λ r. refl; channels = λ r. refl })

unit_names : (c : Core) (k : Job) (d : Core) (l : Job) → unit c k ≡ Changed d l → SameNames k l
unit_names c k d l e = let u = (unit_keeps c k d l e).registers in record { uname = u.uname; jname = u.jname; console = u.console }

each_stays : (m : Machine) (j : ℕ) (q : Whole) → m.jobs j ≡ Some q → EachCase (λ (t : Transition). StaysBy q (t.machine.jobs j)) m j q
unfolding decision
each_stays m j q is = record {
  delivers = (let e = delivered q.core q.job in
      put_stays q (effects (informs e.stops q.superior) j m).jobs j _ (informed_stays m j q e.stops q.superior is)
      (λ r. delivered_names q.core q.job) (λ r. refl) (λ r. refl));
  changes = λ c k e. put_stays q m.jobs j _ (unchanged_at q (m.jobs j) is) (λ r. unit_names q.core q.job c k e) (λ r. refl) (λ r. refl);
  faults = λ f. core_then m j j q _ is (record {
    names = λ r. record { uname = refl; jname = refl; console = refl };
    superior = λ r. refl;
    channels = λ r. refl;
  });
  calls = λ a. decided_stays m j q (target q a) a is a (reach m j q a);
}

-- a step leaves this of its own job, if it does not log out
pub step_stays : (m n : Machine) (j : ℕ) → step m j ≡ Some n → (q : Whole) × ((m.jobs j ≡ Some q) × StaysBy q (n.jobs j))
step_stays m n j e = step_has (λ (x : Machine). (q : Whole) × ((m.jobs j ≡ Some q) × StaysBy q (x.jobs j))) m n j (λ q is. lift q is (each_stays m j q is)) e
  where
    all : (q : Whole) → m.jobs j ≡ Some q → (o : Option Transition) → AllOf (λ (t : Transition). StaysBy q (t.machine.jobs j)) o
        → AllOf (λ (t : Transition). (r : Whole) × ((m.jobs j ≡ Some r) × StaysBy r (t.machine.jobs j))) o
    all q is (Some t) h = (q, (is, h))
    all q is None h = tt

    lift : (q : Whole) → m.jobs j ≡ Some q → EachCase (λ (t : Transition). StaysBy q (t.machine.jobs j)) m j q
        → EachCase (λ (t : Transition). (r : Whole) × ((m.jobs j ≡ Some r) × StaysBy r (t.machine.jobs j))) m j q
    lift q is h = record {
      delivers = (q, (is, h.delivers));
      changes = λ c k u. (q, (is, h.changes c k u));
      faults = λ f. (q, (is, h.faults f));
      calls = λ a. all q is (acted m j a (reach m j q a) (decision m j q a)) (h.calls a);
    }
