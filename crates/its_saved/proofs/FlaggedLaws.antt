-- The flags of each job stay the named ones through the steps of the plain machine.
use Rattle.std.specs.Prelude.{if◌then◌else◌, ◌==◌, ◌&&◌, ◌≡◌, ◌<◌, ℕ, ◌+◌, ◌^◌, Bool, true, false, not, Option, Some, None, IfSome, List, [], ◌∷◌, unwrap_or, Result, Ok, Err, option_map, refl}
use Rattle.std.proofs.Common.{sym, subst}
use Rattle.std.proofs.Common.{inl, inr}
use Rattle.std.proofs.lemmas.Bool.{cases_Bool}
use Rattle.std.proofs.lemmas.Nat.{and_assoc}
use Rattle.its_word.specs.Flags.{named_flags}
use Rattle.its_word.specs.Stores.{first_fault}
use Rattle.its_word.specs.declared.plan.Store.{Store}
use Rattle.its_saved.specs.WellFormed.{Flagged}
use Rattle.its_saved.proofs.FlagLaws.{named_without}
use Rattle.its_word.specs.Core.{Core, can_store, word_at}
use Rattle.its_records.specs.Tree.{fresh_job, least_free}
use Rattle.its_word.specs.Word.{left_of, right_of}
use Rattle.its_word.specs.declared.access.Fault.{Fault}
use Rattle.its_records.specs.declared.calls.Ask.{Ask}
use Rattle.its_records.specs.declared.calls.Exit.{Exit}
use Rattle.its_records.specs.declared.jobs.Job.{Job}
use Rattle.its_frame.specs.declared.change.Change.{Change}
use Rattle.its_frame.specs.declared.change.Change.TheVariants as changes
use Rattle.its_frame.specs.declared.decision.Decision.{Decision}
use Rattle.its_frame.specs.declared.decision.Decision.TheVariants.{Waits, Goes, Ends, Gone}
use Rattle.its_frame.specs.declared.decision.Held.{Held}
use Rattle.its_frame.specs.declared.variable.Variable.{Variable}
use Rattle.its_frame.specs.declared.variable.Variable.TheVariants.{Upc}
use Rattle.its_plain.specs.Call.Arguments.{input, has_input, place_of_input, with_new_values}
use Rattle.its_frame.specs.Variables.{variable_named}
use Rattle.its_plain.specs.Call.Basic.{dismissed_by, dismiss_at, dismiss, Party, Oneself, Channel, by_oneself, by_superior, set_own, own_variable, set_other, value_of_other, other_variable, usrvar_of, channel_at, party, usrvar}
use Rattle.its_plain.specs.Call.Tty.{view_console, has_console, can_take, is_holder, lands, ttylnd_of, ttylnd}
use Rattle.its_plain.specs.Call.Step.{with_held, acted, decision, informs, step}
use Rattle.its_plain.specs.Call.Usr.{inferior_named, any_named, makes_job, opens_job, usr_tests, opens_usr, uclose_on, uclose}
use Rattle.its_plain.specs.Machine.Change.{in_job, is_gone, job_after_removal, after_removal, superiors, inferior, effect, effects}
use Rattle.its_plain.specs.Call.Decide.{call_named, decided_by, decided, target, reach}
use Rattle.its_plain.specs.Unit.Interrupt as interrupt
use Rattle.its_plain.specs.Unit.Interrupt.{Entry, entries_of, first_entry, pushed, at_handler, by_stores, by_pointer, by_entry, by_length, by_table, through_table, unguarded, delivered, after_dismissal, after_dismissal_at, below}
use Rattle.its_plain.specs.Machine.{Chan, Shut, On, Linked, Whole, Machine, no_machine, with_new}
use Rattle.its_plain.specs.Machine.Own.{on_channel, with_variable, with_advance}
use Rattle.its_plain.specs.Call.Tests.{◌⇒◌, finishes, fails, out}
use Rattle.its_plain.specs.Unit.{Changed, unit}
use Rattle.its_plain.specs.Machine.View.{View, view}
use Rattle.its_plain.proofs.UnitLaws.{unit_keeps}
use Rattle.its_stepped.proofs.Committing.TestLaws.{by_test, first_holds}
use Rattle.its_plain.proofs.StepLaws.{AllOf, step_has}
use Rattle.its_stepped.proofs.Duties.CallWays.{Any, Ways, Apart, call_ways}

pub named_twice : (f : ℕ) → named_flags (named_flags f) ≡ named_flags f
named_twice f = and_assoc 0o760040 f 0o760040

-- at the start of a session
pub flagged_starts : Flagged no_machine
unfolding no_machine
flagged_starts = record { each = λ k. tt }

-- one job
abbrev pub FlaggedBy : Option Whole → Type 0
FlaggedBy o = IfSome o (λ q. named_flags q.job.flags ≡ q.job.flags)

mapped_flagged : (f : Whole → Whole) (b : Bool) (o : Option Whole)
    → ((q : Whole) → named_flags q.job.flags ≡ q.job.flags → named_flags (f q).job.flags ≡ (f q).job.flags) → FlaggedBy o
    → FlaggedBy (if b then option_map f o else o)
mapped_flagged f true (Some q) h a = h q a
mapped_flagged f true None h a = tt
mapped_flagged f false o h a = a

pub job_flagged : (m : Machine) (s : ℕ) (f : Whole → Whole) →
    ((q : Whole) → named_flags q.job.flags ≡ q.job.flags → named_flags (f q).job.flags ≡ (f q).job.flags) → Flagged m → Flagged (in_job m s f)
job_flagged m s f h a = record { each = λ k. mapped_flagged f (k == s) (m.jobs k) h (a.each k) }

-- another machine with the same jobs
jobs_flagged : (m n : Machine) → n.jobs ≡ m.jobs → Flagged m → Flagged n
jobs_flagged m n e a = record { each = λ k. subst (λ (jobs : ℕ → Option Whole). FlaggedBy (jobs k)) (sym e) (a.each k) }

-- a removal
removed_job : (gone : ℕ → Bool) (b : Bool) (o : Option Whole) → FlaggedBy o → FlaggedBy (job_after_removal gone b o)
removed_job gone true o a = tt
removed_job gone false None a = tt
removed_job gone false (Some q) a = a

removed_flagged : (sup : ℕ → Option ℕ) (r : ℕ) (m : Machine) → Flagged m → Flagged (after_removal sup r m)
unfolding after_removal
removed_flagged sup r m a = record { each = λ k. removed_job (is_gone sup r) (is_gone sup r k) (m.jobs k) (a.each k) }

-- a job that is made
either_flagged : (b : Bool) (p o : Option Whole) → FlaggedBy p → FlaggedBy o → FlaggedBy (if b then p else o)
either_flagged true p o x a = x
either_flagged false p o x a = a

inferior_flagged : (j : ℕ) (o : Option Whole) (u n : ℕ) → named_flags (inferior j o u n).job.flags ≡ (inferior j o u n).job.flags
unfolding fresh_job
inferior_flagged j o u n = refl

made_flagged : (m : Machine) (j s u n : ℕ) → Flagged m → Flagged (with_new m s (inferior j (m.jobs j) u n))
made_flagged m j s u n a = record {
  each = λ k. either_flagged (k == s) (Some (inferior j (m.jobs j) u n)) (m.jobs k)
      (inferior_flagged j (m.jobs j) u n) (a.each k);
}

-- a variable that is set
pub variable_flagged : (v : Variable) (w : ℕ) (j : Job) → named_flags j.flags ≡ j.flags
    → named_flags (with_variable v w j).flags ≡ (with_variable v w j).flags
unfolding with_variable
variable_flagged Upc w j h = named_twice (left_of w)
variable_flagged _ w j h = h

-- a change
pub effect_flagged : (c : Change) (j : ℕ) (m : Machine) → Flagged m → Flagged (effect c j m)
unfolding effect
effect_flagged (changes.Close n) j m a = jobs_flagged (in_job m j (on_channel n (λ c. Shut))) _ refl (job_flagged m j _ (λ q x. x) a)
effect_flagged (changes.Take c) j m a = jobs_flagged m _ refl a
effect_flagged (changes.Put c b) j m a = jobs_flagged m _ refl a
effect_flagged (changes.Hold c s) j m a = jobs_flagged m _ refl a
effect_flagged (changes.Poke s p w) j m a = job_flagged m s _ (λ q x. x) a
effect_flagged (changes.Set s v w) j m a = job_flagged m s _ (λ q x. variable_flagged v w q.job x) a
effect_flagged (changes.Map s k) j m a = job_flagged m s _ (λ q x. x) a
effect_flagged (changes.Unmap s k) j m a = job_flagged m s _ (λ q x. x) a
effect_flagged (changes.Protect s k on) j m a = job_flagged m s _ (λ q x. x) a
effect_flagged (changes.Make s u n) j m a = made_flagged m j s u n a
effect_flagged (changes.Remove s) j m a = removed_flagged (superiors m) s m a
effect_flagged (changes.Inform s) j m a = job_flagged m s _ (λ q x. x) a
effect_flagged (changes.Join n l write x y) j m a =
    jobs_flagged (in_job m j (on_channel n (λ c. Linked l write))) _ refl (job_flagged m j _ (λ q x. x) a)
effect_flagged (changes.CloseEnd n l write) j m a = jobs_flagged (in_job m j (on_channel n (λ c. Shut))) _ refl (job_flagged m j _ (λ q x. x) a)
effect_flagged (changes.Send l w) j m a = jobs_flagged m _ refl a
effect_flagged (changes.Receive l) j m a = jobs_flagged m _ refl a
effect_flagged (changes.Delete x y z) j m a = jobs_flagged m _ refl a
effect_flagged (changes.Rename x y z u v) j m a = jobs_flagged m _ refl a
effect_flagged _ j m a = job_flagged m j _ (λ q x. x) a

pub effects_flagged : (cs : List Change) (j : ℕ) (m : Machine) → Flagged m → Flagged (effects cs j m)
effects_flagged [] j m a = a
effects_flagged (c ∷ cs) j m a = effects_flagged cs j (effect c j m) (effect_flagged c j m a)

-- a decision that leaves its job at an address
abbrev pub LeavesFlags : Decision → Type 0
LeavesFlags (Waits r) = Unit {0}
LeavesFlags (Goes cs h vs) = Unit {0}
LeavesFlags (Ends cs ss e) = named_flags e.flags ≡ e.flags
LeavesFlags (Gone cs) = Unit {0}

pub advanced_flagged : (n : ℕ) (j : Job) → named_flags j.flags ≡ j.flags → named_flags (with_advance n j).flags ≡ (with_advance n j).flags
advanced_flagged n j h = named_without j.flags h

-- DISMIS
abbrev PopsFlags : Result Exit Fault → Type 0
PopsFlags (Ok e) = named_flags e.flags ≡ e.flags
PopsFlags (Err f) = Unit {0}

popped_flags : (j : Job) (can : Bool) (o p r : Option ℕ) → PopsFlags (interrupt.after_dismissal_by j can o p r)
popped_flags j true (Some w) (Some d) (Some e) = named_twice (left_of w)
popped_flags j false (Some w) (Some d) (Some e) = tt
popped_flags j can (Some w) (Some d) None = tt
popped_flags j can (Some w) None r = tt
popped_flags j can None p r = tt

pointer_flags : (c : Core) (j : Job) (p : ℕ) (o : Option ℕ) → PopsFlags (after_dismissal_at c j p o)
pointer_flags c j p (Some s) = popped_flags j (can_store c p) (word_at c (right_of s)) (word_at c (below s 1)) (word_at c (below s 2))
pointer_flags c j p None = tt

dismissed_flags : (c : Core) (j : Job) (p : ℕ) → PopsFlags (after_dismissal c j p)
unfolding after_dismissal
dismissed_flags c j p = pointer_flags c j p (word_at c p)

dismissed_leaves : (x : View) (p w : ℕ) (r : Result Exit Fault) → named_flags x.own.job.flags ≡ x.own.job.flags → PopsFlags r
    → LeavesFlags (dismissed_by x p w r)
dismissed_leaves x p w (Ok e) h k = k
dismissed_leaves x p w (Err f) h k = h

dismiss_leaves : (x : View) (a : Ask) → named_flags x.own.job.flags ≡ x.own.job.flags → LeavesFlags (dismiss x a)
unfolding dismiss
dismiss_leaves x a h = go (place_of_input a 0)
  where
    go : (o : Option ℕ) → LeavesFlags (dismiss_at x a o)
    go (Some p) = dismissed_leaves x p (input a 0) (after_dismissal x.own.core x.own.job p) h (dismissed_flags x.own.core x.own.job p)
    go None = advanced_flagged 1 x.own.job h

-- USRVAR
own_leaves : (x : View) (h : named_flags x.own.job.flags ≡ x.own.job.flags) (a : Ask) (y : Variable) (b : Bool) → LeavesFlags (set_own x a y b)
own_leaves x h a y true = variable_flagged y (input a 2) (with_advance 2 x.own.job) (advanced_flagged 2 x.own.job h)
own_leaves x h a y false = advanced_flagged 2 x.own.job h

own_variable_leaves : (x : View) (h : named_flags x.own.job.flags ≡ x.own.job.flags) (a : Ask) (o : Option Variable) → LeavesFlags (own_variable x a o)
own_variable_leaves x h a None = advanced_flagged 1 x.own.job h
own_variable_leaves x h a (Some y) =
    by_test LeavesFlags (has_input a 2 && not (by_oneself y)) (fails x a 0o22) (set_own x a y (has_input a 2))
    (λ t. advanced_flagged 1 x.own.job h) (λ t. own_leaves x h a y (has_input a 2))

other_variable_leaves : (x : View) (h : named_flags x.own.job.flags ≡ x.own.job.flags) (a : Ask) (k : ℕ) (write : Bool)
    (o : Option Variable) → LeavesFlags (other_variable x a k write o)
other_variable_leaves x h a k write None = advanced_flagged 1 x.own.job h
other_variable_leaves x h a k write (Some y) =
    first_holds LeavesFlags
    (((has_input a 2 && not write) ⇒ fails x a 0o5) ∷ ((has_input a 2 && not (by_superior y)) ⇒ fails x a 0o22) ∷ [])
    (finishes x (set_other k y (input a 2) (has_input a 2)) (out a.outputs.items (value_of_other k y x.other)))
    (λ t. advanced_flagged 1 x.own.job h, (λ t. advanced_flagged 1 x.own.job h, tt)) (λ t. advanced_flagged 2 x.own.job h)

usrvar_leaves : (x : View) (h : named_flags x.own.job.flags ≡ x.own.job.flags) (a : Ask) → LeavesFlags (usrvar x a)
unfolding usrvar
usrvar_leaves x h a = go (party x (input a 0))
  where
    go : (p : Party) → LeavesFlags (usrvar_of x a p)
    go Oneself = own_variable_leaves x h a (variable_named (input a 1))
    go (Channel (On k write at)) = other_variable_leaves x h a k write (variable_named (input a 1))
    go _ = advanced_flagged 1 x.own.job h

-- the ways in which a call goes on or ends
ways_leave : (x : View) (a : Ask) → named_flags x.own.job.flags ≡ x.own.job.flags → Ways LeavesFlags Any x a
ways_leave x a h = record {
  failing = λ k. advanced_flagged 1 x.own.job h;
  faulting = λ f. h;
  stuck = advanced_flagged 1 x.own.job h;
  opening = λ t f b. advanced_flagged 2 x.own.job h;
  arming = λ n t. advanced_flagged 2 x.own.job h;
  ending = λ cs ss t. advanced_flagged 2 x.own.job h;
  moved = λ cs ss t. advanced_flagged 1 x.own.job h;
  going = λ cs o vs t. tt;
}

-- OPEN of an inferior
makes_leaves : (x : View) (h : named_flags x.own.job.flags ≡ x.own.job.flags) (a : Ask) (n u y : ℕ) (o : Option ℕ) → LeavesFlags (makes_job x a n u y o)
makes_leaves x h a n u y (Some s) = advanced_flagged 2 x.own.job h
makes_leaves x h a n u y None = advanced_flagged 1 x.own.job h

job_leaves : (x : View) (h : named_flags x.own.job.flags ≡ x.own.job.flags) (a : Ask) (n u y : ℕ) (write : Bool) (o : Option ℕ)
    → LeavesFlags (opens_job x a n u y write o)
job_leaves x h a n u y write (Some s) = advanced_flagged 2 x.own.job h
job_leaves x h a n u y write None =
    let one = advanced_flagged 1 x.own.job h in
    first_holds LeavesFlags (any_named x u y ⇒ fails x a 0o13 ∷ not write ⇒ fails x a 0o12 ∷ [])
    (makes_job x a n u y (least_free x.limit x.outlines)) (λ t. one, (λ t. one, tt))
    (λ t. makes_leaves x h a n u y (least_free x.limit x.outlines))

opens_usr_leaves : (x : View) (h : named_flags x.own.job.flags ≡ x.own.job.flags) (a : Ask) → LeavesFlags (opens_usr x a)
unfolding opens_usr
opens_usr_leaves x h a =
    let control = unwrap_or a.control 0 in
    let one = advanced_flagged 1 x.own.job h in
    let o = inferior_named x (input a 2) (input a 3) in
    first_holds LeavesFlags (usr_tests x a (input a 0) control) (opens_job x a (input a 0) (input a 2) (input a 3) (control == 1) o)
    (λ t. one, (λ t. one, tt))
    (λ t. job_leaves x h a (input a 0) (input a 2) (input a 3) (control == 1) o)

-- UCLOSE and TTYLND
uclose_leaves : (x : View) (h : named_flags x.own.job.flags ≡ x.own.job.flags) (a : Ask) → LeavesFlags (uclose x a)
unfolding uclose
uclose_leaves x h a = go (channel_at x.own.channels (input a 0))
  where
    go : (c : Chan) → LeavesFlags (uclose_on x a c)
    go (On s write at) = advanced_flagged 2 x.own.job h
    go _ = advanced_flagged 1 x.own.job h

lands_leaves : (x : View) (h : named_flags x.own.job.flags ≡ x.own.job.flags) (a : Ask) (may : Bool) (error k : ℕ) → LeavesFlags (lands x a may error k)
lands_leaves x h a may error k =
    first_holds LeavesFlags (not (has_console x) ⇒ fails x a 0o5 ∷ not may ⇒ fails x a error ∷ []) (finishes x (changes.Hold (view_console x) k ∷ []) [])
    (λ t. advanced_flagged 1 x.own.job h, (λ t. advanced_flagged 1 x.own.job h, tt)) (λ t. advanced_flagged 2 x.own.job h)

ttylnd_leaves : (x : View) (h : named_flags x.own.job.flags ≡ x.own.job.flags) (a : Ask) → LeavesFlags (ttylnd x a)
unfolding ttylnd
ttylnd_leaves x h a = go (party x (input a 0))
  where
    go : (p : Party) → LeavesFlags (ttylnd_of x a p)
    go Oneself = lands_leaves x h a (can_take x (x.holders (view_console x))) 0o13 x.slot
    go (Channel (On k write at)) = lands_leaves x h a (is_holder x (x.holders (view_console x))) 0o5 k
    go _ = advanced_flagged 1 x.own.job h

apart_leaves : (x : View) (a : Ask) → named_flags x.own.job.flags ≡ x.own.job.flags → Apart LeavesFlags x a
apart_leaves x a h = record {
  dismiss = dismiss_leaves x a h;
  usrvar = usrvar_leaves x h a;
  logout = tt;
  opens_usr = opens_usr_leaves x h a;
  ttylnd = ttylnd_leaves x h a;
  uclose = uclose_leaves x h a;
}

pub decided_leaves : (x : View) (a : Ask) → named_flags x.own.job.flags ≡ x.own.job.flags → LeavesFlags (decided x a)
unfolding decided
decided_leaves x a h =
    let o = call_named a.name in
    by_test LeavesFlags (a.fail == 0) (decided_by x a o) (fails x a a.fail)
    (λ t. call_ways LeavesFlags Any x a o (ways_leave x a h) (λ c i s at write is reaches on. tt) (λ r. tt) (apart_leaves x a h))
    (λ t. advanced_flagged 1 x.own.job h)

pub decision_leaves : (m : Machine) (j : ℕ) (q : Whole) (a : Ask) → named_flags q.job.flags ≡ q.job.flags → LeavesFlags (decision m j q a)
unfolding decision view
decision_leaves m j q a h = decided_leaves (view m j q (target q a)) a h

-- a call
pub held_job : (a : Ask) (h : Option Held) (q : Whole) → (with_held a h q).job ≡ q.job
held_job a None q = refl
held_job a (Some b) q = refl

acted_flagged : (m : Machine) (j : ℕ) (a : Ask) (ks : List ℕ) (d : Decision) → LeavesFlags d → Flagged m → AllOf (λ t. Flagged t.machine) (acted m j a ks d)
unfolding acted
acted_flagged m j a ks (Waits r) l h = tt
acted_flagged m j a ks (Goes cs b vs) l h =
    job_flagged (effects cs.items j m) j _ (λ q x. subst (λ (i : Job). named_flags i.flags ≡ i.flags)
    (sym (held_job (with_new_values a vs.items) b q)) x) (effects_flagged cs.items j m h)
acted_flagged m j a ks (Ends cs ss e) l h = job_flagged (effects cs.items j m) j _ (λ q x. l) (effects_flagged cs.items j m h)
acted_flagged m j a ks (Gone cs) l h = effects_flagged (changes.Remove j ∷ cs.items) j m h

-- a unit
pub unit_flagged : (c : Core) (j : Job) (d : Core) (k : Job) → unit c j ≡ Changed d k → named_flags k.flags ≡ k.flags
unit_flagged c j d k e = (unit_keeps c j d k e).flags

-- a delivery
stores_flagged : (c : Core) (j : Job) (e : Entry) (ss : List Store) (o : Option Fault) → named_flags j.flags ≡ j.flags
    → named_flags (by_stores c j e ss o).job.flags ≡ (by_stores c j e ss o).job.flags
unfolding at_handler
stores_flagged c j e ss None h = refl
stores_flagged c j e ss (Some f) h = h

pushes_flagged : (c : Core) (j : Job) (e : Entry) (p : ℕ) (o : Option ℕ) → named_flags j.flags ≡ j.flags
    → named_flags (by_pointer c j e p o).job.flags ≡ (by_pointer c j e p o).job.flags
pushes_flagged c j e p (Some s) h = stores_flagged c j e (pushed j e p s) (first_fault c (pushed j e p s)) h
pushes_flagged c j e p None h = h

entry_flagged : (c : Core) (j : Job) (o : Option ℕ) (e : Option Entry) → named_flags j.flags ≡ j.flags
    → named_flags (by_entry c j o e).job.flags ≡ (by_entry c j o e).job.flags
entry_flagged c j (Some v) (Some e) h = pushes_flagged c j e (right_of v) (word_at c (right_of v)) h
entry_flagged c j (Some v) None h = h
entry_flagged c j None e h = h

length_flagged : (c : Core) (j : Job) (t : ℕ) (o : Option ℕ) → named_flags j.flags ≡ j.flags
    → named_flags (by_length c j t o).job.flags ≡ (by_length c j t o).job.flags
length_flagged c j t (Some k) h = entry_flagged c j (word_at c t) (first_entry c j k (t + 1)) h
length_flagged c j t None h = h

table_flagged : (c : Core) (j : Job) (o : Option ℕ) → named_flags j.flags ≡ j.flags → named_flags (by_table c j o).job.flags ≡ (by_table c j o).job.flags
table_flagged c j (Some w) h = length_flagged c j (right_of w) (entries_of w) h
table_flagged c j None h = h

delivered_flagged : (c : Core) (j : Job) → named_flags j.flags ≡ j.flags → named_flags (delivered c j).job.flags ≡ (delivered c j).job.flags
unfolding delivered through_table
delivered_flagged c j h = elim (cases_Bool (unguarded j == 0)) [ inl t ↦ rw t (table_flagged c j (word_at c 0o42) h) | inr t ↦ rw t h ]

-- a step
job_flags : (m : Machine) (j : ℕ) (q : Whole) → Flagged m → m.jobs j ≡ Some q → named_flags q.job.flags ≡ q.job.flags
job_flags m j q h is = subst FlaggedBy is (h.each j)

-- the flags stay the named ones
pub step_flagged : (m n : Machine) (j : ℕ) → Flagged m → step m j ≡ Some n → Flagged n
step_flagged m n j h e = step_has Flagged m n j (λ q is.
    let p = job_flags m j q h is in
    let d = delivered q.core q.job in
    let informed = effects (informs d.stops q.superior) j m in
    record {
      delivers = job_flagged informed j _ (λ i x. delivered_flagged q.core q.job p) (effects_flagged (informs d.stops q.superior) j m h);
      changes = λ c k u. job_flagged m j _ (λ i x. unit_flagged q.core q.job c k u) h;
      faults = λ f. job_flagged m j _ (λ i x. x) h;
      calls = λ a. acted_flagged m j a (reach m j q a) (decision m j q a) (decision_leaves m j q a p) h;
    }) e
