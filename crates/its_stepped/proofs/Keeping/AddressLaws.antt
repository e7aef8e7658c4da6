-- The PC of each job stays an address through the steps of the plain machine.
use Rattle.std.specs.Prelude.{if◌then◌else◌, ◌==◌, ◌&&◌, ◌≡◌, ◌<◌, ℕ, ◌+◌, ◌^◌, Bool, true, false, not, Option, Some, None, IfSome, List, [], ◌∷◌, unwrap_or, Result, Ok, Err, option_map, refl}
use Rattle.std.proofs.Common.{sym, subst, arith}
use Rattle.std.proofs.lemmas.Nat.{mod_below}
use Rattle.its_word.specs.Core.{Core, can_store, word_at}
use Rattle.its_records.specs.Tree.{fresh_job, least_free}
use Rattle.its_word.specs.Word.{right_of}
use Rattle.its_word.specs.declared.access.Fault.{Fault}
use Rattle.its_records.specs.declared.calls.Ask.{Ask}
use Rattle.its_records.specs.declared.calls.Exit.{Exit}
use Rattle.its_records.specs.declared.jobs.Job.{Job}
use Rattle.its_frame.specs.declared.change.Change.{Change}
use Rattle.its_frame.specs.declared.change.Change.TheVariants as changes
use Rattle.its_frame.specs.declared.decision.Decision.{Decision}
use Rattle.its_frame.specs.declared.decision.Decision.TheVariants.{Waits, Goes, Ends, Gone}
use Rattle.its_frame.specs.declared.decision.Held.{Held}
use Rattle.its_frame.specs.declared.variable.Variable.{Variable}
use Rattle.its_frame.specs.declared.variable.Variable.TheVariants.{Upc}
use Rattle.its_plain.specs.Call.Arguments.{input, has_input, place_of_input, with_new_values}
use Rattle.its_frame.specs.Variables.{variable_named}
use Rattle.its_plain.specs.Call.Basic.{dismissed_by, dismiss_at, dismiss, Party, Oneself, Channel, by_oneself, by_superior, set_own, own_variable, set_other, value_of_other, other_variable, usrvar_of, channel_at, party, usrvar}
use Rattle.its_plain.specs.Call.Tty.{view_console, has_console, can_take, is_holder, lands, ttylnd_of, ttylnd}
use Rattle.its_plain.specs.Call.Step.{with_held, acted, decision, informs, step}
use Rattle.its_plain.specs.Call.Usr.{inferior_named, any_named, makes_job, opens_job, usr_tests, opens_usr, uclose_on, uclose}
use Rattle.its_plain.specs.Machine.Change.{in_job, is_gone, job_after_removal, after_removal, superiors, inferior, effect, effects}
use Rattle.its_plain.specs.Call.Decide.{call_named, decided_by, decided, target, reach}
use Rattle.its_plain.specs.Unit.Interrupt as interrupt
use Rattle.its_plain.specs.Unit.Interrupt.{delivered, after_dismissal, after_dismissal_at, below}
use Rattle.its_plain.specs.Machine.{Chan, Shut, On, Linked, Whole, Machine, no_machine, with_new}
use Rattle.its_plain.specs.Machine.Own.{on_channel, with_variable, with_advance}
use Rattle.its_plain.specs.Call.Tests.{◌⇒◌, finishes, fails, out}
use Rattle.its_plain.specs.Unit.{Changed, unit}
use Rattle.its_plain.specs.Machine.View.{View, view}
use Rattle.its_plain.proofs.DeliveryLaws.{delivered_placed}
use Rattle.its_plain.proofs.UnitLaws.{unit_keeps}
use Rattle.its_stepped.specs.Address.{Addressed}
use Rattle.its_stepped.proofs.Committing.TestLaws.{by_test, first_holds}
use Rattle.its_plain.proofs.StepLaws.{AllOf, step_has}
use Rattle.its_stepped.proofs.Duties.CallWays.{Any, Ways, Apart, call_ways}

-- at the start of a session
pub addressed_starts : Addressed no_machine
unfolding no_machine
addressed_starts = record { each = λ k. tt }

-- one job
abbrev pub AddressedBy : Option Whole → Type 0
AddressedBy o = IfSome o (λ q. q.job.pc < 2 ^ 18)

mapped_addressed : (f : Whole → Whole) (b : Bool) (o : Option Whole) → ((q : Whole) → q.job.pc < 2 ^ 18 → (f q).job.pc < 2 ^ 18)
    → AddressedBy o → AddressedBy (if b then option_map f o else o)
mapped_addressed f true (Some q) h a = h q a
mapped_addressed f true None h a = tt
mapped_addressed f false o h a = a

pub job_addressed : (m : Machine) (s : ℕ) (f : Whole → Whole) → ((q : Whole) → q.job.pc < 2 ^ 18 → (f q).job.pc < 2 ^ 18) → Addressed m
    → Addressed (in_job m s f)
job_addressed m s f h a = record { each = λ k. mapped_addressed f (k == s) (m.jobs k) h (a.each k) }

-- another machine with the same jobs
jobs_addressed : (m n : Machine) → n.jobs ≡ m.jobs → Addressed m → Addressed n
jobs_addressed m n e a = record { each = λ k. subst (λ (jobs : ℕ → Option Whole). AddressedBy (jobs k)) (sym e) (a.each k) }

-- a removal
removed_job : (gone : ℕ → Bool) (b : Bool) (o : Option Whole) → AddressedBy o → AddressedBy (job_after_removal gone b o)
removed_job gone true o a = tt
removed_job gone false None a = tt
removed_job gone false (Some q) a = a

removed_addressed : (sup : ℕ → Option ℕ) (r : ℕ) (m : Machine) → Addressed m → Addressed (after_removal sup r m)
unfolding after_removal
removed_addressed sup r m a = record { each = λ k. removed_job (is_gone sup r) (is_gone sup r k) (m.jobs k) (a.each k) }

-- a job that is made
either_addressed : (b : Bool) (p o : Option Whole) → AddressedBy p → AddressedBy o → AddressedBy (if b then p else o)
either_addressed true p o x a = x
either_addressed false p o x a = a

inferior_addressed : (j : ℕ) (o : Option Whole) (u n : ℕ) → (inferior j o u n).job.pc < 2 ^ 18
unfolding fresh_job
inferior_addressed j o u n = omega arith

made_addressed : (m : Machine) (j s u n : ℕ) → Addressed m → Addressed (with_new m s (inferior j (m.jobs j) u n))
made_addressed m j s u n a = record {
  each = λ k. either_addressed (k == s) (Some (inferior j (m.jobs j) u n)) (m.jobs k)
      (inferior_addressed j (m.jobs j) u n) (a.each k);
}

-- a variable that is set
pub variable_addressed : (v : Variable) (w : ℕ) (j : Job) → j.pc < 2 ^ 18 → (with_variable v w j).pc < 2 ^ 18
unfolding with_variable
variable_addressed Upc w j h = mod_below w (2 ^ 18) (omega arith)
variable_addressed _ w j h = h

-- a change
pub effect_addressed : (c : Change) (j : ℕ) (m : Machine) → Addressed m → Addressed (effect c j m)
unfolding effect
effect_addressed (changes.Close n) j m a = jobs_addressed (in_job m j (on_channel n (λ c. Shut))) _ refl (job_addressed m j _ (λ q x. x) a)
effect_addressed (changes.Take c) j m a = jobs_addressed m _ refl a
effect_addressed (changes.Put c b) j m a = jobs_addressed m _ refl a
effect_addressed (changes.Hold c s) j m a = jobs_addressed m _ refl a
effect_addressed (changes.Poke s p w) j m a = job_addressed m s _ (λ q x. x) a
effect_addressed (changes.Set s v w) j m a = job_addressed m s _ (λ q x. variable_addressed v w q.job x) a
effect_addressed (changes.Map s k) j m a = job_addressed m s _ (λ q x. x) a
effect_addressed (changes.Unmap s k) j m a = job_addressed m s _ (λ q x. x) a
effect_addressed (changes.Protect s k on) j m a = job_addressed m s _ (λ q x. x) a
effect_addressed (changes.Make s u n) j m a = made_addressed m j s u n a
effect_addressed (changes.Remove s) j m a = removed_addressed (superiors m) s m a
effect_addressed (changes.Inform s) j m a = job_addressed m s _ (λ q x. x) a
effect_addressed (changes.Join n l write x y) j m a =
    jobs_addressed (in_job m j (on_channel n (λ c. Linked l write))) _ refl (job_addressed m j _ (λ q x. x) a)
effect_addressed (changes.CloseEnd n l write) j m a = jobs_addressed (in_job m j (on_channel n (λ c. Shut))) _ refl (job_addressed m j _ (λ q x. x) a)
effect_addressed (changes.Send l w) j m a = jobs_addressed m _ refl a
effect_addressed (changes.Receive l) j m a = jobs_addressed m _ refl a
effect_addressed (changes.Delete x y z) j m a = jobs_addressed m _ refl a
effect_addressed (changes.Rename x y z u v) j m a = jobs_addressed m _ refl a
effect_addressed _ j m a = job_addressed m j _ (λ q x. x) a

pub effects_addressed : (cs : List Change) (j : ℕ) (m : Machine) → Addressed m → Addressed (effects cs j m)
effects_addressed [] j m a = a
effects_addressed (c ∷ cs) j m a = effects_addressed cs j (effect c j m) (effect_addressed c j m a)

-- a decision that leaves its job at an address
abbrev pub LeavesAddress : Decision → Type 0
LeavesAddress (Waits r) = Unit {0}
LeavesAddress (Goes cs h vs) = Unit {0}
LeavesAddress (Ends cs ss e) = e.pc < 2 ^ 18
LeavesAddress (Gone cs) = Unit {0}

pub advanced_addressed : (n : ℕ) (j : Job) → (with_advance n j).pc < 2 ^ 18
advanced_addressed n j = mod_below (j.pc + n) (2 ^ 18) (omega arith)

-- DISMIS
abbrev PopsAddress : Result Exit Fault → Type 0
PopsAddress (Ok e) = e.pc < 2 ^ 18
PopsAddress (Err f) = Unit {0}

popped_address : (j : Job) (can : Bool) (o p r : Option ℕ) → PopsAddress (interrupt.after_dismissal_by j can o p r)
popped_address j true (Some w) (Some d) (Some e) = mod_below w (2 ^ 18) (omega arith)
popped_address j false (Some w) (Some d) (Some e) = tt
popped_address j can (Some w) (Some d) None = tt
popped_address j can (Some w) None r = tt
popped_address j can None p r = tt

pointer_address : (c : Core) (j : Job) (p : ℕ) (o : Option ℕ) → PopsAddress (after_dismissal_at c j p o)
pointer_address c j p (Some s) = popped_address j (can_store c p) (word_at c (right_of s)) (word_at c (below s 1)) (word_at c (below s 2))
pointer_address c j p None = tt

dismissed_address : (c : Core) (j : Job) (p : ℕ) → PopsAddress (after_dismissal c j p)
unfolding after_dismissal
dismissed_address c j p = pointer_address c j p (word_at c p)

dismissed_leaves : (x : View) (p w : ℕ) (r : Result Exit Fault) → x.own.job.pc < 2 ^ 18 → PopsAddress r → LeavesAddress (dismissed_by x p w r)
dismissed_leaves x p w (Ok e) h k = k
dismissed_leaves x p w (Err f) h k = h

dismiss_leaves : (x : View) (a : Ask) → x.own.job.pc < 2 ^ 18 → LeavesAddress (dismiss x a)
unfolding dismiss
dismiss_leaves x a h = go (place_of_input a 0)
  where
    go : (o : Option ℕ) → LeavesAddress (dismiss_at x a o)
    go (Some p) = dismissed_leaves x p (input a 0) (after_dismissal x.own.core x.own.job p) h (dismissed_address x.own.core x.own.job p)
    go None = advanced_addressed 1 x.own.job

-- USRVAR
own_leaves : (x : View) (a : Ask) (y : Variable) (b : Bool) → LeavesAddress (set_own x a y b)
own_leaves x a y true = variable_addressed y (input a 2) (with_advance 2 x.own.job) (advanced_addressed 2 x.own.job)
own_leaves x a y false = advanced_addressed 2 x.own.job

own_variable_leaves : (x : View) (a : Ask) (o : Option Variable) → LeavesAddress (own_variable x a o)
own_variable_leaves x a None = advanced_addressed 1 x.own.job
own_variable_leaves x a (Some y) =
    by_test LeavesAddress (has_input a 2 && not (by_oneself y)) (fails x a 0o22) (set_own x a y (has_input a 2))
    (λ t. advanced_addressed 1 x.own.job) (λ t. own_leaves x a y (has_input a 2))

other_variable_leaves : (x : View) (a : Ask) (k : ℕ) (write : Bool) (o : Option Variable) → LeavesAddress (other_variable x a k write o)
other_variable_leaves x a k write None = advanced_addressed 1 x.own.job
other_variable_leaves x a k write (Some y) =
    first_holds LeavesAddress
    (((has_input a 2 && not write) ⇒ fails x a 0o5) ∷ ((has_input a 2 && not (by_superior y)) ⇒ fails x a 0o22) ∷ [])
    (finishes x (set_other k y (input a 2) (has_input a 2)) (out a.outputs.items (value_of_other k y x.other)))
    (λ t. advanced_addressed 1 x.own.job, (λ t. advanced_addressed 1 x.own.job, tt)) (λ t. advanced_addressed 2 x.own.job)

usrvar_leaves : (x : View) (a : Ask) → LeavesAddress (usrvar x a)
unfolding usrvar
usrvar_leaves x a = go (party x (input a 0))
  where
    go : (p : Party) → LeavesAddress (usrvar_of x a p)
    go Oneself = own_variable_leaves x a (variable_named (input a 1))
    go (Channel (On k write at)) = other_variable_leaves x a k write (variable_named (input a 1))
    go _ = advanced_addressed 1 x.own.job

-- the ways in which a call goes on or ends
ways_leave : (x : View) (a : Ask) → x.own.job.pc < 2 ^ 18 → Ways LeavesAddress Any x a
ways_leave x a h = record {
  failing = λ k. advanced_addressed 1 x.own.job;
  faulting = λ f. h;
  stuck = advanced_addressed 1 x.own.job;
  opening = λ t f b. advanced_addressed 2 x.own.job;
  arming = λ n t. advanced_addressed 2 x.own.job;
  ending = λ cs ss t. advanced_addressed 2 x.own.job;
  moved = λ cs ss t. advanced_addressed 1 x.own.job;
  going = λ cs o vs t. tt;
}

-- OPEN of an inferior
makes_leaves : (x : View) (a : Ask) (n u y : ℕ) (o : Option ℕ) → LeavesAddress (makes_job x a n u y o)
makes_leaves x a n u y (Some s) = advanced_addressed 2 x.own.job
makes_leaves x a n u y None = advanced_addressed 1 x.own.job

job_leaves : (x : View) (a : Ask) (n u y : ℕ) (write : Bool) (o : Option ℕ) → LeavesAddress (opens_job x a n u y write o)
job_leaves x a n u y write (Some s) = advanced_addressed 2 x.own.job
job_leaves x a n u y write None =
    let one = advanced_addressed 1 x.own.job in
    first_holds LeavesAddress (any_named x u y ⇒ fails x a 0o13 ∷ not write ⇒ fails x a 0o12 ∷ [])
    (makes_job x a n u y (least_free x.limit x.outlines)) (λ t. one, (λ t. one, tt))
    (λ t. makes_leaves x a n u y (least_free x.limit x.outlines))

opens_usr_leaves : (x : View) (a : Ask) → LeavesAddress (opens_usr x a)
unfolding opens_usr
opens_usr_leaves x a =
    let control = unwrap_or a.control 0 in
    let one = advanced_addressed 1 x.own.job in
    let o = inferior_named x (input a 2) (input a 3) in
    first_holds LeavesAddress (usr_tests x a (input a 0) control) (opens_job x a (input a 0) (input a 2) (input a 3) (control == 1) o)
    (λ t. one, (λ t. one, tt))
    (λ t. job_leaves x a (input a 0) (input a 2) (input a 3) (control == 1) o)

-- UCLOSE and TTYLND
uclose_leaves : (x : View) (a : Ask) → LeavesAddress (uclose x a)
unfolding uclose
uclose_leaves x a = go (channel_at x.own.channels (input a 0))
  where
    go : (c : Chan) → LeavesAddress (uclose_on x a c)
    go (On s write at) = advanced_addressed 2 x.own.job
    go _ = advanced_addressed 1 x.own.job

lands_leaves : (x : View) (a : Ask) (may : Bool) (error k : ℕ) → LeavesAddress (lands x a may error k)
lands_leaves x a may error k =
    first_holds LeavesAddress (not (has_console x) ⇒ fails x a 0o5 ∷ not may ⇒ fails x a error ∷ []) (finishes x (changes.Hold (view_console x) k ∷ []) [])
    (λ t. advanced_addressed 1 x.own.job, (λ t. advanced_addressed 1 x.own.job, tt)) (λ t. advanced_addressed 2 x.own.job)

ttylnd_leaves : (x : View) (a : Ask) → LeavesAddress (ttylnd x a)
unfolding ttylnd
ttylnd_leaves x a = go (party x (input a 0))
  where
    go : (p : Party) → LeavesAddress (ttylnd_of x a p)
    go Oneself = lands_leaves x a (can_take x (x.holders (view_console x))) 0o13 x.slot
    go (Channel (On k write at)) = lands_leaves x a (is_holder x (x.holders (view_console x))) 0o5 k
    go _ = advanced_addressed 1 x.own.job

apart_leaves : (x : View) (a : Ask) → x.own.job.pc < 2 ^ 18 → Apart LeavesAddress x a
apart_leaves x a h = record {
  dismiss = dismiss_leaves x a h;
  usrvar = usrvar_leaves x a;
  logout = tt;
  opens_usr = opens_usr_leaves x a;
  ttylnd = ttylnd_leaves x a;
  uclose = uclose_leaves x a;
}

pub decided_leaves : (x : View) (a : Ask) → x.own.job.pc < 2 ^ 18 → LeavesAddress (decided x a)
unfolding decided
decided_leaves x a h =
    let o = call_named a.name in
    by_test LeavesAddress (a.fail == 0) (decided_by x a o) (fails x a a.fail)
    (λ t. call_ways LeavesAddress Any x a o (ways_leave x a h) (λ c i s at write is reaches on. tt) (λ r. tt) (apart_leaves x a h))
    (λ t. advanced_addressed 1 x.own.job)

pub decision_leaves : (m : Machine) (j : ℕ) (q : Whole) (a : Ask) → q.job.pc < 2 ^ 18 → LeavesAddress (decision m j q a)
unfolding decision view
decision_leaves m j q a h = decided_leaves (view m j q (target q a)) a h

-- a call
pub held_job : (a : Ask) (h : Option Held) (q : Whole) → (with_held a h q).job ≡ q.job
held_job a None q = refl
held_job a (Some b) q = refl

acted_addressed : (m : Machine) (j : ℕ) (a : Ask) (ks : List ℕ) (d : Decision) → LeavesAddress d → Addressed m
    → AllOf (λ t. Addressed t.machine) (acted m j a ks d)
unfolding acted
acted_addressed m j a ks (Waits r) l h = tt
acted_addressed m j a ks (Goes cs b vs) l h =
    job_addressed (effects cs.items j m) j _ (λ q x. subst (λ (i : Job). i.pc < 2 ^ 18) (sym (held_job (with_new_values a vs.items) b q)) x)
    (effects_addressed cs.items j m h)
acted_addressed m j a ks (Ends cs ss e) l h = job_addressed (effects cs.items j m) j _ (λ q x. l) (effects_addressed cs.items j m h)
acted_addressed m j a ks (Gone cs) l h = effects_addressed (changes.Remove j ∷ cs.items) j m h

-- a unit
pub unit_addressed : (c : Core) (j : Job) (d : Core) (k : Job) → unit c j ≡ Changed d k → k.pc < 2 ^ 18
unit_addressed c j d k e = (unit_keeps c j d k e).pc

-- a step
job_pc : (m : Machine) (j : ℕ) (q : Whole) → Addressed m → m.jobs j ≡ Some q → q.job.pc < 2 ^ 18
job_pc m j q h is = subst AddressedBy is (h.each j)

-- each PC stays an address
pub step_addressed : (m n : Machine) (j : ℕ) → Addressed m → step m j ≡ Some n → Addressed n
step_addressed m n j h e = step_has Addressed m n j (λ q is.
    let p = job_pc m j q h is in
    let d = delivered q.core q.job in
    let informed = effects (informs d.stops q.superior) j m in
    record {
      delivers = job_addressed informed j _ (λ i x. delivered_placed q.core q.job p) (effects_addressed (informs d.stops q.superior) j m h);
      changes = λ c k u. job_addressed m j _ (λ i x. unit_addressed q.core q.job c k u) h;
      faults = λ f. job_addressed m j _ (λ i x. x) h;
      calls = λ a. acted_addressed m j a (reach m j q a) (decision m j q a) (decision_leaves m j q a p) h;
    }) e
