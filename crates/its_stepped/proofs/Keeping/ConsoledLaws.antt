-- The console of each job stays one of eight through LOAD and through the steps of the plain
-- machine: a step changes no console, and gives that of its own job to one that it makes.
use Rattle.std.specs.Prelude.{if◌then◌else◌, ◌==◌, ◌≡◌, ◌<◌, ℕ, ◌+◌, Bool, true, false, Option, Some, None, IfSome, List, [], ◌∷◌, Result, Ok, Err, option_map, refl}
use Rattle.std.proofs.Common.{sym, subst, inl, inr}
use Rattle.std.proofs.lemmas.Bool.{cases_Bool}
use Rattle.its_word.specs.Core.{Core, word_at}
use Rattle.its_records.specs.Tree.{least_free, fresh_job}
use Rattle.its_word.specs.Word.{right_of}
use Rattle.its_word.specs.declared.access.Fault.{Fault}
use Rattle.its_records.specs.declared.calls.Ask.{Ask}
use Rattle.its_records.specs.declared.calls.Owed.{Owed}
use Rattle.its_records.specs.declared.calls.Owed.TheVariants as owed
use Rattle.its_records.specs.declared.calls.Owed.TheVariants.{GiveBack, Unlink, Link, Free, Leave}
use Rattle.its_records.specs.declared.jobs.Job.{Job}
use Rattle.its_word.specs.declared.plan.Store.{Store}
use Rattle.its_records.specs.declared.session.Reason.{Reason}
use Rattle.its_word.specs.Stores.{first_fault}
use Rattle.its_frame.specs.declared.change.Change.{Change}
use Rattle.its_frame.specs.declared.change.Change.TheVariants as changes
use Rattle.its_frame.specs.declared.decision.Decision.{Decision}
use Rattle.its_frame.specs.declared.decision.Decision.TheVariants.{Waits, Goes, Ends, Gone}
use Rattle.its_frame.specs.declared.decision.Held.{Held}
use Rattle.its_frame.specs.declared.frame.Frame.{Frame}
use Rattle.its_frame.specs.declared.frame.Frame.TheVariants.{Ending}
use Rattle.its_frame.specs.declared.variable.Variable.{Variable}
use Rattle.its_frame.specs.declared.variable.Variable.TheVariants.{Uname, Jname, Uind, Suppro, Cnsl, Pages, Upc, Ustp, Pirqc, Ifpir, Mask, Msk2, Df1, Df2}
use Rattle.its_plain.specs.Call.Arguments.{with_new_values}
use Rattle.its_plain.specs.Call.Step.{with_held, acted, decision, informs, step}
use Rattle.its_plain.specs.Machine.Change.{in_job, is_gone, job_after_removal, after_removal, superiors, console_in, inferior, poke, effect, effects}
use Rattle.its_plain.specs.Unit.Interrupt.{Entry, entries_of, first_entry, pushed, at_handler, by_stores, by_pointer, by_entry, by_length, by_table, through_table, unguarded, delivered}
use Rattle.its_plain.specs.Machine.{Shut, Linked, Whole, Machine, with_job, no_machine, limit, with_new}
use Rattle.its_plain.specs.Operator.Jobs.{new_job, with_holder, after_load_in, after_load}
use Rattle.its_plain.specs.Machine.Own.{with_stores, after_leave, on_channel, with_variable}
use Rattle.its_plain.specs.Unit.{Changed, unit}
use Rattle.its_plain.proofs.UnitLaws.{unit_keeps}
use Rattle.its_stepped.specs.Consoled.{Consoled}
use Rattle.its_stepped.specs.State.{State, after_owed, seen, plain}
use Rattle.its_plain.proofs.StepLaws.{AllOf, step_has}
use Rattle.its_plain.specs.Call.Decide.{reach}

-- one job
abbrev pub Housed : Option ℕ → Type 0
Housed console = IfSome console (λ c. c < 8)

abbrev pub HousedBy : Option Whole → Type 0
HousedBy o = IfSome o (λ q. Housed q.job.console)

-- at the start of a session
pub consoled_starts : Consoled no_machine
unfolding no_machine
consoled_starts = record { each = λ k. tt }

-- a job that changes
mapped_housed : (f : Whole → Whole) (b : Bool) (o : Option Whole) → ((q : Whole) → Housed q.job.console → Housed (f q).job.console)
    → HousedBy o → HousedBy (if b then option_map f o else o)
mapped_housed f true (Some q) h a = h q a
mapped_housed f true None h a = tt
mapped_housed f false o h a = a

changed_consoled : (m : Machine) (s : ℕ) (f : Whole → Whole) → ((q : Whole) → Housed q.job.console → Housed (f q).job.console) → Consoled m
    → Consoled (in_job m s f)
changed_consoled m s f h a = record { each = λ k. mapped_housed f (k == s) (m.jobs k) h (a.each k) }

pub job_consoled : (m : Machine) (s : ℕ) (f : Whole → Whole) → ((q : Whole) → (f q).job.console ≡ q.job.console) → Consoled m → Consoled (in_job m s f)
job_consoled m s f h a = changed_consoled m s f (λ q x. subst Housed (sym (h q)) x) a

-- another machine with the same jobs
pub jobs_consoled : (m n : Machine) → n.jobs ≡ m.jobs → Consoled m → Consoled n
jobs_consoled m n e a = record { each = λ k. subst (λ (jobs : ℕ → Option Whole). HousedBy (jobs k)) (sym e) (a.each k) }

-- a slot that is filled
either_housed : (b : Bool) (p o : Option Whole) → HousedBy p → HousedBy o → HousedBy (if b then p else o)
either_housed true p o x a = x
either_housed false p o x a = a

pub put_consoled : (m : Machine) (s : ℕ) (q : Whole) → IfSome q.job.console (λ c. c < 8) → Consoled m → Consoled (with_job m s q)
put_consoled m s q h a = record { each = λ k. either_housed (k == s) (Some q) (m.jobs k) h (a.each k) }

-- LOAD
fresh_housed : (u j : ℕ) (console : Option ℕ) → Housed console → Housed (new_job u j console).job.console
unfolding fresh_job
fresh_housed u j console h = h

pub held_consoled : (m : Machine) (s : ℕ) (console : Option ℕ) → Consoled m → Consoled (with_holder m s console)
held_consoled m s (Some c) a = jobs_consoled m _ refl a
held_consoled m s None a = a

abbrev LoadConsoled : Result (Machine × ℕ) Reason → Type 0
LoadConsoled (Ok (n, s)) = Consoled n
LoadConsoled (Err r) = Unit {0}

load_consoled : (m : Machine) (u j : ℕ) (console o : Option ℕ) → Housed console → Consoled m → LoadConsoled (after_load_in m u j console o)
load_consoled m u j console (Some s) h a = held_consoled (with_new m s (new_job u j console)) s console
    (jobs_consoled (with_job m s (new_job u j console)) _ refl (put_consoled m s (new_job u j console) (fresh_housed u j console h) a))
load_consoled m u j console None h a = tt

pub loaded_consoled : (m n : Machine) (u j s : ℕ) (console : Option ℕ) → IfSome console (λ c. c < 8) → Consoled m
    → after_load m u j console ≡ Ok (n, s) → Consoled n
unfolding after_load
loaded_consoled m n u j s console h a e = subst LoadConsoled e (load_consoled m u j console (least_free (limit m) m.jobs) h a)

-- a removal
removed_job : (gone : ℕ → Bool) (b : Bool) (o : Option Whole) → HousedBy o → HousedBy (job_after_removal gone b o)
removed_job gone true o a = tt
removed_job gone false None a = tt
removed_job gone false (Some q) a = a

removed_consoled : (sup : ℕ → Option ℕ) (r : ℕ) (m : Machine) → Consoled m → Consoled (after_removal sup r m)
unfolding after_removal
removed_consoled sup r m a = record { each = λ k. removed_job (is_gone sup r) (is_gone sup r k) (m.jobs k) (a.each k) }

-- a job that is made has its maker's console
console_housed : (o : Option Whole) → HousedBy o → Housed (console_in o)
console_housed (Some q) a = a
console_housed None a = tt

inferior_housed : (j : ℕ) (o : Option Whole) (u n : ℕ) → HousedBy o → Housed (inferior j o u n).job.console
unfolding fresh_job
inferior_housed j o u n a = console_housed o a

made_consoled : (m : Machine) (j s u n : ℕ) → Consoled m → Consoled (with_new m s (inferior j (m.jobs j) u n))
made_consoled m j s u n a = record {
  each = λ k. either_housed (k == s) (Some (inferior j (m.jobs j) u n)) (m.jobs k)
      (inferior_housed j (m.jobs j) u n (a.each j)) (a.each k);
}

-- a variable that is set
pub variable_console : (v : Variable) (w : ℕ) (j : Job) → (with_variable v w j).console ≡ j.console
unfolding with_variable
variable_console Upc w j = refl
variable_console Ustp w j = refl
variable_console Pirqc w j = refl
variable_console Ifpir w j = refl
variable_console Mask w j = refl
variable_console Msk2 w j = refl
variable_console Df1 w j = refl
variable_console Df2 w j = refl
variable_console Uname w j = refl
variable_console Jname w j = refl
variable_console Uind w j = refl
variable_console Suppro w j = refl
variable_console Cnsl w j = refl
variable_console Pages w j = refl

-- a change
effect_consoled : (c : Change) (j : ℕ) (m : Machine) → Consoled m → Consoled (effect c j m)
unfolding effect
effect_consoled (changes.Close n) j m a = jobs_consoled (in_job m j (on_channel n (λ c. Shut))) _ refl (job_consoled m j _ (λ q. refl) a)
effect_consoled (changes.Take c) j m a = jobs_consoled m _ refl a
effect_consoled (changes.Put c b) j m a = jobs_consoled m _ refl a
effect_consoled (changes.Hold c s) j m a = jobs_consoled m _ refl a
effect_consoled (changes.Poke s p w) j m a = job_consoled m s _ (λ q. refl) a
effect_consoled (changes.Set s v w) j m a = job_consoled m s _ (λ q. variable_console v w q.job) a
effect_consoled (changes.Map s k) j m a = job_consoled m s _ (λ q. refl) a
effect_consoled (changes.Unmap s k) j m a = job_consoled m s _ (λ q. refl) a
effect_consoled (changes.Protect s k on) j m a = job_consoled m s _ (λ q. refl) a
effect_consoled (changes.Make s u n) j m a = made_consoled m j s u n a
effect_consoled (changes.Remove s) j m a = removed_consoled (superiors m) s m a
effect_consoled (changes.Inform s) j m a = job_consoled m s _ (λ q. refl) a
effect_consoled (changes.Join n l write x y) j m a =
    jobs_consoled (in_job m j (on_channel n (λ c. Linked l write))) _ refl (job_consoled m j _ (λ q. refl) a)
effect_consoled (changes.CloseEnd n l write) j m a = jobs_consoled (in_job m j (on_channel n (λ c. Shut))) _ refl (job_consoled m j _ (λ q. refl) a)
effect_consoled (changes.Send l w) j m a = jobs_consoled m _ refl a
effect_consoled (changes.Receive l) j m a = jobs_consoled m _ refl a
effect_consoled (changes.Delete x y z) j m a = jobs_consoled m _ refl a
effect_consoled (changes.Rename x y z u v) j m a = jobs_consoled m _ refl a
effect_consoled _ j m a = job_consoled m j _ (λ q. refl) a

effects_consoled : (cs : List Change) (j : ℕ) (m : Machine) → Consoled m → Consoled (effects cs j m)
effects_consoled [] j m a = a
effects_consoled (c ∷ cs) j m a = effects_consoled cs j (effect c j m) (effect_consoled c j m a)

-- a call
pub held_console : (a : Ask) (h : Option Held) (q : Whole) → (with_held a h q).job.console ≡ q.job.console
held_console a None q = refl
held_console a (Some b) q = refl

acted_consoled : (m : Machine) (j : ℕ) (a : Ask) (ks : List ℕ) (d : Decision) → Consoled m → AllOf (λ t. Consoled t.machine) (acted m j a ks d)
unfolding acted
acted_consoled m j a ks (Waits r) h = tt
acted_consoled m j a ks (Goes cs b vs) h = job_consoled (effects cs.items j m) j _ (λ q. held_console (with_new_values a vs.items) b q)
    (effects_consoled cs.items j m h)
acted_consoled m j a ks (Ends cs ss e) h = job_consoled (effects cs.items j m) j _ (λ q. refl) (effects_consoled cs.items j m h)
acted_consoled m j a ks (Gone cs) h = effects_consoled (changes.Remove j ∷ cs.items) j m h

-- a unit
pub unit_console : (c : Core) (j : Job) (d : Core) (k : Job) → unit c j ≡ Changed d k → k.console ≡ j.console
unit_console c j d k e = (unit_keeps c j d k e).registers.console

-- a delivery
stores_console : (c : Core) (j : Job) (e : Entry) (ss : List Store) (o : Option Fault) → (by_stores c j e ss o).job.console ≡ j.console
unfolding at_handler
stores_console c j e ss None = refl
stores_console c j e ss (Some f) = refl

pointer_console : (c : Core) (j : Job) (e : Entry) (p : ℕ) (o : Option ℕ) → (by_pointer c j e p o).job.console ≡ j.console
pointer_console c j e p (Some s) = stores_console c j e (pushed j e p s) (first_fault c (pushed j e p s))
pointer_console c j e p None = refl

entry_console : (c : Core) (j : Job) (o : Option ℕ) (e : Option Entry) → (by_entry c j o e).job.console ≡ j.console
entry_console c j (Some v) (Some e) = pointer_console c j e (right_of v) (word_at c (right_of v))
entry_console c j (Some v) None = refl
entry_console c j None e = refl

length_console : (c : Core) (j : Job) (t : ℕ) (o : Option ℕ) → (by_length c j t o).job.console ≡ j.console
length_console c j t (Some k) = entry_console c j (word_at c t) (first_entry c j k (t + 1))
length_console c j t None = refl

table_console : (c : Core) (j : Job) (o : Option ℕ) → (by_table c j o).job.console ≡ j.console
table_console c j (Some w) = length_console c j (right_of w) (entries_of w)
table_console c j None = refl

pub delivered_console : (c : Core) (j : Job) → (delivered c j).job.console ≡ j.console
unfolding delivered through_table
delivered_console c j = elim (cases_Bool (unguarded j == 0)) [ inl t ↦ rw t (table_console c j (word_at c 0o42)) | inr t ↦ rw t refl ]

-- each console stays one of eight
pub step_consoled : (m n : Machine) (j : ℕ) → Consoled m → step m j ≡ Some n → Consoled n
step_consoled m n j h e = step_has Consoled m n j (λ q is.
    let p : Housed q.job.console = subst HousedBy is (h.each j) in
    let d = delivered q.core q.job in
    let informed = effects (informs d.stops q.superior) j m in
    record {
      delivers = changed_consoled informed j _ (λ i x. subst Housed (sym (delivered_console q.core q.job)) p)
          (effects_consoled (informs d.stops q.superior) j m h);
      changes = λ c k u. changed_consoled m j _ (λ i x. subst Housed (sym (unit_console q.core q.job c k u)) p) h;
      faults = λ f. job_consoled m j _ (λ i. refl) h;
      calls = λ a. acted_consoled m j a (reach m j q a) (decision m j q a) h;
    }) e

-- a raw job has the console of its plain job
owed_console : (os : List Owed) (q : Whole) → (after_owed os q).job.console ≡ q.job.console
owed_console [] q = refl
owed_console (owed.Store a w ∷ os) q = owed_console os (with_stores (poke a w ∷ []) q)
owed_console (Leave e ∷ os) q = owed_console os (after_leave e q)
owed_console (GiveBack ∷ os) q = owed_console os q
owed_console (Unlink ∷ os) q = owed_console os q
owed_console (Link ∷ os) q = owed_console os q
owed_console (Free ∷ os) q = owed_console os q

pub seen_console : (f : Option Frame) (q : Whole) → (seen f q).job.console ≡ q.job.console
unfolding seen
seen_console (Some (Ending f)) q = owed_console f.owed.items q
seen_console _ q = refl

pub raw_consoled : (w : State) (k : ℕ) (q : Whole) → Consoled (plain w) → w.raw.jobs k ≡ Some q → IfSome q.job.console (λ c. c < 8)
unfolding plain
raw_consoled w k q a is = subst Housed (seen_console (w.frames k) q) (subst (λ (o : Option Whole). HousedBy (option_map (seen (w.frames k)) o)) is (a.each k))
