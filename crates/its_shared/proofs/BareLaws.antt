-- The processor does not look at channels, and keeps them: a delivery and a unit do the same of
-- registers without theirs. So do a return from a handler, and setting a variable.
use Rattle.std.specs.Prelude.{if◌then◌else◌, ◌≡◌, ◌==◌, ℕ, zero, suc, ◌+◌, Bool, true, false, Option, Some, None, List, Result, Ok, Err, refl}
use Rattle.std.proofs.Common.{ap, ◌∙◌}
use Rattle.its_word.specs.Core.{Core, can_store, word_at}
use Rattle.its_word.specs.Limits.{budget}
use Rattle.its_word.specs.Word.{right_of}
use Rattle.its_word.specs.Stores.{first_fault}
use Rattle.its_word.specs.declared.access.Fault.{Fault}
use Rattle.its_word.specs.declared.instruction.Instruction.{Instruction}
use Rattle.its_word.specs.declared.instruction.Instruction.TheVariants.{Iot, Call}
use Rattle.its_records.specs.declared.jobs.Job.{Job}
use Rattle.its_word.specs.declared.plan.Context.{Context}
use Rattle.its_word.specs.declared.plan.Plan.{Plan}
use Rattle.its_word.specs.declared.plan.Reached.{Reached}
use Rattle.its_word.specs.declared.plan.Store.{Store}
use Rattle.its_frame.specs.declared.variable.Variable.{Variable}
use Rattle.its_frame.specs.declared.variable.Variable.TheVariants.{Upc}
use Rattle.its_plain.specs.Unit.Interrupt.{Delivered, Entry, at_handler, below, by_entry, by_length, by_pointer, by_stores, by_table, chosen, deliverable, delivered, after_dismissal, after_dismissal_at, after_dismissal_by, enabled_1, enabled_2, entries_of, entry_at, first_entry, meets, pushed, through_table, undelivered, unguarded}
use Rattle.its_plain.specs.Machine.Own.{with_advance, exit_of, with_variable}
use Rattle.its_plain.specs.Unit.Plans.{Planned}
use Rattle.its_plain.specs.Unit.Trace.{Traced, also, word}
use Rattle.its_plain.specs.Unit.{Outcome, Changed, Faulted, Called, chain, done_by, followed, made, outcome_at, outcome_of, reached, row_of, chain_step, unit}
use Rattle.its_plain.specs.Machine.Own.{with_variable}
use Rattle.its_plain.proofs.UnitLaws.{unit_keeps}
use Rattle.its_shared.specs.Parts.{bare}

-- an outcome, and a delivery, with the registers without their channels
abbrev pub bare_outcome : Outcome → Outcome
bare_outcome (Changed c k) = Changed c (bare k)
bare_outcome (Faulted f) = Faulted f
bare_outcome (Called s) = Called s

abbrev pub bare_delivered : Delivered → Delivered
bare_delivered d = record d { job = bare d.job }

-- what can be delivered
unguarded_bare : (j : Job) → unguarded (bare j) ≡ unguarded j
unfolding unguarded enabled_1
unguarded_bare j = refl

pub deliverable_bare : (j : Job) → deliverable (bare j) ≡ deliverable j
unfolding deliverable unguarded enabled_1 enabled_2
deliverable_bare j = refl

-- the entry that is taken
chosen_bare : (j : Job) (o a b : Option Entry) → a ≡ b → chosen (bare j) o a ≡ chosen j o b
unfolding meets enabled_1 enabled_2
chosen_bare j (Some e) a b h = ap (λ l. if meets j e then Some e else l) h
chosen_bare j None a b h = refl

entry_bare : (c : Core) (j : Job) (k a : ℕ) → first_entry c (bare j) k a ≡ first_entry c j k a
unfolding first_entry
entry_bare c j zero a = refl
entry_bare c j (suc k) a = chosen_bare j (entry_at c a) (first_entry c (bare j) k (a + 5)) (first_entry c j k (a + 5)) (entry_bare c j k (a + 5))

-- the delivery, level by level
stores_bare : (c : Core) (j : Job) (e : Entry) (ss : List Store) (o : Option Fault) → by_stores c (bare j) e ss o ≡ bare_delivered (by_stores c j e ss o)
unfolding at_handler enabled_1 enabled_2
stores_bare c j e ss None = refl
stores_bare c j e ss (Some f) = refl

pointer_bare : (c : Core) (j : Job) (e : Entry) (p : ℕ) (o : Option ℕ) → by_pointer c (bare j) e p o ≡ bare_delivered (by_pointer c j e p o)
unfolding pushed enabled_1 enabled_2
pointer_bare c j e p (Some s) = stores_bare c j e (pushed j e p s) (first_fault c (pushed j e p s))
pointer_bare c j e p None = refl

by_entry_bare : (c : Core) (j : Job) (o : Option ℕ) (e : Option Entry) → by_entry c (bare j) o e ≡ bare_delivered (by_entry c j o e)
by_entry_bare c j (Some v) (Some e) = pointer_bare c j e (right_of v) (word_at c (right_of v))
by_entry_bare c j (Some v) None = refl
by_entry_bare c j None e = refl

length_bare : (c : Core) (j : Job) (t : ℕ) (o : Option ℕ) → by_length c (bare j) t o ≡ bare_delivered (by_length c j t o)
length_bare c j t (Some k) = ap (by_entry c (bare j) (word_at c t)) (entry_bare c j k (t + 1)) ∙ by_entry_bare c j (word_at c t) (first_entry c j k (t + 1))
length_bare c j t None = refl

table_bare : (c : Core) (j : Job) (o : Option ℕ) → by_table c (bare j) o ≡ bare_delivered (by_table c j o)
table_bare c j (Some w) = length_bare c j (right_of w) (entries_of w)
table_bare c j None = refl

-- a delivery, if the test of a fatal bit has a value
abbrev delivered_by : Core → Job → Bool → Delivered
delivered_by c j b = if b then through_table c j else record { core = c; job = record j { stopped = true }; stops = true }

by_guard_bare : (c : Core) (j : Job) (b : Bool) → delivered_by c (bare j) b ≡ bare_delivered (delivered_by c j b)
unfolding through_table
by_guard_bare c j true = table_bare c j (word_at c 0o42)
by_guard_bare c j false = refl

pub delivered_bare : (c : Core) (j : Job) → delivered c (bare j) ≡ bare_delivered (delivered c j)
unfolding delivered
delivered_bare c j = ap (λ n. delivered_by c (bare j) (n == 0)) (unguarded_bare j) ∙ by_guard_bare c j (unguarded j == 0)

-- a delivery keeps the channels, and the core of a job that it stops
record DeliveryKeeps (c : Core) (j : Job) (d : Delivered) : Type 0 where
  channels : d.job.channels ≡ j.channels
  core : d.stops ≡ true → d.core ≡ c

stores_keep : (c : Core) (j : Job) (e : Entry) (ss : List Store) (o : Option Fault) → DeliveryKeeps c j (by_stores c j e ss o)
unfolding at_handler
stores_keep c j e ss None = record { channels = refl; core = λ h. cc }
stores_keep c j e ss (Some f) = record { channels = refl; core = λ h. refl }

undelivered_keeps : (c : Core) (j : Job) → DeliveryKeeps c j (undelivered c j)
undelivered_keeps c j = record { channels = refl; core = λ h. refl }

pointer_keeps : (c : Core) (j : Job) (e : Entry) (p : ℕ) (o : Option ℕ) → DeliveryKeeps c j (by_pointer c j e p o)
pointer_keeps c j e p (Some s) = stores_keep c j e (pushed j e p s) (first_fault c (pushed j e p s))
pointer_keeps c j e p None = undelivered_keeps c j

entry_keeps : (c : Core) (j : Job) (o : Option ℕ) (e : Option Entry) → DeliveryKeeps c j (by_entry c j o e)
entry_keeps c j (Some v) (Some e) = pointer_keeps c j e (right_of v) (word_at c (right_of v))
entry_keeps c j (Some v) None = undelivered_keeps c j
entry_keeps c j None e = undelivered_keeps c j

length_keeps : (c : Core) (j : Job) (t : ℕ) (o : Option ℕ) → DeliveryKeeps c j (by_length c j t o)
length_keeps c j t (Some k) = entry_keeps c j (word_at c t) (first_entry c j k (t + 1))
length_keeps c j t None = undelivered_keeps c j

table_keeps : (c : Core) (j : Job) (o : Option ℕ) → DeliveryKeeps c j (by_table c j o)
table_keeps c j (Some w) = length_keeps c j (right_of w) (entries_of w)
table_keeps c j None = undelivered_keeps c j

by_guard_keeps : (c : Core) (j : Job) (b : Bool) → DeliveryKeeps c j (delivered_by c j b)
unfolding through_table
by_guard_keeps c j true = table_keeps c j (word_at c 0o42)
by_guard_keeps c j false = record { channels = refl; core = λ h. refl }

delivered_keeps : (c : Core) (j : Job) → DeliveryKeeps c j (delivered c j)
unfolding delivered
delivered_keeps c j = by_guard_keeps c j (unguarded j == 0)

pub delivered_channels : (c : Core) (j : Job) → (delivered c j).job.channels ≡ j.channels
delivered_channels c j = (delivered_keeps c j).channels

pub delivered_stops : (c : Core) (j : Job) → (delivered c j).stops ≡ true → (delivered c j).core ≡ c
delivered_stops c j h = (delivered_keeps c j).core h

-- the way to an instruction
step_bare : (c : Core) (j : Job) (w used : ℕ) → chain_step c (bare j) w used ≡ chain_step c j w used
unfolding chain_step
step_bare c j w used = refl

chain_bare : (n : ℕ) (c : Core) (j : Job) (w used : ℕ) → chain n c (bare j) w used ≡ chain n c j w used
unfolding chain chain_step
chain_bare zero c j w used = refl
chain_bare (suc n) c j w used = λ i. also (chain_step c j w used) (λ t. followed (λ v k. chain_bare n c j v k i) t)

reached_bare : (c : Core) (j : Job) → reached c (bare j) ≡ reached c j
unfolding reached
reached_bare c j = λ i. also (word c j.pc) (λ w. chain_bare (budget + 1) c j w 0 i)

-- the unit, level by level
made_bare : (c : Core) (j : Job) (p : Plan) (o : Option Fault) → made c (bare j) p o ≡ bare_outcome (made c j p o)
made_bare c j p None = refl
made_bare c j p (Some f) = refl

outcome_bare : (c : Core) (j : Job) (p : Planned) → outcome_of c (bare j) p ≡ bare_outcome (outcome_of c j p)
outcome_bare c j (Ok p) = made_bare c j p (first_fault c p.stores.items)
outcome_bare c j (Err f) = refl

done_bare : (c : Core) (j : Job) (reads : List ℕ) (x : Context) (i : Instruction) → done_by c (bare j) reads x i ≡ bare_outcome (done_by c j reads x i)
unfolding done_by
done_bare c j reads x Iot = refl
done_bare c j reads x Call = refl
done_bare c j reads x i = outcome_bare c j (row_of c x i)

answer_bare : (c : Core) (j : Job) (reads : List ℕ) (r : Result Reached Fault) → outcome_at c (bare j) reads r ≡ bare_outcome (outcome_at c j reads r)
answer_bare c j reads (Ok r) = done_bare c j reads r.context r.instruction
answer_bare c j reads (Err f) = refl

pub unit_bare : (c : Core) (j : Job) → unit c (bare j) ≡ bare_outcome (unit c j)
unfolding unit
unit_bare c j =
    ap (λ (t : Traced Reached). outcome_at c (bare j) t.reads t.answer) (reached_bare c j) ∙ answer_bare c j (reached c j).reads (reached c j).answer

-- a unit keeps the channels
pub unit_channels : (c d : Core) (j k : Job) → unit c j ≡ Changed d k → k.channels ≡ j.channels
unit_channels c d j k e = (unit_keeps c j d k e).registers.channels

-- a return from a handler, and a variable that is set
by_bare : (j : Job) (b : Bool) (x y z : Option ℕ) → after_dismissal_by (bare j) b x y z ≡ after_dismissal_by j b x y z
by_bare j b (Some w) (Some d2) (Some d1) = refl
by_bare j b None y z = refl
by_bare j b (Some w) None z = refl
by_bare j b (Some w) (Some d2) None = refl

at_bare : (c : Core) (j : Job) (p : ℕ) (o : Option ℕ) → after_dismissal_at c (bare j) p o ≡ after_dismissal_at c j p o
at_bare c j p (Some s) = by_bare j (can_store c p) (word_at c (right_of s)) (word_at c (below s 1)) (word_at c (below s 2))
at_bare c j p None = refl

pub dismissed_bare : (c : Core) (j : Job) (p : ℕ) → after_dismissal c (bare j) p ≡ after_dismissal c j p
unfolding after_dismissal
dismissed_bare c j p = at_bare c j p (word_at c p)

pub set_bare : (x : Variable) (w : ℕ) (j : Job) → exit_of (with_variable x w (with_advance 2 (bare j))) ≡ exit_of (with_variable x w (with_advance 2 j))
unfolding with_variable
set_bare Upc w j = refl
set_bare x w j = refl

-- a variable is one of the registers except for the channels
pub variable_bare : (x : Variable) (v : ℕ) (j : Job) → with_variable x v (bare j) ≡ bare (with_variable x v j)
unfolding with_variable
variable_bare Upc v j = refl
variable_bare _ v j = refl

pub variable_channels : (x : Variable) (v : ℕ) (j : Job) → (with_variable x v j).channels ≡ j.channels
unfolding with_variable
variable_channels Upc v j = refl
variable_channels _ v j = refl
