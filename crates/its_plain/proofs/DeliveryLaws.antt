-- Laws of deliveries.
use Rattle.std.specs.Prelude.{◌==◌, ◌<◌, ◌^◌, ℕ, ◌+◌, Option, Some, None, List}
use Rattle.std.proofs.Common.{arith, inl, inr}
use Rattle.std.proofs.lemmas.Bool.{cases_Bool}
use Rattle.its_word.specs.Core.{Core, word_at}
use Rattle.its_word.specs.Word.{right_of}
use Rattle.its_word.specs.declared.access.Fault.{Fault}
use Rattle.its_records.specs.declared.jobs.Job.{Job}
use Rattle.its_word.specs.declared.plan.Store.{Store}
use Rattle.its_word.specs.Stores.{first_fault}
use Rattle.its_plain.specs.Unit.Interrupt.{Entry, entries_of, first_entry, pushed, at_handler, by_stores, by_pointer, by_entry, by_length, by_table, through_table, unguarded, delivered}

-- PC stays an address
stores_placed : (c : Core) (j : Job) (e : Entry) (ss : List Store) (o : Option Fault) → j.pc < 2 ^ 18 → (by_stores c j e ss o).job.pc < 2 ^ 18
unfolding at_handler
stores_placed c j e ss None h = omega arith
stores_placed c j e ss (Some f) h = h

pointer_placed : (c : Core) (j : Job) (e : Entry) (p : ℕ) (o : Option ℕ) → j.pc < 2 ^ 18 → (by_pointer c j e p o).job.pc < 2 ^ 18
pointer_placed c j e p (Some s) h = stores_placed c j e (pushed j e p s) (first_fault c (pushed j e p s)) h
pointer_placed c j e p None h = h

entry_placed : (c : Core) (j : Job) (o : Option ℕ) (e : Option Entry) → j.pc < 2 ^ 18 → (by_entry c j o e).job.pc < 2 ^ 18
entry_placed c j (Some v) (Some e) h = pointer_placed c j e (right_of v) (word_at c (right_of v)) h
entry_placed c j (Some v) None h = h
entry_placed c j None e h = h

length_placed : (c : Core) (j : Job) (t : ℕ) (o : Option ℕ) → j.pc < 2 ^ 18 → (by_length c j t o).job.pc < 2 ^ 18
length_placed c j t (Some k) h = entry_placed c j (word_at c t) (first_entry c j k (t + 1)) h
length_placed c j t None h = h

table_placed : (c : Core) (j : Job) (o : Option ℕ) → j.pc < 2 ^ 18 → (by_table c j o).job.pc < 2 ^ 18
table_placed c j (Some w) h = length_placed c j (right_of w) (entries_of w) h
table_placed c j None h = h

pub delivered_placed : (c : Core) (j : Job) → j.pc < 2 ^ 18 → (delivered c j).job.pc < 2 ^ 18
unfolding delivered through_table
delivered_placed c j h = elim (cases_Bool (unguarded j == 0)) [ inl t ↦ rw t (table_placed c j (word_at c 0o42) h) | inr t ↦ rw t h ]
