-- The lines that make or name a job: LOAD with its a/ lines, RO and GO, INT, EXAM, STATE, DEPOSIT,
-- STOP and CONT (docs/SESSION.md, "The lines").
-- A promise rests on this.
use Rattle.std.specs.Prelude.{if◌then◌else◌, ℕ, zero, suc, ◌/◌, ◌+◌, ◌&&◌, ◌||◌, Bool, true, false, not, length, Option, Some, None, List, [], ◌∷◌, Result, Ok, Err, nat_lt, is_some, bit_and, bit_or}
use Rattle.its_word.specs.Word.{complement_of}
use Rattle.its_word.specs.Limits.{most_pages}
use Rattle.its_word.specs.Core.{Core, Page, no_core, word_at, can_store, store, page_of, with_page, zero_page}
use Rattle.its_records.specs.Tree.{least_free, fresh_job}
use Rattle.its_records.specs.declared.jobs.Job.{Job}
use Rattle.its_records.specs.declared.show.JobShow.{JobShow}
use Rattle.its_records.specs.declared.session.Reason.{Reason}
use Rattle.its_records.specs.declared.session.Reason.TheVariants.{NoJob, NoPage, ReadOnly, Full}
use Rattle.its_plain.specs.Machine.Registers.{pc_word, FATAL}
use Rattle.its_plain.specs.Machine.Change.{with_protection}
use Rattle.its_plain.specs.Machine.{Symbol, Whole, Machine, whole, with_job, with_new, changed, mapped, limit, words_at}
use Rattle.its_plain.specs.Operator.{and_then}
use Rattle.its_plain.specs.Operator.Symbols.{symbol_shown}

-- what a line does to the job that it names, or NOJOB if the slot is empty
abbrev pub on_job : {X : Type 0} → Machine → ℕ → (Whole → Result X Reason) → Option Whole → Result X Reason
on_job m s f (Some q) = f q
on_job m s f None = Err NoJob

-- LOAD: a new job in the least free slot of the machine's version, stopped, with no page, no
-- superior and no symbols
abbrev pub new_job : ℕ → ℕ → Option ℕ → Whole
new_job u j console = whole no_core (fresh_job u j console) None

-- it becomes the holder of its console if that has none
abbrev pub held_by : ℕ → Option ℕ → Option ℕ
held_by s (Some h) = Some h
held_by s None = Some s

abbrev pub with_holder : Machine → ℕ → Option ℕ → Machine
with_holder m s (Some c) = record m { holders = changed m.holders c (held_by s (m.holders c)) }
with_holder m s None = m

abbrev pub after_load_in : Machine → ℕ → ℕ → Option ℕ → Option ℕ → Result (Machine × ℕ) Reason
after_load_in m u j console (Some s) = Ok (with_holder (with_new m s (new_job u j console)) s console, s)
after_load_in m u j console None = Err Full

unfoldable pub after_load : Machine → ℕ → ℕ → Option ℕ → Result (Machine × ℕ) Reason
after_load m u j console = after_load_in m u j console (least_free (limit m) m.jobs)

-- one word of an a/ line: an absent page is made, writable and of zeros, if fewer than the most
-- pages are mapped
abbrev pub with_stored_in : Core → ℕ → ℕ → Bool → Bool → Bool → Result Core Reason
with_stored_in c a w can there room =
    if can then Ok (store c a w)
    else (if there then Err ReadOnly
    else (if room then Ok (store (with_page c (a / 1024) (Some zero_page)) a w) else Err Full))

unfoldable pub with_stored : ℕ → Core → ℕ → ℕ → Result Core Reason
with_stored pages c a w = with_stored_in c a w (can_store c a) (is_some (word_at c a)) (nat_lt pages most_pages)

-- a job in a slot with its core changed
abbrev pub with_core : Machine → ℕ → Whole → Result Core Reason → Result Machine Reason
with_core m s q (Ok c) = Ok (with_job m s (record q { core = c }))
with_core m s q (Err r) = Err r

abbrev pub with_word_loaded_of : Machine → ℕ → ℕ → ℕ → Option Whole → Result Machine Reason
with_word_loaded_of m s a w (Some q) = with_core m s q (with_stored (mapped m) q.core a w)
with_word_loaded_of m s a w None = Err NoJob

unfoldable pub with_word_loaded : Machine → ℕ → ℕ → ℕ → Result Machine Reason
with_word_loaded m s a w = with_word_loaded_of m s a w (m.jobs s)

-- the words of an a/ line, in order
abbrev pub with_words_stored : Machine → ℕ → ℕ → List ℕ → Result Machine Reason
with_words_stored m s a [] = Ok m
with_words_stored m s a (w ∷ ws) = and_then (with_word_loaded m s a w) (λ n. with_words_stored n s (a + 1) ws)

-- a page that is there and read only has the word at an address
abbrev pub is_barred : Core → ℕ → Bool
is_barred c a = is_some (word_at c a) && not (can_store c a)

-- whether a page that is there and read only has any of n words from an address on
unfoldable pub any_barred : Core → ℕ → ℕ → Bool
any_barred c a zero = false
any_barred c a (suc n) = is_barred c a || any_barred c (a + 1) n

abbrev pub barred_in : Option Whole → ℕ → ℕ → Bool
barred_in (Some q) a n = any_barred q.core a n
barred_in None a n = false

abbrev pub words_barred : Machine → ℕ → ℕ → ℕ → Bool
words_barred m s a n = barred_in (m.jobs s) a n

-- an a/ line: all its words are tested for read-only pages before the first is stored
abbrev pub with_words_loaded_if : Machine → ℕ → ℕ → List ℕ → Bool → Result Machine Reason
with_words_loaded_if m s a ws true = Err ReadOnly
with_words_loaded_if m s a ws false = with_words_stored m s a ws

unfoldable pub with_words_loaded : Machine → ℕ → ℕ → List ℕ → Result Machine Reason
with_words_loaded m s a ws = with_words_loaded_if m s a ws (words_barred m s a (length ws))

-- RO: a page that is there becomes read only
abbrev pub with_page_protected_in : Machine → ℕ → ℕ → Whole → Option Page → Result Machine Reason
with_page_protected_in m s k q (Some p) = Ok (with_job m s (with_protection k false q))
with_page_protected_in m s k q None = Err NoPage

unfoldable pub with_page_protected : Machine → ℕ → ℕ → Result Machine Reason
with_page_protected m s k = on_job m s (λ q. with_page_protected_in m s k q (page_of q.core k)) (m.jobs s)

-- the registers of a job changed
abbrev pub with_registers : Machine → ℕ → (Job → Job) → Whole → Result Machine Reason
with_registers m s f q = Ok (with_job m s (record q { job = f q.job }))

unfoldable pub on_registers : Machine → ℕ → (Job → Job) → Result Machine Reason
on_registers m s f = on_job m s (with_registers m s f) (m.jobs s)

-- GO: the PC, no flags, and the job runs
abbrev pub after_go : ℕ → Job → Job
after_go a j = record j { pc = a; flags = 0; stopped = false }

-- INT: the bits are added to those that are pending
abbrev pub after_int : ℕ → ℕ → Job → Job
after_int v w j = record j { pend1 = bit_or j.pend1 v; pend2 = bit_or j.pend2 w }

abbrev pub after_stop : Job → Job
after_stop j = record j { stopped = true }

-- CONT: the job runs, and no fatal bit is pending
abbrev pub after_cont : Job → Job
after_cont j = record j { stopped = false; pend1 = bit_and j.pend1 (complement_of FATAL) }

-- EXAM: n words, all of whose pages must be present
abbrev pub seen : Option (List ℕ) → Result (List ℕ) Reason
seen (Some ws) = Ok ws
seen None = Err NoPage

-- one word of it
abbrev pub seen_word : Option ℕ → Result ℕ Reason
seen_word (Some w) = Ok w
seen_word None = Err NoPage

unfoldable pub word_seen : Machine → ℕ → ℕ → Result ℕ Reason
word_seen m s a = on_job m s (λ q. seen_word (word_at q.core a)) (m.jobs s)

unfoldable pub examined : Machine → ℕ → ℕ → ℕ → Result (List ℕ) Reason
examined m s a n = on_job m s (λ q. seen (words_at q.core a n)) (m.jobs s)

-- STATE
abbrev pub shown : Job → Option ℕ → Option Symbol → JobShow
shown j superior symbol = record {
  u = j.uname;
  j = j.jname;
  sup = superior;
  con = j.console;
  run = not j.stopped;
  pc = pc_word j.flags j.pc;
  p1 = j.pend1;
  p2 = j.pend2;
  m1 = j.mask1;
  m2 = j.mask2;
  d1 = j.defer1;
  d2 = j.defer2;
  symbol = symbol;
}

unfoldable pub state_shown : Machine → ℕ → Result JobShow Reason
state_shown m s = on_job m s (λ q. Ok (shown q.job q.superior (symbol_shown q.job.pc (m.symbols s)))) (m.jobs s)

-- DEPOSIT
abbrev pub after_deposit_in : Core → ℕ → ℕ → Bool → Bool → Result Core Reason
after_deposit_in c a w can there = if can then Ok (store c a w) else (if there then Err ReadOnly else Err NoPage)

unfoldable pub after_deposit : Machine → ℕ → ℕ → ℕ → Result Machine Reason
after_deposit m s a w =
    on_job m s (λ q. with_core m s q (after_deposit_in q.core a w (can_store q.core a) (is_some (word_at q.core a)))) (m.jobs s)
