-- What holds of each job of a machine, and is kept by what the lines of a session do to jobs, is
-- kept by the lines.
use Rattle.std.specs.Prelude.{if◌then◌else◌, ◌≡◌, ◌==◌, ℕ, ◌+◌, ◌/◌, ◌&&◌, Bool, true, false, not, Option, Some, None, IfSome, List, [], ◌∷◌, Result, Ok, Err, ◌++◌, length, nat_le, nat_lt, is_some, is_none, option_map, refl}
use Rattle.std.proofs.Common.{subst}
use Rattle.its_word.specs.Limits.{slots, most_pages, most_symbols}
use Rattle.its_word.specs.Console.{most_waiting}
use Rattle.its_word.specs.Core.{Core, Page, can_store, store, word_at, page_of, with_page, zero_page}
use Rattle.its_records.specs.Links.{most_links}
use Rattle.its_records.specs.Tree.{no_job, least_free, climbs_to}
use Rattle.its_records.specs.declared.jobs.Job.{Job}
use Rattle.its_records.specs.declared.session.Event.{Event}
use Rattle.its_records.specs.declared.session.Event.TheVariants as events
use Rattle.its_records.specs.declared.session.Reason.{Reason}
use Rattle.its_records.specs.declared.session.Reason.TheVariants.{Range, NoJob, NoFile, Exists, Full, Unfit}
use Rattle.its_records.specs.declared.show.JobShow.{JobShow}
use Rattle.its_records.specs.declared.state_line.Registers.{Registers}
use Rattle.its_records.specs.declared.state_line.StateLine.{StateLine}
use Rattle.its_records.specs.declared.state_line.StateLine.TheVariants as states
use Rattle.its_frame.specs.declared.change.Change.TheVariants as changes
use Rattle.its_print.specs.Printing.{Line}
use Rattle.its_print.specs.Printing as printed
use Rattle.its_plain.specs.Call.File.{most_files, file_named, has_file, is_full}
use Rattle.its_plain.specs.Machine.Change.{with_protection, on_console, on_link, in_job, superiors, console_in, channel_in, with_alarm, effect}
use Rattle.its_plain.specs.Machine.{Names, File, Chan, Shut, TtyIn, TtyOut, Reads, Writes, On, Linked, Whole, Machine, with_job, with_new, mapped, limit}
use Rattle.its_plain.specs.Operator.{Block, Operated, Refuses, Does, Ticks, Quits, quietly, disturbs, and_then}
use Rattle.its_plain.specs.Operator.Clock.{due, after_alarm, after_clock, after_clock_if, after_alarm_if, clock_end}
use Rattle.its_plain.specs.Operator.Files.{channels_of, with_file_made, with_file_made_if, with_word_added, with_word_added_if, with_word_added_to, with_words_added, file_shown}
use Rattle.its_plain.specs.Operator.Jobs.{on_job, with_holder, after_load, after_load_in, new_job, with_core, with_words_loaded, with_words_loaded_if, with_words_stored, with_word_loaded, with_word_loaded_of, with_stored, with_stored_in, words_barred, with_page_protected, with_page_protected_in, with_registers, on_registers, after_go, after_int, after_stop, after_cont, examined, state_shown, after_deposit, after_deposit_in}
use Rattle.its_plain.specs.Operator.Lines.{Lined, Done, Peeks, lined, operate, in_a_line, by_load, by_exam, by_state, shows, by_clock, peeked_at}
use Rattle.its_plain.specs.Operator.State.{provided, provided_if, has_job, with_job_made, after_registers, may_come, with_alarm_set, under, with_superior_set, can_open, channel_opened, on_tty, with_tty, with_disk, with_draft, with_word_to, with_all_written, with_words_written, is_slot, with_usr, can_join, with_link, has_room, with_words_in, with_words_sent, has_unopened, with_end_closed, with_end_shut, bytes_of, with_bytes, with_bytes_waiting, with_holder_set, restored}
use Rattle.its_plain.specs.Operator.Symbols.{with_symbol_kept, with_symbol_kept_of, with_symbol_kept_if}
use Rattle.its_plain.specs.Operator.Version.{with_version}
use Rattle.its_plain.specs.Machine.Own.{names_of, with_word, on_channel}
use Rattle.its_saved.specs.WellFormed.{IsNamed, NamedOn}

-- this holds of each job
pub record EachJob (P : Whole → Type 0) (m : Machine) : Type 0 where
  pub each : (k : ℕ) → IfSome (m.jobs k) P

-- what lines do to jobs keeps it: a job is made; a word is stored, and a page of zeros is made
-- before; a page becomes read only; registers are changed by GO, INT, STOP and CONT; an alarm goes.
-- Lines of the state part set registers, alarms and superiors, and change channels
pub record KeepsJobs (P : Whole → Type 0) : Type 0 where
  pub made : (u j : ℕ) (c : Option ℕ) → P (new_job u j c)
  pub stored : (q : Whole) (a w : ℕ) → P q → P (record q { core = store q.core a w })
  pub mapped : (q : Whole) (k : ℕ) → P q → P (record q { core = with_page q.core k (Some zero_page) })
  pub protected : (q : Whole) (k : ℕ) → P q → P (with_protection k false q)
  pub goes : (q : Whole) (a : ℕ) → P q → P (record q { job = after_go a q.job })
  pub interrupted : (q : Whole) (v w : ℕ) → P q → P (record q { job = after_int v w q.job })
  pub stopped : (q : Whole) → P q → P (record q { job = after_stop q.job })
  pub continued : (q : Whole) → P q → P (record q { job = after_cont q.job })
  pub alarmed : (q : Whole) (c : ℕ) → P q → P (after_alarm c q)
  pub registered : (q : Whole) (r : Registers) → P q → P (record q { job = after_registers r q.job })
  pub armed : (q : Whole) (a : Option (ℕ × ℕ)) → P q → P (with_alarm a q)
  pub placed : (q : Whole) (t : ℕ) → P q → P (under t q)
  pub channelled : (q : Whole) (n : ℕ) (f : Chan → Chan) → ((c : Chan) → NamedOn c → NamedOn (f c)) → P q → P (on_channel n f q)

module _ {P : Whole → Type 0} (keeps : KeepsJobs P) where
  -- what a result and an effect leave
  abbrev KeptR : Result Machine Reason → Type 0
  KeptR (Ok m) = EachJob P m
  KeptR (Err r) = Unit {0}

  abbrev KeptOp : Operated → Type 0
  KeptOp (Does n out touched b) = EachJob P n
  KeptOp (Refuses r) = Unit {0}
  KeptOp (Ticks s k) = Unit {0}
  KeptOp Quits = Unit {0}

  quietly_kept : (b : Block) (r : Result Machine Reason) → KeptR r → KeptOp (quietly b r)
  quietly_kept b (Ok m) h = h
  quietly_kept b (Err r) h = tt

  disturbs_kept : (s : ℕ) (b : Block) (r : Result Machine Reason) → KeptR r → KeptOp (disturbs s b r)
  disturbs_kept s b (Ok m) h = h
  disturbs_kept s b (Err r) h = tt

  -- a job in a slot
  either_kept : (b : Bool) (p o : Option Whole) → IfSome p P → IfSome o P → IfSome (if b then p else o) P
  either_kept true p o x a = x
  either_kept false p o x a = a

  put_kept : (m : Machine) (s : ℕ) (q : Whole) → P q → EachJob P m → EachJob P (with_job m s q)
  put_kept m s q h a = record { each = λ k. either_kept (k == s) (Some q) (m.jobs k) h (a.each k) }

  -- LOAD
  held_kept : (m : Machine) (s : ℕ) (o : Option ℕ) → EachJob P m → EachJob P (with_holder m s o)
  held_kept m s (Some c) h = record { each = h.each }
  held_kept m s None h = h

  load_kept : (m : Machine) (b : Block) (u j : ℕ) (console : Option ℕ) (o : Option ℕ) → EachJob P m → KeptOp (by_load b (after_load_in m u j console o))
  load_kept m b u j console (Some s) h =
      held_kept _ s console (record { each = λ k. either_kept (k == s) (Some (new_job u j console)) (m.jobs k) (keeps.made u j console) (h.each k) })
  load_kept m b u j console None h = tt

  -- words
  abbrev StoredR : Whole → Result Core Reason → Type 0
  StoredR q (Ok c) = P (record q { core = c })
  StoredR q (Err r) = Unit {0}

  stored_kept : (pages : ℕ) (q : Whole) (a w : ℕ) → P q → StoredR q (with_stored pages q.core a w)
  unfolding with_stored
  stored_kept pages q a w h = by (can_store q.core a) (is_some (word_at q.core a)) (nat_lt pages most_pages)
    where
      by : (x y z : Bool) → StoredR q (with_stored_in q.core a w x y z)
      by true y z = keeps.stored q a w h
      by false true z = tt
      by false false true = keeps.stored (record q { core = with_page q.core (a / 1024) (Some zero_page) }) a w (keeps.mapped q (a / 1024) h)
      by false false false = tt

  core_kept : (m : Machine) (s : ℕ) (q : Whole) (r : Result Core Reason) → StoredR q r → EachJob P m → KeptR (with_core m s q r)
  core_kept m s q (Ok c) h t = put_kept m s (record q { core = c }) h t
  core_kept m s q (Err r) h t = tt

  word_kept : (m : Machine) (s a w : ℕ) → EachJob P m → KeptR (with_word_loaded m s a w)
  unfolding with_word_loaded
  word_kept m s a w t = by (m.jobs s) (t.each s)
    where
      by : (o : Option Whole) → IfSome o P → KeptR (with_word_loaded_of m s a w o)
      by (Some q) h = core_kept m s q (with_stored (mapped m) q.core a w) (stored_kept (mapped m) q a w h) t
      by None h = tt

  words_kept : (ws : List ℕ) (m : Machine) (s a : ℕ) → EachJob P m → KeptR (with_words_stored m s a ws)
  words_kept [] m s a t = t
  words_kept (w ∷ ws) m s a t = by (with_word_loaded m s a w) (word_kept m s a w t) (λ n h. words_kept ws n s (a + 1) h)
    where
      by : (r : Result Machine Reason) → KeptR r → ((n : Machine) → EachJob P n → KeptR (with_words_stored n s (a + 1) ws))
          → KeptR (and_then r (λ n. with_words_stored n s (a + 1) ws))
      by (Ok n) h more = more n h
      by (Err r) h more = tt

  loaded_kept : (m : Machine) (s a : ℕ) (ws : List ℕ) → EachJob P m → KeptR (with_words_loaded m s a ws)
  unfolding with_words_loaded
  loaded_kept m s a ws t = by (words_barred m s a (length ws))
    where
      by : (b : Bool) → KeptR (with_words_loaded_if m s a ws b)
      by true = tt
      by false = words_kept ws m s a t

  -- a line on a job
  on_kept : (m : Machine) (s : ℕ) (f : Whole → Result Machine Reason) → ((q : Whole) → P q → KeptR (f q)) → EachJob P m → KeptR (on_job m s f (m.jobs s))
  on_kept m s f h t = by (m.jobs s) (t.each s)
    where
      by : (o : Option Whole) → IfSome o P → KeptR (on_job m s f o)
      by (Some q) x = h q x
      by None x = tt

  protected_kept : (m : Machine) (s k : ℕ) → EachJob P m → KeptR (with_page_protected m s k)
  unfolding with_page_protected
  protected_kept m s k t = on_kept m s (λ q. with_page_protected_in m s k q (page_of q.core k)) (λ q x. by q (page_of q.core k) x) t
    where
      by : (q : Whole) (o : Option Page) → P q → KeptR (with_page_protected_in m s k q o)
      by q (Some p) x = put_kept m s _ (keeps.protected q k x) t
      by q None x = tt

  registers_kept : (m : Machine) (s : ℕ) (f : Job → Job) → ((q : Whole) → P q → P (record q { job = f q.job })) → EachJob P m → KeptR (on_registers m s f)
  unfolding on_registers
  registers_kept m s f h t = on_kept m s (with_registers m s f) (λ q x. put_kept m s (record q { job = f q.job }) (h q x) t) t

  deposit_kept : (m : Machine) (s a w : ℕ) → EachJob P m → KeptR (after_deposit m s a w)
  unfolding after_deposit
  deposit_kept m s a w t =
      on_kept m s _ (λ q x. core_kept m s q (after_deposit_in q.core a w (can_store q.core a) (is_some (word_at q.core a)))
      (by q x (can_store q.core a) (is_some (word_at q.core a))) t) t
    where
      by : (q : Whole) → P q → (x y : Bool) → StoredR q (after_deposit_in q.core a w x y)
      by q h true y = keeps.stored q a w h
      by q h false true = tt
      by q h false false = tt

  symbol_kept : (m : Machine) (s name a : ℕ) → EachJob P m → KeptR (with_symbol_kept m s name a)
  unfolding with_symbol_kept
  symbol_kept m s name a t = by (m.jobs s)
    where
      if_room : (b : Bool) → KeptR (with_symbol_kept_if m s (name, a) b)
      if_room true = record { each = t.each }
      if_room false = tt

      by : (o : Option Whole) → KeptR (with_symbol_kept_of m s (name, a) o)
      by (Some q) = if_room (nat_lt (length (m.symbols s)) most_symbols)
      by None = tt

  -- files
  file_kept : (m : Machine) (n : Names) → EachJob P m → KeptR (with_file_made m n)
  unfolding with_file_made
  file_kept m n t = by (has_file n m.files) (nat_lt (length m.files) most_files)
    where
      by : (x y : Bool) → KeptR (with_file_made_if m n x y)
      by true y = tt
      by false true = record { each = t.each }
      by false false = tt

  add_kept : (m : Machine) (n : Names) (w : ℕ) → EachJob P m → KeptR (with_word_added m n w)
  unfolding with_word_added
  add_kept m n w t = by (file_named n m.files)
    where
      if_room : (b : Bool) → KeptR (with_word_added_if m n w b)
      if_room true = tt
      if_room false = record { each = t.each }

      by : (o : Option File) → KeptR (with_word_added_to m n w o)
      by (Some f) = if_room (is_full m.files (channels_of m) f.words)
      by None = tt

  adds_kept : (ws : List ℕ) (m : Machine) (n : Names) → EachJob P m → KeptR (with_words_added m n ws)
  adds_kept [] m n t = t
  adds_kept (w ∷ ws) m n t = by (with_word_added m n w) (add_kept m n w t) (λ k h. adds_kept ws k n h)
    where
      by : (r : Result Machine Reason) → KeptR r → ((k : Machine) → EachJob P k → KeptR (with_words_added k n ws))
          → KeptR (and_then r (λ k. with_words_added k n ws))
      by (Ok k) h more = more k h
      by (Err r) h more = tt

  -- CLOCK
  clock_kept : (m : Machine) (b : Block) (n : ℕ) → EachJob P m → KeptOp (by_clock m b n (after_clock m n))
  unfolding after_clock
  clock_kept m b n t = by (nat_lt (m.clock + n) clock_end)
    where
      alarm : (k : ℕ) (x : Bool) (o : Option Whole) → IfSome o P → IfSome (after_alarm_if (m.clock + n) x o) P
      alarm k true (Some q) h = keeps.alarmed q (m.clock + n) h
      alarm k true None h = tt
      alarm k false o h = h

      by : (x : Bool) → KeptOp (by_clock m b n (after_clock_if m n x))
      by true = record { each = λ k. alarm k (due (m.clock + n) m.jobs k) (m.jobs k) (t.each k) }
      by false = tt

  -- lines of the state part
  provided_kept : (ts : List (Bool × Reason)) (m : Machine) → EachJob P m → KeptR (provided ts m)
  provided_kept [] m t = t
  provided_kept (x ∷ ts) m t = by x.0 (provided_kept ts m t)
    where
      by : (b : Bool) → KeptR (provided ts m) → KeptR (provided_if b x.1 (provided ts m))
      by true h = h
      by false h = tt

  changed_kept : (m : Machine) (s : ℕ) (f : Whole → Whole) → ((q : Whole) → P q → P (f q)) → EachJob P m → EachJob P (in_job m s f)
  changed_kept m s f h t = record { each = λ k. by (k == s) (m.jobs k) (t.each k) }
    where
      by : (b : Bool) (o : Option Whole) → IfSome o P → IfSome (if b then option_map f o else o) P
      by true (Some q) x = h q x
      by true None x = tt
      by false o x = x

  opened_kept : (m : Machine) (s n : ℕ) (x : Chan) → NamedOn x → EachJob P m → EachJob P (channel_opened m s n x)
  opened_kept m s n x is t = changed_kept m s (on_channel n (λ c. x)) (λ q h. keeps.channelled q n (λ c. x) (λ c g. is) h) t

  made_kept : (m : Machine) (s u j : ℕ) (c : Option ℕ) → EachJob P m → KeptR (with_job_made m s u j c)
  unfolding with_job_made
  made_kept m s u j c t =
      provided_kept ((nat_lt s (limit m), Range) ∷ (is_none (m.jobs s), Exists) ∷ []) (with_new m s (new_job u j c))
      (record { each = λ k. either_kept (k == s) (Some (new_job u j c)) (m.jobs k) (keeps.made u j c) (t.each k) })

  alarm_kept : (m : Machine) (s p n : ℕ) → EachJob P m → KeptR (with_alarm_set m s p n)
  unfolding with_alarm_set effect
  alarm_kept m s p n t =
      provided_kept ((may_come m.clock p n, Range) ∷ (has_job m s, NoJob) ∷ []) (effect (changes.Arm (Some (p, n))) s m)
      (changed_kept m s (with_alarm (Some (p, n))) (λ q h. keeps.armed q (Some (p, n)) h) t)

  under_kept : (m : Machine) (s i : ℕ) → EachJob P m → KeptR (with_superior_set m s i)
  unfolding with_superior_set
  under_kept m s i t =
      provided_kept ((has_job m s && has_job m i, NoJob) ∷ (is_none (superiors m s), Exists) ∷ (not (climbs_to (superiors m) s slots (Some i)), Unfit) ∷ [])
      (in_job m s (under i)) (changed_kept m s (under i) (λ q h. keeps.placed q i h) t)

  tty_named : (w : Bool) → NamedOn (on_tty w)
  tty_named true = tt
  tty_named false = tt

  tty_kept : (m : Machine) (s n : ℕ) (w : Bool) → EachJob P m → KeptR (with_tty m s n w)
  unfolding with_tty
  tty_kept m s n w t =
      provided_kept (can_open m s n ++ (is_some (console_in (m.jobs s)), Unfit) ∷ [])
      (channel_opened m s n (on_tty w)) (opened_kept m s n (on_tty w) (tty_named w) t)

  disk_kept : (m : Machine) (s n : ℕ) (x : Names) (at : ℕ) → IsNamed x → EachJob P m → KeptR (with_disk m s n x at)
  unfolding with_disk
  disk_kept m s n x at is t =
      provided_kept (can_open m s n ++ (has_file x m.files, NoFile) ∷ [])
      (channel_opened m s n (Reads x at)) (opened_kept m s n (Reads x at) is t)

  draft_kept : (m : Machine) (s n : ℕ) (x : Names) → IsNamed x → EachJob P m → KeptR (with_draft m s n x)
  unfolding with_draft
  draft_kept m s n x is t =
      let c : Chan = Writes (record { names = x; words = [] }) in
      provided_kept (can_open m s n) (channel_opened m s n c) (opened_kept m s n c is t)

  usr_kept : (m : Machine) (s n i : ℕ) (w : Bool) (at : ℕ) → EachJob P m → KeptR (with_usr m s n i w at)
  unfolding with_usr
  usr_kept m s n i w at t =
      provided_kept (can_open m s n ++ (is_slot s (superiors m i), Unfit) ∷ [])
      (channel_opened m s n (On i w at)) (opened_kept m s n (On i w at) tt t)

  longer_named : (w : ℕ) (c : Chan) → NamedOn c → NamedOn (with_word w c)
  longer_named w Shut h = tt
  longer_named w TtyIn h = tt
  longer_named w TtyOut h = tt
  longer_named w (Reads n p) h = h
  longer_named w (Writes f) h = h
  longer_named w (On s write p) h = tt
  longer_named w (Linked l write) h = tt

  appended_kept : (m : Machine) (s n w : ℕ) → EachJob P m → EachJob P (effect (changes.Append n w) s m)
  unfolding effect
  appended_kept m s n w t = changed_kept m s (on_channel n (with_word w)) (λ q h. keeps.channelled q n (with_word w) (longer_named w) h) t

  word_written : (m : Machine) (s n w : ℕ) (c : Chan) → EachJob P m → KeptR (with_word_to m s n w c)
  word_written m s n w (Writes f) t =
      provided_kept ((not (is_full m.files (channels_of m) f.words), Full) ∷ [])
      (effect (changes.Append n w) s m) (appended_kept m s n w t)
  word_written m s n w Shut t = tt
  word_written m s n w TtyIn t = tt
  word_written m s n w TtyOut t = tt
  word_written m s n w (Reads x p) t = tt
  word_written m s n w (On i v p) t = tt
  word_written m s n w (Linked l v) t = tt

  all_written : (ws : List ℕ) (m : Machine) (s n : ℕ) → EachJob P m → KeptR (with_all_written m s n ws)
  all_written [] m s n t = t
  all_written (w ∷ ws) m s n t =
      by (with_word_to m s n w (channel_in (m.jobs s) n)) (word_written m s n w (channel_in (m.jobs s) n) t) (λ k h. all_written ws k s n h)
    where
      by : (r : Result Machine Reason) → KeptR r → ((k : Machine) → EachJob P k → KeptR (with_all_written k s n ws))
          → KeptR (and_then r (λ k. with_all_written k s n ws))
      by (Ok k) h more = more k h
      by (Err r) h more = tt

  wrote_kept : (m : Machine) (s n : ℕ) (ws : List ℕ) → EachJob P m → KeptR (with_words_written m s n ws)
  unfolding with_words_written
  wrote_kept m s n ws t =
      by (provided ((nat_lt n 16, Range) ∷ (has_job m s, NoJob) ∷ []) m) (provided_kept ((nat_lt n 16, Range) ∷ (has_job m s, NoJob) ∷ []) m t)
    where
      by : (r : Result Machine Reason) → KeptR r → KeptR (and_then r (λ k. with_all_written k s n ws))
      by (Ok k) h = all_written ws k s n h
      by (Err r) h = tt

  join_kept : (m : Machine) (s n l : ℕ) (w : Bool) (x y : ℕ) → EachJob P m → KeptR (with_link m s n l w x y)
  unfolding with_link effect
  join_kept m s n l w x y t =
      provided_kept ((nat_lt l most_links, Range) ∷ can_open m s n ++ (can_join x y w (m.links l), Exists) ∷ [])
      (effect (changes.Join n l w x y) s m) (record { each = (opened_kept m s n (Linked l w) tt t).each })

  sent_kept : (m : Machine) (l : ℕ) (ws : List ℕ) → EachJob P m → KeptR (with_words_sent m l ws)
  unfolding with_words_sent
  sent_kept m l ws t =
      provided_kept ((is_some (m.links l), Unfit) ∷ (has_room ws (m.links l), Full) ∷ [])
      (on_link m l (option_map (with_words_in ws))) (record { each = t.each })

  shut_kept : (m : Machine) (l : ℕ) (w : Bool) → EachJob P m → KeptR (with_end_shut m l w)
  unfolding with_end_shut
  shut_kept m l w t =
      provided_kept ((is_some (m.links l), Unfit) ∷ (has_unopened w (m.links l), Exists) ∷ [])
      (on_link m l (option_map (with_end_closed w))) (record { each = t.each })

  bytes_kept : (m : Machine) (c : ℕ) (w : Bool) (bs : List ℕ) → EachJob P m → KeptR (with_bytes_waiting m c w bs)
  unfolding with_bytes_waiting
  bytes_kept m c w bs t =
      provided_kept ((nat_le (length (bytes_of w (m.consoles c) ++ bs)) most_waiting, Full) ∷ [])
      (on_console m c (with_bytes w bs)) (record { each = t.each })

  hold_kept : (m : Machine) (c s : ℕ) → EachJob P m → KeptR (with_holder_set m c s)
  unfolding with_holder_set effect
  hold_kept m c s t = provided_kept ((has_job m s, NoJob) ∷ (is_none (m.holders c), Exists) ∷ []) (effect (changes.Hold c s) s m) (record { each = t.each })

  version_kept : (m : Machine) (v : ℕ) → EachJob P m → EachJob P (with_version m v)
  unfolding with_version
  version_kept m v t = by (no_job m.jobs)
    where
      by : (x : Bool) → EachJob P (if x then record m { version = v } else m)
      by true = record { each = t.each }
      by false = t

  restored_kept : (m : Machine) (b : Block) (l : StateLine) → EachJob P m → KeptOp (restored m b l)
  unfolding restored
  restored_kept m b (states.System v) t = version_kept m v t
  restored_kept m b (states.Clock n) t = clock_kept m b n t
  restored_kept m b (states.File d x y) t = quietly_kept _ _ (file_kept m (names_of d x y) t)
  restored_kept m b (states.FileWords ws) t = quietly_kept b _ (adds_kept ws.items m b.file t)
  restored_kept m b (states.Job s u j c) t = disturbs_kept s _ _ (made_kept m s u j c t)
  restored_kept m b (states.CoreWords a ws) t = disturbs_kept b.slot b _ (loaded_kept m b.slot a ws.items t)
  restored_kept m b (states.ReadOnly p) t = disturbs_kept b.slot b _ (protected_kept m b.slot p t)
  restored_kept m b (states.Symbol x a) t = quietly_kept b _ (symbol_kept m b.slot x a t)
  restored_kept m b (states.Regs r) t =
      disturbs_kept b.slot b _ (registers_kept m b.slot (after_registers r) (λ q h. keeps.registered q r h) t)
  restored_kept m b (states.Alarm s p n) t = disturbs_kept s b _ (alarm_kept m s p n t)
  restored_kept m b (states.Under s i) t = disturbs_kept s b _ (under_kept m s i t)
  restored_kept m b (states.Tty s n w) t = disturbs_kept s b _ (tty_kept m s n w t)
  restored_kept m b (states.Disk s n d x y at) t = disturbs_kept s b _ (disk_kept m s n (names_of d x y) at refl t)
  restored_kept m b (states.Draft s n d x y) t = disturbs_kept s b _ (draft_kept m s n (names_of d x y) refl t)
  restored_kept m b (states.Wrote s n ws) t = disturbs_kept s b _ (wrote_kept m s n ws.items t)
  restored_kept m b (states.Usr s n i w at) t = disturbs_kept s b _ (usr_kept m s n i w at t)
  restored_kept m b (states.Join s n l w x y) t = disturbs_kept s b _ (join_kept m s n l w x y t)
  restored_kept m b (states.Sent l ws) t = quietly_kept b _ (sent_kept m l ws.items t)
  restored_kept m b (states.EndShut l w) t = quietly_kept b _ (shut_kept m l w t)
  restored_kept m b (states.Input c bs) t = quietly_kept b _ (bytes_kept m c false bs.items t)
  restored_kept m b (states.Output c bs) t = quietly_kept b _ (bytes_kept m c true bs.items t)
  restored_kept m b (states.Hold c s) t = quietly_kept b _ (hold_kept m c s t)
  restored_kept m b (states.Turn s) t = t
  restored_kept m b states.Ready t = t

  -- every line
  operate_kept : (m : Machine) (b : Block) (e : Event) → EachJob P m → KeptOp (operate m b e)
  unfolding operate after_load
  operate_kept m b events.Nothing t = t
  operate_kept m b (events.Version v) t = version_kept m v t
  operate_kept m b (events.Load u j console) t = load_kept m b u j console (least_free (limit m) m.jobs) t
  operate_kept m b (events.Words a words) t = disturbs_kept b.slot b _ (loaded_kept m b.slot a words.items t)
  operate_kept m b (events.ReadOnly page) t = disturbs_kept b.slot b _ (protected_kept m b.slot page t)
  operate_kept m b (events.Symbol name a) t = quietly_kept b _ (symbol_kept m b.slot name a t)
  operate_kept m b (events.Go a) t = disturbs_kept b.slot b _ (registers_kept m b.slot (after_go a) (λ q x. keeps.goes q a x) t)
  operate_kept m b (events.File d x y) t = quietly_kept _ _ (file_kept m (names_of d x y) t)
  operate_kept m b (events.Append words) t = quietly_kept b _ (adds_kept words.items m b.file t)
  operate_kept m b events.EndFile t = t
  operate_kept m b (events.Tick s n) t = tt
  operate_kept m b (events.Run n q) t = t
  operate_kept m b (events.TypeIn c bytes) t = record { each = t.each }
  operate_kept m b (events.Drain c n) t = record { each = t.each }
  operate_kept m b (events.Clock n) t = clock_kept m b n t
  operate_kept m b (events.Int s v w) t = disturbs_kept s b _ (registers_kept m s (after_int v w) (λ q x. keeps.interrupted q v w x) t)
  operate_kept m b (events.Exam s a n) t = by (examined m s a n)
    where
      by : (r : Result (List ℕ) Reason) → KeptOp (by_exam m b s (in_a_line s a) r)
      by (Ok ws) = t
      by (Err r) = tt
  operate_kept m b (events.List s a n) t = by (examined m s a n)
    where
      by : (r : Result (List ℕ) Reason) → KeptOp (by_exam m b s (printed.listed s a) r)
      by (Ok ws) = t
      by (Err r) = tt
  operate_kept m b (events.State s) t = by (state_shown m s)
    where
      by : (r : Result JobShow Reason) → KeptOp (by_state m b s r)
      by (Ok show) = t
      by (Err r) = tt
  operate_kept m b (events.Deposit s a w) t = disturbs_kept s b _ (deposit_kept m s a w t)
  operate_kept m b (events.Stop s) t = disturbs_kept s b _ (registers_kept m s after_stop (λ q x. keeps.stopped q x) t)
  operate_kept m b (events.Cont s) t = disturbs_kept s b _ (registers_kept m s after_cont (λ q x. keeps.continued q x) t)
  operate_kept m b (events.Peek s) t = t
  operate_kept m b (events.Dir d) t = t
  operate_kept m b (events.Show d x y) t = by (file_shown m d x y)
    where
      by : (r : Result (List Line) Reason) → KeptOp (shows m b r)
      by (Ok out) = t
      by (Err r) = tt
  operate_kept m b (events.Restore line) t = restored_kept m b line t
  operate_kept m b events.End t = tt

  abbrev KeptLined : Lined → Type 0
  KeptLined (Done o) = KeptOp o
  KeptLined (Peeks s) = Unit {0}

  lined_kept : (m : Machine) (b : Block) (e : Event) → EachJob P m → KeptLined (lined m b e)
  unfolding lined
  lined_kept m b (events.Peek s) t = by (m.jobs s)
    where
      by : (o : Option Whole) → KeptLined (peeked_at s o)
      by (Some q) = tt
      by None = tt
  lined_kept m b e t = operate_kept m b e t

  pub line_keeps_jobs : (m n : Machine) (b c : Block) (e : Event) (out : List Line) (touched : ℕ → Bool) → EachJob P m
      → lined m b e ≡ Done (Does n out touched c) → EachJob P n
  line_keeps_jobs m n b c e out touched t is = subst KeptLined is (lined_kept m b e t)
