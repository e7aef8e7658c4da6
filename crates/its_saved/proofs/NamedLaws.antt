-- The names of files, of drafts and of files that are read are three words each: at the start of a
-- session, after each step and after each line.
use Rattle.std.specs.Prelude.{if◌then◌else◌, ◌≡◌, ◌==◌, ℕ, ◌+◌, Bool, true, false, Option, Some, None, IfSome, List, [], ◌∷◌, ◌++◌, Result, Ok, Err, length, option_map, nat_lt, is_some, refl}
use Rattle.std.proofs.Common.{sym, subst}
use Rattle.its_word.specs.Core.{Core, Page, can_store, word_at, page_of}
use Rattle.its_word.specs.Directory.{same_names, kept_file, without_names, changed_if, with_changed, longer, named}
use Rattle.its_word.specs.Limits.{most_symbols}
use Rattle.its_records.specs.Tree.{no_job, least_free}
use Rattle.its_records.specs.declared.calls.Ask.{Ask}
use Rattle.its_records.specs.declared.jobs.Job.{Job}
use Rattle.its_records.specs.declared.session.Event.{Event}
use Rattle.its_records.specs.declared.session.Event.TheVariants as events
use Rattle.its_records.specs.declared.session.Reason.{Reason}
use Rattle.its_records.specs.declared.show.JobShow.{JobShow}
use Rattle.its_records.specs.declared.state_line.StateLine.{StateLine}
use Rattle.its_records.specs.declared.state_line.StateLine.TheVariants as states
use Rattle.its_frame.specs.declared.change.Change.{Change}
use Rattle.its_frame.specs.declared.change.Change.TheVariants as changes
use Rattle.its_frame.specs.declared.change.Opened.{Opened}
use Rattle.its_frame.specs.declared.change.Opened.TheVariants as opened
use Rattle.its_frame.specs.declared.decision.Decision.{Decision}
use Rattle.its_frame.specs.declared.decision.Decision.TheVariants.{Waits, Goes, Ends, Gone}
use Rattle.its_frame.specs.declared.decision.Held.{Held}
use Rattle.its_print.specs.Printing.{Line}
use Rattle.its_print.specs.Printing as printed
use Rattle.its_plain.specs.Call.Arguments.{with_new_values}
use Rattle.its_plain.specs.Call.Decide.{reach}
use Rattle.its_plain.specs.Call.File.{most_files, file_named, has_file, is_full}
use Rattle.its_plain.specs.Call.Step.{with_held, acted, decision, informs, step}
use Rattle.its_plain.specs.Machine.{Names, File, Chan, Shut, TtyIn, TtyOut, Reads, Writes, On, Linked, Whole, Machine, no_machine, mapped, limit}
use Rattle.its_plain.specs.Machine.Change.{in_job, channel_in, without_file, with_new_names, files_after_close, is_gone, chan_after_removal, job_after_removal, after_removal, superiors, inferior, effect, effects}
use Rattle.its_plain.specs.Machine.Own.{names_of, opened_on, at_position, with_word, on_channel}
use Rattle.its_plain.specs.Operator.{Block, Operated, Refuses, Does, Ticks, Quits, quietly, disturbs, and_then}
use Rattle.its_plain.specs.Operator.Clock.{after_clock, after_clock_if, clock_end}
use Rattle.its_plain.specs.Operator.Files.{channels_of, with_file_made, with_file_made_if, with_word_added, with_word_added_if, with_word_added_to, with_words_added, file_shown}
use Rattle.its_plain.specs.Operator.Jobs.{on_job, with_holder, after_load, after_load_in, with_core, with_words_loaded, with_words_loaded_if, with_words_stored, with_word_loaded, with_word_loaded_of, with_stored, words_barred, with_page_protected, with_page_protected_in, with_registers, on_registers, after_go, after_int, after_stop, after_cont, examined, state_shown, after_deposit, after_deposit_in}
use Rattle.its_plain.specs.Operator.Lines.{Lined, Done, Peeks, lined, operate, in_a_line, by_load, by_exam, by_state, shows, by_clock, peeked_at}
use Rattle.its_plain.specs.Operator.State.{with_job_made, after_registers, with_alarm_set, with_superior_set, on_tty, with_tty, with_disk, with_draft, with_words_written, with_usr, with_link, with_words_sent, with_end_shut, with_bytes_waiting, with_holder_set, restored}
use Rattle.its_plain.specs.Operator.Symbols.{with_symbol_kept, with_symbol_kept_of, with_symbol_kept_if}
use Rattle.its_plain.specs.Operator.Version.{with_version}
use Rattle.its_plain.specs.Unit.Interrupt.{delivered}
use Rattle.its_plain.proofs.RestoredLaws.{OkBy, MakesJob, job_made, SetsAlarm, alarm_set, SetsSuperior, superior_set, Opens, tty_opened, disk_opened, empty_draft, draft_opened, usr_opened, words_appended, WritesWords, words_written, Joins, link_joined, Sends, words_sent, ShutsEnd, end_shut, PutsBytes, bytes_put, SetsHolder, holder_set}
use Rattle.its_plain.proofs.StepLaws.{AllOf, step_has}
use Rattle.its_saved.specs.WellFormed.{IsNamed, AllNamed, NamedOn, Named}
use Rattle.its_saved.proofs.LinesKeepLaws.{KeepsJobs, line_keeps_jobs}

pub named_starts : Named no_machine
unfolding no_machine
named_starts = record { files = tt; channels = λ k n. tt }

-- files in a list
named_append : (fs gs : List File) → AllNamed fs → AllNamed gs → AllNamed (fs ++ gs)
named_append [] gs h x = x
named_append (f ∷ fs) gs h x = (h.0, named_append fs gs h.1 x)

without_named : (n : Names) (fs : List File) → AllNamed fs → AllNamed (without_names n fs)
without_named n [] h = tt
without_named n (f ∷ fs) h = by (same_names n f.names) (without_named n fs h.1)
  where
    by : (b : Bool) → AllNamed (without_names n fs) → AllNamed (kept_file b f (without_names n fs))
    by true r = r
    by false r = (h.0, r)

changed_named : (n : Names) (g : File → File) → ((f : File) → IsNamed f.names → IsNamed (g f).names) → (fs : List File) → AllNamed fs
    → AllNamed (with_changed n g fs)
changed_named n g k [] h = tt
changed_named n g k (f ∷ fs) h = (by (same_names n f.names), changed_named n g k fs h.1)
  where
    by : (b : Bool) → IsNamed (changed_if b f (g f)).names
    by true = k f h.0
    by false = h.0

-- what a job does to its channels
abbrev NamedBy : Whole → Type 0
NamedBy q = (n : ℕ) → NamedOn (q.channels n)

abbrev NamedIn : Option Whole → Type 0
NamedIn o = (n : ℕ) → NamedOn (channel_in o n)

abbrev KeepsNames : (Whole → Whole) → Type 0
KeepsNames f = (q : Whole) → NamedBy q → NamedBy (f q)

mapped_named : (f : Whole → Whole) (b : Bool) (o : Option Whole) → KeepsNames f → NamedIn o → NamedIn (if b then option_map f o else o)
mapped_named f true (Some q) h a = h q a
mapped_named f true None h a = λ n. tt
mapped_named f false o h a = a

job_named : (m : Machine) (s : ℕ) (f : Whole → Whole) → KeepsNames f → Named m → Named (in_job m s f)
job_named m s f h a = record { files = a.files; channels = λ k. mapped_named f (k == s) (m.jobs k) h (a.channels k) }

channel_named : (i : ℕ) (f : Chan → Chan) → ((c : Chan) → NamedOn c → NamedOn (f c)) → KeepsNames (on_channel i f)
channel_named i f h q a n = by (n == i)
  where
    by : (b : Bool) → NamedOn (if b then f (q.channels i) else q.channels n)
    by true = h (q.channels i) (a i)
    by false = a n

either_named : (b : Bool) (p o : Option Whole) → NamedIn p → NamedIn o → NamedIn (if b then p else o)
either_named true p o x a = x
either_named false p o x a = a

-- changes of a channel
opened_named : (on : Opened) → NamedOn (opened_on on)
opened_named opened.TtyIn = tt
opened_named opened.TtyOut = tt
opened_named (opened.Reading d x y) = refl
opened_named (opened.Writing d x y) = refl
opened_named (opened.Usr s write) = tt

moved_named : (at : ℕ) (c : Chan) → NamedOn c → NamedOn (at_position at c)
moved_named at Shut h = tt
moved_named at TtyIn h = tt
moved_named at TtyOut h = tt
moved_named at (Reads n p) h = h
moved_named at (Writes f) h = h
moved_named at (On s write p) h = tt
moved_named at (Linked l write) h = tt

longer_named : (w : ℕ) (c : Chan) → NamedOn c → NamedOn (with_word w c)
longer_named w Shut h = tt
longer_named w TtyIn h = tt
longer_named w TtyOut h = tt
longer_named w (Reads n p) h = h
longer_named w (Writes f) h = h
longer_named w (On s write p) h = tt
longer_named w (Linked l write) h = tt

closed_named : (c : Chan) (fs : List File) → NamedOn c → AllNamed fs → AllNamed (files_after_close c fs)
unfolding without_file
closed_named Shut fs h a = a
closed_named TtyIn fs h a = a
closed_named TtyOut fs h a = a
closed_named (Reads n p) fs h a = a
closed_named (Writes f) fs h a = named_append (without_names f.names fs) (f ∷ []) (without_named f.names fs a) (h, tt)
closed_named (On s write p) fs h a = a
closed_named (Linked l write) fs h a = a

-- a removal
left_named : (gone : ℕ → Bool) (c : Chan) → NamedOn c → NamedOn (chan_after_removal gone c)
left_named gone Shut h = tt
left_named gone TtyIn h = tt
left_named gone TtyOut h = tt
left_named gone (Reads n p) h = h
left_named gone (Writes f) h = h
left_named gone (On s write p) h = by (gone s)
  where
    by : (b : Bool) → NamedOn (if b then Shut else On s write p)
    by true = tt
    by false = tt
left_named gone (Linked l write) h = tt

removed_job : (gone : ℕ → Bool) (b : Bool) (o : Option Whole) → NamedIn o → NamedIn (job_after_removal gone b o)
removed_job gone true o a = λ n. tt
removed_job gone false None a = λ n. tt
removed_job gone false (Some q) a = λ n. left_named gone (q.channels n) (a n)

removed_named : (sup : ℕ → Option ℕ) (r : ℕ) (m : Machine) → Named m → Named (after_removal sup r m)
unfolding after_removal
removed_named sup r m a = record { files = a.files; channels = λ k. removed_job (is_gone sup r) (is_gone sup r k) (m.jobs k) (a.channels k) }

-- a change
effect_named : (c : Change) (j : ℕ) (m : Machine) → Named m → Named (effect c j m)
unfolding effect without_file with_new_names
effect_named (changes.Open n on) j m a = job_named m j _ (channel_named n (λ c. opened_on on) (λ c x. opened_named on)) a
effect_named (changes.Shut n) j m a = job_named m j _ (channel_named n (λ c. Shut) (λ c x. tt)) a
effect_named (changes.Move n at) j m a = job_named m j _ (channel_named n (at_position at) (moved_named at)) a
effect_named (changes.Append n w) j m a = job_named m j _ (channel_named n (with_word w) (longer_named w)) a
effect_named (changes.Close n) j m a = record {
  files = closed_named (channel_in (m.jobs j) n) m.files (a.channels j n) a.files;
  channels = (job_named m j _ (channel_named n (λ c. Shut) (λ c x. tt)) a).channels;
}
effect_named (changes.Take c) j m a = record { files = a.files; channels = a.channels }
effect_named (changes.Put c b) j m a = record { files = a.files; channels = a.channels }
effect_named (changes.Hold c s) j m a = record { files = a.files; channels = a.channels }
effect_named (changes.Poke s p w) j m a = job_named m s _ (λ q x. x) a
effect_named (changes.Set s v w) j m a = job_named m s _ (λ q x. x) a
effect_named (changes.Map s k) j m a = job_named m s _ (λ q x. x) a
effect_named (changes.Unmap s k) j m a = job_named m s _ (λ q x. x) a
effect_named (changes.Protect s k on) j m a = job_named m s _ (λ q x. x) a
effect_named (changes.Make s u n) j m a = record {
  files = a.files;
  channels = λ k. either_named (k == s) (Some (inferior j (m.jobs j) u n)) (m.jobs k) (λ i. tt) (a.channels k);
}
effect_named (changes.Remove s) j m a = removed_named (superiors m) s m a
effect_named (changes.Inform s) j m a = job_named m s _ (λ q x. x) a
effect_named (changes.Arm alarm) j m a = job_named m j _ (λ q x. x) a
effect_named (changes.Join n l write x y) j m a =
    record { files = a.files; channels = (job_named m j _ (channel_named n (λ c. Linked l write) (λ c x. tt)) a).channels }
effect_named (changes.CloseEnd n l write) j m a =
    record { files = a.files; channels = (job_named m j _ (channel_named n (λ c. Shut) (λ c x. tt)) a).channels }
effect_named (changes.Send l w) j m a = record { files = a.files; channels = a.channels }
effect_named (changes.Receive l) j m a = record { files = a.files; channels = a.channels }
effect_named (changes.Delete d x y) j m a = record { files = without_named (names_of d x y) m.files a.files; channels = a.channels }
effect_named (changes.Rename d x y u v) j m a =
    record { files = changed_named (names_of d x y) (named (names_of d u v)) (λ f h. refl) m.files a.files; channels = a.channels }

effects_named : (cs : List Change) (j : ℕ) (m : Machine) → Named m → Named (effects cs j m)
effects_named [] j m a = a
effects_named (c ∷ cs) j m a = effects_named cs j (effect c j m) (effect_named c j m a)

-- a step
held_named : (a : Ask) (h : Option Held) → KeepsNames (with_held a h)
held_named a (Some h) q x = x
held_named a None q x = x

acted_named : (m : Machine) (j : ℕ) (a : Ask) (ks : List ℕ) (d : Decision) → Named m → AllOf (λ t. Named t.machine) (acted m j a ks d)
unfolding acted
acted_named m j a ks (Waits r) h = tt
acted_named m j a ks (Goes cs b vs) h =
    job_named (effects cs.items j m) j _ (λ q x. held_named (with_new_values a vs.items) b q x) (effects_named cs.items j m h)
acted_named m j a ks (Ends cs ss e) h = job_named (effects cs.items j m) j _ (λ q x. x) (effects_named cs.items j m h)
acted_named m j a ks (Gone cs) h = effects_named (changes.Remove j ∷ cs.items) j m h

pub step_named : (m n : Machine) (j : ℕ) → Named m → step m j ≡ Some n → Named n
step_named m n j h e = step_has Named m n j (λ q is.
    let d = delivered q.core q.job in
    record {
      delivers = job_named (effects (informs d.stops q.superior) j m) j _ (λ i x. x) (effects_named (informs d.stops q.superior) j m h);
      changes = λ c k u. job_named m j _ (λ i x. x) h;
      faults = λ f. job_named m j _ (λ i x. x) h;
      calls = λ a. acted_named m j a (reach m j q a) (decision m j q a) h;
    }) e

-- a line: jobs
named_jobs : KeepsJobs NamedBy
named_jobs = record {
  made = λ u j c n. tt;
  stored = λ q a w h. h;
  mapped = λ q k h. h;
  protected = λ q k h. h;
  goes = λ q a h. h;
  interrupted = λ q v w h. h;
  stopped = λ q h. h;
  continued = λ q h. h;
  alarmed = λ q c h. h;
  registered = λ q r h. h;
  armed = λ q a h. h;
  placed = λ q t h. h;
  channelled = λ q n f k h. channel_named n f k q h;
}

to_job : (o : Option Whole) → NamedIn o → IfSome o NamedBy
to_job (Some q) h = h
to_job None h = tt

from_job : (o : Option Whole) → IfSome o NamedBy → NamedIn o
from_job (Some q) h = h
from_job None h = λ n. tt

-- a line: files
abbrev FiledR : Result Machine Reason → Type 0
FiledR (Ok n) = AllNamed n.files
FiledR (Err r) = Unit {0}

abbrev FiledOp : Operated → Type 0
FiledOp (Does n out touched b) = AllNamed n.files
FiledOp (Refuses r) = Unit {0}
FiledOp (Ticks s k) = Unit {0}
FiledOp Quits = Unit {0}

module _ (m : Machine) (h : AllNamed m.files) where
  quietly_filed : (b : Block) (r : Result Machine Reason) → FiledR r → FiledOp (quietly b r)
  quietly_filed b (Ok n) f = f
  quietly_filed b (Err r) f = tt

  disturbs_filed : (s : ℕ) (b : Block) (r : Result Machine Reason) → FiledR r → FiledOp (disturbs s b r)
  disturbs_filed s b (Ok n) f = f
  disturbs_filed s b (Err r) f = tt

  core_filed : (s : ℕ) (q : Whole) (r : Result Core Reason) → FiledR (with_core m s q r)
  core_filed s q (Ok c) = h
  core_filed s q (Err r) = tt

  word_filed : (s a w : ℕ) → FiledR (with_word_loaded m s a w)
  unfolding with_word_loaded
  word_filed s a w = by (m.jobs s)
    where
      by : (o : Option Whole) → FiledR (with_word_loaded_of m s a w o)
      by (Some q) = core_filed s q (with_stored (mapped m) q.core a w)
      by None = tt

  on_filed : (s : ℕ) (f : Whole → Result Machine Reason) → ((q : Whole) → FiledR (f q)) → FiledR (on_job m s f (m.jobs s))
  on_filed s f each = by (m.jobs s)
    where
      by : (o : Option Whole) → FiledR (on_job m s f o)
      by (Some q) = each q
      by None = tt

  protected_filed : (s k : ℕ) → FiledR (with_page_protected m s k)
  unfolding with_page_protected
  protected_filed s k = on_filed s (λ q. with_page_protected_in m s k q (page_of q.core k)) (λ q. by q (page_of q.core k))
    where
      by : (q : Whole) (o : Option Page) → FiledR (with_page_protected_in m s k q o)
      by q (Some p) = h
      by q None = tt

  registers_filed : (s : ℕ) (f : Job → Job) → FiledR (on_registers m s f)
  unfolding on_registers
  registers_filed s f = on_filed s (with_registers m s f) (λ q. h)

  deposit_filed : (s a w : ℕ) → FiledR (after_deposit m s a w)
  unfolding after_deposit
  deposit_filed s a w = on_filed s _ (λ q. core_filed s q (after_deposit_in q.core a w (can_store q.core a) (is_some (word_at q.core a))))

  symbol_filed : (s name a : ℕ) → FiledR (with_symbol_kept m s name a)
  unfolding with_symbol_kept
  symbol_filed s name a = by (m.jobs s)
    where
      if_room : (b : Bool) → FiledR (with_symbol_kept_if m s (name, a) b)
      if_room true = h
      if_room false = tt

      by : (o : Option Whole) → FiledR (with_symbol_kept_of m s (name, a) o)
      by (Some q) = if_room (nat_lt (length (m.symbols s)) most_symbols)
      by None = tt

  file_filed : (n : Names) → IsNamed n → FiledR (with_file_made m n)
  unfolding with_file_made
  file_filed n is = by (has_file n m.files) (nat_lt (length m.files) most_files)
    where
      by : (x y : Bool) → FiledR (with_file_made_if m n x y)
      by true y = tt
      by false true = named_append m.files (record { names = n; words = [] } ∷ []) h (is, tt)
      by false false = tt

  add_filed : (n : Names) (w : ℕ) → FiledR (with_word_added m n w)
  unfolding with_word_added
  add_filed n w = by (file_named n m.files)
    where
      if_room : (b : Bool) → FiledR (with_word_added_if m n w b)
      if_room true = tt
      if_room false = changed_named n (longer w) (λ f x. x) m.files h

      by : (o : Option File) → FiledR (with_word_added_to m n w o)
      by (Some f) = if_room (is_full m.files (channels_of m) f.words)
      by None = tt

  held_filed : (s : ℕ) (c : Option ℕ) → AllNamed (with_holder m s c).files
  held_filed s (Some c) = h
  held_filed s None = h

  load_filed : (b : Block) (u j : ℕ) (c o : Option ℕ) → FiledOp (by_load b (after_load_in m u j c o))
  load_filed b u j (Some c) (Some s) = h
  load_filed b u j None (Some s) = h
  load_filed b u j c None = tt

  clock_filed : (b : Block) (n : ℕ) → FiledOp (by_clock m b n (after_clock m n))
  unfolding after_clock
  clock_filed b n = by (nat_lt (m.clock + n) clock_end)
    where
      by : (x : Bool) → FiledOp (by_clock m b n (after_clock_if m n x))
      by true = h
      by false = tt

  version_filed : (v : ℕ) → AllNamed (with_version m v).files
  unfolding with_version
  version_filed v = by (no_job m.jobs)
    where
      by : (x : Bool) → AllNamed (if x then record m { version = v } else m).files
      by true = h
      by false = h

  exam_filed : (b : Block) (s : ℕ) (show : List ℕ → List Line) (r : Result (List ℕ) Reason) → FiledOp (by_exam m b s show r)
  exam_filed b s show (Ok ws) = h
  exam_filed b s show (Err r) = tt

  state_filed : (b : Block) (s : ℕ) (r : Result JobShow Reason) → FiledOp (by_state m b s r)
  state_filed b s (Ok show) = h
  state_filed b s (Err r) = tt

  shown_filed : (b : Block) (r : Result (List Line) Reason) → FiledOp (shows m b r)
  shown_filed b (Ok out) = h
  shown_filed b (Err r) = tt

words_filed : (ws : List ℕ) (m : Machine) (s a : ℕ) → AllNamed m.files → FiledR (with_words_stored m s a ws)
words_filed [] m s a h = h
words_filed (w ∷ ws) m s a h = by (with_word_loaded m s a w) (word_filed m h s a w) (λ n f. words_filed ws n s (a + 1) f)
  where
    by : (r : Result Machine Reason) → FiledR r → ((n : Machine) → AllNamed n.files → FiledR (with_words_stored n s (a + 1) ws))
        → FiledR (and_then r (λ n. with_words_stored n s (a + 1) ws))
    by (Ok n) f more = more n f
    by (Err r) f more = tt

loaded_filed : (m : Machine) (s a : ℕ) (ws : List ℕ) → AllNamed m.files → FiledR (with_words_loaded m s a ws)
unfolding with_words_loaded
loaded_filed m s a ws h = by (words_barred m s a (length ws))
  where
    by : (b : Bool) → FiledR (with_words_loaded_if m s a ws b)
    by true = tt
    by false = words_filed ws m s a h

adds_filed : (ws : List ℕ) (m : Machine) (n : Names) → AllNamed m.files → FiledR (with_words_added m n ws)
adds_filed [] m n h = h
adds_filed (w ∷ ws) m n h = by (with_word_added m n w) (add_filed m h n w) (λ k f. adds_filed ws k n f)
  where
    by : (r : Result Machine Reason) → FiledR r → ((k : Machine) → AllNamed k.files → FiledR (with_words_added k n ws))
        → FiledR (and_then r (λ k. with_words_added k n ws))
    by (Ok k) f more = more k f
    by (Err r) f more = tt

-- a line of the state part
filed_by : (P : Machine → Type 0) (r : Result Machine Reason) → OkBy P r → ((n : Machine) → P n → AllNamed n.files) → FiledR r
filed_by P (Ok n) h f = f n h
filed_by P (Err r) h f = tt

files_at : (k n : Machine) → n ≡ k → AllNamed k.files → AllNamed n.files
files_at k n e h = subst (λ (x : Machine). AllNamed x.files) (sym e) h

appended_files : (m : Machine) (s i : ℕ) (ws : List ℕ) → (effects (words_appended i ws) s m).files ≡ m.files
unfolding effect
appended_files m s i [] = refl
appended_files m s i (w ∷ ws) = appended_files (effect (changes.Append i w) s m) s i ws

restored_filed : (m : Machine) (b : Block) (l : StateLine) → AllNamed m.files → FiledOp (restored m b l)
unfolding restored effect
restored_filed m b (states.System v) h = version_filed m h v
restored_filed m b (states.Clock n) h = clock_filed m h b n
restored_filed m b (states.File d x y) h = quietly_filed m h _ _ (file_filed m h (names_of d x y) refl)
restored_filed m b (states.FileWords ws) h = quietly_filed m h b _ (adds_filed ws.items m b.file h)
restored_filed m b (states.Job s u j c) h =
    disturbs_filed m h s _ _ (filed_by (MakesJob m s u j c) (with_job_made m s u j c) (job_made m s u j c) (λ n f. files_at _ n f.is h))
restored_filed m b (states.CoreWords a ws) h = disturbs_filed m h b.slot b _ (loaded_filed m b.slot a ws.items h)
restored_filed m b (states.ReadOnly p) h = disturbs_filed m h b.slot b _ (protected_filed m h b.slot p)
restored_filed m b (states.Symbol x a) h = quietly_filed m h b _ (symbol_filed m h b.slot x a)
restored_filed m b (states.Regs r) h = disturbs_filed m h b.slot b _ (registers_filed m h b.slot (after_registers r))
restored_filed m b (states.Alarm s p n) h =
    disturbs_filed m h s b _ (filed_by (SetsAlarm m s p n) (with_alarm_set m s p n) (alarm_set m s p n) (λ k f. files_at _ k f.is h))
restored_filed m b (states.Under s t) h =
    disturbs_filed m h s b _ (filed_by (SetsSuperior m s t) (with_superior_set m s t) (superior_set m s t) (λ n f. files_at _ n f.is h))
restored_filed m b (states.Tty s i w) h =
    disturbs_filed m h s b _ (filed_by (Opens m s i (on_tty w)) (with_tty m s i w) (tty_opened m s i w) (λ n f. files_at _ n f.is h))
restored_filed m b (states.Disk s i d x y at) h =
    disturbs_filed m h s b _
    (filed_by (Opens m s i (Reads (names_of d x y) at)) (with_disk m s i (names_of d x y) at) (disk_opened m s i (names_of d x y) at)
    (λ n f. files_at _ n f.is h))
restored_filed m b (states.Draft s i d x y) h =
    disturbs_filed m h s b _
    (filed_by (Opens m s i (empty_draft (names_of d x y))) (with_draft m s i (names_of d x y)) (draft_opened m s i (names_of d x y))
    (λ n f. files_at _ n f.is h))
restored_filed m b (states.Wrote s i ws) h =
    disturbs_filed m h s b _
    (filed_by (WritesWords m s i ws.items) (with_words_written m s i ws.items) (words_written m s i ws.items)
    (λ n f. files_at (effects (words_appended i ws.items) s m) n f.is (subst AllNamed (sym (appended_files m s i ws.items)) h)))
restored_filed m b (states.Usr s i t w at) h =
    disturbs_filed m h s b _ (filed_by (Opens m s i (On t w at)) (with_usr m s i t w at) (usr_opened m s i t w at) (λ n f. files_at _ n f.is h))
restored_filed m b (states.Join s i l w x y) h =
    disturbs_filed m h s b _ (filed_by (Joins m s i l w x y) (with_link m s i l w x y) (link_joined m s i l w x y) (λ n f. files_at _ n f.is h))
restored_filed m b (states.Sent l ws) h =
    quietly_filed m h b _ (filed_by (Sends m l ws.items) (with_words_sent m l ws.items) (words_sent m l ws.items) (λ n f. files_at _ n f.is h))
restored_filed m b (states.EndShut l w) h =
    quietly_filed m h b _ (filed_by (ShutsEnd m l w) (with_end_shut m l w) (end_shut m l w) (λ n f. files_at _ n f.is h))
restored_filed m b (states.Input c bs) h =
    quietly_filed m h b _ (filed_by (PutsBytes m c false bs.items) (with_bytes_waiting m c false bs.items) (bytes_put m c false bs.items)
    (λ n f. files_at _ n f.is h))
restored_filed m b (states.Output c bs) h =
    quietly_filed m h b _ (filed_by (PutsBytes m c true bs.items) (with_bytes_waiting m c true bs.items) (bytes_put m c true bs.items)
    (λ n f. files_at _ n f.is h))
restored_filed m b (states.Hold c s) h =
    quietly_filed m h b _ (filed_by (SetsHolder m c s) (with_holder_set m c s) (holder_set m c s) (λ n f. files_at _ n f.is h))
restored_filed m b (states.Turn s) h = h
restored_filed m b states.Ready h = h

operate_filed : (m : Machine) (b : Block) (e : Event) → AllNamed m.files → FiledOp (operate m b e)
unfolding operate after_load
operate_filed m b (events.Version v) h = version_filed m h v
operate_filed m b (events.Load u j console) h = load_filed m h b u j console (least_free (limit m) m.jobs)
operate_filed m b (events.Words a words) h = disturbs_filed m h b.slot b _ (loaded_filed m b.slot a words.items h)
operate_filed m b (events.ReadOnly page) h = disturbs_filed m h b.slot b _ (protected_filed m h b.slot page)
operate_filed m b (events.Symbol name a) h = quietly_filed m h b _ (symbol_filed m h b.slot name a)
operate_filed m b (events.Go a) h = disturbs_filed m h b.slot b _ (registers_filed m h b.slot (after_go a))
operate_filed m b (events.File d x y) h = quietly_filed m h _ _ (file_filed m h (names_of d x y) refl)
operate_filed m b (events.Append words) h = quietly_filed m h b _ (adds_filed words.items m b.file h)
operate_filed m b (events.Tick s n) h = tt
operate_filed m b (events.TypeIn c bytes) h = h
operate_filed m b (events.Drain c n) h = h
operate_filed m b (events.Clock n) h = clock_filed m h b n
operate_filed m b (events.Int s v w) h = disturbs_filed m h s b _ (registers_filed m h s (after_int v w))
operate_filed m b (events.Exam s a n) h = exam_filed m h b s (in_a_line s a) (examined m s a n)
operate_filed m b (events.List s a n) h = exam_filed m h b s (printed.listed s a) (examined m s a n)
operate_filed m b (events.State s) h = state_filed m h b s (state_shown m s)
operate_filed m b (events.Deposit s a w) h = disturbs_filed m h s b _ (deposit_filed m h s a w)
operate_filed m b (events.Stop s) h = disturbs_filed m h s b _ (registers_filed m h s after_stop)
operate_filed m b (events.Cont s) h = disturbs_filed m h s b _ (registers_filed m h s after_cont)
operate_filed m b (events.Show d x y) h = shown_filed m h b (file_shown m d x y)
operate_filed m b (events.Restore line) h = restored_filed m b line h
operate_filed m b events.End h = tt
operate_filed m b _ h = h

abbrev FiledLined : Lined → Type 0
FiledLined (Done o) = FiledOp o
FiledLined (Peeks s) = Unit {0}

lined_filed : (m : Machine) (b : Block) (e : Event) → AllNamed m.files → FiledLined (lined m b e)
unfolding lined
lined_filed m b (events.Peek s) h = by (m.jobs s)
  where
    by : (o : Option Whole) → FiledLined (peeked_at s o)
    by (Some q) = tt
    by None = tt
lined_filed m b e h = operate_filed m b e h

pub line_named : (m n : Machine) (b c : Block) (e : Event) (out : List Line) (touched : ℕ → Bool) → Named m
    → lined m b e ≡ Done (Does n out touched c) → Named n
line_named m n b c e out touched h is = record {
  files = subst FiledLined is (lined_filed m b e h.files);
  channels = λ k. from_job (n.jobs k)
      ((line_keeps_jobs named_jobs m n b c e out touched (record { each = λ i. to_job (m.jobs i) (h.channels i) }) is).each k);
}
