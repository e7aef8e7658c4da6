-- A line of the operator changes the parts that it may, and no other (docs/MACHINE.md, "Who may
-- touch what").
use Rattle.std.specs.Prelude.{◌&&◌, ◌≡◌, ◌≢◌, ◌==◌, ℕ, ◌+◌, Bool, true, false, Option, Some, None, is_none, is_some, option_map, List, [], ◌∷◌, Result, Ok, Err, nat_lt, length, refl}
use Rattle.std.proofs.Common.{sym, ◌∙◌, ap, subst, inl, inr}
use Rattle.std.proofs.lemmas.Bool.{cases_Bool, cases_eq, eq-eqb, ne_eqb}
use Rattle.its_word.specs.Core.{Core, Page, page_of, word_at, can_store}
use Rattle.its_word.specs.Limits.{most_symbols}
use Rattle.its_records.specs.Tree.{least_free, no_job}
use Rattle.its_records.specs.declared.jobs.Job.{Job}
use Rattle.its_records.specs.declared.session.Event.{Event}
use Rattle.its_records.specs.declared.session.Event.TheVariants as events
use Rattle.its_records.specs.declared.session.Reason.{Reason}
use Rattle.its_records.specs.declared.show.JobShow.{JobShow}
use Rattle.its_records.specs.declared.state_line.StateLine.{StateLine}
use Rattle.its_records.specs.declared.state_line.StateLine.TheVariants as states
use Rattle.its_frame.specs.declared.change.Change.TheVariants as changes
use Rattle.its_print.specs.Printing.{Line, listed}
use Rattle.its_plain.specs.Call.File.{most_files, is_full, file_named, has_file}
use Rattle.its_plain.specs.Machine.Change.{on_link, in_job, with_protection, with_alarm, effect, effects}
use Rattle.its_security.specs.OperatorParts.{is_this, Parts, no_part, job_part, console_part, file_part, link_part, restored_parts, touched, OnlyParts}
use Rattle.its_plain.specs.Machine.{Names, File, Pipe, Chan, Reads, On, Console, Whole, Machine, changed, with_job, with_new, mapped, limit}
use Rattle.its_plain.specs.Operator.{Block, Does, and_then, disturbs, quietly}
use Rattle.its_plain.specs.Operator.Clock.{clock_end, after_clock_if, after_clock}
use Rattle.its_plain.specs.Operator.Files.{channels_of, with_files, with_file_made_if, with_file_made, with_word_added_if, with_word_added_to, with_word_added, with_words_added, file_shown}
use Rattle.its_plain.specs.Operator.Jobs.{new_job, held_by, after_load_in, after_load, with_stored, with_core, with_word_loaded_of, with_word_loaded, with_words_stored, words_barred, with_words_loaded_if, with_words_loaded, with_page_protected_in, with_page_protected, on_job, with_registers, on_registers, after_go, after_int, after_stop, after_cont, examined, state_shown, after_deposit_in, after_deposit}
use Rattle.its_plain.specs.Operator.Lines.{by_load, by_exam, in_a_line, by_state, by_clock, operate, shows, Lined, Done, peeked_at, lined}
use Rattle.its_plain.specs.Operator.Symbols.{with_symbol_kept_if, with_symbol_kept_of, with_symbol_kept}
use Rattle.its_plain.specs.Operator.Version.{with_version}
use Rattle.its_plain.specs.Machine.Own.{names_of, with_word, on_channel}
use Rattle.its_plain.specs.Operator.State.{after_registers, with_job_made, with_alarm_set, under, with_superior_set, on_tty, with_words_written, with_link, with_words_in, with_words_sent, with_end_closed, with_end_shut, with_bytes_waiting, with_holder_set, restored}
use Rattle.its_plain.proofs.RestoredLaws.{OkBy, MakesJob, job_made, SetsAlarm, alarm_set, SetsSuperior, superior_set, Opens, tty_opened, disk_opened, empty_draft, draft_opened, usr_opened, words_appended, WritesWords, words_written, Joins, link_joined, Sends, words_sent, ShutsEnd, end_shut, PutsBytes, bytes_put, SetsHolder, holder_set}

-- a line that changes the jobs alone
jobs_alone : (p : Parts) (m : Machine) (jobs : ℕ → Option Whole) → ((k : ℕ) → p.jobs k ≡ false → jobs k ≡ m.jobs k) → OnlyParts p m (record m { jobs = jobs })
jobs_alone p m jobs h = record {
  jobs = h;
  consoles = λ c e. refl;
  holders = λ c e. refl;
  files = λ e. refl;
  symbols = λ k e. refl;
  clock = λ e. refl;
  version = λ e. refl;
  links = λ l e. refl;
}

only_same : (p : Parts) (m : Machine) → OnlyParts p m m
only_same p m = jobs_alone p m m.jobs (λ k e. refl)

only_then : (p : Parts) (m n l : Machine) → OnlyParts p m n → OnlyParts p n l → OnlyParts p m l
only_then p m n l a b = record {
  jobs = λ k e. b.jobs k e ∙ a.jobs k e;
  consoles = λ c e. b.consoles c e ∙ a.consoles c e;
  holders = λ c e. b.holders c e ∙ a.holders c e;
  files = λ e. b.files e ∙ a.files e;
  symbols = λ k e. b.symbols k e ∙ a.symbols k e;
  clock = λ e. b.clock e ∙ a.clock e;
  version = λ e. b.version e ∙ a.version e;
  links = λ l e. b.links l e ∙ a.links l e;
}

-- what a result, and what a line, leaves
abbrev PartsBy : Parts → Machine → Result Machine Reason → Type 0
PartsBy p m (Ok n) = OnlyParts p m n
PartsBy p m (Err r) = Unit {0}

abbrev pub PartsOf : Parts → Machine → Lined → Type 0
PartsOf p m (Done (Does n out t c)) = OnlyParts p m n
PartsOf p m _ = Unit {0}

disturbs_parts : (p : Parts) (m : Machine) (s : ℕ) (b : Block) (r : Result Machine Reason) → PartsBy p m r → PartsOf p m (Done (disturbs s b r))
disturbs_parts p m s b (Ok n) h = h
disturbs_parts p m s b (Err r) h = tt

quiet_parts : (p : Parts) (m : Machine) (b : Block) (r : Result Machine Reason) → PartsBy p m r → PartsOf p m (Done (quietly b r))
quiet_parts p m b (Ok n) h = h
quiet_parts p m b (Err r) h = tt

parts_then : (p : Parts) (m n : Machine) (r : Result Machine Reason) → OnlyParts p m n → PartsBy p n r → PartsBy p m r
parts_then p m n (Ok l) a b = only_then p m n l a b
parts_then p m n (Err r) a b = tt

apart : (k s : ℕ) → (k == s) ≡ false → k ≢ s
apart k s e at = let no : false ≡ true = sym e ∙ eq-eqb k s at in cc

-- one job
one_job : (m : Machine) (s : ℕ) (q : Whole) → OnlyParts (job_part s) m (with_job m s q)
one_job m s q = jobs_alone (job_part s) m (with_job m s q).jobs (λ k e. rw e refl)

core_parts : (m : Machine) (s : ℕ) (q : Whole) (r : Result Core Reason) → PartsBy (job_part s) m (with_core m s q r)
core_parts m s q (Ok c) = one_job m s (record q { core = c })
core_parts m s q (Err r) = tt

word_parts : (m : Machine) (s a w : ℕ) → PartsBy (job_part s) m (with_word_loaded m s a w)
unfolding with_word_loaded
word_parts m s a w = go (m.jobs s)
  where
    go : (o : Option Whole) → PartsBy (job_part s) m (with_word_loaded_of m s a w o)
    go (Some q) = core_parts m s q (with_stored (mapped m) q.core a w)
    go None = tt

then_parts : (p : Parts) (m : Machine) (r : Result Machine Reason) (next : Machine → Result Machine Reason) → PartsBy p m r
    → ((n : Machine) → PartsBy p n (next n)) → PartsBy p m (and_then r next)
then_parts p m (Ok n) next h more = parts_then p m n (next n) h (more n)
then_parts p m (Err r) next h more = tt

stored_parts : (ws : List ℕ) (m : Machine) (s a : ℕ) → PartsBy (job_part s) m (with_words_stored m s a ws)
stored_parts [] m s a = only_same (job_part s) m
stored_parts (w ∷ ws) m s a = then_parts (job_part s) m (with_word_loaded m s a w) _ (word_parts m s a w) (λ n. stored_parts ws n s (a + 1))

loaded_parts : (m : Machine) (s a : ℕ) (ws : List ℕ) → PartsBy (job_part s) m (with_words_loaded m s a ws)
unfolding with_words_loaded
loaded_parts m s a ws = go (words_barred m s a (length ws))
  where
    go : (b : Bool) → PartsBy (job_part s) m (with_words_loaded_if m s a ws b)
    go true = tt
    go false = stored_parts ws m s a

on_parts : (m : Machine) (s : ℕ) (f : Whole → Result Machine Reason) (o : Option Whole) → ((q : Whole) → PartsBy (job_part s) m (f q))
    → PartsBy (job_part s) m (on_job m s f o)
on_parts m s f (Some q) h = h q
on_parts m s f None h = tt

protect_parts : (m : Machine) (s k : ℕ) → PartsBy (job_part s) m (with_page_protected m s k)
unfolding with_page_protected
protect_parts m s k = on_parts m s _ (m.jobs s) (λ q. go q (page_of q.core k))
  where
    go : (q : Whole) (o : Option Page) → PartsBy (job_part s) m (with_page_protected_in m s k q o)
    go q (Some p) = one_job m s (with_protection k false q)
    go q None = tt

register_parts : (m : Machine) (s : ℕ) (f : Job → Job) → PartsBy (job_part s) m (on_registers m s f)
unfolding on_registers
register_parts m s f = on_parts m s (with_registers m s f) (m.jobs s) (λ q. one_job m s (record q { job = f q.job }))

deposit_parts : (m : Machine) (s a w : ℕ) → PartsBy (job_part s) m (after_deposit m s a w)
unfolding after_deposit
deposit_parts m s a w = on_parts m s _ (m.jobs s) (λ q. core_parts m s q (after_deposit_in q.core a w (can_store q.core a) (is_some (word_at q.core a))))

-- LOAD
held_same : (s : ℕ) (o : Option ℕ) → is_none o ≡ false → held_by s o ≡ o
held_same s (Some h) e = refl
held_same s None e = cc

empty_apart : (m : Machine) (k s : ℕ) → m.jobs s ≡ None → is_none (m.jobs k) ≡ false → k ≢ s
empty_apart m k s none e at = let no : true ≡ false = sym (ap is_none (ap m.jobs at ∙ none)) ∙ e in cc

load_parts : (m : Machine) (b : Block) (u j : ℕ) (console o : Option ℕ) → least_free (limit m) m.jobs ≡ o
    → PartsOf (touched m b (events.Load u j console)) m (Done (by_load b (after_load_in m u j console o)))
load_parts m b u j (Some c) (Some s) is = record {
  jobs = λ k e. rw (sym (ap (λ (o : Option ℕ). is_this o k) is) ∙ e) refl;
  consoles = λ d e. refl;
  holders = λ d e. elim (cases_eq d c) [
    | inl at ↦ rw (eq-eqb d c at) (held_same s (m.holders c)
        (ap (λ (i : ℕ). is_none (m.holders i)) (sym at) ∙ sym (ap (λ b. b && is_none (m.holders d)) (eq-eqb d c at)) ∙ e) ∙ ap m.holders (sym at))
    | inr other ↦ rw (ne_eqb d c other) refl
  ];
  files = λ e. refl;
  symbols = λ k e. rw (sym (ap (λ (o : Option ℕ). is_this o k) is) ∙ e) refl;
  clock = λ e. refl;
  version = λ e. refl;
  links = λ l e. refl;
}
load_parts m b u j None (Some s) is = record {
  jobs = λ k e. rw (sym (ap (λ (o : Option ℕ). is_this o k) is) ∙ e) refl;
  consoles = λ d e. refl;
  holders = λ d e. refl;
  files = λ e. refl;
  symbols = λ k e. rw (sym (ap (λ (o : Option ℕ). is_this o k) is) ∙ e) refl;
  clock = λ e. refl;
  version = λ e. refl;
  links = λ l e. refl;
}
load_parts m b u j console None is = tt

-- VERSION, SYM, files, consoles and the clock
version_parts : (m : Machine) (b : Block) (v : ℕ) → OnlyParts (touched m b (events.Version v)) m (with_version m v)
unfolding with_version
version_parts m b v = elim (cases_Bool (no_job m.jobs)) [
  | inl is ↦ rw is (record {
    jobs = λ k e. refl;
    consoles = λ c e. refl;
    holders = λ c e. refl;
    files = λ e. refl;
    symbols = λ k e. refl;
    clock = λ e. refl;
    version = λ e. cc;
    links = λ l e. refl;
  })
  | inr is ↦ rw is (only_same _ m)
]

symbol_parts : (m : Machine) (b : Block) (s name a : ℕ) → PartsBy (record no_part { symbols = λ k. k == s }) m (with_symbol_kept m s name a)
unfolding with_symbol_kept
symbol_parts m b s name a = go (m.jobs s)
  where
    put : (room : Bool) → PartsBy (record no_part { symbols = λ k. k == s }) m (with_symbol_kept_if m s (name, a) room)
    put true = record {
      jobs = λ k e. refl;
      consoles = λ c e. refl;
      holders = λ c e. refl;
      files = λ e. refl;
      symbols = λ k e. rw e refl;
      clock = λ e. refl;
      version = λ e. refl;
      links = λ l e. refl;
    }
    put false = tt

    go : (o : Option Whole) → PartsBy (record no_part { symbols = λ k. k == s }) m (with_symbol_kept_of m s (name, a) o)
    go (Some q) = put (nat_lt (length (m.symbols s)) most_symbols)
    go None = tt

files_parts : (m : Machine) (fs : List File) → OnlyParts file_part m (with_files m fs)
files_parts m fs = record {
  jobs = λ k e. refl;
  consoles = λ c e. refl;
  holders = λ c e. refl;
  files = λ e. cc;
  symbols = λ k e. refl;
  clock = λ e. refl;
  version = λ e. refl;
  links = λ l e. refl;
}

made_parts : (m : Machine) (n : Names) → PartsBy file_part m (with_file_made m n)
unfolding with_file_made
made_parts m n = go (has_file n m.files) (nat_lt (length m.files) most_files)
  where
    go : (there room : Bool) → PartsBy file_part m (with_file_made_if m n there room)
    go true room = tt
    go false true = files_parts m _
    go false false = tt

added_parts : (m : Machine) (n : Names) (w : ℕ) → PartsBy file_part m (with_word_added m n w)
unfolding with_word_added
added_parts m n w = go (file_named n m.files)
  where
    put : (full : Bool) → PartsBy file_part m (with_word_added_if m n w full)
    put true = tt
    put false = files_parts m _

    go : (o : Option File) → PartsBy file_part m (with_word_added_to m n w o)
    go (Some f) = put (is_full m.files (channels_of m) f.words)
    go None = tt

words_parts : (ws : List ℕ) (m : Machine) (n : Names) → PartsBy file_part m (with_words_added m n ws)
words_parts [] m n = only_same file_part m
words_parts (w ∷ ws) m n = then_parts file_part m (with_word_added m n w) _ (added_parts m n w) (λ k. words_parts ws k n)

one_console : (m : Machine) (c : ℕ) (y : Console) → OnlyParts (console_part c) m (record m { consoles = changed m.consoles c y })
one_console m c y = record {
  jobs = λ k e. refl;
  consoles = λ d e. rw e refl;
  holders = λ d e. refl;
  files = λ e. refl;
  symbols = λ k e. refl;
  clock = λ e. refl;
  version = λ e. refl;
  links = λ l e. refl;
}

clock_parts : (m : Machine) (b : Block) (n : ℕ) → PartsOf (touched m b (events.Clock n)) m (Done (by_clock m b n (after_clock m n)))
unfolding after_clock
clock_parts m b n = go (nat_lt (m.clock + n) clock_end)
  where
    go : (before : Bool) → PartsOf (touched m b (events.Clock n)) m (Done (by_clock m b n (after_clock_if m n before)))
    go true = record {
      jobs = λ k e. rw e refl;
      consoles = λ c e. refl;
      holders = λ c e. refl;
      files = λ e. refl;
      symbols = λ k e. refl;
      clock = λ e. cc;
      version = λ e. refl;
      links = λ l e. refl;
    }
    go false = tt

-- lines that only show something
exam_parts : (m : Machine) (b : Block) (s : ℕ) (show : List ℕ → List Line) (r : Result (List ℕ) Reason) → PartsOf no_part m (Done (by_exam m b s show r))
exam_parts m b s show (Ok ws) = only_same no_part m
exam_parts m b s show (Err r) = tt

state_parts : (m : Machine) (b : Block) (s : ℕ) (r : Result JobShow Reason) → PartsOf no_part m (Done (by_state m b s r))
state_parts m b s (Ok show) = only_same no_part m
state_parts m b s (Err r) = tt

show_parts : (m : Machine) (b : Block) (r : Result (List Line) Reason) → PartsOf no_part m (Done (shows m b r))
show_parts m b (Ok out) = only_same no_part m
show_parts m b (Err r) = tt

peek_parts : (m : Machine) (s : ℕ) (o : Option Whole) → PartsOf no_part m (peeked_at s o)
peek_parts m s (Some q) = tt
peek_parts m s None = tt

-- the lines of the state part
facts_parts : (p : Parts) (m : Machine) (P : Machine → Type 0) (r : Result Machine Reason) → ((n : Machine) → P n → OnlyParts p m n) → OkBy P r → PartsBy p m r
facts_parts p m P (Ok n) f h = f n h
facts_parts p m P (Err r) f h = tt

is_parts : (p : Parts) (m n k : Machine) → n ≡ k → OnlyParts p m k → OnlyParts p m n
is_parts p m n k is h = subst (OnlyParts p m) (sym is) h

slot_parts : (m : Machine) (s : ℕ) (f : Whole → Whole) → OnlyParts (job_part s) m (in_job m s f)
slot_parts m s f = jobs_alone (job_part s) m (in_job m s f).jobs (λ k e. rw e refl)

new_parts : (m : Machine) (s : ℕ) (q : Whole) → OnlyParts (record (job_part s) { symbols = λ k. k == s }) m (with_new m s q)
new_parts m s q = record {
  jobs = λ k e. rw e refl;
  consoles = λ c e. refl;
  holders = λ c e. refl;
  files = λ e. refl;
  symbols = λ k e. rw e refl;
  clock = λ e. refl;
  version = λ e. refl;
  links = λ l e. refl;
}

one_link : (m : Machine) (l : ℕ) (f : Option Pipe → Option Pipe) → OnlyParts (link_part l) m (on_link m l f)
one_link m l f = record {
  jobs = λ k e. refl;
  consoles = λ c e. refl;
  holders = λ c e. refl;
  files = λ e. refl;
  symbols = λ k e. refl;
  clock = λ e. refl;
  version = λ e. refl;
  links = λ k e. rw e refl;
}

made_job_parts : (m : Machine) (s u j : ℕ) (console : Option ℕ)
    → PartsBy (record (job_part s) { symbols = λ k. k == s }) m (with_job_made m s u j console)
made_job_parts m s u j console =
    facts_parts _ m (MakesJob m s u j console) (with_job_made m s u j console) (λ n h. is_parts _ m n _ h.is (new_parts m s (new_job u j console)))
    (job_made m s u j console)

alarm_parts : (m : Machine) (s period next : ℕ) → PartsBy (job_part s) m (with_alarm_set m s period next)
unfolding effect
alarm_parts m s period next =
    facts_parts (job_part s) m (SetsAlarm m s period next) (with_alarm_set m s period next)
    (λ n h. is_parts (job_part s) m n _ h.is (slot_parts m s (with_alarm (Some (period, next))))) (alarm_set m s period next)

superior_parts : (m : Machine) (s t : ℕ) → PartsBy (job_part s) m (with_superior_set m s t)
superior_parts m s t =
    facts_parts (job_part s) m (SetsSuperior m s t) (with_superior_set m s t) (λ n h. is_parts (job_part s) m n _ h.is (slot_parts m s (under t)))
    (superior_set m s t)

opened_parts : (m : Machine) (s i : ℕ) (x : Chan) (r : Result Machine Reason) → OkBy (Opens m s i x) r → PartsBy (job_part s) m r
opened_parts m s i x r h =
    facts_parts (job_part s) m (Opens m s i x) r (λ n f. is_parts (job_part s) m n _ f.is (slot_parts m s (on_channel i (λ c. x)))) h

appended_parts : (ws : List ℕ) (m : Machine) (s i : ℕ) → OnlyParts (job_part s) m (effects (words_appended i ws) s m)
unfolding effect
appended_parts [] m s i = only_same (job_part s) m
appended_parts (w ∷ ws) m s i =
    only_then (job_part s) m (effect (changes.Append i w) s m) _ (slot_parts m s (on_channel i (with_word w)))
    (appended_parts ws (effect (changes.Append i w) s m) s i)

written_parts : (m : Machine) (s i : ℕ) (ws : List ℕ) → PartsBy (job_part s) m (with_words_written m s i ws)
written_parts m s i ws =
    facts_parts (job_part s) m (WritesWords m s i ws) (with_words_written m s i ws)
    (λ n h. is_parts (job_part s) m n _ h.is (appended_parts ws m s i)) (words_written m s i ws)

end_parts : (m : Machine) (s i l : ℕ) (write : Bool) (x y : ℕ)
    → OnlyParts (record (job_part s) { links = λ k. k == l }) m (effect (changes.Join i l write x y) s m)
unfolding effect
end_parts m s i l write x y = record {
  jobs = λ k e. rw e refl;
  consoles = λ c e. refl;
  holders = λ c e. refl;
  files = λ e. refl;
  symbols = λ k e. refl;
  clock = λ e. refl;
  version = λ e. refl;
  links = λ k e. rw e refl;
}

joined_parts : (m : Machine) (s i l : ℕ) (write : Bool) (x y : ℕ)
    → PartsBy (record (job_part s) { links = λ k. k == l }) m (with_link m s i l write x y)
joined_parts m s i l write x y =
    facts_parts _ m (Joins m s i l write x y) (with_link m s i l write x y) (λ n h. is_parts _ m n _ h.is (end_parts m s i l write x y))
    (link_joined m s i l write x y)

sent_parts : (m : Machine) (l : ℕ) (ws : List ℕ) → PartsBy (link_part l) m (with_words_sent m l ws)
sent_parts m l ws =
    facts_parts (link_part l) m (Sends m l ws) (with_words_sent m l ws)
    (λ n h. is_parts (link_part l) m n _ h.is (one_link m l (option_map (with_words_in ws)))) (words_sent m l ws)

shut_parts : (m : Machine) (l : ℕ) (write : Bool) → PartsBy (link_part l) m (with_end_shut m l write)
shut_parts m l write =
    facts_parts (link_part l) m (ShutsEnd m l write) (with_end_shut m l write)
    (λ n h. is_parts (link_part l) m n _ h.is (one_link m l (option_map (with_end_closed write)))) (end_shut m l write)

bytes_parts : (m : Machine) (c : ℕ) (out : Bool) (bs : List ℕ) → PartsBy (console_part c) m (with_bytes_waiting m c out bs)
bytes_parts m c out bs =
    facts_parts (console_part c) m (PutsBytes m c out bs) (with_bytes_waiting m c out bs)
    (λ n h. is_parts (console_part c) m n _ h.is (one_console m c _)) (bytes_put m c out bs)

held_parts : (m : Machine) (c s : ℕ) → OnlyParts (record no_part { holders = λ d. d == c }) m (effect (changes.Hold c s) s m)
unfolding effect
held_parts m c s = record {
  jobs = λ k e. refl;
  consoles = λ d e. refl;
  holders = λ d e. rw e refl;
  files = λ e. refl;
  symbols = λ k e. refl;
  clock = λ e. refl;
  version = λ e. refl;
  links = λ l e. refl;
}

holder_parts : (m : Machine) (c s : ℕ) → PartsBy (record no_part { holders = λ d. d == c }) m (with_holder_set m c s)
holder_parts m c s =
    facts_parts _ m (SetsHolder m c s) (with_holder_set m c s) (λ n h. is_parts _ m n _ h.is (held_parts m c s)) (holder_set m c s)

pub line_restored : (m : Machine) (b : Block) (line : StateLine) → PartsOf (restored_parts m b line) m (Done (restored m b line))
unfolding restored
line_restored m b (states.System v) = version_parts m b v
line_restored m b (states.Clock n) = clock_parts m b n
line_restored m b (states.File d x y) = quiet_parts file_part m _ _ (made_parts m (names_of d x y))
line_restored m b (states.FileWords words) = quiet_parts file_part m b _ (words_parts words.items m b.file)
line_restored m b (states.Job s u j console) = disturbs_parts _ m s _ _ (made_job_parts m s u j console)
line_restored m b (states.CoreWords a words) = disturbs_parts (job_part b.slot) m b.slot b _ (loaded_parts m b.slot a words.items)
line_restored m b (states.ReadOnly page) = disturbs_parts (job_part b.slot) m b.slot b _ (protect_parts m b.slot page)
line_restored m b (states.Symbol name a) = quiet_parts _ m b _ (symbol_parts m b b.slot name a)
line_restored m b (states.Regs r) = disturbs_parts (job_part b.slot) m b.slot b _ (register_parts m b.slot (after_registers r))
line_restored m b (states.Alarm s period next) = disturbs_parts (job_part s) m s b _ (alarm_parts m s period next)
line_restored m b (states.Under s t) = disturbs_parts (job_part s) m s b _ (superior_parts m s t)
line_restored m b (states.Tty s i write) = disturbs_parts (job_part s) m s b _ (opened_parts m s i (on_tty write) _ (tty_opened m s i write))
line_restored m b (states.Disk s i d x y at) =
    disturbs_parts (job_part s) m s b _ (opened_parts m s i (Reads (names_of d x y) at) _ (disk_opened m s i (names_of d x y) at))
line_restored m b (states.Draft s i d x y) =
    disturbs_parts (job_part s) m s b _ (opened_parts m s i (empty_draft (names_of d x y)) _ (draft_opened m s i (names_of d x y)))
line_restored m b (states.Wrote s i words) = disturbs_parts (job_part s) m s b _ (written_parts m s i words.items)
line_restored m b (states.Usr s i t write at) = disturbs_parts (job_part s) m s b _ (opened_parts m s i (On t write at) _ (usr_opened m s i t write at))
line_restored m b (states.Join s i l write x y) = disturbs_parts _ m s b _ (joined_parts m s i l write x y)
line_restored m b (states.Sent l words) = quiet_parts (link_part l) m b _ (sent_parts m l words.items)
line_restored m b (states.EndShut l write) = quiet_parts (link_part l) m b _ (shut_parts m l write)
line_restored m b (states.Input c bytes) = quiet_parts (console_part c) m b _ (bytes_parts m c false bytes.items)
line_restored m b (states.Output c bytes) = quiet_parts (console_part c) m b _ (bytes_parts m c true bytes.items)
line_restored m b (states.Hold c s) = quiet_parts _ m b _ (holder_parts m c s)
line_restored m b (states.Turn s) = only_same no_part m
line_restored m b states.Ready = only_same no_part m

pub line_parts : (m : Machine) (b : Block) (e : Event) → PartsOf (touched m b e) m (lined m b e)
unfolding lined operate after_load
line_parts m b (events.Version v) = version_parts m b v
line_parts m b (events.Load u j console) = load_parts m b u j console (least_free (limit m) m.jobs) refl
line_parts m b (events.Words a words) = disturbs_parts (job_part b.slot) m b.slot b _ (loaded_parts m b.slot a words.items)
line_parts m b (events.ReadOnly page) = disturbs_parts (job_part b.slot) m b.slot b _ (protect_parts m b.slot page)
line_parts m b (events.Symbol name a) = quiet_parts _ m b _ (symbol_parts m b b.slot name a)
line_parts m b (events.Go a) = disturbs_parts (job_part b.slot) m b.slot b _ (register_parts m b.slot (after_go a))
line_parts m b (events.File d x y) = quiet_parts file_part m _ _ (made_parts m (names_of d x y))
line_parts m b (events.Append words) = quiet_parts file_part m b _ (words_parts words.items m b.file)
line_parts m b (events.TypeIn c bytes) = one_console m c _
line_parts m b (events.Drain c n) = one_console m c _
line_parts m b (events.Clock n) = clock_parts m b n
line_parts m b (events.Int s v w) = disturbs_parts (job_part s) m s b _ (register_parts m s (after_int v w))
line_parts m b (events.Exam s a n) = exam_parts m b s (in_a_line s a) (examined m s a n)
line_parts m b (events.List s a n) = exam_parts m b s (listed s a) (examined m s a n)
line_parts m b (events.State s) = state_parts m b s (state_shown m s)
line_parts m b (events.Deposit s a w) = disturbs_parts (job_part s) m s b _ (deposit_parts m s a w)
line_parts m b (events.Stop s) = disturbs_parts (job_part s) m s b _ (register_parts m s after_stop)
line_parts m b (events.Cont s) = disturbs_parts (job_part s) m s b _ (register_parts m s after_cont)
line_parts m b (events.Peek s) = peek_parts m s (m.jobs s)
line_parts m b (events.Show d x y) = show_parts m b (file_shown m d x y)
line_parts m b (events.Tick s n) = tt
line_parts m b events.End = tt
line_parts m b (events.Restore line) = line_restored m b line
line_parts m b _ = only_same no_part m
