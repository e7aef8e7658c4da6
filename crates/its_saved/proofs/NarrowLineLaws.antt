-- What the lines of a session leave of symbols and of bytes at consoles: addresses have 18 bits and
-- bytes 7, if the numbers of the line are in the ranges of its row.
use Rattle.std.specs.Prelude.{if◌then◌else◌, ◌==◌, ◌≡◌, ◌<◌, ◌≤◌, ◌^◌, ℕ, zero, suc, ◌+◌, Bool, true, false, Option, Some, None, Result, Ok, Err, List, [], ◌∷◌, ◌++◌, All, length, take, drop, nat_lt, is_some}
use Rattle.std.proofs.Common.{sym, subst, arith}
use Rattle.its_word.specs.Console.{Console, most_waiting}
use Rattle.its_word.specs.Core.{Core, Page, can_store, word_at, page_of}
use Rattle.its_word.specs.Limits.{most_symbols}
use Rattle.its_records.specs.Tree.{least_free, no_job}
use Rattle.its_records.specs.declared.jobs.Job.{Job}
use Rattle.its_records.specs.declared.session.Event.{Event}
use Rattle.its_records.specs.declared.session.Event.TheVariants as events
use Rattle.its_records.specs.declared.session.Reason.{Reason}
use Rattle.its_records.specs.declared.show.JobShow.{JobShow}
use Rattle.its_records.specs.declared.state_line.StateLine.{StateLine}
use Rattle.its_records.specs.declared.state_line.StateLine.TheVariants as states
use Rattle.its_frame.specs.declared.change.Change.TheVariants as changes
use Rattle.its_print.specs.Printing.{Line}
use Rattle.its_print.specs.Printing as printed
use Rattle.its_session.specs.Fits.{EventFits}
use Rattle.its_session.specs.StateFits.{StateFits}
use Rattle.its_plain.specs.Machine.{Symbol, Whole, Machine, Reads, On, changed, with_new, mapped, limit}
use Rattle.its_plain.specs.Machine.Change.{on_console, effect, effects}
use Rattle.its_plain.specs.Machine.Own.{names_of}
use Rattle.its_plain.specs.Operator.{Block, Operated, Refuses, Does, Ticks, Quits, quietly, disturbs, and_then}
use Rattle.its_plain.specs.Operator.Clock.{after_clock, after_clock_if, clock_end}
use Rattle.its_plain.specs.Operator.Consoles.{with_typed, after_drain}
use Rattle.its_plain.specs.Operator.Files.{with_file_made, with_words_added, file_shown}
use Rattle.its_plain.specs.Operator.Jobs.{new_job, on_job, after_load, after_load_in, with_core, with_words_loaded, with_words_loaded_if, with_words_stored, with_word_loaded, with_word_loaded_of, with_stored, words_barred, with_page_protected, with_page_protected_in, with_registers, on_registers, after_go, after_int, after_stop, after_cont, examined, state_shown, after_deposit, after_deposit_in}
use Rattle.its_plain.specs.Operator.Lines.{Lined, Done, Peeks, lined, operate, in_a_line, by_load, by_exam, by_state, shows, by_clock, peeked_at}
use Rattle.its_plain.specs.Operator.State.{after_registers, on_tty, with_bytes, with_job_made, with_alarm_set, with_superior_set, with_tty, with_disk, with_draft, with_words_written, with_usr, with_link, with_words_sent, with_end_shut, with_bytes_waiting, with_holder_set, restored}
use Rattle.its_plain.specs.Operator.Symbols.{with_symbol_kept, with_symbol_kept_of, with_symbol_kept_if}
use Rattle.its_plain.specs.Operator.Version.{with_version}
use Rattle.its_plain.proofs.CallLineLaws.{FilesAlone, made_files, added_files}
use Rattle.its_plain.proofs.RestoredLaws.{OkBy, MakesJob, job_made, SetsAlarm, alarm_set, SetsSuperior, superior_set, Opens, tty_opened, disk_opened, empty_draft, draft_opened, usr_opened, words_appended, WritesWords, words_written, Joins, link_joined, Sends, words_sent, ShutsEnd, end_shut, PutsBytes, bytes_put, SetsHolder, holder_set}
use Rattle.its_saved.specs.Narrow.{AreAddressed}
use Rattle.its_saved.specs.Readable.{AllBelow, BytesWorded}
use Rattle.its_saved.proofs.NarrowStepLaws.{all_append, nameless, either_worded}

-- symbols, and the bytes at consoles
pub record Parts (names : ℕ → List Symbol) (consoles : ℕ → Console) : Type 0 where
  pub symbols : (k : ℕ) → AreAddressed (names k)
  pub bytes : (c : ℕ) → BytesWorded (consoles c)

abbrev pub PartsOf : Machine → Type 0
PartsOf m = Parts m.symbols m.consoles

abbrev KeptR : Result Machine Reason → Type 0
KeptR (Ok n) = PartsOf n
KeptR (Err r) = Unit {0}

abbrev KeptOp : Operated → Type 0
KeptOp (Does n out touched b) = PartsOf n
KeptOp (Refuses r) = Unit {0}
KeptOp (Ticks s k) = Unit {0}
KeptOp Quits = Unit {0}

quietly_kept : (b : Block) (r : Result Machine Reason) → KeptR r → KeptOp (quietly b r)
quietly_kept b (Ok n) h = h
quietly_kept b (Err r) h = tt

disturbs_kept : (s : ℕ) (b : Block) (r : Result Machine Reason) → KeptR r → KeptOp (disturbs s b r)
disturbs_kept s b (Ok n) h = h
disturbs_kept s b (Err r) h = tt

-- a job that is made has no symbols
new_kept : (m : Machine) (s : ℕ) (q : Whole) → PartsOf m → PartsOf (with_new m s q)
new_kept m s q t = record { symbols = λ k. nameless (k == s) (m.symbols k) (t.symbols k); bytes = t.bytes }

load_kept : (m : Machine) (b : Block) (u j : ℕ) (console o : Option ℕ) → PartsOf m → KeptOp (by_load b (after_load_in m u j console o))
load_kept m b u j (Some c) (Some s) t = new_kept m s (new_job u j (Some c)) t
load_kept m b u j None (Some s) t = new_kept m s (new_job u j None) t
load_kept m b u j console None t = tt

-- words
core_kept : (m : Machine) (s : ℕ) (q : Whole) (r : Result Core Reason) → PartsOf m → KeptR (with_core m s q r)
core_kept m s q (Ok c) t = t
core_kept m s q (Err r) t = tt

word_kept : (m : Machine) (s a w : ℕ) → PartsOf m → KeptR (with_word_loaded m s a w)
unfolding with_word_loaded
word_kept m s a w t = by (m.jobs s)
  where
    by : (o : Option Whole) → KeptR (with_word_loaded_of m s a w o)
    by (Some q) = core_kept m s q (with_stored (mapped m) q.core a w) t
    by None = tt

words_kept : (ws : List ℕ) (m : Machine) (s a : ℕ) → PartsOf m → KeptR (with_words_stored m s a ws)
words_kept [] m s a t = t
words_kept (w ∷ ws) m s a t = by (with_word_loaded m s a w) (word_kept m s a w t) (λ n h. words_kept ws n s (a + 1) h)
  where
    by : (r : Result Machine Reason) → KeptR r → ((n : Machine) → PartsOf n → KeptR (with_words_stored n s (a + 1) ws))
        → KeptR (and_then r (λ n. with_words_stored n s (a + 1) ws))
    by (Ok n) h more = more n h
    by (Err r) h more = tt

loaded_kept : (m : Machine) (s a : ℕ) (ws : List ℕ) → PartsOf m → KeptR (with_words_loaded m s a ws)
unfolding with_words_loaded
loaded_kept m s a ws t = by (words_barred m s a (length ws))
  where
    by : (b : Bool) → KeptR (with_words_loaded_if m s a ws b)
    by true = tt
    by false = words_kept ws m s a t

-- a line on a job
on_kept : (m : Machine) (s : ℕ) (f : Whole → Result Machine Reason) → ((q : Whole) → KeptR (f q)) → KeptR (on_job m s f (m.jobs s))
on_kept m s f h = by (m.jobs s)
  where
    by : (o : Option Whole) → KeptR (on_job m s f o)
    by (Some q) = h q
    by None = tt

protected_kept : (m : Machine) (s k : ℕ) → PartsOf m → KeptR (with_page_protected m s k)
unfolding with_page_protected
protected_kept m s k t = on_kept m s (λ q. with_page_protected_in m s k q (page_of q.core k)) (λ q. by q (page_of q.core k))
  where
    by : (q : Whole) (o : Option Page) → KeptR (with_page_protected_in m s k q o)
    by q (Some p) = t
    by q None = tt

registers_kept : (m : Machine) (s : ℕ) (f : Job → Job) → PartsOf m → KeptR (on_registers m s f)
unfolding on_registers
registers_kept m s f t = on_kept m s (with_registers m s f) (λ q. t)

deposit_kept : (m : Machine) (s a w : ℕ) → PartsOf m → KeptR (after_deposit m s a w)
unfolding after_deposit
deposit_kept m s a w t =
    on_kept m s _ (λ q. core_kept m s q (after_deposit_in q.core a w (can_store q.core a) (is_some (word_at q.core a))) t)

-- SYM
addressed_append : (xs : List Symbol) (x : Symbol) → x.1 < 2 ^ 18 → AreAddressed xs → AreAddressed (xs ++ x ∷ [])
addressed_append [] x few h = (few, tt)
addressed_append (y ∷ ys) x few h = (h.0, addressed_append ys x few h.1)

either_addressed : (b : Bool) (xs ys : List Symbol) → AreAddressed xs → AreAddressed ys → AreAddressed (if b then xs else ys)
either_addressed true xs ys h a = h
either_addressed false xs ys h a = a

symbol_kept : (m : Machine) (s name a : ℕ) → a < 2 ^ 18 → PartsOf m → KeptR (with_symbol_kept m s name a)
unfolding with_symbol_kept
symbol_kept m s name a few t = by (m.jobs s)
  where
    if_room : (b : Bool) → KeptR (with_symbol_kept_if m s (name, a) b)
    if_room true = record {
      symbols = λ k. either_addressed (k == s) (m.symbols s ++ (name, a) ∷ []) (m.symbols k) (addressed_append (m.symbols s) (name, a) few (t.symbols s))
          (t.symbols k);
      bytes = t.bytes;
    }
    if_room false = tt

    by : (o : Option Whole) → KeptR (with_symbol_kept_of m s (name, a) o)
    by (Some q) = if_room (nat_lt (length (m.symbols s)) most_symbols)
    by None = tt

-- lines on files change the directory alone
files_kept : (m : Machine) (r : Result Machine Reason) → PartsOf m → FilesAlone m r → KeptR r
files_kept m (Ok n) t h = subst PartsOf (sym h) t
files_kept m (Err r) t h = tt

clock_kept : (m : Machine) (b : Block) (n : ℕ) → PartsOf m → KeptOp (by_clock m b n (after_clock m n))
unfolding after_clock
clock_kept m b n t = by (nat_lt (m.clock + n) clock_end)
  where
    by : (x : Bool) → KeptOp (by_clock m b n (after_clock_if m n x))
    by true = t
    by false = tt

version_kept : (m : Machine) (v : ℕ) → PartsOf m → PartsOf (with_version m v)
unfolding with_version
version_kept m v t = by (no_job m.jobs)
  where
    by : (b : Bool) → PartsOf (if b then record m { version = v } else m)
    by true = t
    by false = t

-- bytes at a console
bytes_below : (bs : List ℕ) → All (λ b. b ≤ 127) bs → AllBelow 128 bs
bytes_below [] h = tt
bytes_below (b ∷ bs) h = ((let x = h zero 0 (omega arith) in omega arith), bytes_below bs (λ k d l. h (suc k) d (omega arith)))

take_below : (n k : ℕ) (xs : List ℕ) → AllBelow n xs → AllBelow n (take k xs)
take_below n zero xs h = tt
take_below n (suc k) [] h = tt
take_below n (suc k) (x ∷ xs) h = (h.0, take_below n k xs h.1)

drop_below : (n k : ℕ) (xs : List ℕ) → AllBelow n xs → AllBelow n (drop k xs)
drop_below n zero xs h = h
drop_below n (suc k) [] h = tt
drop_below n (suc k) (x ∷ xs) h = drop_below n k xs h.1

console_kept : (m : Machine) (c : ℕ) (x : Console) → BytesWorded x → PartsOf m → PartsOf (record m { consoles = changed m.consoles c x })
console_kept m c x h t = record { symbols = t.symbols; bytes = λ k. either_worded (k == c) x (m.consoles k) h (t.bytes k) }

typed_kept : (m : Machine) (c : ℕ) (bs : List ℕ) → All (λ b. b ≤ 127) bs → PartsOf m → PartsOf (with_typed c bs m)
typed_kept m c bs few t =
    let x = m.consoles c in
    let h = t.bytes c in
    console_kept m c _ (record {
      input = take_below 128 most_waiting (x.input ++ bs) (all_append 128 x.input bs h.input (bytes_below bs few));
      output = h.output;
    }) t

drained_kept : (m : Machine) (c n : ℕ) → PartsOf m → PartsOf (after_drain c n m)
drained_kept m c n t =
    let h = t.bytes c in
    console_kept m c _ (record { input = h.input; output = drop_below 128 n (m.consoles c).output h.output }) t

more_worded : (out : Bool) (bs : List ℕ) (x : Console) → AllBelow 128 bs → BytesWorded x → BytesWorded (with_bytes out bs x)
more_worded false bs x few h = record { input = all_append 128 x.input bs h.input few; output = h.output }
more_worded true bs x few h = record { input = h.input; output = all_append 128 x.output bs h.output few }

put_kept : (m : Machine) (c : ℕ) (out : Bool) (bs : List ℕ) → All (λ b. b ≤ 127) bs → PartsOf m → PartsOf (on_console m c (with_bytes out bs))
put_kept m c out bs few t =
    let x = m.consoles c in
    console_kept m c (with_bytes out bs x) (more_worded out bs x (bytes_below bs few) (t.bytes c)) t

-- lines of the state part
ok_kept : (P : Machine → Type 0) (r : Result Machine Reason) → ((n : Machine) → P n → PartsOf n) → OkBy P r → KeptR r
ok_kept P (Ok n) h f = h n f
ok_kept P (Err r) h f = tt

same_kept : (n k : Machine) → n ≡ k → PartsOf k → PartsOf n
same_kept n k is t = subst PartsOf (sym is) t

appended_kept : (ws : List ℕ) (m : Machine) (s i : ℕ) → PartsOf m → PartsOf (effects (words_appended i ws) s m)
unfolding effect
appended_kept [] m s i t = t
appended_kept (w ∷ ws) m s i t = appended_kept ws (effect (changes.Append i w) s m) s i t

restored_kept : (m : Machine) (b : Block) (l : StateLine) → StateFits 2 l → PartsOf m → KeptOp (restored m b l)
unfolding restored effect
restored_kept m b (states.System w) i t = version_kept m w t
restored_kept m b (states.Clock n) i t = clock_kept m b n t
restored_kept m b (states.File d x y) i t = quietly_kept _ _ (files_kept m (with_file_made m (names_of d x y)) t (made_files m (names_of d x y)))
restored_kept m b (states.FileWords ws) i t = quietly_kept b _ (files_kept m (with_words_added m b.file ws.items) t (added_files m b.file ws.items))
restored_kept m b (states.Job s u j c) i t =
    disturbs_kept s _ _ (ok_kept (MakesJob m s u j c) (with_job_made m s u j c) (λ n f. same_kept n _ f.is (new_kept m s (new_job u j c) t)) (job_made m s u j c))
restored_kept m b (states.CoreWords a ws) i t = disturbs_kept b.slot b _ (loaded_kept m b.slot a ws.items t)
restored_kept m b (states.ReadOnly p) i t = disturbs_kept b.slot b _ (protected_kept m b.slot p t)
restored_kept m b (states.Symbol x a) i t = quietly_kept b _ (symbol_kept m b.slot x a i t)
restored_kept m b (states.Regs r) i t = disturbs_kept b.slot b _ (registers_kept m b.slot (after_registers r) t)
restored_kept m b (states.Alarm s p n) i t =
    disturbs_kept s b _ (ok_kept (SetsAlarm m s p n) (with_alarm_set m s p n) (λ k f. same_kept k _ f.is t) (alarm_set m s p n))
restored_kept m b (states.Under s k) i t =
    disturbs_kept s b _ (ok_kept (SetsSuperior m s k) (with_superior_set m s k) (λ n f. same_kept n _ f.is t) (superior_set m s k))
restored_kept m b (states.Tty s n w) i t =
    disturbs_kept s b _ (ok_kept (Opens m s n (on_tty w)) (with_tty m s n w) (λ k f. same_kept k _ f.is t) (tty_opened m s n w))
restored_kept m b (states.Disk s n d x y at) i t =
    disturbs_kept s b _ (ok_kept (Opens m s n (Reads (names_of d x y) at)) (with_disk m s n (names_of d x y) at)
    (λ k f. same_kept k _ f.is t) (disk_opened m s n (names_of d x y) at))
restored_kept m b (states.Draft s n d x y) i t =
    disturbs_kept s b _ (ok_kept (Opens m s n (empty_draft (names_of d x y))) (with_draft m s n (names_of d x y))
    (λ k f. same_kept k _ f.is t) (draft_opened m s n (names_of d x y)))
restored_kept m b (states.Wrote s n ws) i t =
    disturbs_kept s b _ (ok_kept (WritesWords m s n ws.items) (with_words_written m s n ws.items)
    (λ k f. same_kept k _ f.is (appended_kept ws.items m s n t)) (words_written m s n ws.items))
restored_kept m b (states.Usr s n k w at) i t =
    disturbs_kept s b _ (ok_kept (Opens m s n (On k w at)) (with_usr m s n k w at) (λ x f. same_kept x _ f.is t) (usr_opened m s n k w at))
restored_kept m b (states.Join s n l w x y) i t =
    disturbs_kept s b _ (ok_kept (Joins m s n l w x y) (with_link m s n l w x y) (λ k f. same_kept k _ f.is t) (link_joined m s n l w x y))
restored_kept m b (states.Sent l ws) i t =
    quietly_kept b _ (ok_kept (Sends m l ws.items) (with_words_sent m l ws.items) (λ n f. same_kept n _ f.is t) (words_sent m l ws.items))
restored_kept m b (states.EndShut l w) i t =
    quietly_kept b _ (ok_kept (ShutsEnd m l w) (with_end_shut m l w) (λ n f. same_kept n _ f.is t) (end_shut m l w))
restored_kept m b (states.Input c bs) i t =
    quietly_kept b _ (ok_kept (PutsBytes m c false bs.items) (with_bytes_waiting m c false bs.items)
    (λ n f. same_kept n _ f.is (put_kept m c false bs.items i.3 t)) (bytes_put m c false bs.items))
restored_kept m b (states.Output c bs) i t =
    quietly_kept b _ (ok_kept (PutsBytes m c true bs.items) (with_bytes_waiting m c true bs.items)
    (λ n f. same_kept n _ f.is (put_kept m c true bs.items i.3 t)) (bytes_put m c true bs.items))
restored_kept m b (states.Hold c s) i t =
    quietly_kept b _ (ok_kept (SetsHolder m c s) (with_holder_set m c s) (λ n f. same_kept n _ f.is t) (holder_set m c s))
restored_kept m b (states.Turn s) i t = t
restored_kept m b states.Ready i t = t

-- every line
operate_kept : (m : Machine) (b : Block) (e : Event) → EventFits 2 e → PartsOf m → KeptOp (operate m b e)
unfolding operate after_load
operate_kept m b (events.Version w) i t = version_kept m w t
operate_kept m b (events.Load u j console) i t = load_kept m b u j console (least_free (limit m) m.jobs) t
operate_kept m b (events.Words a words) i t = disturbs_kept b.slot b _ (loaded_kept m b.slot a words.items t)
operate_kept m b (events.ReadOnly page) i t = disturbs_kept b.slot b _ (protected_kept m b.slot page t)
operate_kept m b (events.Symbol name a) i t = quietly_kept b _ (symbol_kept m b.slot name a i.1 t)
operate_kept m b (events.Go a) i t = disturbs_kept b.slot b _ (registers_kept m b.slot (after_go a) t)
operate_kept m b (events.File d x y) i t = quietly_kept _ _ (files_kept m (with_file_made m (names_of d x y)) t (made_files m (names_of d x y)))
operate_kept m b (events.Append words) i t =
    quietly_kept b _ (files_kept m (with_words_added m b.file words.items) t (added_files m b.file words.items))
operate_kept m b (events.Tick s n) i t = tt
operate_kept m b (events.TypeIn c bytes) i t = typed_kept m c bytes.items i.3 t
operate_kept m b (events.Drain c n) i t = drained_kept m c n t
operate_kept m b (events.Clock n) i t = clock_kept m b n t
operate_kept m b (events.Int s x w) i t = disturbs_kept s b _ (registers_kept m s (after_int x w) t)
operate_kept m b (events.Exam s a n) i t = by (examined m s a n)
  where
    by : (r : Result (List ℕ) Reason) → KeptOp (by_exam m b s (in_a_line s a) r)
    by (Ok ws) = t
    by (Err r) = tt
operate_kept m b (events.List s a n) i t = by (examined m s a n)
  where
    by : (r : Result (List ℕ) Reason) → KeptOp (by_exam m b s (printed.listed s a) r)
    by (Ok ws) = t
    by (Err r) = tt
operate_kept m b (events.State s) i t = by (state_shown m s)
  where
    by : (r : Result JobShow Reason) → KeptOp (by_state m b s r)
    by (Ok show) = t
    by (Err r) = tt
operate_kept m b (events.Deposit s a w) i t = disturbs_kept s b _ (deposit_kept m s a w t)
operate_kept m b (events.Stop s) i t = disturbs_kept s b _ (registers_kept m s after_stop t)
operate_kept m b (events.Cont s) i t = disturbs_kept s b _ (registers_kept m s after_cont t)
operate_kept m b (events.Show d x y) i t = by (file_shown m d x y)
  where
    by : (r : Result (List Line) Reason) → KeptOp (shows m b r)
    by (Ok out) = t
    by (Err r) = tt
operate_kept m b (events.Restore line) i t = restored_kept m b line i t
operate_kept m b events.End i t = tt
operate_kept m b e i t = t

abbrev KeptLined : Lined → Type 0
KeptLined (Done o) = KeptOp o
KeptLined (Peeks s) = Unit {0}

lined_kept : (m : Machine) (b : Block) (e : Event) → EventFits 2 e → PartsOf m → KeptLined (lined m b e)
unfolding lined
lined_kept m b (events.Peek s) i t = by (m.jobs s)
  where
    by : (o : Option Whole) → KeptLined (peeked_at s o)
    by (Some q) = tt
    by None = tt
lined_kept m b e i t = operate_kept m b e i t

pub line_parts : (m n : Machine) (b c : Block) (e : Event) (out : List Line) (touched : ℕ → Bool) → EventFits 2 e → PartsOf m
    → lined m b e ≡ Done (Does n out touched c) → PartsOf n
line_parts m n b c e out touched i t is = subst KeptLined is (lined_kept m b e i t)
