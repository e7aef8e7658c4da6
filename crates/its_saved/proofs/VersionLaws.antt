-- No step changes the version of a machine, and of the lines VERSION and SYSTEM alone do.
use Rattle.std.specs.Prelude.{◌≡◌, ℕ, ◌+◌, Bool, true, false, Option, Some, None, Result, Ok, Err, List, [], ◌∷◌, length, nat_lt, is_some, refl}
use Rattle.std.proofs.Common.{◌∙◌, ap, subst}
use Rattle.its_word.specs.Limits.{most_symbols}
use Rattle.its_word.specs.Core.{Core, Page, can_store, word_at, page_of}
use Rattle.its_records.specs.Tree.{least_free}
use Rattle.its_records.specs.declared.calls.Ask.{Ask}
use Rattle.its_records.specs.declared.jobs.Job.{Job}
use Rattle.its_records.specs.declared.session.Event.{Event}
use Rattle.its_records.specs.declared.session.Event.TheVariants as events
use Rattle.its_records.specs.declared.session.Reason.{Reason}
use Rattle.its_records.specs.declared.show.JobShow.{JobShow}
use Rattle.its_records.specs.declared.state_line.StateLine.{StateLine}
use Rattle.its_records.specs.declared.state_line.StateLine.TheVariants as states
use Rattle.its_print.specs.Printing.{Line}
use Rattle.its_print.specs.Printing as printed
use Rattle.its_frame.specs.declared.change.Change.{Change}
use Rattle.its_frame.specs.declared.change.Change.TheVariants as changes
use Rattle.its_frame.specs.declared.decision.Decision.{Decision}
use Rattle.its_frame.specs.declared.decision.Decision.TheVariants.{Waits, Goes, Ends, Gone}
use Rattle.its_plain.specs.Call.Decide.{reach}
use Rattle.its_plain.specs.Call.Step.{acted, decision, informs, step}
use Rattle.its_plain.specs.Machine.{Whole, Machine, Reads, On, mapped, limit}
use Rattle.its_plain.specs.Machine.Change.{after_removal, effect, effects}
use Rattle.its_plain.specs.Machine.Own.{names_of}
use Rattle.its_plain.specs.Operator.{Block, Operated, Refuses, Does, Ticks, Quits, quietly, disturbs, and_then}
use Rattle.its_plain.specs.Operator.Clock.{after_clock, after_clock_if, clock_end}
use Rattle.its_plain.specs.Operator.Files.{with_file_made, with_words_added, file_shown}
use Rattle.its_plain.specs.Operator.Jobs.{on_job, after_load, after_load_in, with_core, with_words_loaded, with_words_loaded_if, with_words_stored, with_word_loaded, with_word_loaded_of, with_stored, words_barred, with_page_protected, with_page_protected_in, with_registers, on_registers, after_go, after_int, after_stop, after_cont, examined, state_shown, after_deposit, after_deposit_in}
use Rattle.its_plain.specs.Operator.Lines.{Lined, Done, Peeks, lined, operate, in_a_line, by_load, by_exam, by_state, shows, by_clock, peeked_at}
use Rattle.its_plain.specs.Operator.State.{after_registers, on_tty, with_job_made, with_alarm_set, with_superior_set, with_tty, with_disk, with_draft, with_words_written, with_usr, with_link, with_words_sent, with_end_shut, with_bytes_waiting, with_holder_set, restored}
use Rattle.its_plain.specs.Operator.Symbols.{with_symbol_kept, with_symbol_kept_of, with_symbol_kept_if}
use Rattle.its_plain.specs.Unit.Interrupt.{delivered}
use Rattle.its_plain.proofs.CallLineLaws.{FilesAlone, made_files, added_files}
use Rattle.its_plain.proofs.RestoredLaws.{OkBy, MakesJob, job_made, SetsAlarm, alarm_set, SetsSuperior, superior_set, Opens, tty_opened, disk_opened, empty_draft, draft_opened, usr_opened, words_appended, WritesWords, words_written, Joins, link_joined, Sends, words_sent, ShutsEnd, end_shut, PutsBytes, bytes_put, SetsHolder, holder_set}
use Rattle.its_plain.proofs.StepLaws.{AllOf, step_has}

-- a change
effect_version : (c : Change) (j : ℕ) (m : Machine) → (effect c j m).version ≡ m.version
unfolding effect after_removal
effect_version (changes.Open n on) j m = refl
effect_version (changes.Shut n) j m = refl
effect_version (changes.Move n at) j m = refl
effect_version (changes.Append n w) j m = refl
effect_version (changes.Close n) j m = refl
effect_version (changes.Take c) j m = refl
effect_version (changes.Put c b) j m = refl
effect_version (changes.Hold c s) j m = refl
effect_version (changes.Poke s p w) j m = refl
effect_version (changes.Set s v w) j m = refl
effect_version (changes.Map s k) j m = refl
effect_version (changes.Unmap s k) j m = refl
effect_version (changes.Protect s k on) j m = refl
effect_version (changes.Make s u n) j m = refl
effect_version (changes.Remove s) j m = refl
effect_version (changes.Inform s) j m = refl
effect_version (changes.Arm alarm) j m = refl
effect_version (changes.Join n l write x y) j m = refl
effect_version (changes.CloseEnd n l write) j m = refl
effect_version (changes.Send l w) j m = refl
effect_version (changes.Receive l) j m = refl
effect_version (changes.Delete x y z) j m = refl
effect_version (changes.Rename x y z u v) j m = refl

effects_version : (cs : List Change) (j : ℕ) (m : Machine) → (effects cs j m).version ≡ m.version
effects_version [] j m = refl
effects_version (c ∷ cs) j m = effects_version cs j (effect c j m) ∙ effect_version c j m

-- a step
acted_version : (m : Machine) (j : ℕ) (a : Ask) (ks : List ℕ) (d : Decision) → AllOf (λ t. t.machine.version ≡ m.version) (acted m j a ks d)
unfolding acted
acted_version m j a ks (Waits r) = tt
acted_version m j a ks (Goes cs h vs) = effects_version cs.items j m
acted_version m j a ks (Ends cs ss e) = effects_version cs.items j m
acted_version m j a ks (Gone cs) = effects_version (changes.Remove j ∷ cs.items) j m

pub step_version : (m n : Machine) (j : ℕ) → step m j ≡ Some n → n.version ≡ m.version
step_version m n j e = step_has (λ (x : Machine). x.version ≡ m.version) m n j (λ q is. record {
  delivers = effects_version (informs (delivered q.core q.job).stops q.superior) j m;
  changes = λ c k u. refl;
  faults = λ f. refl;
  calls = λ a. acted_version m j a (reach m j q a) (decision m j q a);
}) e

-- a line that is neither VERSION nor SYSTEM
abbrev pub NoSystem : StateLine → Type 0
NoSystem (states.System v) = ⊥
NoSystem _ = Unit {0}

abbrev pub Later : Event → Type 0
Later (events.Version v) = ⊥
Later (events.Restore line) = NoSystem line
Later _ = Unit {0}

module _ (v : ℕ) where
  abbrev KeptR : Result Machine Reason → Type 0
  KeptR (Ok m) = m.version ≡ v
  KeptR (Err r) = Unit {0}

  abbrev KeptOp : Operated → Type 0
  KeptOp (Does n out touched b) = n.version ≡ v
  KeptOp (Refuses r) = Unit {0}
  KeptOp (Ticks s k) = Unit {0}
  KeptOp Quits = Unit {0}

  quietly_kept : (b : Block) (r : Result Machine Reason) → KeptR r → KeptOp (quietly b r)
  quietly_kept b (Ok m) h = h
  quietly_kept b (Err r) h = tt

  disturbs_kept : (s : ℕ) (b : Block) (r : Result Machine Reason) → KeptR r → KeptOp (disturbs s b r)
  disturbs_kept s b (Ok m) h = h
  disturbs_kept s b (Err r) h = tt

  load_kept : (m : Machine) (b : Block) (u j : ℕ) (console o : Option ℕ) → m.version ≡ v → KeptOp (by_load b (after_load_in m u j console o))
  load_kept m b u j (Some c) (Some s) t = t
  load_kept m b u j None (Some s) t = t
  load_kept m b u j console None t = tt

  -- words
  core_kept : (m : Machine) (s : ℕ) (q : Whole) (r : Result Core Reason) → m.version ≡ v → KeptR (with_core m s q r)
  core_kept m s q (Ok c) t = t
  core_kept m s q (Err r) t = tt

  word_kept : (m : Machine) (s a w : ℕ) → m.version ≡ v → KeptR (with_word_loaded m s a w)
  unfolding with_word_loaded
  word_kept m s a w t = by (m.jobs s)
    where
      by : (o : Option Whole) → KeptR (with_word_loaded_of m s a w o)
      by (Some q) = core_kept m s q (with_stored (mapped m) q.core a w) t
      by None = tt

  words_kept : (ws : List ℕ) (m : Machine) (s a : ℕ) → m.version ≡ v → KeptR (with_words_stored m s a ws)
  words_kept [] m s a t = t
  words_kept (w ∷ ws) m s a t = by (with_word_loaded m s a w) (word_kept m s a w t) (λ n h. words_kept ws n s (a + 1) h)
    where
      by : (r : Result Machine Reason) → KeptR r → ((n : Machine) → n.version ≡ v → KeptR (with_words_stored n s (a + 1) ws))
          → KeptR (and_then r (λ n. with_words_stored n s (a + 1) ws))
      by (Ok n) h more = more n h
      by (Err r) h more = tt

  loaded_kept : (m : Machine) (s a : ℕ) (ws : List ℕ) → m.version ≡ v → KeptR (with_words_loaded m s a ws)
  unfolding with_words_loaded
  loaded_kept m s a ws t = by (words_barred m s a (length ws))
    where
      by : (b : Bool) → KeptR (with_words_loaded_if m s a ws b)
      by true = tt
      by false = words_kept ws m s a t

  -- a line on a job
  on_kept : (m : Machine) (s : ℕ) (f : Whole → Result Machine Reason) → ((q : Whole) → KeptR (f q)) → KeptR (on_job m s f (m.jobs s))
  on_kept m s f h = by (m.jobs s)
    where
      by : (o : Option Whole) → KeptR (on_job m s f o)
      by (Some q) = h q
      by None = tt

  protected_kept : (m : Machine) (s k : ℕ) → m.version ≡ v → KeptR (with_page_protected m s k)
  unfolding with_page_protected
  protected_kept m s k t = on_kept m s (λ q. with_page_protected_in m s k q (page_of q.core k)) (λ q. by q (page_of q.core k))
    where
      by : (q : Whole) (o : Option Page) → KeptR (with_page_protected_in m s k q o)
      by q (Some p) = t
      by q None = tt

  registers_kept : (m : Machine) (s : ℕ) (f : Job → Job) → m.version ≡ v → KeptR (on_registers m s f)
  unfolding on_registers
  registers_kept m s f t = on_kept m s (with_registers m s f) (λ q. t)

  deposit_kept : (m : Machine) (s a w : ℕ) → m.version ≡ v → KeptR (after_deposit m s a w)
  unfolding after_deposit
  deposit_kept m s a w t =
      on_kept m s _ (λ q. core_kept m s q (after_deposit_in q.core a w (can_store q.core a) (is_some (word_at q.core a))) t)

  symbol_kept : (m : Machine) (s name a : ℕ) → m.version ≡ v → KeptR (with_symbol_kept m s name a)
  unfolding with_symbol_kept
  symbol_kept m s name a t = by (m.jobs s)
    where
      if_room : (b : Bool) → KeptR (with_symbol_kept_if m s (name, a) b)
      if_room true = t
      if_room false = tt

      by : (o : Option Whole) → KeptR (with_symbol_kept_of m s (name, a) o)
      by (Some q) = if_room (nat_lt (length (m.symbols s)) most_symbols)
      by None = tt

  -- lines on files change the directory alone
  files_kept : (m : Machine) (r : Result Machine Reason) → m.version ≡ v → FilesAlone m r → KeptR r
  files_kept m (Ok n) t h = ap (λ (x : Machine). x.version) h ∙ t
  files_kept m (Err r) t h = tt

  clock_kept : (m : Machine) (b : Block) (n : ℕ) → m.version ≡ v → KeptOp (by_clock m b n (after_clock m n))
  unfolding after_clock
  clock_kept m b n t = by (nat_lt (m.clock + n) clock_end)
    where
      by : (x : Bool) → KeptOp (by_clock m b n (after_clock_if m n x))
      by true = t
      by false = tt

  -- lines of the state part
  ok_kept : (P : Machine → Type 0) (r : Result Machine Reason) → ((n : Machine) → P n → n.version ≡ v) → OkBy P r → KeptR r
  ok_kept P (Ok n) h f = h n f
  ok_kept P (Err r) h f = tt

  same_kept : (m n k : Machine) → n ≡ k → k.version ≡ m.version → m.version ≡ v → n.version ≡ v
  same_kept m n k is same t = ap (λ (x : Machine). x.version) is ∙ same ∙ t

  restored_kept : (m : Machine) (b : Block) (l : StateLine) → NoSystem l → m.version ≡ v → KeptOp (restored m b l)
  unfolding restored
  restored_kept m b (states.System w) i t = absurd i
  restored_kept m b (states.Clock n) i t = clock_kept m b n t
  restored_kept m b (states.File d x y) i t = quietly_kept _ _ (files_kept m (with_file_made m (names_of d x y)) t (made_files m (names_of d x y)))
  restored_kept m b (states.FileWords ws) i t = quietly_kept b _ (files_kept m (with_words_added m b.file ws.items) t (added_files m b.file ws.items))
  restored_kept m b (states.Job s u j c) i t =
      disturbs_kept s _ _ (ok_kept (MakesJob m s u j c) (with_job_made m s u j c) (λ n f. same_kept m n _ f.is refl t) (job_made m s u j c))
  restored_kept m b (states.CoreWords a ws) i t = disturbs_kept b.slot b _ (loaded_kept m b.slot a ws.items t)
  restored_kept m b (states.ReadOnly p) i t = disturbs_kept b.slot b _ (protected_kept m b.slot p t)
  restored_kept m b (states.Symbol x a) i t = quietly_kept b _ (symbol_kept m b.slot x a t)
  restored_kept m b (states.Regs r) i t = disturbs_kept b.slot b _ (registers_kept m b.slot (after_registers r) t)
  restored_kept m b (states.Alarm s p n) i t =
      disturbs_kept s b _ (ok_kept (SetsAlarm m s p n) (with_alarm_set m s p n)
      (λ k f. same_kept m k _ f.is (effect_version (changes.Arm (Some (p, n))) s m) t) (alarm_set m s p n))
  restored_kept m b (states.Under s k) i t =
      disturbs_kept s b _ (ok_kept (SetsSuperior m s k) (with_superior_set m s k) (λ n f. same_kept m n _ f.is refl t) (superior_set m s k))
  restored_kept m b (states.Tty s n w) i t =
      disturbs_kept s b _ (ok_kept (Opens m s n (on_tty w)) (with_tty m s n w) (λ k f. same_kept m k _ f.is refl t) (tty_opened m s n w))
  restored_kept m b (states.Disk s n d x y at) i t =
      disturbs_kept s b _ (ok_kept (Opens m s n (Reads (names_of d x y) at)) (with_disk m s n (names_of d x y) at)
      (λ k f. same_kept m k _ f.is refl t) (disk_opened m s n (names_of d x y) at))
  restored_kept m b (states.Draft s n d x y) i t =
      disturbs_kept s b _ (ok_kept (Opens m s n (empty_draft (names_of d x y))) (with_draft m s n (names_of d x y))
      (λ k f. same_kept m k _ f.is refl t) (draft_opened m s n (names_of d x y)))
  restored_kept m b (states.Wrote s n ws) i t =
      disturbs_kept s b _ (ok_kept (WritesWords m s n ws.items) (with_words_written m s n ws.items)
      (λ k f. same_kept m k _ f.is (effects_version (words_appended n ws.items) s m) t) (words_written m s n ws.items))
  restored_kept m b (states.Usr s n k w at) i t =
      disturbs_kept s b _ (ok_kept (Opens m s n (On k w at)) (with_usr m s n k w at) (λ x f. same_kept m x _ f.is refl t) (usr_opened m s n k w at))
  restored_kept m b (states.Join s n l w x y) i t =
      disturbs_kept s b _ (ok_kept (Joins m s n l w x y) (with_link m s n l w x y)
      (λ k f. same_kept m k _ f.is (effect_version (changes.Join n l w x y) s m) t) (link_joined m s n l w x y))
  restored_kept m b (states.Sent l ws) i t =
      quietly_kept b _ (ok_kept (Sends m l ws.items) (with_words_sent m l ws.items) (λ n f. same_kept m n _ f.is refl t) (words_sent m l ws.items))
  restored_kept m b (states.EndShut l w) i t =
      quietly_kept b _ (ok_kept (ShutsEnd m l w) (with_end_shut m l w) (λ n f. same_kept m n _ f.is refl t) (end_shut m l w))
  restored_kept m b (states.Input c bs) i t =
      quietly_kept b _ (ok_kept (PutsBytes m c false bs.items) (with_bytes_waiting m c false bs.items)
      (λ n f. same_kept m n _ f.is refl t) (bytes_put m c false bs.items))
  restored_kept m b (states.Output c bs) i t =
      quietly_kept b _ (ok_kept (PutsBytes m c true bs.items) (with_bytes_waiting m c true bs.items)
      (λ n f. same_kept m n _ f.is refl t) (bytes_put m c true bs.items))
  restored_kept m b (states.Hold c s) i t =
      quietly_kept b _ (ok_kept (SetsHolder m c s) (with_holder_set m c s)
      (λ n f. same_kept m n _ f.is (effect_version (changes.Hold c s) s m) t) (holder_set m c s))
  restored_kept m b (states.Turn s) i t = t
  restored_kept m b states.Ready i t = t

  -- every such line
  operate_kept : (m : Machine) (b : Block) (e : Event) → Later e → m.version ≡ v → KeptOp (operate m b e)
  unfolding operate after_load
  operate_kept m b (events.Version w) i t = absurd i
  operate_kept m b (events.Load u j console) i t = load_kept m b u j console (least_free (limit m) m.jobs) t
  operate_kept m b (events.Words a words) i t = disturbs_kept b.slot b _ (loaded_kept m b.slot a words.items t)
  operate_kept m b (events.ReadOnly page) i t = disturbs_kept b.slot b _ (protected_kept m b.slot page t)
  operate_kept m b (events.Symbol name a) i t = quietly_kept b _ (symbol_kept m b.slot name a t)
  operate_kept m b (events.Go a) i t = disturbs_kept b.slot b _ (registers_kept m b.slot (after_go a) t)
  operate_kept m b (events.File d x y) i t = quietly_kept _ _ (files_kept m (with_file_made m (names_of d x y)) t (made_files m (names_of d x y)))
  operate_kept m b (events.Append words) i t =
      quietly_kept b _ (files_kept m (with_words_added m b.file words.items) t (added_files m b.file words.items))
  operate_kept m b (events.Tick s n) i t = tt
  operate_kept m b (events.Clock n) i t = clock_kept m b n t
  operate_kept m b (events.Int s x w) i t = disturbs_kept s b _ (registers_kept m s (after_int x w) t)
  operate_kept m b (events.Exam s a n) i t = by (examined m s a n)
    where
      by : (r : Result (List ℕ) Reason) → KeptOp (by_exam m b s (in_a_line s a) r)
      by (Ok ws) = t
      by (Err r) = tt
  operate_kept m b (events.List s a n) i t = by (examined m s a n)
    where
      by : (r : Result (List ℕ) Reason) → KeptOp (by_exam m b s (printed.listed s a) r)
      by (Ok ws) = t
      by (Err r) = tt
  operate_kept m b (events.State s) i t = by (state_shown m s)
    where
      by : (r : Result JobShow Reason) → KeptOp (by_state m b s r)
      by (Ok show) = t
      by (Err r) = tt
  operate_kept m b (events.Deposit s a w) i t = disturbs_kept s b _ (deposit_kept m s a w t)
  operate_kept m b (events.Stop s) i t = disturbs_kept s b _ (registers_kept m s after_stop t)
  operate_kept m b (events.Cont s) i t = disturbs_kept s b _ (registers_kept m s after_cont t)
  operate_kept m b (events.Show d x y) i t = by (file_shown m d x y)
    where
      by : (r : Result (List Line) Reason) → KeptOp (shows m b r)
      by (Ok out) = t
      by (Err r) = tt
  operate_kept m b (events.Restore line) i t = restored_kept m b line i t
  operate_kept m b events.End i t = tt
  operate_kept m b e i t = t

  abbrev KeptLined : Lined → Type 0
  KeptLined (Done o) = KeptOp o
  KeptLined (Peeks s) = Unit {0}

  lined_kept : (m : Machine) (b : Block) (e : Event) → Later e → m.version ≡ v → KeptLined (lined m b e)
  unfolding lined
  lined_kept m b (events.Peek s) i t = by (m.jobs s)
    where
      by : (o : Option Whole) → KeptLined (peeked_at s o)
      by (Some q) = tt
      by None = tt
  lined_kept m b e i t = operate_kept m b e i t

pub line_version : (m n : Machine) (b c : Block) (e : Event) (out : List Line) (touched : ℕ → Bool) → Later e
    → lined m b e ≡ Done (Does n out touched c) → n.version ≡ m.version
line_version m n b c e out touched i is = subst (KeptLined m.version) is (lined_kept m.version m b e i refl)
