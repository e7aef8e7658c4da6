-- A line of a session is the same on the stepped machine and on its plain machine (docs/STEPS.md,
-- "Lines").
use Rattle.std.specs.Prelude.{◌≡◌, ℕ, ◌+◌, Bool, true, false, Option, Some, None, IfSome, List, [], ◌∷◌, ◌++◌, Result, Ok, Err, option_map, is_some, length, nat_lt, refl, if◌then◌else◌}
use Rattle.std.proofs.Common.{sym, ◌∙◌, ap, subst}
use Rattle.its_word.specs.Core.{Core, Page, page_of, word_at, can_store}
use Rattle.its_word.specs.Limits.{most_symbols}
use Rattle.its_word.specs.Directory.{with_changed, longer}
use Rattle.its_records.specs.Tree.{least_free, no_job}
use Rattle.its_records.specs.declared.jobs.Job.{Job}
use Rattle.its_records.specs.declared.session.Event.{Event}
use Rattle.its_records.specs.declared.session.Event.TheVariants as events
use Rattle.its_records.specs.declared.session.Reason.{Reason}
use Rattle.its_records.specs.declared.show.JobShow.{JobShow}
use Rattle.its_records.specs.declared.state_line.StateLine.{StateLine}
use Rattle.its_records.specs.declared.state_line.StateLine.TheVariants as states
use Rattle.its_records.proofs.FreeLaws.{least_alike, least_empty, no_job_alike}
use Rattle.its_frame.specs.declared.frame.Frame.{Frame}
use Rattle.its_print.specs.Printing.{Line, listed}
use Rattle.its_plain.specs.Machine.{Names, File, Symbol, Whole, Machine, mapped, words_at, limit, with_new}
use Rattle.its_plain.specs.Operator.{Block, no_block, Does, nobody, and_then, disturbs, quietly}
use Rattle.its_plain.specs.Operator.Jobs.{new_job, with_holder, after_load_in, after_load, with_stored, with_core, with_word_loaded_of, with_word_loaded, with_words_stored, barred_in, words_barred, with_words_loaded_if, with_words_loaded, with_page_protected_in, with_page_protected, on_job, with_registers, on_registers, after_go, after_int, after_stop, after_cont, seen, examined, shown, state_shown, after_deposit_in, after_deposit}
use Rattle.its_plain.specs.Operator.Lines.{by_load, by_exam, in_a_line, by_state, by_clock, operate, shows, Done, peeked_at, lined}
use Rattle.its_plain.specs.Machine.Change.{with_protection}
use Rattle.its_plain.specs.Operator.State.{after_registers, with_job_made, with_alarm_set, with_superior_set, with_tty, with_disk, with_draft, with_words_written, with_usr, with_link, with_words_sent, with_end_shut, with_bytes_waiting, with_holder_set, restored}
use Rattle.its_plain.specs.Operator.Symbols.{symbol_shown, with_symbol_kept_if, with_symbol_kept_of, with_symbol_kept}
use Rattle.its_plain.specs.Operator.Version.{with_version}
use Rattle.its_plain.specs.Operator.Clock.{due, due_slots, at_clock, clock_end, after_clock_if, after_clock}
use Rattle.its_plain.specs.Machine.Own.{names_of}
use Rattle.its_plain.specs.Call.File.{most_files, is_full, file_named, has_file}
use Rattle.its_plain.specs.Operator.Files.{channels_of, with_file_made_if, with_file_made, with_word_added_if, with_word_added_to, with_word_added, with_words_added, files_in, listing, shown_by, file_shown}
use Rattle.its_plain.proofs.MachineLaws.{jobs_are}
use Rattle.its_stepped.specs.State.{State, plain}
use Rattle.its_stepped.specs.State as state
use Rattle.its_stepped.specs.Sound.{Sound}
use Rattle.its_stepped.specs.Unwind.{all_unwound}
use Rattle.its_stepped.specs.Tick.{after_help_if}
use Rattle.its_stepped.specs.Lines.{restored_on, called_on, unwound_at, unwound_for, restores_files, looks_at_files, after_calm, with_raw, lifted, lifted_line}
use Rattle.its_stepped.proofs.Frame.FrameLaws.{mapped_plain}
use Rattle.its_stepped.proofs.Committing.EffectLaws.{unmarked_files, files_plain}
use Rattle.its_stepped.proofs.Committing.HelpLaws.{helped_if_plain, helped_if_sound, helped_if_unmarked}
use Rattle.its_stepped.proofs.Lining.DueLaws.{due_plain, clock_same, Hushed, unwound_hushed, rung_plain}
pub use Rattle.its_stepped.proofs.Lining.LiftLaws.{job_here}
use Rattle.its_stepped.proofs.Lining.LiftLaws.{job_put, put_plain, lift, then_lifted, some_alike, channels_plain, free_frame}
use Rattle.its_stepped.proofs.Lining.RestoredLaws.{job_lifted, alarm_lifted, superior_lifted, tty_lifted, disk_lifted, draft_lifted, wrote_lifted, usr_lifted, link_lifted, sent_lifted, shut_lifted, bytes_lifted, holder_lifted}
use Rattle.its_stepped.proofs.Unwinding.UnwindLaws.{unwound_plain, unwound_sound, unwound_none, unwound_unmarked, all_unwound_plain, all_unwound_sound, all_unwound_unmarked}

core_lifted : (v : State) (s : ℕ) (q : Whole) (r : Result Core Reason) → v.frames s ≡ None → with_core (plain v) s q r ≡ lift v (with_core v.raw s q r)
core_lifted v s q (Ok c) e = ap Ok (sym (put_plain v s (record q { core = c }) e))
core_lifted v s q (Err r) e = refl

pub registers_lifted : (v : State) (s : ℕ) (f : Job → Job) → v.frames s ≡ None → on_registers (plain v) s f ≡ lift v (on_registers v.raw s f)
unfolding on_registers
registers_lifted v s f e = ap (on_job (plain v) s (with_registers (plain v) s f)) (job_here v s e) ∙ go (v.raw.jobs s)
  where
    go : (o : Option Whole) → on_job (plain v) s (with_registers (plain v) s f) o ≡ lift v (on_job v.raw s (with_registers v.raw s f) o)
    go (Some q) = ap Ok (sym (put_plain v s (record q { job = f q.job }) e))
    go None = refl

pub deposited_lifted : (v : State) (s a w : ℕ) → v.frames s ≡ None → after_deposit (plain v) s a w ≡ lift v (after_deposit v.raw s a w)
unfolding after_deposit
deposited_lifted v s a w e = ap (on_job (plain v) s (λ q. with_core (plain v) s q (core q))) (job_here v s e) ∙ go (v.raw.jobs s)
  where
    core : Whole → Result Core Reason
    core q = after_deposit_in q.core a w (can_store q.core a) (is_some (word_at q.core a))

    go : (o : Option Whole) → on_job (plain v) s (λ q. with_core (plain v) s q (core q)) o ≡ lift v (on_job v.raw s (λ q. with_core v.raw s q (core q)) o)
    go (Some q) = core_lifted v s q (core q) e
    go None = refl

-- the words of a line
loaded_of_lifted : (v : State) (s a w : ℕ) (o : Option Whole) → v.frames s ≡ None
    → with_word_loaded_of (plain v) s a w o ≡ lift v (with_word_loaded_of v.raw s a w o)
loaded_of_lifted v s a w (Some q) e = ap (λ n. with_core (plain v) s q (with_stored n q.core a w)) (mapped_plain v)
    ∙ core_lifted v s q (with_stored (mapped v.raw) q.core a w) e
loaded_of_lifted v s a w None e = refl

pub word_lifted : (v : State) (s a w : ℕ) → v.frames s ≡ None → with_word_loaded (plain v) s a w ≡ lift v (with_word_loaded v.raw s a w)
unfolding with_word_loaded
word_lifted v s a w e = ap (with_word_loaded_of (plain v) s a w) (job_here v s e) ∙ loaded_of_lifted v s a w (v.raw.jobs s) e

pub stored_lifted : (v : State) (s a : ℕ) (ws : List ℕ) → v.frames s ≡ None → with_words_stored (plain v) s a ws ≡ lift v (with_words_stored v.raw s a ws)
stored_lifted v s a [] e = refl
stored_lifted v s a (w ∷ ws) e =
    ap (λ r. and_then r (λ n. with_words_stored n s (a + 1) ws)) (word_lifted v s a w e)
    ∙ then_lifted v (with_word_loaded v.raw s a w) (λ n. with_words_stored n s (a + 1) ws) (λ n. stored_lifted (with_raw v n) s (a + 1) ws e)

words_lifted_if : (v : State) (s a : ℕ) (ws : List ℕ) (barred : Bool) → v.frames s ≡ None
    → with_words_loaded_if (plain v) s a ws barred ≡ lift v (with_words_loaded_if v.raw s a ws barred)
words_lifted_if v s a ws true e = refl
words_lifted_if v s a ws false e = stored_lifted v s a ws e

pub words_lifted : (v : State) (s a : ℕ) (ws : List ℕ) → v.frames s ≡ None → with_words_loaded (plain v) s a ws ≡ lift v (with_words_loaded v.raw s a ws)
unfolding with_words_loaded
words_lifted v s a ws e =
    ap (λ (o : Option Whole). with_words_loaded_if (plain v) s a ws (barred_in o a (length ws))) (job_here v s e)
    ∙ words_lifted_if v s a ws (words_barred v.raw s a (length ws)) e

-- RO, and SYM of a job that may be inside a call
page_lifted_in : (v : State) (s k : ℕ) (q : Whole) (p : Option Page) → v.frames s ≡ None
    → with_page_protected_in (plain v) s k q p ≡ lift v (with_page_protected_in v.raw s k q p)
page_lifted_in v s k q (Some p) e = ap Ok (sym (put_plain v s (with_protection k false q) e))
page_lifted_in v s k q None e = refl

pub page_lifted : (v : State) (s k : ℕ) → v.frames s ≡ None → with_page_protected (plain v) s k ≡ lift v (with_page_protected v.raw s k)
unfolding with_page_protected
page_lifted v s k e = ap (on_job (plain v) s (λ q. with_page_protected_in (plain v) s k q (page_of q.core k))) (job_here v s e) ∙ go (v.raw.jobs s)
  where
    go : (o : Option Whole)
        → on_job (plain v) s (λ q. with_page_protected_in (plain v) s k q (page_of q.core k)) o ≡ lift v
        (on_job v.raw s (λ q. with_page_protected_in v.raw s k q (page_of q.core k)) o)
    go (Some q) = page_lifted_in v s k q (page_of q.core k) e
    go None = refl

symbol_lifted_if : (v : State) (s : ℕ) (x : Symbol) (room : Bool) → with_symbol_kept_if (plain v) s x room ≡ lift v (with_symbol_kept_if v.raw s x room)
unfolding plain
symbol_lifted_if v s x true = refl
symbol_lifted_if v s x false = refl

symbol_lifted_of : (v : State) (s : ℕ) (x : Symbol) (f : Option Frame) (o : Option Whole)
    → with_symbol_kept_of (plain v) s x (option_map (state.seen f) o) ≡ lift v (with_symbol_kept_of v.raw s x o)
unfolding plain
symbol_lifted_of v s x f (Some q) = symbol_lifted_if v s x (nat_lt (length (v.raw.symbols s)) most_symbols)
symbol_lifted_of v s x f None = refl

pub symbol_lifted : (v : State) (s name a : ℕ) → with_symbol_kept (plain v) s name a ≡ lift v (with_symbol_kept v.raw s name a)
unfolding with_symbol_kept plain
symbol_lifted v s name a = symbol_lifted_of v s (name, a) (v.frames s) (v.raw.jobs s)

-- VERSION
pub empty_plain : (v : State) → no_job (plain v).jobs ≡ no_job v.raw.jobs
unfolding plain
empty_plain v = no_job_alike (plain v).jobs v.raw.jobs (λ k. some_alike (v.frames k) (v.raw.jobs k))

version_by : (v : State) (n : ℕ) (b c : Bool) → b ≡ c → (if b then record (plain v) { version = n } else plain v) ≡ plain
    (with_raw v (if c then record v.raw { version = n } else v.raw))
unfolding plain
version_by v n true true e = refl
version_by v n false false e = refl
version_by v n true false e = cc
version_by v n false true e = cc

pub version_lifted : (v : State) (n : ℕ) → with_version (plain v) n ≡ plain (with_raw v (with_version v.raw n))
unfolding with_version
version_lifted v n = version_by v n (no_job (plain v).jobs) (no_job v.raw.jobs) (empty_plain v)

-- what EXAM and STATE find
pub examined_plain : (v : State) (s a n : ℕ) → v.frames s ≡ None → examined (plain v) s a n ≡ examined v.raw s a n
unfolding examined
examined_plain v s a n e = ap (on_job (plain v) s (λ q. seen (words_at q.core a n))) (job_here v s e) ∙ go (v.raw.jobs s)
  where
    go : (o : Option Whole) → on_job (plain v) s (λ q. seen (words_at q.core a n)) o ≡ on_job v.raw s (λ q. seen (words_at q.core a n)) o
    go (Some q) = refl
    go None = refl

pub state_plain : (v : State) (s : ℕ) → v.frames s ≡ None → state_shown (plain v) s ≡ state_shown v.raw s
unfolding state_shown plain
state_plain v s e = ap (on_job (plain v) s (λ q. Ok (shown q.job q.superior (symbol_shown q.job.pc ((plain v).symbols s)))))
    (job_here v s e) ∙ go (v.raw.jobs s)
  where
    go : (o : Option Whole)
        → on_job (plain v) s (λ q. Ok (shown q.job q.superior (symbol_shown q.job.pc ((plain v).symbols s)))) o
        ≡ on_job v.raw s (λ q. Ok (shown q.job q.superior (symbol_shown q.job.pc (v.raw.symbols s)))) o
    go (Some q) = refl
    go None = refl

-- lines on files, if no close is half made
made_by : (v : State) (n : Names) (there room : Bool) → v.mark ≡ None
    → with_file_made_if (plain v) n there room ≡ lift v (with_file_made_if v.raw n there room)
made_by v n true room e = refl
made_by v n false true e = ap Ok (sym (files_plain v (λ fs. fs ++ record { names = n; words = [] } ∷ []) e))
made_by v n false false e = refl

pub made_lifted : (v : State) (n : Names) → v.mark ≡ None → with_file_made (plain v) n ≡ lift v (with_file_made v.raw n)
unfolding with_file_made
made_lifted v n e =
    ap (λ fs. with_file_made_if (plain v) n (has_file n fs) (nat_lt (length fs) most_files)) (unmarked_files v e)
    ∙ made_by v n (has_file n v.raw.files) (nat_lt (length v.raw.files) most_files) e

added_by : (v : State) (n : Names) (w : ℕ) (full : Bool) → v.mark ≡ None → with_word_added_if (plain v) n w full ≡ lift v (with_word_added_if v.raw n w full)
added_by v n w true e = refl
added_by v n w false e = ap Ok (sym (files_plain v (with_changed n (longer w)) e))

added_to : (v : State) (n : Names) (w : ℕ) (o : Option File) → v.mark ≡ None → with_word_added_to (plain v) n w o ≡ lift v (with_word_added_to v.raw n w o)
added_to v n w (Some f) e =
    ap (λ cs. with_word_added_if (plain v) n w (is_full (plain v).files cs f.words)) (channels_plain v)
    ∙ ap (λ fs. with_word_added_if (plain v) n w (is_full fs (channels_of v.raw) f.words)) (unmarked_files v e)
    ∙ added_by v n w (is_full v.raw.files (channels_of v.raw) f.words) e
added_to v n w None e = refl

pub added_lifted : (v : State) (n : Names) (w : ℕ) → v.mark ≡ None → with_word_added (plain v) n w ≡ lift v (with_word_added v.raw n w)
unfolding with_word_added
added_lifted v n w e = ap (λ fs. with_word_added_to (plain v) n w (file_named n fs)) (unmarked_files v e) ∙ added_to v n w (file_named n v.raw.files) e

pub words_added_lifted : (v : State) (n : Names) (ws : List ℕ) → v.mark ≡ None → with_words_added (plain v) n ws ≡ lift v (with_words_added v.raw n ws)
words_added_lifted v n [] e = refl
words_added_lifted v n (w ∷ ws) e =
    ap (λ r. and_then r (λ k. with_words_added k n ws)) (added_lifted v n w e)
    ∙ then_lifted v (with_word_added v.raw n w) (λ k. with_words_added k n ws) (λ k. words_added_lifted (with_raw v k) n ws e)

pub shown_plain : (v : State) (d x y : ℕ) → v.mark ≡ None → file_shown (plain v) d x y ≡ file_shown v.raw d x y
unfolding file_shown
shown_plain v d x y e = ap (λ fs. shown_by d x y (file_named (names_of d x y) fs)) (unmarked_files v e)

-- LOAD: the same slot is free
pub least_plain : (v : State) → least_free (limit (plain v)) (plain v).jobs ≡ least_free (limit v.raw) v.raw.jobs
unfolding plain
least_plain v = least_alike (limit v.raw) (plain v).jobs v.raw.jobs (λ k. some_alike (v.frames k) (v.raw.jobs k))

held_plain : (v : State) (s : ℕ) (q : Whole) (console : Option ℕ) → v.frames s ≡ None
    → plain (with_raw v (with_holder (with_new v.raw s q) s console)) ≡ with_holder (with_new (plain v) s q) s console
unfolding plain
held_plain v s q (Some c) e = jobs_are _ _ (λ k. job_put v s q k e) refl
held_plain v s q None e = jobs_are _ _ (λ k. job_put v s q k e) refl

load_lifted : (v : State) (b : Block) (u j : ℕ) (console o : Option ℕ) → Sound v → least_free (limit v.raw) v.raw.jobs ≡ o
    → by_load b (after_load_in (plain v) u j console o) ≡ lifted v (by_load b (after_load_in v.raw u j console o))
load_lifted v b u j console (Some s) sound is =
    ap (λ m. by_load b (Ok (m, s))) (sym (held_plain v s (new_job u j console) console (free_frame v s sound (least_empty (limit v.raw) v.raw.jobs s is))))
load_lifted v b u j console None sound is = refl

-- the outcome of a result
disturbs_lifted : (v : State) (s : ℕ) (b : Block) (r : Result Machine Reason) → disturbs s b (lift v r) ≡ lifted v (disturbs s b r)
disturbs_lifted v s b (Ok m) = refl
disturbs_lifted v s b (Err r) = refl

exam_lifted : (v : State) (b : Block) (s : ℕ) (show : List ℕ → List Line) (r : Result (List ℕ) Reason)
    → by_exam (plain v) b s show r ≡ lifted v (by_exam v.raw b s show r)
exam_lifted v b s show (Ok ws) = refl
exam_lifted v b s show (Err r) = refl

show_same : (v : State) (b : Block) (s : ℕ) (show : JobShow) → by_state (plain v) b s (Ok show) ≡ lifted v (by_state v.raw b s (Ok show))
unfolding plain
show_same v b s show = refl

show_lifted : (v : State) (b : Block) (s : ℕ) (r : Result JobShow Reason) → by_state (plain v) b s r ≡ lifted v (by_state v.raw b s r)
show_lifted v b s (Ok show) = show_same v b s show
show_lifted v b s (Err r) = refl

quietly_lifted : (v : State) (b : Block) (r : Result Machine Reason) → quietly b (lift v r) ≡ lifted v (quietly b r)
quietly_lifted v b (Ok m) = refl
quietly_lifted v b (Err r) = refl

shows_lifted : (v : State) (b : Block) (r : Result (List Line) Reason) → shows (plain v) b r ≡ lifted v (shows v.raw b r)
shows_lifted v b (Ok out) = refl
shows_lifted v b (Err r) = refl

-- CLOCK, if the jobs whose alarm is due are in user mode
clock_lifted : (v : State) (b : Block) (n : ℕ) (fits : Bool) → Hushed (v.raw.clock + n) v
    → by_clock (plain v) b n (after_clock_if (plain v) n fits) ≡ lifted v (by_clock v.raw b n (after_clock_if v.raw n fits))
unfolding plain
clock_lifted v b n true h =
    let c = v.raw.clock + n in
    ap (λ (m : Machine). Does m [] (due c (plain v).jobs) b) (sym (rung_plain v c h))
    ∙ ap (λ (f : ℕ → Bool). Does (plain (with_raw v (at_clock c v.raw))) [] f b) (due_plain v c)
clock_lifted v b n false h = refl

-- what CLOCK needs of the state that it finds
abbrev pub HushedFor : State → Event → Type 0
HushedFor v (events.Clock n) = Hushed (v.raw.clock + n) v
HushedFor v (events.Restore (states.Clock n)) = Hushed (v.raw.clock + n) v
HushedFor v _ = Unit {0}

peek_lifted : (v : State) (s : ℕ) (f : Option Frame) (o : Option Whole) → peeked_at s (option_map (state.seen f) o) ≡ lifted_line v (peeked_at s o)
peek_lifted v s f (Some q) = refl
peek_lifted v s f None = refl

-- a line of the state part, if the job that it is about is in user mode, and the directory is whole
-- if it is about files
restored_calm : (v : State) (b : Block) (line : StateLine) → Sound v → IfSome (restored_on b line) (λ s. v.frames s ≡ None)
    → HushedFor v (events.Restore line)
    → (restores_files line ≡ true → v.mark ≡ None)
    → restored (plain v) b line ≡ lifted v (restored v.raw b line)
unfolding restored after_clock plain
restored_calm v b (states.System n) sound h hush whole = ap (λ m. Does m [] nobody no_block) (version_lifted v n)
restored_calm v b (states.Clock n) sound h hush whole = clock_lifted v b n (nat_lt (v.raw.clock + n) clock_end) hush
restored_calm v b (states.File d x y) sound h hush whole =
    let n = names_of d x y in
    ap (quietly (record b { file = n })) (made_lifted v n (whole refl)) ∙ quietly_lifted v (record b { file = n }) (with_file_made v.raw n)
restored_calm v b (states.FileWords words) sound h hush whole =
    ap (quietly b) (words_added_lifted v b.file words.items (whole refl)) ∙ quietly_lifted v b (with_words_added v.raw b.file words.items)
restored_calm v b (states.Job s u j console) sound h hush whole =
    ap (disturbs s (record b { slot = s })) (job_lifted v s u j console sound) ∙ disturbs_lifted v s (record b { slot = s }) (with_job_made v.raw s u j console)
restored_calm v b (states.CoreWords a words) sound h hush whole =
    ap (disturbs b.slot b) (words_lifted v b.slot a words.items h) ∙ disturbs_lifted v b.slot b (with_words_loaded v.raw b.slot a words.items)
restored_calm v b (states.ReadOnly page) sound h hush whole =
    ap (disturbs b.slot b) (page_lifted v b.slot page h) ∙ disturbs_lifted v b.slot b (with_page_protected v.raw b.slot page)
restored_calm v b (states.Symbol name a) sound h hush whole =
    ap (quietly b) (symbol_lifted v b.slot name a) ∙ quietly_lifted v b (with_symbol_kept v.raw b.slot name a)
restored_calm v b (states.Regs r) sound h hush whole =
    ap (disturbs b.slot b) (registers_lifted v b.slot (after_registers r) h) ∙ disturbs_lifted v b.slot b (on_registers v.raw b.slot (after_registers r))
restored_calm v b (states.Alarm s period next) sound h hush whole =
    ap (disturbs s b) (alarm_lifted v s period next) ∙ disturbs_lifted v s b (with_alarm_set v.raw s period next)
restored_calm v b (states.Under s t) sound h hush whole =
    ap (disturbs s b) (superior_lifted v s t) ∙ disturbs_lifted v s b (with_superior_set v.raw s t)
restored_calm v b (states.Tty s i write) sound h hush whole =
    ap (disturbs s b) (tty_lifted v s i write) ∙ disturbs_lifted v s b (with_tty v.raw s i write)
restored_calm v b (states.Disk s i d x y at) sound h hush whole =
    ap (disturbs s b) (disk_lifted v s i (names_of d x y) at (whole refl)) ∙ disturbs_lifted v s b (with_disk v.raw s i (names_of d x y) at)
restored_calm v b (states.Draft s i d x y) sound h hush whole =
    ap (disturbs s b) (draft_lifted v s i (names_of d x y)) ∙ disturbs_lifted v s b (with_draft v.raw s i (names_of d x y))
restored_calm v b (states.Wrote s i words) sound h hush whole =
    ap (disturbs s b) (wrote_lifted v s i words.items (whole refl)) ∙ disturbs_lifted v s b (with_words_written v.raw s i words.items)
restored_calm v b (states.Usr s i t write at) sound h hush whole =
    ap (disturbs s b) (usr_lifted v s i t write at) ∙ disturbs_lifted v s b (with_usr v.raw s i t write at)
restored_calm v b (states.Join s i l write x y) sound h hush whole =
    ap (disturbs s b) (link_lifted v s i l write x y) ∙ disturbs_lifted v s b (with_link v.raw s i l write x y)
restored_calm v b (states.Sent l words) sound h hush whole =
    ap (quietly b) (sent_lifted v l words.items) ∙ quietly_lifted v b (with_words_sent v.raw l words.items)
restored_calm v b (states.EndShut l write) sound h hush whole =
    ap (quietly b) (shut_lifted v l write) ∙ quietly_lifted v b (with_end_shut v.raw l write)
restored_calm v b (states.Input c bytes) sound h hush whole =
    ap (quietly b) (bytes_lifted v c false bytes.items) ∙ quietly_lifted v b (with_bytes_waiting v.raw c false bytes.items)
restored_calm v b (states.Output c bytes) sound h hush whole =
    ap (quietly b) (bytes_lifted v c true bytes.items) ∙ quietly_lifted v b (with_bytes_waiting v.raw c true bytes.items)
restored_calm v b (states.Hold c s) sound h hush whole =
    ap (quietly b) (holder_lifted v c s) ∙ quietly_lifted v b (with_holder_set v.raw c s)
restored_calm v b (states.Turn s) sound h hush whole = refl
restored_calm v b states.Ready sound h hush whole = refl

-- the line of a state in which the job that it speaks of is in user mode, and what it looks at is
-- whole
pub line_calm : (v : State) (b : Block) (e : Event) → Sound v → IfSome (called_on b e) (λ s. v.frames s ≡ None) → HushedFor v e
    → (looks_at_files e ≡ true → v.mark ≡ None)
    → lined (plain v) b e ≡ lifted_line v (lined v.raw b e)
unfolding lined operate plain after_load after_clock
line_calm v b (events.Load u j console) sound h hush whole =
    ap (λ o. Done (by_load b (after_load_in (plain v) u j console o))) (least_plain v)
    ∙ ap Done (load_lifted v b u j console (least_free (limit v.raw) v.raw.jobs) sound refl)
line_calm v b (events.Words a words) sound h hush whole =
    ap (λ r. Done (disturbs b.slot b r)) (words_lifted v b.slot a words.items h)
    ∙ ap Done (disturbs_lifted v b.slot b (with_words_loaded v.raw b.slot a words.items))
line_calm v b (events.Version n) sound h hush whole = ap (λ m. Done (Does m [] nobody b)) (version_lifted v n)
line_calm v b (events.ReadOnly page) sound h hush whole =
    ap (λ r. Done (disturbs b.slot b r)) (page_lifted v b.slot page h) ∙ ap Done (disturbs_lifted v b.slot b (with_page_protected v.raw b.slot page))
line_calm v b (events.Symbol name a) sound h hush whole =
    ap (λ r. Done (quietly b r)) (symbol_lifted v b.slot name a) ∙ ap Done (quietly_lifted v b (with_symbol_kept v.raw b.slot name a))
line_calm v b (events.Go a) sound h hush whole =
    ap (λ r. Done (disturbs b.slot b r)) (registers_lifted v b.slot (after_go a) h)
    ∙ ap Done (disturbs_lifted v b.slot b (on_registers v.raw b.slot (after_go a)))
line_calm v b (events.Int s x y) sound h hush whole =
    ap (λ r. Done (disturbs s b r)) (registers_lifted v s (after_int x y) h) ∙ ap Done (disturbs_lifted v s b (on_registers v.raw s (after_int x y)))
line_calm v b (events.Stop s) sound h hush whole =
    ap (λ r. Done (disturbs s b r)) (registers_lifted v s after_stop h) ∙ ap Done (disturbs_lifted v s b (on_registers v.raw s after_stop))
line_calm v b (events.Cont s) sound h hush whole =
    ap (λ r. Done (disturbs s b r)) (registers_lifted v s after_cont h) ∙ ap Done (disturbs_lifted v s b (on_registers v.raw s after_cont))
line_calm v b (events.Deposit s a w) sound h hush whole =
    ap (λ r. Done (disturbs s b r)) (deposited_lifted v s a w h) ∙ ap Done (disturbs_lifted v s b (after_deposit v.raw s a w))
line_calm v b (events.Exam s a n) sound h hush whole =
    ap (λ r. Done (by_exam (plain v) b s (in_a_line s a) r)) (examined_plain v s a n h) ∙ ap Done (exam_lifted v b s (in_a_line s a) (examined v.raw s a n))
line_calm v b (events.List s a n) sound h hush whole =
    ap (λ r. Done (by_exam (plain v) b s (listed s a) r)) (examined_plain v s a n h) ∙ ap Done (exam_lifted v b s (listed s a) (examined v.raw s a n))
line_calm v b (events.State s) sound h hush whole =
    ap (λ r. Done (by_state (plain v) b s r)) (state_plain v s h) ∙ ap Done (show_lifted v b s (state_shown v.raw s))
line_calm v b (events.Clock n) sound h hush whole =
    ap Done (clock_lifted v b n (nat_lt (v.raw.clock + n) clock_end) hush)
line_calm v b (events.Peek s) sound h hush whole = peek_lifted v s (v.frames s) (v.raw.jobs s)
line_calm v b (events.File d x y) sound h hush whole =
    let n = names_of d x y in
    ap (λ r. Done (quietly (record b { file = n }) r)) (made_lifted v n (whole refl))
    ∙ ap Done (quietly_lifted v (record b { file = n }) (with_file_made v.raw n))
line_calm v b (events.Append words) sound h hush whole =
    ap (λ r. Done (quietly b r)) (words_added_lifted v b.file words.items (whole refl))
    ∙ ap Done (quietly_lifted v b (with_words_added v.raw b.file words.items))
line_calm v b (events.Dir d) sound h hush whole = ap (λ fs. Done (Does (plain v) (listing d (files_in d fs)) nobody b)) (unmarked_files v (whole refl))
line_calm v b (events.Show d x y) sound h hush whole =
    ap (λ r. Done (shows (plain v) b r)) (shown_plain v d x y (whole refl)) ∙ ap Done (shows_lifted v b (file_shown v.raw d x y))
line_calm v b (events.Restore line) sound h hush whole = ap Done (restored_calm v b line sound h hush whole)
line_calm v b _ sound h hush whole = refl

-- the jobs that a line disturbs are unwound, and the state is sound and the same plain machine
at_plain : (w : State) (o : Option ℕ) → Sound w → plain (unwound_at o w) ≡ plain w
at_plain w (Some s) sound = unwound_plain w s sound
at_plain w None sound = refl

at_sound : (w : State) (o : Option ℕ) → Sound w → Sound (unwound_at o w)
at_sound w (Some s) sound = unwound_sound w s sound
at_sound w None sound = sound

at_none : (w : State) (o : Option ℕ) → Sound w → IfSome o (λ s. (unwound_at o w).frames s ≡ None)
at_none w (Some s) sound = unwound_none w s sound
at_none w None sound = tt

at_unmarked : (w : State) (o : Option ℕ) → w.mark ≡ None → (unwound_at o w).mark ≡ None
at_unmarked w (Some s) e = unwound_unmarked w s e
at_unmarked w None e = e

for_plain : (w : State) (b : Block) (e : Event) → Sound w → plain (unwound_for w b e) ≡ plain w
for_plain w b (events.Clock n) sound = all_unwound_plain (due_slots (w.raw.clock + n) w.raw.jobs) w sound
for_plain w b (events.Restore (states.Clock n)) sound = all_unwound_plain (due_slots (w.raw.clock + n) w.raw.jobs) w sound
for_plain w b e sound = at_plain w (called_on b e) sound

for_sound : (w : State) (b : Block) (e : Event) → Sound w → Sound (unwound_for w b e)
for_sound w b (events.Clock n) sound = all_unwound_sound (due_slots (w.raw.clock + n) w.raw.jobs) w sound
for_sound w b (events.Restore (states.Clock n)) sound = all_unwound_sound (due_slots (w.raw.clock + n) w.raw.jobs) w sound
for_sound w b e sound = at_sound w (called_on b e) sound

for_none : (w : State) (b : Block) (e : Event) → Sound w → IfSome (called_on b e) (λ s. (unwound_for w b e).frames s ≡ None)
for_none w b (events.Clock n) sound = tt
for_none w b (events.Restore (states.Clock n)) sound = tt
for_none w b e sound = at_none w (called_on b e) sound

for_unmarked : (w : State) (b : Block) (e : Event) → w.mark ≡ None → (unwound_for w b e).mark ≡ None
for_unmarked w b (events.Clock n) h = all_unwound_unmarked (due_slots (w.raw.clock + n) w.raw.jobs) w h
for_unmarked w b (events.Restore (states.Clock n)) h = all_unwound_unmarked (due_slots (w.raw.clock + n) w.raw.jobs) w h
for_unmarked w b e h = at_unmarked w (called_on b e) h

-- what a line looks at is whole, what it disturbs is in user mode, and the state is sound and the
-- same plain machine
pub calmed_plain : (w : State) (b : Block) (e : Event) → Sound w → plain (after_calm w b e) ≡ plain w
unfolding after_calm
calmed_plain w b e sound =
    for_plain (after_help_if (looks_at_files e) w) b e (helped_if_sound (looks_at_files e) w sound) ∙ helped_if_plain (looks_at_files e) w

pub calmed_sound : (w : State) (b : Block) (e : Event) → Sound w → Sound (after_calm w b e)
unfolding after_calm
calmed_sound w b e sound = for_sound (after_help_if (looks_at_files e) w) b e (helped_if_sound (looks_at_files e) w sound)

pub calmed_none : (w : State) (b : Block) (e : Event) → Sound w → IfSome (called_on b e) (λ s. (after_calm w b e).frames s ≡ None)
unfolding after_calm
calmed_none w b e sound = for_none (after_help_if (looks_at_files e) w) b e (helped_if_sound (looks_at_files e) w sound)

-- CLOCK finds the jobs whose alarm is due in user mode
clock_hushed : (w : State) (n : ℕ) → Sound w
    → let v = all_unwound (due_slots (w.raw.clock + n) w.raw.jobs) w in
    Hushed (v.raw.clock + n) v
clock_hushed w n sound =
    let ks = due_slots (w.raw.clock + n) w.raw.jobs in
    subst (λ (c : ℕ). Hushed (c + n) (all_unwound ks w)) (sym (clock_same w (all_unwound ks w) (all_unwound_plain ks w sound)))
    (unwound_hushed w (w.raw.clock + n) sound)

pub calmed_hushed : (w : State) (b : Block) (e : Event) → Sound w → HushedFor (after_calm w b e) e
unfolding after_calm
calmed_hushed w b (events.Clock n) sound = clock_hushed w n sound
calmed_hushed w b (events.Restore (states.Clock n)) sound = clock_hushed w n sound
calmed_hushed w b _ sound = tt

pub calmed_whole : (w : State) (b : Block) (e : Event) → looks_at_files e ≡ true → (after_calm w b e).mark ≡ None
unfolding after_calm
calmed_whole w b e h = for_unmarked (after_help_if (looks_at_files e) w) b e (helped_if_unmarked (looks_at_files e) w h)

-- every line of the stepped machine is that of the plain machine
pub line_plain : (w : State) (b : Block) (e : Event) → Sound w → lined (plain w) b e ≡ lifted_line (after_calm w b e) (lined (after_calm w b e).raw b e)
line_plain w b e sound =
    ap (λ m. lined m b e) (sym (calmed_plain w b e sound)) ∙ line_calm (after_calm w b e) b e (calmed_sound w b e sound)
    (calmed_none w b e sound) (calmed_hushed w b e sound) (calmed_whole w b e)
