-- A line is refused alike by the raw machine, by the one that it finds calmed, and by the plain
-- one: so its refusal is tested first (docs/STEPS.md, "Lines").
use Rattle.std.specs.Prelude.{◌≡◌, ℕ, zero, suc, ◌+◌, ◌%◌, ◌^◌, ◌&&◌, ◌||◌, not, Bool, true, false, Option, Some, None, List, [], ◌∷◌, Result, Ok, Err, option_map, is_some, is_none, nat_lt, refl}
use Rattle.std.proofs.Common.{sym, ◌∙◌, ap}
use Rattle.its_word.specs.Core.{Core, Page, page_of, word_at, can_store}
use Rattle.its_word.specs.Limits.{most_pages}
use Rattle.its_records.specs.Tree.{least_free}
use Rattle.its_records.specs.declared.jobs.Job.{Job}
use Rattle.its_records.specs.declared.session.Event.{Event}
use Rattle.its_records.specs.declared.session.Event.TheVariants as events
use Rattle.its_records.specs.declared.session.Reason.{Reason}
use Rattle.its_records.specs.declared.session.Reason.TheVariants.{Range, Exists}
use Rattle.its_records.specs.declared.show.JobShow.{JobShow}
use Rattle.its_records.specs.declared.state_line.StateLine.{StateLine}
use Rattle.its_records.specs.declared.state_line.StateLine.TheVariants as states
use Rattle.its_frame.specs.declared.frame.Frame.{Frame}
use Rattle.its_print.specs.Printing.{Line, listed}
use Rattle.its_plain.specs.Machine.{Names, Whole, Machine, mapped, joined, words_at, limit, with_new}
use Rattle.its_plain.specs.Operator.{Block, Refuses, Does, Ticks, Quits, disturbs, quietly}
use Rattle.its_plain.specs.Operator.State.{after_registers, provided, with_job_made, with_alarm_set, with_superior_set, with_tty, with_disk, with_draft, with_words_written, with_usr, with_link, with_words_sent, with_end_shut, with_bytes_waiting, with_holder_set, restored}
use Rattle.its_plain.specs.Operator.Jobs.{new_job, after_load_in, after_load, with_stored_in, with_stored, with_core, with_word_loaded_of, with_word_loaded, is_barred, any_barred, barred_in, words_barred, with_page_protected_in, with_page_protected, on_job, with_registers, on_registers, after_go, after_int, after_stop, after_cont, seen, examined, shown, state_shown, after_deposit_in, after_deposit}
use Rattle.its_plain.specs.Operator.Lines.{by_load, by_exam, in_a_line, by_state, by_clock, operate, shows, Lined, Done, Peeks, peeked_at, lined}
use Rattle.its_plain.specs.Operator.Symbols.{symbol_shown, with_symbol_kept}
use Rattle.its_plain.specs.Operator.Clock.{clock_end, after_clock_if, after_clock}
use Rattle.its_plain.specs.Machine.Own.{names_of}
use Rattle.its_plain.specs.Operator.Files.{with_file_made, with_word_added, with_words_added, file_shown}
use Rattle.its_stepped.specs.State.{State, plain}
use Rattle.its_stepped.specs.State as state
use Rattle.its_stepped.specs.Unwind.{unwound}
use Rattle.its_stepped.specs.Sound.{Sound}
use Rattle.its_stepped.specs.Tick.{after_help_if}
use Rattle.its_stepped.specs.Lines.{restores_files, looks_at_files, after_calm, lifted_line, refusal}
use Rattle.its_stepped.proofs.Frame.FrameLaws.{seen_can_store, seen_present, seen_page, mapped_plain}
use Rattle.its_stepped.proofs.Unwinding.UnwindLaws.{unwound_plain}
use Rattle.its_stepped.proofs.Committing.HelpLaws.{helped_if_plain, helped_if_unmarked}
use Rattle.its_stepped.proofs.Lining.LiftLaws.{lift}
use Rattle.its_stepped.proofs.Lining.RestoredLaws.{alarm_lifted, superior_lifted, tty_lifted, disk_lifted, draft_lifted, wrote_lifted, usr_lifted, link_lifted, sent_lifted, shut_lifted, bytes_lifted, holder_lifted}
use Rattle.its_stepped.proofs.Lining.LineLaws.{symbol_lifted, made_lifted, added_lifted, words_added_lifted, shown_plain, least_plain, line_plain}

-- why a result is none
abbrev pub error_of : {X : Type 0} → Result X Reason → Option Reason
error_of (Ok x) = None
error_of (Err r) = Some r

jobs_at : (w : State) (s : ℕ) → (plain w).jobs s ≡ option_map (state.seen (w.frames s)) (w.raw.jobs s)
unfolding plain
jobs_at w s = refl

-- a change of a job that is refused alike, with its frame and without
on_job_alike : {X : Type 0} (m n : Machine) (s : ℕ) (f g : Whole → Result X Reason) (fr : Option Frame) (o : Option Whole)
    → ((q : Whole) → error_of (f (state.seen fr q)) ≡ error_of (g q)) → error_of (on_job m s f (option_map (state.seen fr) o)) ≡ error_of (on_job n s g o)
on_job_alike m n s f g fr (Some q) h = h q
on_job_alike m n s f g fr None h = refl

pub registers_alike : (w : State) (s : ℕ) (f : Job → Job) → error_of (on_registers (plain w) s f) ≡ error_of (on_registers w.raw s f)
unfolding on_registers plain
registers_alike w s f = on_job_alike (plain w) w.raw s (with_registers (plain w) s f) (with_registers w.raw s f) (w.frames s) (w.raw.jobs s) (λ q. refl)

core_alike : (m n : Machine) (s : ℕ) (p q : Whole) (r t : Result Core Reason) → error_of r ≡ error_of t
    → error_of (with_core m s p r) ≡ error_of (with_core n s q t)
core_alike m n s p q (Ok c) (Ok d) e = refl
core_alike m n s p q (Ok c) (Err x) e = e
core_alike m n s p q (Err x) (Ok d) e = e
core_alike m n s p q (Err x) (Err y) e = e

deposit_alike : (c d : Core) (a w : ℕ) (can there : Bool) → error_of (after_deposit_in c a w can there) ≡ error_of (after_deposit_in d a w can there)
deposit_alike c d a w true there = refl
deposit_alike c d a w false true = refl
deposit_alike c d a w false false = refl

pub deposited_alike : (w : State) (s a x : ℕ) → error_of (after_deposit (plain w) s a x) ≡ error_of (after_deposit w.raw s a x)
unfolding after_deposit plain
deposited_alike w s a x =
    on_job_alike (plain w) w.raw s (λ q. with_core (plain w) s q (core q)) (λ q. with_core w.raw s q (core q)) (w.frames s) (w.raw.jobs s)
    (λ q. core_alike (plain w) w.raw s (state.seen (w.frames s) q) q (core (state.seen (w.frames s) q)) (core q) (same q))
  where
    core : Whole → Result Core Reason
    core q = after_deposit_in q.core a x (can_store q.core a) (is_some (word_at q.core a))

    same : (q : Whole) → error_of (core (state.seen (w.frames s) q)) ≡ error_of (core q)
    same q =
        ap (λ can. error_of (after_deposit_in (state.seen (w.frames s) q).core a x can
        (is_some (word_at (state.seen (w.frames s) q).core a)))) (seen_can_store (w.frames s) q a)
        ∙ ap (λ there. error_of (after_deposit_in (state.seen (w.frames s) q).core a x (can_store q.core a) there)) (seen_present (w.frames s) q a)
        ∙ deposit_alike (state.seen (w.frames s) q).core q.core a x (can_store q.core a) (is_some (word_at q.core a))

-- one word of a line of words
stored_alike : (c d : Core) (a w : ℕ) (can there room : Bool)
    → error_of (with_stored_in c a w can there room) ≡ error_of (with_stored_in d a w can there room)
stored_alike c d a w true there room = refl
stored_alike c d a w false true room = refl
stored_alike c d a w false false true = refl
stored_alike c d a w false false false = refl

word_of_alike : (w : State) (s a x : ℕ) (f : Option Frame) (o : Option Whole)
    → error_of (with_word_loaded_of (plain w) s a x (option_map (state.seen f) o)) ≡ error_of (with_word_loaded_of w.raw s a x o)
unfolding with_stored
word_of_alike w s a x f None = refl
word_of_alike w s a x f (Some q) =
    core_alike (plain w) w.raw s p q (loads p.core (can_store p.core a) (is_some (word_at p.core a)) (mapped (plain w)))
    (loads q.core (can_store q.core a) (is_some (word_at q.core a)) (mapped w.raw))
    (ap (λ can. error_of (loads p.core can (is_some (word_at p.core a)) (mapped (plain w)))) (seen_can_store f q a)
    ∙ ap (λ there. error_of (loads p.core (can_store q.core a) there (mapped (plain w)))) (seen_present f q a)
    ∙ ap (λ n. error_of (loads p.core (can_store q.core a) (is_some (word_at q.core a)) n)) (mapped_plain w)
    ∙ stored_alike p.core q.core a x (can_store q.core a) (is_some (word_at q.core a)) (nat_lt (mapped w.raw) most_pages))
  where
    p : Whole
    p = state.seen f q

    loads : Core → Bool → Bool → ℕ → Result Core Reason
    loads c can there n = with_stored_in c a x can there (nat_lt n most_pages)

pub word_alike : (w : State) (s a x : ℕ) → error_of (with_word_loaded (plain w) s a x) ≡ error_of (with_word_loaded w.raw s a x)
unfolding with_word_loaded
word_alike w s a x = ap (λ (o : Option Whole). error_of (with_word_loaded_of (plain w) s a x o)) (jobs_at w s)
    ∙ word_of_alike w s a x (w.frames s) (w.raw.jobs s)

-- the words of a line of words that are on a read-only page
barred_alike : (c d : Core) (a n : ℕ) → ((p : ℕ) → is_some (word_at c p) ≡ is_some (word_at d p)) → ((p : ℕ) → can_store c p ≡ can_store d p)
    → any_barred c a n ≡ any_barred d a n
unfolding any_barred
barred_alike c d a zero h g = refl
barred_alike c d a (suc n) h g =
    ap (λ b. (b && not (can_store c a)) || any_barred c (a + 1) n) (h a)
    ∙ ap (λ b. (is_some (word_at d a) && not b) || any_barred c (a + 1) n) (g a)
    ∙ ap (λ b. is_barred d a || b) (barred_alike c d (a + 1) n h g)

barred_seen : (f : Option Frame) (o : Option Whole) (a n : ℕ) → barred_in (option_map (state.seen f) o) a n ≡ barred_in o a n
barred_seen f None a n = refl
barred_seen f (Some q) a n = barred_alike (state.seen f q).core q.core a n (λ p. seen_present f q p) (λ p. seen_can_store f q p)

pub barred_plain : (w : State) (s a n : ℕ) → words_barred (plain w) s a n ≡ words_barred w.raw s a n
barred_plain w s a n = ap (λ (o : Option Whole). barred_in o a n) (jobs_at w s) ∙ barred_seen (w.frames s) (w.raw.jobs s) a n

-- a page that becomes read only, and a symbol that is kept
page_alike_in : (m n : Machine) (s k : ℕ) (q p : Whole) (x y : Option Page) → is_some x ≡ is_some y
    → error_of (with_page_protected_in m s k q x) ≡ error_of (with_page_protected_in n s k p y)
page_alike_in m n s k q p (Some x) (Some y) e = refl
page_alike_in m n s k q p None None e = refl
page_alike_in m n s k q p (Some x) None e = cc
page_alike_in m n s k q p None (Some y) e = cc

pub page_alike : (w : State) (s k : ℕ) → error_of (with_page_protected (plain w) s k) ≡ error_of (with_page_protected w.raw s k)
unfolding with_page_protected plain
page_alike w s k =
    on_job_alike (plain w) w.raw s (λ q. with_page_protected_in (plain w) s k q (page_of q.core k))
    (λ q. with_page_protected_in w.raw s k q (page_of q.core k)) (w.frames s) (w.raw.jobs s)
    (λ q. page_alike_in (plain w) w.raw s k (state.seen (w.frames s) q) q (page_of (state.seen (w.frames s) q).core k) (page_of q.core k)
    (seen_page (w.frames s) q k))

-- the words that EXAM wants are present in both
joined_some : (x : Option ℕ) (y : Option (List ℕ)) → is_some (joined x y) ≡ (is_some x && is_some y)
joined_some (Some w) (Some ws) = refl
joined_some (Some w) None = refl
joined_some None y = refl

words_alike : (c d : Core) (a n : ℕ) → ((p : ℕ) → is_some (word_at c p) ≡ is_some (word_at d p)) → is_some (words_at c a n) ≡ is_some (words_at d a n)
unfolding words_at
words_alike c d a zero h = refl
words_alike c d a (suc n) h =
    joined_some (word_at c (a % 2 ^ 18)) (words_at c (a + 1) n) ∙ ap (λ b. b && is_some (words_at c (a + 1) n)) (h (a % 2 ^ 18))
    ∙ ap (λ b. is_some (word_at d (a % 2 ^ 18)) && b) (words_alike c d (a + 1) n h) ∙ sym (joined_some (word_at d (a % 2 ^ 18)) (words_at d (a + 1) n))

seen_alike : (x y : Option (List ℕ)) → is_some x ≡ is_some y → error_of (seen x) ≡ error_of (seen y)
seen_alike (Some v) (Some w) e = refl
seen_alike None None e = refl
seen_alike (Some v) None e = cc
seen_alike None (Some w) e = cc

pub examined_alike : (w : State) (s a n : ℕ) → error_of (examined (plain w) s a n) ≡ error_of (examined w.raw s a n)
unfolding examined plain
examined_alike w s a n =
    on_job_alike (plain w) w.raw s (λ q. seen (words_at q.core a n)) (λ q. seen (words_at q.core a n)) (w.frames s) (w.raw.jobs s)
    (λ q. seen_alike (words_at (state.seen (w.frames s) q).core a n) (words_at q.core a n)
    (words_alike (state.seen (w.frames s) q).core q.core a n (λ p. seen_present (w.frames s) q p)))

pub shown_alike : (w : State) (s : ℕ) → error_of (state_shown (plain w) s) ≡ error_of (state_shown w.raw s)
unfolding state_shown plain
shown_alike w s =
    on_job_alike (plain w) w.raw s (λ q. Ok (shown q.job q.superior (symbol_shown q.job.pc (w.raw.symbols s))))
    (λ q. Ok (shown q.job q.superior (symbol_shown q.job.pc (w.raw.symbols s)))) (w.frames s) (w.raw.jobs s) (λ q. refl)

-- the outcome of a result
disturbs_alike : (s : ℕ) (b : Block) (r x : Result Machine Reason) → error_of r ≡ error_of x
    → refusal (Done (disturbs s b r)) ≡ refusal (Done (disturbs s b x))
disturbs_alike s b (Ok m) (Ok n) e = refl
disturbs_alike s b (Ok m) (Err y) e = e
disturbs_alike s b (Err y) (Ok n) e = e
disturbs_alike s b (Err y) (Err z) e = e

exam_alike : (m n : Machine) (b : Block) (s : ℕ) (show : List ℕ → List Line) (r x : Result (List ℕ) Reason) → error_of r ≡ error_of x
    → refusal (Done (by_exam m b s show r)) ≡ refusal (Done (by_exam n b s show x))
exam_alike m n b s show (Ok v) (Ok w) e = refl
exam_alike m n b s show (Ok v) (Err y) e = e
exam_alike m n b s show (Err y) (Ok w) e = e
exam_alike m n b s show (Err y) (Err z) e = e

show_alike : (m n : Machine) (b : Block) (s : ℕ) (r x : Result JobShow Reason) → error_of r ≡ error_of x
    → refusal (Done (by_state m b s r)) ≡ refusal (Done (by_state n b s x))
show_alike m n b s (Ok v) (Ok w) e = refl
show_alike m n b s (Ok v) (Err y) e = e
show_alike m n b s (Err y) (Ok w) e = e
show_alike m n b s (Err y) (Err z) e = e

load_alike : (m n : Machine) (b : Block) (u j : ℕ) (console o : Option ℕ)
    → refusal (Done (by_load b (after_load_in m u j console o))) ≡ refusal (Done (by_load b (after_load_in n u j console o)))
load_alike m n b u j console (Some s) = refl
load_alike m n b u j console None = refl

clock_alike : (m n : Machine) (b : Block) (k : ℕ) (fits : Bool)
    → refusal (Done (by_clock m b k (after_clock_if m k fits))) ≡ refusal (Done (by_clock n b k (after_clock_if n k fits)))
clock_alike m n b k true = refl
clock_alike m n b k false = refl

quietly_alike : (b : Block) (r x : Result Machine Reason) → error_of r ≡ error_of x → refusal (Done (quietly b r)) ≡ refusal (Done (quietly b x))
quietly_alike b (Ok m) (Ok n) e = refl
quietly_alike b (Ok m) (Err y) e = e
quietly_alike b (Err y) (Ok n) e = e
quietly_alike b (Err y) (Err z) e = e

shows_alike : (m n : Machine) (b : Block) (r x : Result (List Line) Reason) → error_of r ≡ error_of x
    → refusal (Done (shows m b r)) ≡ refusal (Done (shows n b x))
shows_alike m n b (Ok v) (Ok w) e = refl
shows_alike m n b (Ok v) (Err y) e = e
shows_alike m n b (Err y) (Ok w) e = e
shows_alike m n b (Err y) (Err z) e = e

lift_alike : (v : State) (r : Result Machine Reason) → error_of (lift v r) ≡ error_of r
lift_alike v (Ok m) = refl
lift_alike v (Err r) = refl

pub symbol_alike : (w : State) (s name a : ℕ) → error_of (with_symbol_kept (plain w) s name a) ≡ error_of (with_symbol_kept w.raw s name a)
symbol_alike w s name a = ap error_of (symbol_lifted w s name a) ∙ lift_alike w (with_symbol_kept w.raw s name a)

-- lines on files, if no close is half made
pub made_alike : (v : State) (n : Names) → v.mark ≡ None → error_of (with_file_made (plain v) n) ≡ error_of (with_file_made v.raw n)
made_alike v n e = ap error_of (made_lifted v n e) ∙ lift_alike v (with_file_made v.raw n)

pub added_alike : (v : State) (n : Names) (w : ℕ) → v.mark ≡ None → error_of (with_word_added (plain v) n w) ≡ error_of (with_word_added v.raw n w)
added_alike v n w e = ap error_of (added_lifted v n w e) ∙ lift_alike v (with_word_added v.raw n w)

pub words_added_alike : (v : State) (n : Names) (ws : List ℕ) → v.mark ≡ None
    → error_of (with_words_added (plain v) n ws) ≡ error_of (with_words_added v.raw n ws)
words_added_alike v n ws e = ap error_of (words_added_lifted v n ws e) ∙ lift_alike v (with_words_added v.raw n ws)

peek_alike : (s : ℕ) (f : Option Frame) (o : Option Whole) → refusal (peeked_at s (option_map (state.seen f) o)) ≡ refusal (peeked_at s o)
peek_alike s f (Some q) = refl
peek_alike s f None = refl

-- every line but one of words of a core, which are refused one by one
abbrev pub IsSingle : Event → Type 0
IsSingle (events.Words a words) = ⊥
IsSingle (events.Restore (states.CoreWords a words)) = ⊥
IsSingle _ = Unit {0}

-- JOB, in a slot that may have a frame
job_alike : (w : State) (s u j : ℕ) (console : Option ℕ) → error_of (with_job_made (plain w) s u j console) ≡ error_of (with_job_made w.raw s u j console)
unfolding with_job_made plain
job_alike w s u j console = by (nat_lt s (limit w.raw)) (w.frames s) (w.raw.jobs s)
  where
    by : (b : Bool) (f : Option Frame) (o : Option Whole)
        → error_of (provided ((b, Range) ∷ (is_none (option_map (state.seen f) o), Exists) ∷ []) (with_new (plain w) s (new_job u j console)))
        ≡ error_of (provided ((b, Range) ∷ (is_none o, Exists) ∷ []) (with_new w.raw s (new_job u j console)))
    by false f o = refl
    by true f (Some q) = refl
    by true f None = refl

-- a result that is the same on both machines
same_alike : (v : State) (r x : Result Machine Reason) → r ≡ lift v x → error_of r ≡ error_of x
same_alike v r x is = ap error_of is ∙ lift_alike v x

restored_alike : (w : State) (b : Block) (line : StateLine) → IsSingle (events.Restore line) → (restores_files line ≡ true → w.mark ≡ None)
    → refusal (Done (restored (plain w) b line)) ≡ refusal (Done (restored w.raw b line))
unfolding restored after_clock plain
restored_alike w b (states.System v) h whole = refl
restored_alike w b (states.Clock n) h whole = clock_alike (plain w) w.raw b n (nat_lt (w.raw.clock + n) clock_end)
restored_alike w b (states.File d x y) h whole =
    let n = names_of d x y in quietly_alike (record b { file = n }) (with_file_made (plain w) n) (with_file_made w.raw n) (made_alike w n (whole refl))
restored_alike w b (states.FileWords words) h whole =
    quietly_alike b (with_words_added (plain w) b.file words.items) (with_words_added w.raw b.file words.items)
    (words_added_alike w b.file words.items (whole refl))
restored_alike w b (states.Job s u j console) h whole =
    disturbs_alike s (record b { slot = s }) (with_job_made (plain w) s u j console) (with_job_made w.raw s u j console) (job_alike w s u j console)
restored_alike w b (states.CoreWords a words) h whole = absurd h
restored_alike w b (states.ReadOnly page) h whole =
    disturbs_alike b.slot b (with_page_protected (plain w) b.slot page) (with_page_protected w.raw b.slot page) (page_alike w b.slot page)
restored_alike w b (states.Symbol name a) h whole =
    quietly_alike b (with_symbol_kept (plain w) b.slot name a) (with_symbol_kept w.raw b.slot name a) (symbol_alike w b.slot name a)
restored_alike w b (states.Regs r) h whole = disturbs_alike b.slot b (on_registers (plain w) b.slot (after_registers r))
    (on_registers w.raw b.slot (after_registers r)) (registers_alike w b.slot (after_registers r))
restored_alike w b (states.Alarm s period next) h whole =
    disturbs_alike s b (with_alarm_set (plain w) s period next) (with_alarm_set w.raw s period next) (same_alike w _ _ (alarm_lifted w s period next))
restored_alike w b (states.Under s t) h whole =
    disturbs_alike s b (with_superior_set (plain w) s t) (with_superior_set w.raw s t) (same_alike w _ _ (superior_lifted w s t))
restored_alike w b (states.Tty s i write) h whole =
    disturbs_alike s b (with_tty (plain w) s i write) (with_tty w.raw s i write) (same_alike w _ _ (tty_lifted w s i write))
restored_alike w b (states.Disk s i d x y at) h whole =
    let n = names_of d x y in
    disturbs_alike s b (with_disk (plain w) s i n at) (with_disk w.raw s i n at) (same_alike w _ _ (disk_lifted w s i n at (whole refl)))
restored_alike w b (states.Draft s i d x y) h whole =
    let n = names_of d x y in disturbs_alike s b (with_draft (plain w) s i n) (with_draft w.raw s i n) (same_alike w _ _ (draft_lifted w s i n))
restored_alike w b (states.Wrote s i words) h whole =
    disturbs_alike s b (with_words_written (plain w) s i words.items) (with_words_written w.raw s i words.items)
    (same_alike w _ _ (wrote_lifted w s i words.items (whole refl)))
restored_alike w b (states.Usr s i t write at) h whole =
    disturbs_alike s b (with_usr (plain w) s i t write at) (with_usr w.raw s i t write at) (same_alike w _ _ (usr_lifted w s i t write at))
restored_alike w b (states.Join s i l write x y) h whole =
    disturbs_alike s b (with_link (plain w) s i l write x y) (with_link w.raw s i l write x y) (same_alike w _ _ (link_lifted w s i l write x y))
restored_alike w b (states.Sent l words) h whole =
    quietly_alike b (with_words_sent (plain w) l words.items) (with_words_sent w.raw l words.items) (same_alike w _ _ (sent_lifted w l words.items))
restored_alike w b (states.EndShut l write) h whole =
    quietly_alike b (with_end_shut (plain w) l write) (with_end_shut w.raw l write) (same_alike w _ _ (shut_lifted w l write))
restored_alike w b (states.Input c bytes) h whole =
    quietly_alike b (with_bytes_waiting (plain w) c false bytes.items) (with_bytes_waiting w.raw c false bytes.items)
    (same_alike w _ _ (bytes_lifted w c false bytes.items))
restored_alike w b (states.Output c bytes) h whole =
    quietly_alike b (with_bytes_waiting (plain w) c true bytes.items) (with_bytes_waiting w.raw c true bytes.items)
    (same_alike w _ _ (bytes_lifted w c true bytes.items))
restored_alike w b (states.Hold c s) h whole =
    quietly_alike b (with_holder_set (plain w) c s) (with_holder_set w.raw c s) (same_alike w _ _ (holder_lifted w c s))
restored_alike w b (states.Turn s) h whole = refl
restored_alike w b states.Ready h whole = refl

pub line_alike : (w : State) (b : Block) (e : Event) → IsSingle e → (looks_at_files e ≡ true → w.mark ≡ None)
    → refusal (lined (plain w) b e) ≡ refusal (lined w.raw b e)
unfolding lined operate plain after_load after_clock
line_alike w b (events.Load u j console) h whole =
    ap (λ o. refusal (Done (by_load b (after_load_in (plain w) u j console o)))) (least_plain w)
    ∙ load_alike (plain w) w.raw b u j console (least_free (limit w.raw) w.raw.jobs)
line_alike w b (events.Words a words) h whole = absurd h
line_alike w b (events.ReadOnly page) h whole =
    disturbs_alike b.slot b (with_page_protected (plain w) b.slot page) (with_page_protected w.raw b.slot page) (page_alike w b.slot page)
line_alike w b (events.Symbol name a) h whole =
    quietly_alike b (with_symbol_kept (plain w) b.slot name a) (with_symbol_kept w.raw b.slot name a) (symbol_alike w b.slot name a)
line_alike w b (events.Go a) h whole = disturbs_alike b.slot b (on_registers (plain w) b.slot (after_go a))
    (on_registers w.raw b.slot (after_go a)) (registers_alike w b.slot (after_go a))
line_alike w b (events.Int s x y) h whole = disturbs_alike s b (on_registers (plain w) s (after_int x y))
    (on_registers w.raw s (after_int x y)) (registers_alike w s (after_int x y))
line_alike w b (events.Stop s) h whole = disturbs_alike s b (on_registers (plain w) s after_stop) (on_registers w.raw s after_stop)
    (registers_alike w s after_stop)
line_alike w b (events.Cont s) h whole = disturbs_alike s b (on_registers (plain w) s after_cont) (on_registers w.raw s after_cont)
    (registers_alike w s after_cont)
line_alike w b (events.Deposit s a x) h whole = disturbs_alike s b (after_deposit (plain w) s a x) (after_deposit w.raw s a x) (deposited_alike w s a x)
line_alike w b (events.Exam s a n) h whole = exam_alike (plain w) w.raw b s (in_a_line s a) (examined (plain w) s a n)
    (examined w.raw s a n) (examined_alike w s a n)
line_alike w b (events.List s a n) h whole = exam_alike (plain w) w.raw b s (listed s a) (examined (plain w) s a n) (examined w.raw s a n)
    (examined_alike w s a n)
line_alike w b (events.State s) h whole = show_alike (plain w) w.raw b s (state_shown (plain w) s) (state_shown w.raw s) (shown_alike w s)
line_alike w b (events.Clock n) h whole =
    clock_alike (plain w) w.raw b n (nat_lt (w.raw.clock + n) clock_end)
line_alike w b (events.Peek s) h whole = peek_alike s (w.frames s) (w.raw.jobs s)
line_alike w b (events.File d x y) h whole =
    let n = names_of d x y in quietly_alike (record b { file = n }) (with_file_made (plain w) n) (with_file_made w.raw n) (made_alike w n (whole refl))
line_alike w b (events.Append words) h whole =
    quietly_alike b (with_words_added (plain w) b.file words.items) (with_words_added w.raw b.file words.items)
    (words_added_alike w b.file words.items (whole refl))
line_alike w b (events.Show d x y) h whole =
    shows_alike (plain w) w.raw b (file_shown (plain w) d x y) (file_shown w.raw d x y) (ap error_of (shown_plain w d x y (whole refl)))
line_alike w b (events.Restore line) h whole = restored_alike w b line h whole
line_alike w b _ h whole = refl

refusal_lifted : (v : State) (l : Lined) → refusal (lifted_line v l) ≡ refusal l
refusal_lifted v (Done (Refuses r)) = refl
refusal_lifted v (Done (Does m out touched b)) = refl
refusal_lifted v (Done (Ticks s k)) = refl
refusal_lifted v (Done Quits) = refl
refusal_lifted v (Peeks s) = refl

-- a line is refused before anything is unwound exactly if it is refused afterwards, and for the
-- same reason; one that looks at files, once the parts of a close are made
pub refused_calmed : (w : State) (b : Block) (e : Event) → Sound w → refusal (lined (plain w) b e) ≡ refusal (lined (after_calm w b e).raw b e)
refused_calmed w b e sound = ap refusal (line_plain w b e sound) ∙ refusal_lifted (after_calm w b e) (lined (after_calm w b e).raw b e)

pub refused_first : (w : State) (b : Block) (e : Event) → Sound w → IsSingle e
    → refusal (lined (after_help_if (looks_at_files e) w).raw b e) ≡ refusal (lined (after_calm w b e).raw b e)
refused_first w b e sound h =
    sym (line_alike (after_help_if (looks_at_files e) w) b e h (helped_if_unmarked (looks_at_files e) w))
    ∙ ap (λ m. refusal (lined m b e)) (helped_if_plain (looks_at_files e) w) ∙ refused_calmed w b e sound

-- whether a line of words is barred is the same before and after the unwinding
pub barred_first : (w : State) (s a n : ℕ) → Sound w → words_barred w.raw s a n ≡ words_barred (unwound w s).raw s a n
barred_first w s a n sound =
    sym (barred_plain w s a n) ∙ ap (λ m. words_barred m s a n) (sym (unwound_plain w s sound)) ∙ barred_plain (unwound w s) s a n

-- whether one word is refused is the same before and after the unwinding
pub word_refused_first : (w : State) (s a x : ℕ) → Sound w → error_of (with_word_loaded w.raw s a x) ≡ error_of (with_word_loaded (unwound w s).raw s a x)
word_refused_first w s a x sound =
    sym (word_alike w s a x) ∙ ap (λ m. error_of (with_word_loaded m s a x)) (sym (unwound_plain w s sound)) ∙ word_alike (unwound w s) s a x
