-- A line of a session keeps the stepped machine sound, and the frame of each slot that it does not
-- disturb (docs/STEPS.md, "Lines").
use Rattle.std.specs.Prelude.{◌≡◌, ◌≢◌, ℕ, ◌+◌, Bool, true, false, Option, Some, None, List, [], ◌∷◌, Result, Ok, Err, is_some, length, nat_lt, refl}
use Rattle.std.proofs.Common.{sym, ◌∙◌, ap, subst, inl, inr}
use Rattle.std.proofs.lemmas.Bool.{cases_Bool, cases_eq, eq-eqb}
use Rattle.its_word.specs.Core.{Core, Page, page_of, word_at, can_store}
use Rattle.its_word.specs.Limits.{most_symbols}
use Rattle.its_records.specs.Tree.{least_free, no_job}
use Rattle.its_records.specs.declared.jobs.Job.{Job}
use Rattle.its_records.specs.declared.session.Event.{Event}
use Rattle.its_records.specs.declared.session.Event.TheVariants as events
use Rattle.its_records.specs.declared.session.Reason.{Reason}
use Rattle.its_records.specs.declared.show.JobShow.{JobShow}
use Rattle.its_records.specs.declared.state_line.StateLine.{StateLine}
use Rattle.its_records.specs.declared.state_line.StateLine.TheVariants as states
use Rattle.its_frame.specs.declared.change.Change.TheVariants as changes
use Rattle.its_records.proofs.FreeLaws.{least_empty}
use Rattle.its_frame.specs.declared.frame.Frame.{Frame}
use Rattle.its_print.specs.Printing.{Line, listed}
use Rattle.its_plain.specs.Machine.{File, Symbol, Chan, Reads, On, Linked, Whole, Machine, with_job, mapped, limit, with_new}
use Rattle.its_plain.specs.Operator.{Block, Refuses, Does, Ticks, Quits, nobody, only, and_then, disturbs, quietly}
use Rattle.its_plain.specs.Operator.Jobs.{new_job, with_holder, after_load_in, after_load, with_stored, with_core, with_word_loaded_of, with_word_loaded, with_words_stored, words_barred, with_words_loaded_if, with_words_loaded, with_page_protected_in, with_page_protected, on_job, with_registers, on_registers, after_go, after_int, after_stop, after_cont, examined, state_shown, after_deposit_in, after_deposit}
use Rattle.its_plain.specs.Operator.Lines.{by_load, by_exam, in_a_line, by_state, by_clock, operate, shows, Lined, Done, Peeks, peeked_at, lined}
use Rattle.its_plain.specs.Machine.Change.{in_job, with_protection, with_alarm, effect, effects}
use Rattle.its_plain.specs.Operator.Symbols.{with_symbol_kept_if, with_symbol_kept_of, with_symbol_kept}
use Rattle.its_plain.specs.Operator.Version.{with_version}
use Rattle.its_plain.specs.Operator.Clock.{due, due_slots, after_alarm_if, at_clock, clock_end, after_clock_if, after_clock}
use Rattle.its_plain.specs.Operator.Consoles.{with_typed, after_drain}
use Rattle.its_plain.specs.Machine.Own.{names_of, with_word, on_channel}
use Rattle.its_plain.specs.Operator.Files.{with_files, with_file_made, with_words_added, file_shown}
use Rattle.its_plain.specs.Operator.State.{after_registers, with_job_made, with_alarm_set, under, with_superior_set, on_tty, with_tty, with_disk, with_draft, with_words_written, with_usr, with_link, with_words_sent, with_end_shut, with_bytes_waiting, with_holder_set, restored}
use Rattle.its_plain.proofs.CallLineLaws.{FilesAlone, made_files, added_files}
use Rattle.its_plain.proofs.RestoredLaws.{OkBy, MakesJob, job_made, SetsAlarm, alarm_set, SetsSuperior, superior_set, Opens, tty_opened, disk_opened, empty_draft, draft_opened, usr_opened, words_appended, WritesWords, words_written, Joins, link_joined, Sends, words_sent, ShutsEnd, end_shut, PutsBytes, bytes_put, SetsHolder, holder_set}
use Rattle.its_stepped.specs.State.{State, plain}
use Rattle.its_stepped.specs.Unwind.{unwound, all_unwound, help}
use Rattle.its_stepped.specs.Sound.{SoundBy, SoundSlot, Sound}
use Rattle.its_stepped.specs.Lines.{after_calm, with_raw}
use Rattle.its_stepped.proofs.Frame.FrameLaws.{changed_only, on_slot_other}
use Rattle.its_stepped.proofs.Committing.HelpLaws.{help_sound, help_others}
use Rattle.its_stepped.proofs.Lining.DueLaws.{due_same, clock_same, Hushed, undue_frame}
use Rattle.its_stepped.proofs.Unwinding.UnwindLaws.{unwound_sound, unwound_none, unwound_others, all_unwound_plain, all_unwound_sound}
use Rattle.its_stepped.proofs.Committing.CommitSound.{user_sound}
use Rattle.its_stepped.proofs.Lining.LiftLaws.{free_frame}
use Rattle.its_stepped.proofs.Lining.LineLaws.{calmed_hushed}

-- the jobs of all slots but one are the same
pub record Off (m n : Machine) (s : ℕ) : Type 0 where
  pub others : (k : ℕ) → k ≢ s → n.jobs k ≡ m.jobs k

-- a slot without a frame has no reserved page, and is sound whatever job it has
pub user_page : (o : Option Whole) (f : Option Frame) (r : Option ℕ) → f ≡ None → SoundBy o f r → r ≡ None
user_page None f r e h = h.1
user_page (Some q) None r e h = h
user_page (Some q) (Some f) r e h = absurd (let none = e in cc)

off_sound : (v : State) (m : Machine) (s : ℕ) → Sound v → v.frames s ≡ None → Off v.raw m s → Sound (with_raw v m)
off_sound v m s sound e off = record {
  each = λ k. elim (cases_eq k s) [
    | inl is ↦ rw is (user_sound (m.jobs s) (v.frames s) (v.reserved s) e (user_page (v.raw.jobs s) (v.frames s) (v.reserved s) e (sound.each s).by))
    | inr ne ↦ record { by = subst (λ (o : Option Whole). SoundBy o (v.frames k) (v.reserved k)) (sym (off.others k ne)) (sound.each k).by }
  ];
  mark = sound.mark;
}

-- a job put into a slot, and whatever makes a machine so
put_off : (m : Machine) (s : ℕ) (q : Whole) → Off m (with_job m s q) s
put_off m s q = record { others = (changed_only m.jobs s (Some q)).others }

abbrev OffBy : Machine → ℕ → Result Machine Reason → Type 0
OffBy m s (Ok n) = Off m n s
OffBy m s (Err r) = Unit {0}

core_off : (m : Machine) (s : ℕ) (q : Whole) (r : Result Core Reason) → OffBy m s (with_core m s q r)
core_off m s q (Ok c) = put_off m s (record q { core = c })
core_off m s q (Err r) = tt

registers_off : (m : Machine) (s : ℕ) (f : Job → Job) → OffBy m s (on_registers m s f)
unfolding on_registers
registers_off m s f = go (m.jobs s)
  where
    go : (o : Option Whole) → OffBy m s (on_job m s (with_registers m s f) o)
    go (Some q) = put_off m s (record q { job = f q.job })
    go None = tt

deposited_off : (m : Machine) (s a w : ℕ) → OffBy m s (after_deposit m s a w)
unfolding after_deposit
deposited_off m s a w = go (m.jobs s)
  where
    go : (o : Option Whole) → OffBy m s (on_job m s (λ q. with_core m s q (after_deposit_in q.core a w (can_store q.core a) (is_some (word_at q.core a)))) o)
    go (Some q) = core_off m s q (after_deposit_in q.core a w (can_store q.core a) (is_some (word_at q.core a)))
    go None = tt

word_off_of : (m : Machine) (s a w : ℕ) (o : Option Whole) → OffBy m s (with_word_loaded_of m s a w o)
word_off_of m s a w (Some q) = core_off m s q (with_stored (mapped m) q.core a w)
word_off_of m s a w None = tt

word_off : (m : Machine) (s a w : ℕ) → OffBy m s (with_word_loaded m s a w)
unfolding with_word_loaded
word_off m s a w = word_off_of m s a w (m.jobs s)

off_then : (m n : Machine) (s : ℕ) (r : Result Machine Reason) → Off m n s → OffBy n s r → OffBy m s r
off_then m n s (Ok l) a b = record { others = λ k ne. b.others k ne ∙ a.others k ne }
off_then m n s (Err r) a b = tt

words_stored_off : (m : Machine) (s a : ℕ) (ws : List ℕ) → OffBy m s (with_words_stored m s a ws)
words_stored_off m s a [] = record { others = λ k ne. refl }
words_stored_off m s a (w ∷ ws) = go (with_word_loaded m s a w) (word_off m s a w) (λ n. words_stored_off n s (a + 1) ws)
  where
    go : (r : Result Machine Reason) → OffBy m s r → ((n : Machine) → OffBy n s (with_words_stored n s (a + 1) ws))
        → OffBy m s (and_then r (λ n. with_words_stored n s (a + 1) ws))
    go (Ok n) off h = off_then m n s (with_words_stored n s (a + 1) ws) off (h n)
    go (Err r) off h = tt

words_off_if : (m : Machine) (s a : ℕ) (ws : List ℕ) (barred : Bool) → OffBy m s (with_words_loaded_if m s a ws barred)
words_off_if m s a ws true = tt
words_off_if m s a ws false = words_stored_off m s a ws

words_off : (m : Machine) (s a : ℕ) (ws : List ℕ) → OffBy m s (with_words_loaded m s a ws)
unfolding with_words_loaded
words_off m s a ws = words_off_if m s a ws (words_barred m s a (length ws))

page_off : (m : Machine) (s k : ℕ) → OffBy m s (with_page_protected m s k)
unfolding with_page_protected
page_off m s k = go (m.jobs s)
  where
    put : (q : Whole) (p : Option Page) → OffBy m s (with_page_protected_in m s k q p)
    put q (Some p) = put_off m s (with_protection k false q)
    put q None = tt

    go : (o : Option Whole) → OffBy m s (on_job m s (λ q. with_page_protected_in m s k q (page_of q.core k)) o)
    go (Some q) = put q (page_of q.core k)
    go None = tt

-- what a line leaves that leads to machine m in state v, and w is the state before it
pub record Kept (w v : State) (m : Machine) (touched : ℕ → Bool) : Type 0 where
  pub sound : Sound (with_raw v m)
  pub spares : (k : ℕ) → touched k ≡ false → v.frames k ≡ w.frames k

abbrev pub KeptBy : State → State → Lined → Type 0
KeptBy w v (Done (Does m out touched b)) = Kept w v m touched
KeptBy w v (Done (Refuses r)) = Unit {0}
KeptBy w v (Done (Ticks s k)) = Unit {0}
KeptBy w v (Done Quits) = Unit {0}
KeptBy w v (Peeks s) = Unit {0}

not_only : (s k : ℕ) → only s k ≡ false → k ≢ s
not_only s k h e = let t : only s k ≡ true = eq-eqb k s e in cc

-- a line that names a slot
one_kept : (w : State) (s : ℕ) (m : Machine) → Sound w → Off (unwound w s).raw m s → Kept w (unwound w s) m (only s)
one_kept w s m sound off = record {
  sound = off_sound (unwound w s) m s (unwound_sound w s sound) (unwound_none w s sound) off;
  spares = λ k h. (unwound_others w s k (not_only s k h)).frame;
}

disturbs_kept : (w : State) (s : ℕ) (b : Block) (r : Result Machine Reason) → Sound w → OffBy (unwound w s).raw s r
    → KeptBy w (unwound w s) (Done (disturbs s b r))
disturbs_kept w s b (Ok m) sound off = one_kept w s m sound off
disturbs_kept w s b (Err r) sound off = tt

same_off : (m : Machine) (s : ℕ) → Off m m s
same_off m s = record { others = λ k ne. refl }

exam_kept : (w : State) (s : ℕ) (show : List ℕ → List Line) (b : Block) (r : Result (List ℕ) Reason) → Sound w
    → KeptBy w (unwound w s) (Done (by_exam (unwound w s).raw b s show r))
exam_kept w s show b (Ok ws) sound = one_kept w s (unwound w s).raw sound (same_off (unwound w s).raw s)
exam_kept w s show b (Err r) sound = tt

show_kept : (w : State) (s : ℕ) (b : Block) (r : Result JobShow Reason) → Sound w → KeptBy w (unwound w s) (Done (by_state (unwound w s).raw b s r))
show_kept w s b (Ok show) sound = one_kept w s (unwound w s).raw sound (same_off (unwound w s).raw s)
show_kept w s b (Err r) sound = tt

-- a line that names none
held_off : (m : Machine) (s : ℕ) (q : Whole) (console : Option ℕ) → Off m (with_holder (with_new m s q) s console) s
held_off m s q (Some c) = record { others = (put_off m s q).others }
held_off m s q None = record { others = (put_off m s q).others }

load_kept : (w : State) (b : Block) (u j : ℕ) (console o : Option ℕ) → Sound w → least_free (limit w.raw) w.raw.jobs ≡ o
    → KeptBy w w (Done (by_load b (after_load_in w.raw u j console o)))
load_kept w b u j console (Some s) sound is = record {
  sound = off_sound w (with_holder (with_new w.raw s (new_job u j console)) s console) s sound
      (free_frame w s sound (least_empty (limit w.raw) w.raw.jobs s is))
      (held_off w.raw s (new_job u j console) console);
  spares = λ k h. refl;
}
load_kept w b u j console None sound is = tt

symbol_kept_by : (w : State) (b : Block) (s : ℕ) (x : Symbol) (room : Bool) → Sound w → KeptBy w w (Done (quietly b (with_symbol_kept_if w.raw s x room)))
symbol_kept_by w b s x true sound = record { sound = record { each = sound.each; mark = sound.mark }; spares = λ k h. refl }
symbol_kept_by w b s x false sound = tt

symbol_line_kept : (w : State) (b : Block) (s name a : ℕ) → Sound w → KeptBy w w (Done (quietly b (with_symbol_kept w.raw s name a)))
unfolding with_symbol_kept
symbol_line_kept w b s name a sound = go (w.raw.jobs s)
  where
    go : (o : Option Whole) → KeptBy w w (Done (quietly b (with_symbol_kept_of w.raw s (name, a) o)))
    go (Some q) = symbol_kept_by w b s (name, a) (nat_lt (length (w.raw.symbols s)) most_symbols) sound
    go None = tt

version_kept : (w : State) (v : ℕ) → Sound w → Kept w w (with_version w.raw v) nobody
unfolding with_version
version_kept w v sound = elim (cases_Bool (no_job w.raw.jobs)) [
  | inl is ↦ rw is (record { sound = record { each = sound.each; mark = sound.mark }; spares = λ k h. refl })
  | inr is ↦ rw is (record { sound = sound; spares = λ k h. refl })
]

-- CLOCK: the jobs whose alarm goes are in user mode, and no other job changes
rung_sound : (c : ℕ) (b : Bool) (o : Option Whole) (f : Option Frame) (r : Option ℕ) → (b ≡ true → f ≡ None) → SoundSlot o f r
    → SoundSlot (after_alarm_if c b o) f r
rung_sound c true o f r h s = user_sound (after_alarm_if c true o) f r (h refl) (user_page o f r (h refl) s.by)
rung_sound c false o f r h s = s

at_sound : (v : State) (c : ℕ) → Hushed c v → Sound v → Sound (with_raw v (at_clock c v.raw))
at_sound v c hushed sound = record {
  each = λ k. rung_sound c (due c v.raw.jobs k) (v.raw.jobs k) (v.frames k) (v.reserved k) (hushed.each k) (sound.each k);
  mark = sound.mark;
}

clock_kept : (w v : State) (b : Block) (n : ℕ) (fits : Bool) → Hushed (v.raw.clock + n) v → Sound v
    → ((k : ℕ) → due (v.raw.clock + n) v.raw.jobs k ≡ false → v.frames k ≡ w.frames k)
    → KeptBy w v (Done (by_clock v.raw b n (after_clock_if v.raw n fits)))
clock_kept w v b n true hushed sound spares = record { sound = at_sound v (v.raw.clock + n) hushed sound; spares = spares }
clock_kept w v b n false hushed sound spares = tt

due_unwound : (w : State) (n k : ℕ) → Sound w
    → let v = all_unwound (due_slots (w.raw.clock + n) w.raw.jobs) w in
    due (v.raw.clock + n) v.raw.jobs k ≡ false → v.frames k ≡ w.frames k
due_unwound w n k sound h =
    let c = w.raw.clock + n in
    let v = all_unwound (due_slots c w.raw.jobs) w in
    let same : plain v ≡ plain w = all_unwound_plain (due_slots c w.raw.jobs) w sound in
    undue_frame w c k
    (ap (λ (f : ℕ → Bool). f k) (sym (due_same w v c same)) ∙ ap (λ (t : ℕ). due (t + n) v.raw.jobs k) (sym (clock_same w v same)) ∙ h)

-- a line that looks at files, which makes the parts of a close and changes the directory alone
files_sound : (v : State) (fs : List File) → Sound v → Sound (with_raw v (with_files v.raw fs))
files_sound v fs sound = record { each = sound.each; mark = sound.mark }

helped_kept : (w : State) (m : Machine) → Sound w → m ≡ with_files (help w).raw m.files → Kept w (help w) m nobody
helped_kept w m sound is = record {
  sound = subst (λ n. Sound (with_raw (help w) n)) (sym is) (files_sound (help w) m.files (help_sound w sound));
  spares = λ k h. (help_others w k).frame;
}

file_kept : (w : State) (b : Block) (r : Result Machine Reason) → Sound w → FilesAlone (help w).raw r → KeptBy w (help w) (Done (quietly b r))
file_kept w b (Ok m) sound h = helped_kept w m sound h
file_kept w b (Err r) sound h = tt

shows_kept : (w : State) (b : Block) (r : Result (List Line) Reason) → Sound w → KeptBy w (help w) (Done (shows (help w).raw b r))
shows_kept w b (Ok out) sound = helped_kept w (help w).raw sound refl
shows_kept w b (Err r) sound = tt

typed_kept : (w : State) (c : ℕ) (bytes : List ℕ) → Sound w → Kept w w (with_typed c bytes w.raw) nobody
typed_kept w c bytes sound = record { sound = record { each = sound.each; mark = sound.mark }; spares = λ k h. refl }

drained_kept : (w : State) (c n : ℕ) → Sound w → Kept w w (after_drain c n w.raw) nobody
drained_kept w c n sound = record { sound = record { each = sound.each; mark = sound.mark }; spares = λ k h. refl }

peek_kept : (w : State) (s : ℕ) (o : Option Whole) → KeptBy w w (peeked_at s o)
peek_kept w s (Some q) = tt
peek_kept w s None = tt

-- a line of the state part
jobs_off : (m n : Machine) (s : ℕ) (f : Whole → Whole) → n ≡ in_job m s f → Off m n s
jobs_off m n s f is = record { others = λ k ne. ap (λ (x : Machine). x.jobs k) is ∙ on_slot_other m.jobs s k f ne }

opened_off : (m : Machine) (s i : ℕ) (x : Chan) (r : Result Machine Reason) → OkBy (Opens m s i x) r → OffBy m s r
opened_off m s i x (Ok n) f = jobs_off m n s (on_channel i (λ c. x)) f.is
opened_off m s i x (Err r) f = tt

alarm_off : (m : Machine) (s period next : ℕ) (r : Result Machine Reason) → OkBy (SetsAlarm m s period next) r → OffBy m s r
unfolding effect
alarm_off m s period next (Ok n) f = jobs_off m n s (with_alarm (Some (period, next))) f.is
alarm_off m s period next (Err r) f = tt

superior_off : (m : Machine) (s t : ℕ) (r : Result Machine Reason) → OkBy (SetsSuperior m s t) r → OffBy m s r
superior_off m s t (Ok n) f = jobs_off m n s (under t) f.is
superior_off m s t (Err r) f = tt

appended_off : (m : Machine) (s i : ℕ) (ws : List ℕ) → Off m (effects (words_appended i ws) s m) s
unfolding effect
appended_off m s i [] = same_off m s
appended_off m s i (w ∷ ws) =
    let first = jobs_off m (effect (changes.Append i w) s m) s (on_channel i (with_word w)) refl in
    let rest = appended_off (effect (changes.Append i w) s m) s i ws in
    record { others = λ k ne. rest.others k ne ∙ first.others k ne }

written_off : (m : Machine) (s i : ℕ) (ws : List ℕ) (r : Result Machine Reason) → OkBy (WritesWords m s i ws) r → OffBy m s r
written_off m s i ws (Ok n) f = subst (λ (x : Machine). Off m x s) (sym f.is) (appended_off m s i ws)
written_off m s i ws (Err r) f = tt

joined_off : (m : Machine) (s i l : ℕ) (write : Bool) (x y : ℕ) (r : Result Machine Reason) → OkBy (Joins m s i l write x y) r → OffBy m s r
unfolding effect
joined_off m s i l write x y (Ok n) f = record {
  others = λ k ne. ap (λ (z : Machine). z.jobs k) f.is ∙ on_slot_other m.jobs s k (on_channel i (λ c. Linked l write)) ne;
}
joined_off m s i l write x y (Err r) f = tt

-- one that is about a file or a draft: the parts of a close are made first
helped_one : (w : State) (s : ℕ) (b : Block) (r : Result Machine Reason) → Sound w → OffBy (unwound (help w) s).raw s r
    → KeptBy w (unwound (help w) s) (Done (disturbs s b r))
helped_one w s b (Ok m) sound off =
    let one = one_kept (help w) s m (help_sound w sound) off in
    record { sound = one.sound; spares = λ k h. one.spares k h ∙ (help_others w k).frame }
helped_one w s b (Err r) sound off = tt

-- one that changes no job
jobless_kept : (w : State) (m : Machine) → Sound w → m.jobs ≡ w.raw.jobs → Kept w w m nobody
jobless_kept w m sound same = record {
  sound = record {
    each = λ k. subst (λ (o : Option Whole). SoundSlot o (w.frames k) (w.reserved k)) (sym (ap (λ (f : ℕ → Option Whole). f k) same)) (sound.each k);
    mark = sound.mark;
  };
  spares = λ k h. refl;
}

quietly_kept : (w : State) (b : Block) (P : Machine → Type 0) (r : Result Machine Reason) → Sound w → ((n : Machine) → P n → n.jobs ≡ w.raw.jobs)
    → OkBy P r → KeptBy w w (Done (quietly b r))
quietly_kept w b P (Ok n) sound same f = jobless_kept w n sound (same n f)
quietly_kept w b P (Err r) sound same f = tt

holder_jobs : (m n : Machine) (c s : ℕ) → SetsHolder m c s n → n.jobs ≡ m.jobs
unfolding effect
holder_jobs m n c s f = ap (λ (x : Machine). x.jobs) f.is

job_kept : (w : State) (s u j : ℕ) (console : Option ℕ) (b : Block) (r : Result Machine Reason) → Sound w → OkBy (MakesJob w.raw s u j console) r
    → KeptBy w w (Done (disturbs s b r))
job_kept w s u j console b (Ok n) sound f = record {
  sound = off_sound w n s sound (free_frame w s sound f.free)
      (subst (λ (x : Machine). Off w.raw x s) (sym f.is) (record { others = (put_off w.raw s (new_job u j console)).others }));
  spares = λ k h. refl;
}
job_kept w s u j console b (Err r) sound f = tt

hushed_for : (w : State) (b : Block) (n : ℕ) → Sound w
    → let v = all_unwound (due_slots (w.raw.clock + n) w.raw.jobs) w in
    Hushed (v.raw.clock + n) v
unfolding after_calm
hushed_for w b n sound = calmed_hushed w b (events.Clock n) sound

-- CLOCK
clock_line_kept : (w : State) (b : Block) (n : ℕ) → Sound w
    → let v = all_unwound (due_slots (w.raw.clock + n) w.raw.jobs) w in
    KeptBy w v (Done (by_clock v.raw b n (after_clock_if v.raw n (nat_lt (v.raw.clock + n) clock_end))))
clock_line_kept w b n sound =
    let v = all_unwound (due_slots (w.raw.clock + n) w.raw.jobs) w in
    clock_kept w v b n (nat_lt (v.raw.clock + n) clock_end) (hushed_for w b n sound) (all_unwound_sound (due_slots (w.raw.clock + n) w.raw.jobs) w sound)
    (λ k h. due_unwound w n k sound h)

restored_kept : (w : State) (b : Block) (line : StateLine) → Sound w
    → KeptBy w (after_calm w b (events.Restore line)) (Done (restored (after_calm w b (events.Restore line)).raw b line))
unfolding restored after_calm after_clock
restored_kept w b (states.System v) sound = version_kept w v sound
restored_kept w b (states.Clock n) sound = clock_line_kept w b n sound
restored_kept w b (states.File d x y) sound =
    file_kept w (record b { file = names_of d x y }) (with_file_made (help w).raw (names_of d x y)) sound (made_files (help w).raw (names_of d x y))
restored_kept w b (states.FileWords words) sound = file_kept w b (with_words_added (help w).raw b.file words.items) sound
    (added_files (help w).raw b.file words.items)
restored_kept w b (states.Job s u j console) sound =
    job_kept w s u j console (record b { slot = s }) (with_job_made w.raw s u j console) sound (job_made w.raw s u j console)
restored_kept w b (states.CoreWords a words) sound =
    disturbs_kept w b.slot b (with_words_loaded (unwound w b.slot).raw b.slot a words.items) sound (words_off (unwound w b.slot).raw b.slot a words.items)
restored_kept w b (states.ReadOnly page) sound =
    disturbs_kept w b.slot b (with_page_protected (unwound w b.slot).raw b.slot page) sound (page_off (unwound w b.slot).raw b.slot page)
restored_kept w b (states.Symbol name a) sound = symbol_line_kept w b b.slot name a sound
restored_kept w b (states.Regs r) sound = disturbs_kept w b.slot b (on_registers (unwound w b.slot).raw b.slot (after_registers r)) sound
    (registers_off (unwound w b.slot).raw b.slot (after_registers r))
restored_kept w b (states.Alarm s period next) sound =
    let m = (unwound w s).raw in
    disturbs_kept w s b (with_alarm_set m s period next) sound (alarm_off m s period next (with_alarm_set m s period next) (alarm_set m s period next))
restored_kept w b (states.Under s t) sound =
    let m = (unwound w s).raw in
    disturbs_kept w s b (with_superior_set m s t) sound (superior_off m s t (with_superior_set m s t) (superior_set m s t))
restored_kept w b (states.Tty s i write) sound =
    let m = (unwound w s).raw in
    disturbs_kept w s b (with_tty m s i write) sound (opened_off m s i (on_tty write) (with_tty m s i write) (tty_opened m s i write))
restored_kept w b (states.Disk s i d x y at) sound =
    let m = (unwound (help w) s).raw in
    let r = with_disk m s i (names_of d x y) at in
    helped_one w s b r sound (opened_off m s i (Reads (names_of d x y) at) r (disk_opened m s i (names_of d x y) at))
restored_kept w b (states.Draft s i d x y) sound =
    let m = (unwound (help w) s).raw in
    let r = with_draft m s i (names_of d x y) in
    helped_one w s b r sound (opened_off m s i (empty_draft (names_of d x y)) r (draft_opened m s i (names_of d x y)))
restored_kept w b (states.Wrote s i words) sound =
    let m = (unwound (help w) s).raw in
    let r = with_words_written m s i words.items in
    helped_one w s b r sound (written_off m s i words.items r (words_written m s i words.items))
restored_kept w b (states.Usr s i t write at) sound =
    let m = (unwound w s).raw in
    let r = with_usr m s i t write at in
    disturbs_kept w s b r sound (opened_off m s i (On t write at) r (usr_opened m s i t write at))
restored_kept w b (states.Join s i l write x y) sound =
    let m = (unwound w s).raw in
    let r = with_link m s i l write x y in
    disturbs_kept w s b r sound (joined_off m s i l write x y r (link_joined m s i l write x y))
restored_kept w b (states.Sent l words) sound =
    quietly_kept w b (Sends w.raw l words.items) (with_words_sent w.raw l words.items) sound (λ n f. ap (λ (x : Machine). x.jobs) f.is)
    (words_sent w.raw l words.items)
restored_kept w b (states.EndShut l write) sound =
    quietly_kept w b (ShutsEnd w.raw l write) (with_end_shut w.raw l write) sound (λ n f. ap (λ (x : Machine). x.jobs) f.is) (end_shut w.raw l write)
restored_kept w b (states.Input c bytes) sound =
    quietly_kept w b (PutsBytes w.raw c false bytes.items) (with_bytes_waiting w.raw c false bytes.items) sound
    (λ n f. ap (λ (x : Machine). x.jobs) f.is) (bytes_put w.raw c false bytes.items)
restored_kept w b (states.Output c bytes) sound =
    quietly_kept w b (PutsBytes w.raw c true bytes.items) (with_bytes_waiting w.raw c true bytes.items) sound
    (λ n f. ap (λ (x : Machine). x.jobs) f.is) (bytes_put w.raw c true bytes.items)
restored_kept w b (states.Hold c s) sound =
    quietly_kept w b (SetsHolder w.raw c s) (with_holder_set w.raw c s) sound (λ n f. holder_jobs w.raw n c s f) (holder_set w.raw c s)
restored_kept w b (states.Turn s) sound = record { sound = sound; spares = λ k h. refl }
restored_kept w b states.Ready sound = record { sound = sound; spares = λ k h. refl }

pub line_kept : (w : State) (b : Block) (e : Event) → Sound w → KeptBy w (after_calm w b e) (lined (after_calm w b e).raw b e)
unfolding lined operate after_calm after_load after_clock
line_kept w b (events.Load u j console) sound = load_kept w b u j console (least_free (limit w.raw) w.raw.jobs) sound refl
line_kept w b (events.Words a words) sound =
    disturbs_kept w b.slot b (with_words_loaded (unwound w b.slot).raw b.slot a words.items) sound (words_off (unwound w b.slot).raw b.slot a words.items)
line_kept w b (events.Version v) sound = version_kept w v sound
line_kept w b (events.ReadOnly page) sound =
    disturbs_kept w b.slot b (with_page_protected (unwound w b.slot).raw b.slot page) sound (page_off (unwound w b.slot).raw b.slot page)
line_kept w b (events.Symbol name a) sound = symbol_line_kept w b b.slot name a sound
line_kept w b (events.Go a) sound =
    disturbs_kept w b.slot b (on_registers (unwound w b.slot).raw b.slot (after_go a)) sound (registers_off (unwound w b.slot).raw b.slot (after_go a))
line_kept w b (events.Int s x y) sound = disturbs_kept w s b (on_registers (unwound w s).raw s (after_int x y)) sound
    (registers_off (unwound w s).raw s (after_int x y))
line_kept w b (events.Stop s) sound = disturbs_kept w s b (on_registers (unwound w s).raw s after_stop) sound (registers_off (unwound w s).raw s after_stop)
line_kept w b (events.Cont s) sound = disturbs_kept w s b (on_registers (unwound w s).raw s after_cont) sound (registers_off (unwound w s).raw s after_cont)
line_kept w b (events.Deposit s a x) sound = disturbs_kept w s b (after_deposit (unwound w s).raw s a x) sound (deposited_off (unwound w s).raw s a x)
line_kept w b (events.Exam s a n) sound = exam_kept w s (in_a_line s a) b (examined (unwound w s).raw s a n) sound
line_kept w b (events.List s a n) sound = exam_kept w s (listed s a) b (examined (unwound w s).raw s a n) sound
line_kept w b (events.State s) sound = show_kept w s b (state_shown (unwound w s).raw s) sound
line_kept w b (events.Clock n) sound = clock_line_kept w b n sound
line_kept w b (events.Peek s) sound = peek_kept w s (w.raw.jobs s)
line_kept w b (events.Tick s n) sound = tt
line_kept w b events.End sound = tt
line_kept w b (events.File d x y) sound =
    file_kept w (record b { file = names_of d x y }) (with_file_made (help w).raw (names_of d x y)) sound (made_files (help w).raw (names_of d x y))
line_kept w b (events.Append words) sound = file_kept w b (with_words_added (help w).raw b.file words.items) sound
    (added_files (help w).raw b.file words.items)
line_kept w b (events.TypeIn c bytes) sound = typed_kept w c bytes.items sound
line_kept w b (events.Drain c n) sound = drained_kept w c n sound
line_kept w b (events.Dir d) sound = helped_kept w (help w).raw sound refl
line_kept w b (events.Show d x y) sound = shows_kept w b (file_shown (help w).raw d x y) sound
line_kept w b (events.Restore line) sound = restored_kept w b line sound
line_kept w b _ sound = record { sound = sound; spares = λ k h. refl }
