-- What a line of a session does to the consoles: TYPE adds what has room, DRAIN takes what it
-- shows, and any other line leaves them and shows no byte of them (docs/MACHINE.md, "The ledger").
use Rattle.std.specs.Prelude.{if◌then◌else◌, ◌≡◌, ◌≤◌, ℕ, zero, suc, ◌+◌, ◌-◌, ◌/◌, Bool, true, false, Option, Some, None, List, [], ◌∷◌, ◌++◌, Result, Ok, Err, length, map, take, drop, min, flat_map, is_some, nat_lt, refl}
use Rattle.std.proofs.Common.{sym, ◌∙◌, ap, subst, inl, inr, arith, append-nil, take-append-drop}
use Rattle.std.proofs.Math.Seq.{take-append-add}
use Rattle.std.proofs.lemmas.Bool.{cases_eq, eq-eqb, ne_eqb}
use Rattle.std.proofs.lemmas.List.{length-take}
use Rattle.its_word.specs.Console.{Console, most_waiting}
use Rattle.its_word.specs.Core.{Core, Page, word_at, can_store, page_of}
use Rattle.its_word.specs.Limits.{most_symbols}
use Rattle.its_records.specs.Tree.{least_free, no_job}
use Rattle.its_records.specs.declared.jobs.Job.{Job}
use Rattle.its_records.specs.declared.session.Event.{Event}
use Rattle.its_records.specs.declared.session.Event.TheVariants as events
use Rattle.its_records.specs.declared.session.Reason.{Reason}
use Rattle.its_records.specs.declared.show.JobShow.{JobShow}
use Rattle.its_print.specs.Printing.{Line}
use Rattle.its_print.specs.Printing as printed
use Rattle.its_plain.specs.Operator.Clock.{clock_end, after_clock_if, after_clock}
use Rattle.its_plain.specs.Operator.Consoles.{with_typed, dropped, after_drain}
use Rattle.its_plain.specs.Operator.Lines.{shows, operate, Lined, Done, Peeks, peeked_at, lined, by_load, by_exam, in_a_line, by_state, by_clock}
use Rattle.its_plain.specs.Call.File.{file_named}
use Rattle.its_plain.specs.Operator.Files.{with_file_made, with_words_added, files_in, filed_line, listing, rows, shown_lines, shown_by, file_shown}
use Rattle.its_plain.specs.Promise.Ledger.{typed_by, placed_by, drained_by}
use Rattle.its_plain.specs.Machine.{File, Whole, Machine, mapped, limit}
use Rattle.its_plain.specs.Operator.{Block, Refuses, Does, Ticks, Quits, and_then, disturbs, quietly}
use Rattle.its_plain.specs.Operator.Symbols.{with_symbol_kept_if, with_symbol_kept_of, with_symbol_kept}
use Rattle.its_plain.specs.Operator.Version.{with_version}
use Rattle.its_plain.specs.Operator.Jobs.{with_stored, with_core, with_word_loaded_of, with_word_loaded, with_words_stored, words_barred, with_words_loaded_if, with_words_loaded, with_page_protected_in, with_page_protected, on_job, with_registers, on_registers, after_go, after_int, after_stop, after_cont, after_deposit_in, after_deposit, after_load_in, after_load, examined, state_shown}
use Rattle.its_plain.specs.Machine.Own.{names_of}
use Rattle.its_plain.specs.Machine.{Chan, Reads, On}
use Rattle.its_plain.specs.Machine.Change.{on_console, effect, effects}
use Rattle.its_plain.specs.Operator.State.{restored, after_registers, with_job_made, with_alarm_set, with_superior_set, with_tty, on_tty, with_disk, with_draft, with_words_written, with_usr, with_link, with_words_sent, with_end_shut, with_bytes, bytes_of, with_bytes_waiting, with_holder_set}
use Rattle.its_frame.specs.declared.change.Change.TheVariants as changes
use Rattle.its_records.specs.declared.state_line.StateLine.{StateLine}
use Rattle.its_records.specs.declared.state_line.StateLine.TheVariants as states
use Rattle.its_plain.proofs.CallLineLaws.{FilesAlone, made_files, added_files}
use Rattle.its_plain.proofs.RestoredLaws.{OkBy, MakesJob, job_made, SetsAlarm, alarm_set, SetsSuperior, superior_set, Opens, tty_opened, disk_opened, empty_draft, draft_opened, usr_opened, words_appended, WritesWords, words_written, Joins, link_joined, Sends, words_sent, ShutsEnd, end_shut, PutsBytes, bytes_put, SetsHolder, holder_set}

-- at console c, this line led from machine m to n: what it typed or placed, and what it showed
pub record Shows (c : ℕ) (m n : Machine) (e : Event) (out : List Line) : Type 0 where
  pub input : (m.consoles c).input ++ typed_by c m e ≡ (n.consoles c).input
  pub output : (m.consoles c).output ++ placed_by c e ≡ flat_map (drained_by c) out ++ (n.consoles c).output
  pub few : length (n.consoles c).input ≤ most_waiting

abbrev pub ShowsBy : ℕ → Machine → Event → Lined → Type 0
ShowsBy c m e (Done (Does n out touched b)) = Shows c m n e out
ShowsBy c m e (Done (Refuses r)) = Unit {0}
ShowsBy c m e (Done (Ticks s k)) = Unit {0}
ShowsBy c m e (Done Quits) = Unit {0}
ShowsBy c m e (Peeks s) = Unit {0}

-- at most so many bytes wait as input of console c
abbrev pub Few : ℕ → Machine → Type 0
Few c m = length (m.consoles c).input ≤ most_waiting

-- a line that gives a console no byte
abbrev Still : ℕ → Machine → Event → Type 0
Still c m e = (typed_by c m e ≡ []) × (placed_by c e ≡ [])

-- a line that leaves the consoles, and shows no byte of them
shows_still : (c : ℕ) (m n : Machine) (e : Event) (out : List Line) → Few c m → n.consoles ≡ m.consoles → Still c m e
    → flat_map (drained_by c) out ≡ [] → Shows c m n e out
shows_still c m n e out few is none quiet = record {
  input = ap (λ l. (m.consoles c).input ++ l) none.0 ∙ append-nil (m.consoles c).input ∙ ap (λ (f : ℕ → Console). (f c).input) (sym is);
  output = ap (λ l. (m.consoles c).output ++ l) none.1 ∙ append-nil (m.consoles c).output ∙ ap (λ (f : ℕ → Console). (f c).output) (sym is)
      ∙ ap (λ l. l ++ (n.consoles c).output) (sym quiet);
  few = subst (λ (f : ℕ → Console). length (f c).input ≤ most_waiting) (sym is) few;
}

-- a result in which the consoles are as they were
abbrev SameBy : Machine → Result Machine Reason → Type 0
SameBy m (Ok n) = n.consoles ≡ m.consoles
SameBy m (Err r) = Unit {0}

core_same : (m : Machine) (s : ℕ) (q : Whole) (r : Result Core Reason) → SameBy m (with_core m s q r)
core_same m s q (Ok d) = refl
core_same m s q (Err r) = tt

registers_same : (m : Machine) (s : ℕ) (f : Job → Job) → SameBy m (on_registers m s f)
unfolding on_registers
registers_same m s f = go (m.jobs s)
  where
    go : (o : Option Whole) → SameBy m (on_job m s (with_registers m s f) o)
    go (Some q) = refl
    go None = tt

deposited_same : (m : Machine) (s a w : ℕ) → SameBy m (after_deposit m s a w)
unfolding after_deposit
deposited_same m s a w = go (m.jobs s)
  where
    go : (o : Option Whole) → SameBy m (on_job m s (λ q. with_core m s q (after_deposit_in q.core a w (can_store q.core a) (is_some (word_at q.core a)))) o)
    go (Some q) = core_same m s q (after_deposit_in q.core a w (can_store q.core a) (is_some (word_at q.core a)))
    go None = tt

word_same : (m : Machine) (s a w : ℕ) → SameBy m (with_word_loaded m s a w)
unfolding with_word_loaded
word_same m s a w = go (m.jobs s)
  where
    go : (o : Option Whole) → SameBy m (with_word_loaded_of m s a w o)
    go (Some q) = core_same m s q (with_stored (mapped m) q.core a w)
    go None = tt

same_further : (m n : Machine) (r : Result Machine Reason) → n.consoles ≡ m.consoles → SameBy n r → SameBy m r
same_further m n (Ok l) a b = b ∙ a
same_further m n (Err r) a b = tt

stored_same : (m : Machine) (s a : ℕ) (ws : List ℕ) → SameBy m (with_words_stored m s a ws)
stored_same m s a [] = refl
stored_same m s a (w ∷ ws) = go (with_word_loaded m s a w) (word_same m s a w) (λ n. stored_same n s (a + 1) ws)
  where
    go : (r : Result Machine Reason) → SameBy m r → ((n : Machine) → SameBy n (with_words_stored n s (a + 1) ws))
        → SameBy m (and_then r (λ n. with_words_stored n s (a + 1) ws))
    go (Ok n) first h = same_further m n (with_words_stored n s (a + 1) ws) first (h n)
    go (Err r) first h = tt

words_same : (m : Machine) (s a : ℕ) (ws : List ℕ) → SameBy m (with_words_loaded m s a ws)
unfolding with_words_loaded
words_same m s a ws = go (words_barred m s a (length ws))
  where
    go : (b : Bool) → SameBy m (with_words_loaded_if m s a ws b)
    go true = tt
    go false = stored_same m s a ws

page_same : (m : Machine) (s k : ℕ) → SameBy m (with_page_protected m s k)
unfolding with_page_protected
page_same m s k = go (m.jobs s)
  where
    there : (q : Whole) (o : Option Page) → SameBy m (with_page_protected_in m s k q o)
    there q (Some p) = refl
    there q None = tt

    go : (o : Option Whole) → SameBy m (on_job m s (λ q. with_page_protected_in m s k q (page_of q.core k)) o)
    go (Some q) = there q (page_of q.core k)
    go None = tt

symbol_same : (m : Machine) (s name a : ℕ) → SameBy m (with_symbol_kept m s name a)
unfolding with_symbol_kept
symbol_same m s name a = go (m.jobs s)
  where
    fits : (b : Bool) → SameBy m (with_symbol_kept_if m s (name, a) b)
    fits true = refl
    fits false = tt

    go : (o : Option Whole) → SameBy m (with_symbol_kept_of m s (name, a) o)
    go (Some q) = fits (nat_lt (length (m.symbols s)) most_symbols)
    go None = tt

version_same : (m : Machine) (v : ℕ) → (with_version m v).consoles ≡ m.consoles
unfolding with_version
version_same m v = go (no_job m.jobs)
  where
    go : (b : Bool) → (if b then record m { version = v } else m).consoles ≡ m.consoles
    go true = refl
    go false = refl

-- the outcome of a result
disturbs_shows : (c : ℕ) (m : Machine) (e : Event) (s : ℕ) (b : Block) (r : Result Machine Reason) → Few c m → Still c m e → SameBy m r
    → ShowsBy c m e (Done (disturbs s b r))
disturbs_shows c m e s b (Ok n) few none h = shows_still c m n e [] few h none refl
disturbs_shows c m e s b (Err r) few none h = tt

exam_shows : (c : ℕ) (m : Machine) (b : Block) (e : Event) (s : ℕ) (show : List ℕ → List Line) (r : Result (List ℕ) Reason) → Few c m → Still c m e
    → ((ws : List ℕ) → flat_map (drained_by c) (show ws) ≡ []) → ShowsBy c m e (Done (by_exam m b s show r))
exam_shows c m b e s show (Ok ws) few none quiet = shows_still c m m e (show ws) few refl none (quiet ws)
exam_shows c m b e s show (Err r) few none quiet = tt

listed_quiet : (c s a : ℕ) (ws : List ℕ) → flat_map (drained_by c) (printed.listed s a ws) ≡ []
listed_quiet c s a [] = refl
listed_quiet c s a (w ∷ ws) = listed_quiet c s (a + 1) ws

state_shows : (c : ℕ) (m : Machine) (b : Block) (s : ℕ) (r : Result JobShow Reason) → Few c m → ShowsBy c m (events.State s) (Done (by_state m b s r))
state_shows c m b s (Ok show) few = shows_still c m m (events.State s) (printed.State m.version s show ∷ []) few refl (refl, refl) refl
state_shows c m b s (Err r) few = tt

peek_shows : (c : ℕ) (m : Machine) (s : ℕ) (o : Option Whole) → ShowsBy c m (events.Peek s) (peeked_at s o)
peek_shows c m s (Some q) = tt
peek_shows c m s None = tt

load_shows : (c : ℕ) (m : Machine) (b : Block) (u j : ℕ) (console o : Option ℕ) → Few c m
    → ShowsBy c m (events.Load u j console) (Done (by_load b (after_load_in m u j console o)))
load_shows c m b u j (Some d) (Some s) few = shows_still c m _ (events.Load u j (Some d)) (printed.Loaded s ∷ []) few refl (refl, refl) refl
load_shows c m b u j None (Some s) few = shows_still c m _ (events.Load u j None) (printed.Loaded s ∷ []) few refl (refl, refl) refl
load_shows c m b u j console None few = tt

-- a line that disturbs nobody
quiet_shows : (c : ℕ) (m : Machine) (e : Event) (b : Block) (r : Result Machine Reason) → Few c m → Still c m e → SameBy m r
    → ShowsBy c m e (Done (quietly b r))
quiet_shows c m e b (Ok n) few none h = shows_still c m n e [] few h none refl
quiet_shows c m e b (Err r) few none h = tt

clock_shows : (c : ℕ) (m : Machine) (e : Event) (b : Block) (n : ℕ) (fits : Bool) → Few c m → Still c m e
    → ShowsBy c m e (Done (by_clock m b n (after_clock_if m n fits)))
clock_shows c m e b n true few none = shows_still c m _ e [] few refl none refl
clock_shows c m e b n false few none = tt

-- lines on files
files_same : (m : Machine) (r : Result Machine Reason) → FilesAlone m r → SameBy m r
files_same m (Ok n) h = ap (λ (x : Machine). x.consoles) h
files_same m (Err r) h = tt

filed_none : (c : ℕ) (fs : List File) → flat_map (drained_by c) (map filed_line fs) ≡ []
filed_none c [] = refl
filed_none c (f ∷ fs) = filed_none c fs

rows_none : (c n : ℕ) (ws : List ℕ) → flat_map (drained_by c) (rows n ws) ≡ []
rows_none c zero ws = refl
rows_none c (suc n) ws = rows_none c n (drop 8 ws)

file_shows : (c : ℕ) (m : Machine) (b : Block) (d x y : ℕ) (o : Option File) → Few c m → ShowsBy c m (events.Show d x y) (Done (shows m b (shown_by d x y o)))
file_shows c m b d x y (Some f) few =
    shows_still c m m (events.Show d x y) (shown_lines d x y f.words) few refl (refl, refl) (rows_none c ((length f.words + 7) / 8) f.words)
file_shows c m b d x y None few = tt

-- TYPE: what has room
fills : (n : ℕ) (xs ys : List ℕ) → length xs ≤ n → xs ++ take (n - length xs) ys ≡ take n (xs ++ ys)
fills n xs ys h =
    let all : length xs + (n - length xs) ≡ n = omega arith in
    sym (take-append-add xs ys (n - length xs)) ∙ ap (λ k. take k (xs ++ ys)) all

most_taken : (n : ℕ) (xs : List ℕ) → length (take n xs) ≤ n
most_taken n xs = let is : length (take n xs) ≡ min n (length xs) = length-take n xs in omega arith

typed_here : (c : ℕ) (m : Machine) (bytes : List ℕ) → Few c m
    → Shows c m (with_typed c bytes m) (events.TypeIn c (record { items = bytes })) (printed.Typed c (dropped (m.consoles c) bytes) ∷ [])
typed_here c m bytes few = record {
  input = rw (eq-eqb c c refl) (fills most_waiting (m.consoles c).input bytes few);
  output = rw (eq-eqb c c refl) (append-nil (m.consoles c).output);
  few = rw (eq-eqb c c refl) (most_taken most_waiting ((m.consoles c).input ++ bytes));
}

typed_shows : (c d : ℕ) (m : Machine) (bytes : List ℕ) → Few c m
    → Shows c m (with_typed d bytes m) (events.TypeIn d (record { items = bytes })) (printed.Typed d (dropped (m.consoles d) bytes) ∷ [])
typed_shows c d m bytes few = elim (cases_eq d c) [
  | inl at ↦ rw at (typed_here c m bytes few)
  | inr ne ↦ record {
    input = rw (ne_eqb d c ne, ne_eqb c d (λ e. ne (sym e))) (append-nil (m.consoles c).input);
    output = rw (ne_eqb c d (λ e. ne (sym e))) (append-nil (m.consoles c).output);
    few = rw (ne_eqb c d (λ e. ne (sym e))) few;
  }
]

drained_here : (c : ℕ) (m : Machine) (n : ℕ) → Few c m
    → Shows c m (after_drain c n m) (events.Drain c n) (printed.Drained c (take n (m.consoles c).output) ∷ [])
drained_here c m n few = record {
  input = rw (eq-eqb c c refl) (append-nil (m.consoles c).input);
  output = append-nil (m.consoles c).output
      ∙ rw (eq-eqb c c refl) (sym (ap (λ l. l ++ drop n (m.consoles c).output) (append-nil (take n (m.consoles c).output))
      ∙ take-append-drop n (m.consoles c).output));
  few = rw (eq-eqb c c refl) few;
}

drained_shows : (c d : ℕ) (m : Machine) (n : ℕ) → Few c m
    → Shows c m (after_drain d n m) (events.Drain d n) (printed.Drained d (take n (m.consoles d).output) ∷ [])
drained_shows c d m n few = elim (cases_eq d c) [
  | inl at ↦ rw at (drained_here c m n few)
  | inr ne ↦ record {
    input = rw (ne_eqb c d (λ e. ne (sym e))) (append-nil (m.consoles c).input);
    output = append-nil (m.consoles c).output ∙ rw (ne_eqb d c ne, ne_eqb c d (λ e. ne (sym e))) refl;
    few = rw (ne_eqb c d (λ e. ne (sym e))) few;
  }
]

-- IN and OUT: the bytes, which have room
abbrev waiting : Bool → ℕ → List ℕ → Event
waiting false d bs = events.Restore (states.Input d (record { items = bs }))
waiting true d bs = events.Restore (states.Output d (record { items = bs }))

input_put : (c : ℕ) (m : Machine) (bs : List ℕ) → length ((m.consoles c).input ++ bs) ≤ most_waiting
    → Shows c m (on_console m c (with_bytes false bs)) (waiting false c bs) []
input_put c m bs room = record {
  input = rw (eq-eqb c c refl) refl;
  output = rw (eq-eqb c c refl) (append-nil (m.consoles c).output);
  few = rw (eq-eqb c c refl) room;
}

output_put : (c : ℕ) (m : Machine) (bs : List ℕ) → Few c m → Shows c m (on_console m c (with_bytes true bs)) (waiting true c bs) []
output_put c m bs few = record {
  input = rw (eq-eqb c c refl) (append-nil (m.consoles c).input);
  output = rw (eq-eqb c c refl) refl;
  few = rw (eq-eqb c c refl) few;
}

put_here : (c : ℕ) (m : Machine) (out : Bool) (bs : List ℕ) → Few c m → length (bytes_of out (m.consoles c) ++ bs) ≤ most_waiting
    → Shows c m (on_console m c (with_bytes out bs)) (waiting out c bs) []
put_here c m false bs few room = input_put c m bs room
put_here c m true bs few room = output_put c m bs few

put_there : (c d : ℕ) (m : Machine) (out : Bool) (bs : List ℕ) → Few c m → (d ≡ c → ⊥) → Shows c m (on_console m d (with_bytes out bs)) (waiting out d bs) []
put_there c d m false bs few ne = record {
  input = rw (ne_eqb d c ne, ne_eqb c d (λ e. ne (sym e))) (append-nil (m.consoles c).input);
  output = rw (ne_eqb c d (λ e. ne (sym e))) (append-nil (m.consoles c).output);
  few = rw (ne_eqb c d (λ e. ne (sym e))) few;
}
put_there c d m true bs few ne = record {
  input = rw (ne_eqb c d (λ e. ne (sym e))) (append-nil (m.consoles c).input);
  output = rw (ne_eqb d c ne, ne_eqb c d (λ e. ne (sym e))) (append-nil (m.consoles c).output);
  few = rw (ne_eqb c d (λ e. ne (sym e))) few;
}

put_shows : (c d : ℕ) (m n : Machine) (out : Bool) (bs : List ℕ) → Few c m → PutsBytes m d out bs n → Shows c m n (waiting out d bs) []
put_shows c d m n out bs few h = subst (λ k. Shows c m k (waiting out d bs) []) (sym h.is)
    (elim (cases_eq d c) [
      | inl at ↦ rw at (put_here c m out bs few (subst (λ k. length (bytes_of out (m.consoles k) ++ bs) ≤ most_waiting) at h.room))
      | inr ne ↦ put_there c d m out bs few ne
    ])

bytes_show : (c d : ℕ) (m : Machine) (b : Block) (out : Bool) (bs : List ℕ) (r : Result Machine Reason) → Few c m → OkBy (PutsBytes m d out bs) r
    → ShowsBy c m (waiting out d bs) (Done (quietly b r))
bytes_show c d m b out bs (Ok n) few h = put_shows c d m n out bs few h
bytes_show c d m b out bs (Err r) few h = tt

-- the other lines of the state part leave the consoles
ok_same : (m : Machine) (P : Machine → Type 0) (r : Result Machine Reason) → OkBy P r → ((n : Machine) → P n → n.consoles ≡ m.consoles) → SameBy m r
ok_same m P (Ok n) h is = is n h
ok_same m P (Err r) h is = tt

appended_same : (i s : ℕ) (ws : List ℕ) (m : Machine) → (effects (words_appended i ws) s m).consoles ≡ m.consoles
unfolding effect
appended_same i s [] m = refl
appended_same i s (w ∷ ws) m = appended_same i s ws (effect (changes.Append i w) s m)

opened_same : (m n : Machine) (s i : ℕ) (x : Chan) → Opens m s i x n → n.consoles ≡ m.consoles
opened_same m n s i x h = ap (λ (k : Machine). k.consoles) h.is

restored_shows : (c : ℕ) (m : Machine) (b : Block) (l : StateLine) → Few c m → ShowsBy c m (events.Restore l) (Done (restored m b l))
unfolding restored after_clock effect
restored_shows c m b (states.System v) few = shows_still c m (with_version m v) (events.Restore (states.System v)) [] few (version_same m v) (refl, refl) refl
restored_shows c m b (states.Clock n) few = clock_shows c m (events.Restore (states.Clock n)) b n (nat_lt (m.clock + n) clock_end) few (refl, refl)
restored_shows c m b (states.File d x y) few =
    let n = names_of d x y in
    quiet_shows c m (events.Restore (states.File d x y)) (record b { file = n }) (with_file_made m n) few (refl, refl)
    (files_same m (with_file_made m n) (made_files m n))
restored_shows c m b (states.FileWords ws) few =
    quiet_shows c m (events.Restore (states.FileWords ws)) b (with_words_added m b.file ws.items) few (refl, refl)
    (files_same m (with_words_added m b.file ws.items) (added_files m b.file ws.items))
restored_shows c m b (states.Job s u j d) few =
    disturbs_shows c m (events.Restore (states.Job s u j d)) s (record b { slot = s }) (with_job_made m s u j d) few (refl, refl)
    (ok_same m (MakesJob m s u j d) (with_job_made m s u j d) (job_made m s u j d) (λ n h. ap (λ (k : Machine). k.consoles) h.is))
restored_shows c m b (states.CoreWords a ws) few =
    disturbs_shows c m (events.Restore (states.CoreWords a ws)) b.slot b (with_words_loaded m b.slot a ws.items) few (refl, refl)
    (words_same m b.slot a ws.items)
restored_shows c m b (states.ReadOnly p) few =
    disturbs_shows c m (events.Restore (states.ReadOnly p)) b.slot b (with_page_protected m b.slot p) few (refl, refl) (page_same m b.slot p)
restored_shows c m b (states.Symbol x a) few =
    quiet_shows c m (events.Restore (states.Symbol x a)) b (with_symbol_kept m b.slot x a) few (refl, refl) (symbol_same m b.slot x a)
restored_shows c m b (states.Regs r) few =
    disturbs_shows c m (events.Restore (states.Regs r)) b.slot b (on_registers m b.slot (after_registers r)) few (refl, refl)
    (registers_same m b.slot (after_registers r))
restored_shows c m b (states.Alarm s p n) few =
    disturbs_shows c m (events.Restore (states.Alarm s p n)) s b (with_alarm_set m s p n) few (refl, refl)
    (ok_same m (SetsAlarm m s p n) (with_alarm_set m s p n) (alarm_set m s p n) (λ k h. ap (λ (x : Machine). x.consoles) h.is))
restored_shows c m b (states.Under s t) few =
    disturbs_shows c m (events.Restore (states.Under s t)) s b (with_superior_set m s t) few (refl, refl)
    (ok_same m (SetsSuperior m s t) (with_superior_set m s t) (superior_set m s t) (λ k h. ap (λ (x : Machine). x.consoles) h.is))
restored_shows c m b (states.Tty s i w) few =
    disturbs_shows c m (events.Restore (states.Tty s i w)) s b (with_tty m s i w) few (refl, refl)
    (ok_same m (Opens m s i (on_tty w)) (with_tty m s i w) (tty_opened m s i w) (λ k h. opened_same m k s i (on_tty w) h))
restored_shows c m b (states.Disk s i d x y at) few =
    let n = names_of d x y in
    disturbs_shows c m (events.Restore (states.Disk s i d x y at)) s b (with_disk m s i n at) few (refl, refl)
    (ok_same m (Opens m s i (Reads n at)) (with_disk m s i n at) (disk_opened m s i n at) (λ k h. opened_same m k s i (Reads n at) h))
restored_shows c m b (states.Draft s i d x y) few =
    let n = names_of d x y in
    disturbs_shows c m (events.Restore (states.Draft s i d x y)) s b (with_draft m s i n) few (refl, refl)
    (ok_same m (Opens m s i (empty_draft n)) (with_draft m s i n) (draft_opened m s i n) (λ k h. opened_same m k s i (empty_draft n) h))
restored_shows c m b (states.Wrote s i ws) few =
    disturbs_shows c m (events.Restore (states.Wrote s i ws)) s b (with_words_written m s i ws.items) few (refl, refl)
    (ok_same m (WritesWords m s i ws.items) (with_words_written m s i ws.items) (words_written m s i ws.items)
    (λ k h. ap (λ (x : Machine). x.consoles) h.is ∙ appended_same i s ws.items m))
restored_shows c m b (states.Usr s i t w at) few =
    disturbs_shows c m (events.Restore (states.Usr s i t w at)) s b (with_usr m s i t w at) few (refl, refl)
    (ok_same m (Opens m s i (On t w at)) (with_usr m s i t w at) (usr_opened m s i t w at) (λ k h. opened_same m k s i (On t w at) h))
restored_shows c m b (states.Join s i l w x y) few =
    disturbs_shows c m (events.Restore (states.Join s i l w x y)) s b (with_link m s i l w x y) few (refl, refl)
    (ok_same m (Joins m s i l w x y) (with_link m s i l w x y) (link_joined m s i l w x y) (λ k h. ap (λ (z : Machine). z.consoles) h.is))
restored_shows c m b (states.Sent l ws) few =
    quiet_shows c m (events.Restore (states.Sent l ws)) b (with_words_sent m l ws.items) few (refl, refl)
    (ok_same m (Sends m l ws.items) (with_words_sent m l ws.items) (words_sent m l ws.items) (λ k h. ap (λ (x : Machine). x.consoles) h.is))
restored_shows c m b (states.EndShut l w) few =
    quiet_shows c m (events.Restore (states.EndShut l w)) b (with_end_shut m l w) few (refl, refl)
    (ok_same m (ShutsEnd m l w) (with_end_shut m l w) (end_shut m l w) (λ k h. ap (λ (x : Machine). x.consoles) h.is))
restored_shows c m b (states.Input d bs) few =
    bytes_show c d m b false bs.items (with_bytes_waiting m d false bs.items) few (bytes_put m d false bs.items)
restored_shows c m b (states.Output d bs) few =
    bytes_show c d m b true bs.items (with_bytes_waiting m d true bs.items) few (bytes_put m d true bs.items)
restored_shows c m b (states.Hold d s) few =
    quiet_shows c m (events.Restore (states.Hold d s)) b (with_holder_set m d s) few (refl, refl)
    (ok_same m (SetsHolder m d s) (with_holder_set m d s) (holder_set m d s) (λ k h. ap (λ (x : Machine). x.consoles) h.is))
restored_shows c m b (states.Turn s) few = shows_still c m m (events.Restore (states.Turn s)) [] few refl (refl, refl) refl
restored_shows c m b states.Ready few = shows_still c m m (events.Restore states.Ready) [] few refl (refl, refl) refl

-- each line
pub line_shows : (c : ℕ) (m : Machine) (b : Block) (e : Event) → Few c m → ShowsBy c m e (lined m b e)
unfolding lined operate after_load after_clock file_shown
line_shows c m b (events.Load u j console) few = load_shows c m b u j console (least_free (limit m) m.jobs) few
line_shows c m b (events.Words a words) few =
    disturbs_shows c m (events.Words a words) b.slot b (with_words_loaded m b.slot a words.items) few (refl, refl) (words_same m b.slot a words.items)
line_shows c m b (events.Version v) few = shows_still c m (with_version m v) (events.Version v) [] few (version_same m v) (refl, refl) refl
line_shows c m b (events.ReadOnly p) few =
    disturbs_shows c m (events.ReadOnly p) b.slot b (with_page_protected m b.slot p) few (refl, refl) (page_same m b.slot p)
line_shows c m b (events.Symbol x a) few = quiet_shows c m (events.Symbol x a) b (with_symbol_kept m b.slot x a) few (refl, refl) (symbol_same m b.slot x a)
line_shows c m b (events.Go a) few = disturbs_shows c m (events.Go a) b.slot b (on_registers m b.slot (after_go a)) few (refl, refl)
    (registers_same m b.slot (after_go a))
line_shows c m b (events.Int s x y) few = disturbs_shows c m (events.Int s x y) s b (on_registers m s (after_int x y)) few (refl, refl)
    (registers_same m s (after_int x y))
line_shows c m b (events.Stop s) few = disturbs_shows c m (events.Stop s) s b (on_registers m s after_stop) few (refl, refl) (registers_same m s after_stop)
line_shows c m b (events.Cont s) few = disturbs_shows c m (events.Cont s) s b (on_registers m s after_cont) few (refl, refl) (registers_same m s after_cont)
line_shows c m b (events.Deposit s a x) few = disturbs_shows c m (events.Deposit s a x) s b (after_deposit m s a x) few (refl, refl) (deposited_same m s a x)
line_shows c m b (events.Exam s a n) few = exam_shows c m b (events.Exam s a n) s (in_a_line s a) (examined m s a n) few (refl, refl) (λ ws. refl)
line_shows c m b (events.List s a n) few = exam_shows c m b (events.List s a n) s (printed.listed s a) (examined m s a n) few (refl, refl)
    (λ ws. listed_quiet c s a ws)
line_shows c m b (events.State s) few = state_shows c m b s (state_shown m s) few
line_shows c m b (events.Clock n) few = clock_shows c m (events.Clock n) b n (nat_lt (m.clock + n) clock_end) few (refl, refl)
line_shows c m b (events.Peek s) few = peek_shows c m s (m.jobs s)
line_shows c m b (events.Tick s n) few = tt
line_shows c m b (events.Run n q) few = shows_still c m m (events.Run n q) [] few refl (refl, refl) refl
line_shows c m b events.Nothing few = shows_still c m m events.Nothing [] few refl (refl, refl) refl
line_shows c m b events.End few = tt
line_shows c m b (events.File d x y) few =
    let n = names_of d x y in
    quiet_shows c m (events.File d x y) (record b { file = n }) (with_file_made m n) few (refl, refl) (files_same m (with_file_made m n) (made_files m n))
line_shows c m b (events.Append words) few =
    quiet_shows c m (events.Append words) b (with_words_added m b.file words.items) few (refl, refl)
    (files_same m (with_words_added m b.file words.items) (added_files m b.file words.items))
line_shows c m b events.EndFile few = shows_still c m m events.EndFile [] few refl (refl, refl) refl
line_shows c m b (events.TypeIn d bytes) few = typed_shows c d m bytes.items few
line_shows c m b (events.Drain d n) few = drained_shows c d m n few
line_shows c m b (events.Dir d) few =
    let fs = files_in d m.files in
    shows_still c m m (events.Dir d) (listing d fs) few refl (refl, refl) (filed_none c fs)
line_shows c m b (events.Show d x y) few = file_shows c m b d x y (file_named (names_of d x y) m.files) few
line_shows c m b (events.Restore l) few = restored_shows c m b l few
