-- What the lines of a session leave of the plain machine: names, superiors and channels, and how
-- consoles and their holders change. A line of the state part may change any of these, and of each
-- the law says what it has found.
use Rattle.std.specs.Prelude.{if◌then◌else◌, ◌==◌, ◌≡◌, ◌≢◌, ◌<◌, ◌≤◌, ◌⊎◌, ℕ, ◌+◌, Bool, true, false, Option, Some, None, List, [], ◌∷◌, ◌++◌, Result, Ok, Err, option_map, is_some, nat_lt, length, take, drop, refl}
use Rattle.std.proofs.Common.{sym, ◌∙◌, ap, subst, inl, inr, arith}
use Rattle.std.proofs.lemmas.Bool.{cases_Bool, cases_eq, eq-eqb, ne_eqb, ltb-true}
use Rattle.its_word.specs.Console.{most_waiting}
use Rattle.its_word.specs.Core.{Core, Page, page_of, word_at, can_store}
use Rattle.its_word.specs.Limits.{slots, most_symbols}
use Rattle.its_records.specs.Tree.{least_free, no_job}
use Rattle.its_records.specs.declared.jobs.Job.{Job}
use Rattle.its_records.specs.declared.session.Event.{Event}
use Rattle.its_records.specs.declared.session.Event.TheVariants as events
use Rattle.its_records.specs.declared.session.Reason.{Reason}
use Rattle.its_records.specs.declared.show.JobShow.{JobShow}
use Rattle.its_records.specs.declared.state_line.StateLine.{StateLine}
use Rattle.its_records.specs.declared.state_line.StateLine.TheVariants as states
use Rattle.its_frame.specs.declared.change.Change.TheVariants as changes
use Rattle.its_records.proofs.FreeLaws.{least_empty, least_below, no_job_there}
use Rattle.its_plain.specs.Machine.{Names, File, Chan, Reads, On, Console, Whole, Machine, changed, with_job, with_new, mapped, limit}
use Rattle.its_plain.specs.Operator.{Block, Refuses, Does, Ticks, Quits, and_then, disturbs, quietly}
use Rattle.its_plain.specs.Operator.Jobs.{new_job, held_by, after_load_in, after_load, with_stored, with_core, with_word_loaded_of, with_word_loaded, with_words_stored, words_barred, with_words_loaded_if, with_words_loaded, with_page_protected_in, with_page_protected, on_job, with_registers, on_registers, after_go, after_int, after_stop, after_cont, examined, state_shown, after_deposit_in, after_deposit}
use Rattle.its_plain.specs.Operator.Symbols.{with_symbol_kept_if, with_symbol_kept_of, with_symbol_kept}
use Rattle.its_plain.specs.Operator.Version.{with_version}
use Rattle.its_plain.specs.Machine.Change.{in_job, with_protection, effect, effects}
use Rattle.its_plain.specs.Operator.Lines.{by_load, by_exam, in_a_line, by_state, by_clock, operate, shows, Lined, Done, Peeks, peeked_at, lined}
use Rattle.its_plain.specs.Machine.Own.{names_of}
use Rattle.its_plain.specs.Call.File.{most_files, is_full, file_named, has_file}
use Rattle.its_plain.specs.Operator.Files.{channels_of, with_files, with_file_made_if, with_file_made, with_word_added_if, with_word_added_to, with_word_added, with_words_added, file_shown}
use Rattle.its_plain.specs.Operator.Clock.{alarm_in, due, after_alarm, after_alarm_if, at_clock, clock_end, after_clock_if, after_clock}
use Rattle.its_plain.specs.Operator.Consoles.{with_typed, after_drain}
use Rattle.its_plain.specs.Operator.State.{after_registers, on_tty, restored}
use Rattle.its_plain.proofs.RestoredLaws.{OkBy, MakesJob, job_made, SetsAlarm, alarm_set, SetsSuperior, superior_set, Opens, tty_opened, disk_opened, empty_draft, draft_opened, usr_opened, words_appended, WritesWords, words_written, Joins, link_joined, Sends, words_sent, ShutsEnd, end_shut, PutsBytes, bytes_put, SetsHolder, holder_set}
use Rattle.its_print.specs.Printing.{Line, listed}

-- what no line changes of a job
pub record Face : Type 0 where
  pub uname : ℕ
  pub jname : ℕ
  pub console : Option ℕ
  pub superior : Option ℕ
  pub channels : ℕ → Chan

abbrev pub face : Whole → Face
face q = record { uname = q.job.uname; jname = q.job.jname; console = q.job.console; superior = q.superior; channels = q.channels }

-- a slot is as it was, except for words and registers; or LOAD made a job there
pub data SlotKept (o p : Option Whole) : Type 0 where
  Stays : option_map face p ≡ option_map face o → SlotKept o p
  Made : (u j : ℕ) (console : Option ℕ) → o ≡ None → p ≡ Some (new_job u j console) → SlotKept o p

-- a console is as it was; or bytes were typed at it, or were drained from it
pub data ConsoleKept (x y : Console) : Type 0 where
  Quiet : y ≡ x → ConsoleKept x y
  Gains : (bytes : List ℕ) → y ≡ record x { input = take most_waiting (x.input ++ bytes) } → ConsoleKept x y
  Loses : (n : ℕ) → y ≡ record x { output = drop n x.output } → ConsoleKept x y

-- the holder of a console is as it was; or the job that LOAD made with this console holds it, which
-- nobody held
pub data HolderKept (m n : Machine) (c : ℕ) : Type 0 where
  Keeps : n.holders c ≡ m.holders c → HolderKept m n c
  Takes : (s u j : ℕ) → m.holders c ≡ None → m.jobs s ≡ None → n.jobs s ≡ Some (new_job u j (Some c)) → n.holders c ≡ Some s → HolderKept m n c

-- the clock is as it was, and each job that stays has its alarm; or CLOCK made the alarms go that
-- were due
pub data AlarmsKept (m n : Machine) : Type 0 where
  Same : n.clock ≡ m.clock → ((k : ℕ) → (alarm_in (n.jobs k) ≡ alarm_in (m.jobs k)) ⊎ (alarm_in (n.jobs k) ≡ None)) → AlarmsKept m n
  Went : (c : ℕ) → m.clock ≤ c → n ≡ at_clock c m → AlarmsKept m n

-- one of the slots that there are
abbrev pub IsSlot : ℕ → Type 0
IsSlot k = k < slots

-- what a line outside the state part leaves
pub record LineKeeps (m n : Machine) : Type 0 where
  pub slots : (k : ℕ) → SlotKept (m.jobs k) (n.jobs k)
  pub few : (k : ℕ) → limit m ≤ k → m.jobs k ≡ None → n.jobs k ≡ None
  pub consoles : (c : ℕ) → ConsoleKept (m.consoles c) (n.consoles c)
  pub holders : (c : ℕ) → HolderKept m n c
  pub clock : (n.clock ≡ m.clock) ⊎ (n.clock < clock_end)
  pub version : (n.version ≡ m.version) ⊎ ((k : ℕ) → IsSlot k → n.jobs k ≡ None)
  pub alarms : AlarmsKept m n
  pub links : n.links ≡ m.links

abbrev pub LineKeepsBy : Machine → Lined → Type 0
LineKeepsBy m (Done (Does n out touched b)) = LineKeeps m n
LineKeepsBy m (Done (Refuses r)) = Unit {0}
LineKeepsBy m (Done (Ticks s k)) = Unit {0}
LineKeepsBy m (Done Quits) = Unit {0}
LineKeepsBy m (Peeks s) = Unit {0}

-- two machines that differ in words and registers alone
pub record Alike (m n : Machine) : Type 0 where
  pub slots : (k : ℕ) → option_map face (n.jobs k) ≡ option_map face (m.jobs k)
  pub alarms : (k : ℕ) → alarm_in (n.jobs k) ≡ alarm_in (m.jobs k)
  pub consoles : n.consoles ≡ m.consoles
  pub holders : n.holders ≡ m.holders
  pub files : n.files ≡ m.files
  pub clock : n.clock ≡ m.clock
  pub version : n.version ≡ m.version
  pub links : n.links ≡ m.links

-- an empty slot has no face
faceless : (p o : Option Whole) → option_map face p ≡ option_map face o → o ≡ None → p ≡ None
faceless None o h e = refl
faceless (Some q) o h e = let none : Some (face q) ≡ None = h ∙ ap (option_map face) e in absurd cc

alike_keeps : (m n : Machine) → Alike m n → LineKeeps m n
alike_keeps m n h = record {
  slots = λ k. Stays (h.slots k);
  few = λ k l e. faceless (n.jobs k) (m.jobs k) (h.slots k) e;
  consoles = λ c. Quiet (ap (λ (f : ℕ → Console). f c) h.consoles);
  holders = λ c. Keeps (ap (λ (f : ℕ → Option ℕ). f c) h.holders);
  clock = inl h.clock;
  version = inl h.version;
  alarms = Same h.clock (λ k. inl (h.alarms k));
  links = h.links;
}

alike_same : (m : Machine) → Alike m m
alike_same m = record {
  slots = λ k. refl;
  alarms = λ k. refl;
  consoles = refl;
  holders = refl;
  files = refl;
  clock = refl;
  version = refl;
  links = refl;
}

alike_then : (m n l : Machine) → Alike m n → Alike n l → Alike m l
alike_then m n l a b = record {
  slots = λ k. b.slots k ∙ a.slots k;
  alarms = λ k. b.alarms k ∙ a.alarms k;
  consoles = b.consoles ∙ a.consoles;
  holders = b.holders ∙ a.holders;
  files = b.files ∙ a.files;
  clock = b.clock ∙ a.clock;
  version = b.version ∙ a.version;
  links = b.links ∙ a.links;
}

put_alike : (m : Machine) (s : ℕ) (q p : Whole) → m.jobs s ≡ Some q → face p ≡ face q → p.alarm ≡ q.alarm → Alike m (with_job m s p)
put_alike m s q p is e alarm = record {
  slots = λ k. elim (cases_eq k s) [
    | inl at ↦ rw (at, eq-eqb s s refl) (ap Some e ∙ sym (ap (option_map face) is))
    | inr ne ↦ rw (ne_eqb k s ne) refl
  ];
  alarms = λ k. elim (cases_eq k s) [
    | inl at ↦ rw (at, eq-eqb s s refl) (alarm ∙ sym (ap alarm_in is))
    | inr ne ↦ rw (ne_eqb k s ne) refl
  ];
  consoles = refl;
  holders = refl;
  files = refl;
  clock = refl;
  version = refl;
  links = refl;
}

abbrev AlikeBy : Machine → Result Machine Reason → Type 0
AlikeBy m (Ok n) = Alike m n
AlikeBy m (Err r) = Unit {0}

core_alike : (m : Machine) (s : ℕ) (q : Whole) (r : Result Core Reason) → m.jobs s ≡ Some q → AlikeBy m (with_core m s q r)
core_alike m s q (Ok c) is = put_alike m s q (record q { core = c }) is refl refl
core_alike m s q (Err r) is = tt

registers_alike : (m : Machine) (s : ℕ) (f : Job → Job) → ((q : Whole) → face (record q { job = f q.job }) ≡ face q) → AlikeBy m (on_registers m s f)
unfolding on_registers
registers_alike m s f same = go (m.jobs s) refl
  where
    go : (o : Option Whole) → m.jobs s ≡ o → AlikeBy m (on_job m s (with_registers m s f) o)
    go (Some q) is = put_alike m s q (record q { job = f q.job }) is (same q) refl
    go None is = tt

deposited_alike : (m : Machine) (s a w : ℕ) → AlikeBy m (after_deposit m s a w)
unfolding after_deposit
deposited_alike m s a w = go (m.jobs s) refl
  where
    go : (o : Option Whole) → m.jobs s ≡ o
        → AlikeBy m (on_job m s (λ q. with_core m s q (after_deposit_in q.core a w (can_store q.core a) (is_some (word_at q.core a)))) o)
    go (Some q) is = core_alike m s q (after_deposit_in q.core a w (can_store q.core a) (is_some (word_at q.core a))) is
    go None is = tt

word_alike_of : (m : Machine) (s a w : ℕ) (o : Option Whole) → m.jobs s ≡ o → AlikeBy m (with_word_loaded_of m s a w o)
word_alike_of m s a w (Some q) is = core_alike m s q (with_stored (mapped m) q.core a w) is
word_alike_of m s a w None is = tt

word_alike : (m : Machine) (s a w : ℕ) → AlikeBy m (with_word_loaded m s a w)
unfolding with_word_loaded
word_alike m s a w = word_alike_of m s a w (m.jobs s) refl

alike_further : (m n : Machine) (r : Result Machine Reason) → Alike m n → AlikeBy n r → AlikeBy m r
alike_further m n (Ok l) a b = alike_then m n l a b
alike_further m n (Err r) a b = tt

stored_alike : (m : Machine) (s a : ℕ) (ws : List ℕ) → AlikeBy m (with_words_stored m s a ws)
stored_alike m s a [] = alike_same m
stored_alike m s a (w ∷ ws) = go (with_word_loaded m s a w) (word_alike m s a w) (λ n. stored_alike n s (a + 1) ws)
  where
    go : (r : Result Machine Reason) → AlikeBy m r → ((n : Machine) → AlikeBy n (with_words_stored n s (a + 1) ws))
        → AlikeBy m (and_then r (λ n. with_words_stored n s (a + 1) ws))
    go (Ok n) first h = alike_further m n (with_words_stored n s (a + 1) ws) first (h n)
    go (Err r) first h = tt

words_alike_if : (m : Machine) (s a : ℕ) (ws : List ℕ) (barred : Bool) → AlikeBy m (with_words_loaded_if m s a ws barred)
words_alike_if m s a ws true = tt
words_alike_if m s a ws false = stored_alike m s a ws

words_alike : (m : Machine) (s a : ℕ) (ws : List ℕ) → AlikeBy m (with_words_loaded m s a ws)
unfolding with_words_loaded
words_alike m s a ws = words_alike_if m s a ws (words_barred m s a (length ws))

page_alike : (m : Machine) (s k : ℕ) → AlikeBy m (with_page_protected m s k)
unfolding with_page_protected
page_alike m s k = go (m.jobs s) refl
  where
    put : (q : Whole) (o : Option Page) → m.jobs s ≡ Some q → AlikeBy m (with_page_protected_in m s k q o)
    put q (Some p) is = put_alike m s q (with_protection k false q) is refl refl
    put q None is = tt

    go : (o : Option Whole) → m.jobs s ≡ o → AlikeBy m (on_job m s (λ q. with_page_protected_in m s k q (page_of q.core k)) o)
    go (Some q) is = put q (page_of q.core k) is
    go None is = tt

symbol_alike : (m : Machine) (s name a : ℕ) → AlikeBy m (with_symbol_kept m s name a)
unfolding with_symbol_kept
symbol_alike m s name a = go (m.jobs s)
  where
    put : (room : Bool) → AlikeBy m (with_symbol_kept_if m s (name, a) room)
    put true = record {
      slots = λ k. refl;
      alarms = λ k. refl;
      consoles = refl;
      holders = refl;
      files = refl;
      clock = refl;
      version = refl;
      links = refl;
    }
    put false = tt

    go : (o : Option Whole) → AlikeBy m (with_symbol_kept_of m s (name, a) o)
    go (Some q) = put (nat_lt (length (m.symbols s)) most_symbols)
    go None = tt

-- the outcome of a result
disturbs_keeps : (m : Machine) (s : ℕ) (b : Block) (r : Result Machine Reason) → AlikeBy m r → LineKeepsBy m (Done (disturbs s b r))
disturbs_keeps m s b (Ok n) h = alike_keeps m n h
disturbs_keeps m s b (Err r) h = tt

quiet_keeps : (m : Machine) (b : Block) (r : Result Machine Reason) → AlikeBy m r → LineKeepsBy m (Done (quietly b r))
quiet_keeps m b (Ok n) h = alike_keeps m n h
quiet_keeps m b (Err r) h = tt

-- VERSION changes the version alone, if no slot has a job
version_keeps : (m : Machine) (v : ℕ) → LineKeeps m (with_version m v)
unfolding with_version
version_keeps m v = elim (cases_Bool (no_job m.jobs)) [
  | inl is ↦ rw is (record {
    slots = λ k. Stays refl;
    few = λ k l e. e;
    consoles = λ c. Quiet refl;
    holders = λ c. Keeps refl;
    clock = inl refl;
    version = inr (λ k l. no_job_there m.jobs k is l);
    alarms = Same refl (λ k. inl refl);
    links = refl;
  })
  | inr is ↦ rw is (alike_keeps m m (alike_same m))
]

exam_keeps : (m : Machine) (b : Block) (s : ℕ) (show : List ℕ → List Line) (r : Result (List ℕ) Reason) → LineKeepsBy m (Done (by_exam m b s show r))
exam_keeps m b s show (Ok ws) = alike_keeps m m (alike_same m)
exam_keeps m b s show (Err r) = tt

show_keeps : (m : Machine) (b : Block) (s : ℕ) (r : Result JobShow Reason) → LineKeepsBy m (Done (by_state m b s r))
show_keeps m b s (Ok show) = alike_keeps m m (alike_same m)
show_keeps m b s (Err r) = tt

peek_keeps : (m : Machine) (s : ℕ) (o : Option Whole) → LineKeepsBy m (peeked_at s o)
peek_keeps m s (Some q) = tt
peek_keeps m s None = tt

-- LOAD makes a job in the least free slot
made_slots : (m : Machine) (u j : ℕ) (console : Option ℕ) (s k : ℕ) → m.jobs s ≡ None
    → SlotKept (m.jobs k) (changed m.jobs s (Some (new_job u j console)) k)
made_slots m u j console s k free = elim (cases_eq k s) [
  | inl at ↦ rw at (Made u j console free (rw (eq-eqb s s refl) refl))
  | inr ne ↦ Stays (rw (ne_eqb k s ne) refl)
]

made_few : (m : Machine) (q : Whole) (s k : ℕ) → s < limit m → limit m ≤ k → m.jobs k ≡ None → changed m.jobs s (Some q) k ≡ None
made_few m q s k below l e = let ne : k ≢ s = λ at. omega arith in rw (ne_eqb k s ne) e

made_alarms : (m : Machine) (u j : ℕ) (console : Option ℕ) (s k : ℕ)
    → (alarm_in (changed m.jobs s (Some (new_job u j console)) k) ≡ alarm_in (m.jobs k)) ⊎ (alarm_in (changed m.jobs s (Some (new_job u j console)) k) ≡ None)
made_alarms m u j console s k = elim (cases_eq k s) [
  | inl at ↦ rw at (inr (rw (eq-eqb s s refl) refl))
  | inr ne ↦ inl (rw (ne_eqb k s ne) refl)
]

-- the holder of the console of a job that LOAD makes, and of every other one
held_kept : (m n : Machine) (u j c s : ℕ) (o : Option ℕ) → m.holders c ≡ o → m.jobs s ≡ None → n.jobs s ≡ Some (new_job u j (Some c))
    → n.holders c ≡ held_by s o → HolderKept m n c
held_kept m n u j c s (Some h) was none is holds = Keeps (holds ∙ sym was)
held_kept m n u j c s None was none is holds = Takes s u j was none is holds

holder_kept : (m n : Machine) (u j c s k : ℕ) → m.jobs s ≡ None → n.jobs s ≡ Some (new_job u j (Some c))
    → ((i : ℕ) → n.holders i ≡ changed m.holders c (held_by s (m.holders c)) i) → HolderKept m n k
holder_kept m n u j c s k none is holds = elim (cases_eq k c) [
  | inl at ↦ subst (λ (i : ℕ). HolderKept m n i) (sym at)
      (held_kept m n u j c s (m.holders c) refl none is (holds c ∙ rw (eq-eqb c c refl) refl))
  | inr ne ↦ Keeps (holds k ∙ rw (ne_eqb k c ne) refl)
]

-- a job with no console that it could hold, or that JOB makes: no holder changes
new_keeps : (m : Machine) (u j : ℕ) (console : Option ℕ) (s : ℕ) → s < limit m → m.jobs s ≡ None → LineKeeps m (with_new m s (new_job u j console))
new_keeps m u j console s below free = record {
  slots = λ k. made_slots m u j console s k free;
  few = λ k l e. made_few m (new_job u j console) s k below l e;
  consoles = λ k. Quiet refl;
  holders = λ k. Keeps refl;
  clock = inl refl;
  version = inl refl;
  alarms = Same refl (λ k. made_alarms m u j console s k);
  links = refl;
}

pub job_keeps : (m n : Machine) (s u j : ℕ) (console : Option ℕ) → MakesJob m s u j console n → LineKeeps m n
job_keeps m n s u j console f = subst (LineKeeps m) (sym f.is) (new_keeps m u j console s f.few f.free)

load_keeps : (m : Machine) (b : Block) (u j : ℕ) (console o : Option ℕ) → least_free (limit m) m.jobs ≡ o
    → LineKeepsBy m (Done (by_load b (after_load_in m u j console o)))
load_keeps m b u j (Some c) (Some s) is = record {
  slots = λ k. made_slots m u j (Some c) s k (least_empty (limit m) m.jobs s is);
  few = λ k l e. made_few m (new_job u j (Some c)) s k (least_below (limit m) m.jobs s is) l e;
  consoles = λ k. Quiet refl;
  holders = λ k. holder_kept m _ u j c s k (least_empty (limit m) m.jobs s is) (rw (eq-eqb s s refl) refl) (λ i. refl);
  clock = inl refl;
  version = inl refl;
  alarms = Same refl (λ k. made_alarms m u j (Some c) s k);
  links = refl;
}
load_keeps m b u j None (Some s) is = new_keeps m u j None s (least_below (limit m) m.jobs s is) (least_empty (limit m) m.jobs s is)
load_keeps m b u j console None is = tt

-- one console changed
console_kept : (m : Machine) (c k : ℕ) (y : Console) → ConsoleKept (m.consoles c) y → ConsoleKept (m.consoles k) (changed m.consoles c y k)
console_kept m c k y h = elim (cases_eq k c) [
  | inl at ↦ rw (at, eq-eqb c c refl) h
  | inr ne ↦ rw (ne_eqb k c ne) (Quiet refl)
]

typed_keeps : (m : Machine) (c : ℕ) (bytes : List ℕ) → LineKeeps m (with_typed c bytes m)
typed_keeps m c bytes = record {
  slots = λ k. Stays refl;
  few = λ k l e. e;
  consoles = λ k. console_kept m c k _ (Gains bytes refl);
  holders = λ k. Keeps refl;
  clock = inl refl;
  version = inl refl;
  alarms = Same refl (λ k. inl refl);
  links = refl;
}

drained_keeps : (m : Machine) (c n : ℕ) → LineKeeps m (after_drain c n m)
drained_keeps m c n = record {
  slots = λ k. Stays refl;
  few = λ k l e. e;
  consoles = λ k. console_kept m c k _ (Loses n refl);
  holders = λ k. Keeps refl;
  clock = inl refl;
  version = inl refl;
  alarms = Same refl (λ k. inl refl);
  links = refl;
}

-- CLOCK: ALR and a next time are no part of the face of a job
rung_face : (c : ℕ) (b : Bool) (o : Option Whole) → option_map face (after_alarm_if c b o) ≡ option_map face o
rung_face c true (Some q) = refl
rung_face c true None = refl
rung_face c false o = refl

rung_few : (c : ℕ) (b : Bool) (o : Option Whole) → o ≡ None → after_alarm_if c b o ≡ None
rung_few c true o e = ap (option_map (after_alarm c)) e
rung_few c false o e = e

clock_keeps : (m : Machine) (b : Block) (n : ℕ) (fits : Bool) → nat_lt (m.clock + n) clock_end ≡ fits
    → LineKeepsBy m (Done (by_clock m b n (after_clock_if m n fits)))
clock_keeps m b n true is = record {
  slots = λ k. Stays (rung_face (m.clock + n) (due (m.clock + n) m.jobs k) (m.jobs k));
  few = λ k l e. rung_few (m.clock + n) (due (m.clock + n) m.jobs k) (m.jobs k) e;
  consoles = λ c. Quiet refl;
  holders = λ c. Keeps refl;
  clock = inr (ltb-true (m.clock + n) clock_end is);
  version = inl refl;
  alarms = Went (m.clock + n) (omega arith) refl;
  links = refl;
}
clock_keeps m b n false is = tt

-- lines on files change the directory alone
files_keep : (m : Machine) (fs : List File) → LineKeeps m (with_files m fs)
files_keep m fs = record {
  slots = λ k. Stays refl;
  few = λ k l e. e;
  consoles = λ c. Quiet refl;
  holders = λ c. Keeps refl;
  clock = inl refl;
  version = inl refl;
  alarms = Same refl (λ k. inl refl);
  links = refl;
}

abbrev pub FilesAlone : Machine → Result Machine Reason → Type 0
FilesAlone m (Ok n) = n ≡ with_files m n.files
FilesAlone m (Err r) = Unit {0}

file_keeps : (m : Machine) (b : Block) (r : Result Machine Reason) → FilesAlone m r → LineKeepsBy m (Done (quietly b r))
file_keeps m b (Ok n) h = subst (LineKeeps m) (sym h) (files_keep m n.files)
file_keeps m b (Err r) h = tt

pub made_files : (m : Machine) (n : Names) → FilesAlone m (with_file_made m n)
unfolding with_file_made
made_files m n = made_files_by m n (has_file n m.files) (nat_lt (length m.files) most_files)
  where
    made_files_by : (m : Machine) (n : Names) (there room : Bool) → FilesAlone m (with_file_made_if m n there room)
    made_files_by m n true room = tt
    made_files_by m n false true = refl
    made_files_by m n false false = tt

word_files_if : (m : Machine) (n : Names) (w : ℕ) (full : Bool) → FilesAlone m (with_word_added_if m n w full)
word_files_if m n w true = tt
word_files_if m n w false = refl

word_files_to : (m : Machine) (n : Names) (w : ℕ) (o : Option File) → FilesAlone m (with_word_added_to m n w o)
word_files_to m n w (Some f) = word_files_if m n w (is_full m.files (channels_of m) f.words)
word_files_to m n w None = tt

pub word_files : (m : Machine) (n : Names) (w : ℕ) → FilesAlone m (with_word_added m n w)
unfolding with_word_added
word_files m n w = word_files_to m n w (file_named n m.files)

then_files : (m n : Machine) (r : Result Machine Reason) → n ≡ with_files m n.files → FilesAlone n r → FilesAlone m r
then_files m n (Ok k) h g = g ∙ ap (λ (x : Machine). with_files x k.files) h
then_files m n (Err r) h g = tt

added_next : (m : Machine) (names : Names) (ws : List ℕ) (r : Result Machine Reason) → FilesAlone m r
    → ((n : Machine) → FilesAlone n (with_words_added n names ws))
    → FilesAlone m (and_then r (λ k. with_words_added k names ws))
added_next m names ws (Ok n) h g = then_files m n (with_words_added n names ws) h (g n)
added_next m names ws (Err r) h g = tt

pub added_files : (m : Machine) (n : Names) (ws : List ℕ) → FilesAlone m (with_words_added m n ws)
added_files m n [] = refl
added_files m n (w ∷ ws) = added_next m n ws (with_word_added m n w) (word_files m n w) (λ k. added_files k n ws)

shown_keeps : (m : Machine) (b : Block) (r : Result (List Line) Reason) → LineKeepsBy m (Done (shows m b r))
shown_keeps m b (Ok out) = alike_keeps m m (alike_same m)
shown_keeps m b (Err r) = tt

-- a line of the state part that is no line of the rest of a session has found this; each other one
-- leaves what a line there leaves
abbrev pub Restores : Machine → StateLine → Machine → Type 0
Restores m (states.Job s u j console) n = MakesJob m s u j console n
Restores m (states.Alarm s period next) n = SetsAlarm m s period next n
Restores m (states.Under s t) n = SetsSuperior m s t n
Restores m (states.Tty s i write) n = Opens m s i (on_tty write) n
Restores m (states.Disk s i d x y at) n = Opens m s i (Reads (names_of d x y) at) n
Restores m (states.Draft s i d x y) n = Opens m s i (empty_draft (names_of d x y)) n
Restores m (states.Wrote s i words) n = WritesWords m s i words.items n
Restores m (states.Usr s i t write at) n = Opens m s i (On t write at) n
Restores m (states.Join s i l write x y) n = Joins m s i l write x y n
Restores m (states.Sent l words) n = Sends m l words.items n
Restores m (states.EndShut l write) n = ShutsEnd m l write n
Restores m (states.Input c bytes) n = PutsBytes m c false bytes.items n
Restores m (states.Output c bytes) n = PutsBytes m c true bytes.items n
Restores m (states.Hold c s) n = SetsHolder m c s n
Restores m _ n = LineKeeps m n

abbrev pub RestoresBy : Machine → StateLine → Lined → Type 0
RestoresBy m line (Done (Does n out touched b)) = Restores m line n
RestoresBy m line (Done (Refuses r)) = Unit {0}
RestoresBy m line (Done (Ticks s k)) = Unit {0}
RestoresBy m line (Done Quits) = Unit {0}
RestoresBy m line (Peeks s) = Unit {0}

disturbs_restores : (m : Machine) (line : StateLine) (s : ℕ) (b : Block) (r : Result Machine Reason) → OkBy (Restores m line) r
    → RestoresBy m line (Done (disturbs s b r))
disturbs_restores m line s b (Ok n) h = h
disturbs_restores m line s b (Err r) h = tt

quiet_restores : (m : Machine) (line : StateLine) (b : Block) (r : Result Machine Reason) → OkBy (Restores m line) r
    → RestoresBy m line (Done (quietly b r))
quiet_restores m line b (Ok n) h = h
quiet_restores m line b (Err r) h = tt

-- a line that is one of the rest of a session too
shared_restores : (m : Machine) (line : StateLine) (l : Lined) → ((n : Machine) → LineKeeps m n → Restores m line n) → LineKeepsBy m l → RestoresBy m line l
shared_restores m line (Done (Does n out touched b)) f h = f n h
shared_restores m line (Done (Refuses r)) f h = tt
shared_restores m line (Done (Ticks s k)) f h = tt
shared_restores m line (Done Quits) f h = tt
shared_restores m line (Peeks s) f h = tt

pub restored_keeps : (m : Machine) (b : Block) (line : StateLine) → RestoresBy m line (Done (restored m b line))
unfolding restored after_clock
restored_keeps m b (states.System v) = version_keeps m v
restored_keeps m b (states.Clock n) =
    shared_restores m (states.Clock n) (Done (by_clock m b n (after_clock_if m n (nat_lt (m.clock + n) clock_end)))) (λ k h. h)
    (clock_keeps m b n (nat_lt (m.clock + n) clock_end) refl)
restored_keeps m b (states.File d x y) =
    let c : Block = record b { file = names_of d x y } in
    shared_restores m (states.File d x y) (Done (quietly c (with_file_made m (names_of d x y)))) (λ k h. h)
    (file_keeps m c (with_file_made m (names_of d x y)) (made_files m (names_of d x y)))
restored_keeps m b (states.FileWords words) =
    shared_restores m (states.FileWords words) (Done (quietly b (with_words_added m b.file words.items))) (λ k h. h)
    (file_keeps m b (with_words_added m b.file words.items) (added_files m b.file words.items))
restored_keeps m b (states.CoreWords a words) =
    shared_restores m (states.CoreWords a words) (Done (disturbs b.slot b (with_words_loaded m b.slot a words.items))) (λ k h. h)
    (disturbs_keeps m b.slot b (with_words_loaded m b.slot a words.items) (words_alike m b.slot a words.items))
restored_keeps m b (states.ReadOnly page) =
    shared_restores m (states.ReadOnly page) (Done (disturbs b.slot b (with_page_protected m b.slot page))) (λ k h. h)
    (disturbs_keeps m b.slot b (with_page_protected m b.slot page) (page_alike m b.slot page))
restored_keeps m b (states.Symbol name a) =
    shared_restores m (states.Symbol name a) (Done (quietly b (with_symbol_kept m b.slot name a))) (λ k h. h)
    (quiet_keeps m b (with_symbol_kept m b.slot name a) (symbol_alike m b.slot name a))
restored_keeps m b (states.Regs r) =
    shared_restores m (states.Regs r) (Done (disturbs b.slot b (on_registers m b.slot (after_registers r)))) (λ k h. h)
    (disturbs_keeps m b.slot b (on_registers m b.slot (after_registers r)) (registers_alike m b.slot (after_registers r) (λ q. refl)))
restored_keeps m b (states.Job s u j console) = disturbs_restores m (states.Job s u j console) s _ _ (job_made m s u j console)
restored_keeps m b (states.Alarm s period next) = disturbs_restores m (states.Alarm s period next) s b _ (alarm_set m s period next)
restored_keeps m b (states.Under s t) = disturbs_restores m (states.Under s t) s b _ (superior_set m s t)
restored_keeps m b (states.Tty s i write) = disturbs_restores m (states.Tty s i write) s b _ (tty_opened m s i write)
restored_keeps m b (states.Disk s i d x y at) = disturbs_restores m (states.Disk s i d x y at) s b _ (disk_opened m s i (names_of d x y) at)
restored_keeps m b (states.Draft s i d x y) = disturbs_restores m (states.Draft s i d x y) s b _ (draft_opened m s i (names_of d x y))
restored_keeps m b (states.Wrote s i words) = disturbs_restores m (states.Wrote s i words) s b _ (words_written m s i words.items)
restored_keeps m b (states.Usr s i t write at) = disturbs_restores m (states.Usr s i t write at) s b _ (usr_opened m s i t write at)
restored_keeps m b (states.Join s i l write x y) = disturbs_restores m (states.Join s i l write x y) s b _ (link_joined m s i l write x y)
restored_keeps m b (states.Sent l words) = quiet_restores m (states.Sent l words) b _ (words_sent m l words.items)
restored_keeps m b (states.EndShut l write) = quiet_restores m (states.EndShut l write) b _ (end_shut m l write)
restored_keeps m b (states.Input c bytes) = quiet_restores m (states.Input c bytes) b _ (bytes_put m c false bytes.items)
restored_keeps m b (states.Output c bytes) = quiet_restores m (states.Output c bytes) b _ (bytes_put m c true bytes.items)
restored_keeps m b (states.Hold c s) = quiet_restores m (states.Hold c s) b _ (holder_set m c s)
restored_keeps m b (states.Turn s) = alike_keeps m m (alike_same m)
restored_keeps m b states.Ready = alike_keeps m m (alike_same m)

-- what each line leaves
abbrev pub KeepsBy : Machine → Event → Lined → Type 0
KeepsBy m (events.Restore line) l = RestoresBy m line l
KeepsBy m _ l = LineKeepsBy m l

pub line_keeps : (m : Machine) (b : Block) (e : Event) → KeepsBy m e (lined m b e)
unfolding lined operate after_load after_clock
line_keeps m b (events.Load u j console) = load_keeps m b u j console (least_free (limit m) m.jobs) refl
line_keeps m b (events.Words a words) = disturbs_keeps m b.slot b (with_words_loaded m b.slot a words.items) (words_alike m b.slot a words.items)
line_keeps m b (events.Version v) = version_keeps m v
line_keeps m b (events.ReadOnly page) = disturbs_keeps m b.slot b (with_page_protected m b.slot page) (page_alike m b.slot page)
line_keeps m b (events.Symbol name a) = quiet_keeps m b (with_symbol_kept m b.slot name a) (symbol_alike m b.slot name a)
line_keeps m b (events.Go a) = disturbs_keeps m b.slot b (on_registers m b.slot (after_go a)) (registers_alike m b.slot (after_go a) (λ q. refl))
line_keeps m b (events.Int s x y) = disturbs_keeps m s b (on_registers m s (after_int x y)) (registers_alike m s (after_int x y) (λ q. refl))
line_keeps m b (events.Stop s) = disturbs_keeps m s b (on_registers m s after_stop) (registers_alike m s after_stop (λ q. refl))
line_keeps m b (events.Cont s) = disturbs_keeps m s b (on_registers m s after_cont) (registers_alike m s after_cont (λ q. refl))
line_keeps m b (events.Deposit s a x) = disturbs_keeps m s b (after_deposit m s a x) (deposited_alike m s a x)
line_keeps m b (events.Exam s a n) = exam_keeps m b s (in_a_line s a) (examined m s a n)
line_keeps m b (events.List s a n) = exam_keeps m b s (listed s a) (examined m s a n)
line_keeps m b (events.State s) = show_keeps m b s (state_shown m s)
line_keeps m b (events.Clock n) = clock_keeps m b n (nat_lt (m.clock + n) clock_end) refl
line_keeps m b (events.Peek s) = peek_keeps m s (m.jobs s)
line_keeps m b (events.Tick s n) = tt
line_keeps m b events.End = tt
line_keeps m b (events.File d x y) = file_keeps m (record b { file = names_of d x y }) (with_file_made m (names_of d x y)) (made_files m (names_of d x y))
line_keeps m b (events.Append words) = file_keeps m b (with_words_added m b.file words.items) (added_files m b.file words.items)
line_keeps m b (events.TypeIn c bytes) = typed_keeps m c bytes.items
line_keeps m b (events.Drain c n) = drained_keeps m c n
line_keeps m b (events.Show d x y) = shown_keeps m b (file_shown m d x y)
line_keeps m b (events.Restore line) = restored_keeps m b line
line_keeps m b _ = alike_keeps m m (alike_same m)

-- the same of a line that leads to machine n
abbrev pub Leaves : Machine → Event → Machine → Type 0
Leaves m (events.Restore line) n = Restores m line n
Leaves m _ n = LineKeeps m n

pub line_does : (m n : Machine) (b c : Block) (e : Event) (out : List Line) (touched : ℕ → Bool) → lined m b e ≡ Done (Does n out touched c)
    → Leaves m e n
line_does m n b c e out touched is = by e (subst (KeepsBy m e) is (line_keeps m b e))
  where
    by : (e : Event) → KeepsBy m e (Done (Does n out touched c)) → Leaves m e n
    by (events.Restore line) h = h
    by e h = h

-- no line takes a job away
some_faced : (o : Option Whole) → is_some o ≡ is_some (option_map face o)
some_faced (Some q) = refl
some_faced None = refl

pub slot_some : (o p : Option Whole) → SlotKept o p → is_some o ≡ true → is_some p ≡ true
slot_some o p (Stays e) h = some_faced p ∙ ap is_some e ∙ sym (some_faced o) ∙ h
slot_some o p (Made u j console none is) h = ap is_some is

abbrev pub JobsStay : Machine → Machine → Type 0
JobsStay m n = (k : ℕ) → is_some (m.jobs k) ≡ true → is_some (n.jobs k) ≡ true

pub job_stays : (m : Machine) (s : ℕ) (f : Whole → Whole) → JobsStay m (in_job m s f)
job_stays m s f k h = by (k == s) (m.jobs k) h
  where
    by : (x : Bool) (o : Option Whole) → is_some o ≡ true → is_some (if x then option_map f o else o) ≡ true
    by true (Some q) h = refl
    by true None h = h
    by false o h = h

words_stay : (m : Machine) (s i : ℕ) (ws : List ℕ) → JobsStay m (effects (words_appended i ws) s m)
unfolding effect
words_stay m s i [] k h = h
words_stay m s i (w ∷ ws) k h = words_stay (effect (changes.Append i w) s m) s i ws k (job_stays m s _ k h)

restored_stays : (m n : Machine) (line : StateLine) → Restores m line n → JobsStay m n
unfolding effect
restored_stays m n (states.Job s u j console) f = λ k h. slot_some (m.jobs k) (n.jobs k) ((job_keeps m n s u j console f).slots k) h
restored_stays m n (states.Alarm s period next) f = subst (JobsStay m) (sym f.is) (job_stays m s _)
restored_stays m n (states.Under s t) f = subst (JobsStay m) (sym f.is) (job_stays m s _)
restored_stays m n (states.Tty s i write) f = subst (JobsStay m) (sym f.is) (job_stays m s _)
restored_stays m n (states.Disk s i d x y at) f = subst (JobsStay m) (sym f.is) (job_stays m s _)
restored_stays m n (states.Draft s i d x y) f = subst (JobsStay m) (sym f.is) (job_stays m s _)
restored_stays m n (states.Wrote s i words) f = subst (JobsStay m) (sym f.is) (words_stay m s i words.items)
restored_stays m n (states.Usr s i t write at) f = subst (JobsStay m) (sym f.is) (job_stays m s _)
restored_stays m n (states.Join s i l write x y) f = subst (JobsStay m) (sym f.is) (job_stays m s _)
restored_stays m n (states.Sent l words) f = subst (JobsStay m) (sym f.is) (λ k h. h)
restored_stays m n (states.EndShut l write) f = subst (JobsStay m) (sym f.is) (λ k h. h)
restored_stays m n (states.Input c bytes) f = subst (JobsStay m) (sym f.is) (λ k h. h)
restored_stays m n (states.Output c bytes) f = subst (JobsStay m) (sym f.is) (λ k h. h)
restored_stays m n (states.Hold c s) f = subst (JobsStay m) (sym f.is) (λ k h. h)
restored_stays m n line f = λ k h. slot_some (m.jobs k) (n.jobs k) (f.slots k) h

pub line_stays : (m n : Machine) (b c : Block) (e : Event) (out : List Line) (touched : ℕ → Bool) → lined m b e ≡ Done (Does n out touched c)
    → JobsStay m n
line_stays m n b c e out touched is = by e (line_does m n b c e out touched is)
  where
    by : (e : Event) → Leaves m e n → JobsStay m n
    by (events.Restore line) h = restored_stays m n line h
    by e h = λ k x. slot_some (m.jobs k) (n.jobs k) (h.slots k) x
