-- What a line of the state part has found if it is obeyed, and the machine that it leads to. Those
-- that are lines of the rest of a session too are in CallLineLaws.
use Rattle.std.specs.Prelude.{◌≡◌, ◌≤◌, ◌<◌, ◌&&◌, ℕ, Bool, true, false, not, Option, Some, None, List, [], ◌∷◌, ◌++◌, Result, Ok, Err, map, length, is_some, is_none, nat_le, nat_lt, option_map, refl}
use Rattle.std.proofs.Common.{ap, subst}
use Rattle.std.proofs.lemmas.Bool.{and_parts, eqb-true, leb-true, ltb-true}
use Rattle.its_word.specs.Console.{most_waiting}
use Rattle.its_word.specs.Limits.{slots}
use Rattle.its_records.specs.Links.{most_links}
use Rattle.its_records.specs.Tree.{climbs_to}
use Rattle.its_records.specs.declared.session.Reason.{Reason}
use Rattle.its_records.specs.declared.session.Reason.TheVariants.{Range, NoJob, NoFile, Exists, Full, Unfit}
use Rattle.its_frame.specs.declared.change.Change.{Change}
use Rattle.its_frame.specs.declared.change.Change.TheVariants as changes
use Rattle.its_plain.specs.Machine.{Names, Chan, Shut, TtyIn, TtyOut, Reads, Writes, On, Machine, with_new, limit}
use Rattle.its_plain.specs.Machine.Change.{on_console, on_link, in_job, superiors, console_in, channel_in, effect, effects}
use Rattle.its_plain.specs.Call.Basic.{is_shut, longest_period}
use Rattle.its_plain.specs.Call.File.{has_file, is_full}
use Rattle.its_plain.specs.Operator.{and_then}
use Rattle.its_plain.specs.Operator.Files.{channels_of}
use Rattle.its_plain.specs.Operator.Jobs.{new_job}
use Rattle.its_plain.specs.Operator.State.{provided_if, provided, has_job, with_job_made, may_come, with_alarm_set, under, with_superior_set, can_open, channel_opened, on_tty, with_tty, with_disk, with_draft, with_word_to, with_all_written, with_words_written, is_slot, with_usr, can_join, with_link, has_room, with_words_in, with_words_sent, has_unopened, with_end_closed, with_end_shut, bytes_of, with_bytes, with_bytes_waiting, with_holder_set}
use Rattle.its_plain.proofs.ProvidedLaws.{AllHold}

-- this holds of the machine that a result is
abbrev pub OkBy : (Machine → Type 0) → Result Machine Reason → Type 0
OkBy P (Ok n) = P n
OkBy P (Err r) = Unit {0}

-- it holds after a line if it follows from the tests of the line
pub provided_then : (P : Machine → Type 0) (ts : List (Bool × Reason)) (m : Machine) → (AllHold ts → P m) → OkBy P (provided ts m)
provided_then P [] m h = h tt
provided_then P (t ∷ ts) m h = by t.0 refl (λ g. provided_then P ts m g)
  where
    by : (b : Bool) → t.0 ≡ b → ((AllHold ts → P m) → OkBy P (provided ts m)) → OkBy P (provided_if b t.1 (provided ts m))
    by true e rest = rest (λ a. h (e, a))
    by false e rest = tt

pub none_is : {X : Type 0} (o : Option X) → is_none o ≡ true → o ≡ None
none_is None h = refl
none_is (Some x) h = cc

false_is : (b : Bool) → not b ≡ true → b ≡ false
false_is false h = refl
false_is true h = cc

shut_is : (c : Chan) → is_shut c ≡ true → c ≡ Shut
shut_is Shut h = refl
shut_is _ h = cc

-- JOB
pub record MakesJob (m : Machine) (s u j : ℕ) (console : Option ℕ) (n : Machine) : Type 0 where
  pub few : s < limit m
  pub free : m.jobs s ≡ None
  pub is : n ≡ with_new m s (new_job u j console)

pub job_made : (m : Machine) (s u j : ℕ) (console : Option ℕ) → OkBy (MakesJob m s u j console) (with_job_made m s u j console)
unfolding with_job_made
job_made m s u j console =
    provided_then (MakesJob m s u j console) ((nat_lt s (limit m), Range) ∷ (is_none (m.jobs s), Exists) ∷ []) (with_new m s (new_job u j console))
    (λ h. record { few = ltb-true s (limit m) h.0; free = none_is (m.jobs s) h.1.0; is = refl })

-- ALARM
pub record SetsAlarm (m : Machine) (s period next : ℕ) (n : Machine) : Type 0 where
  pub some : 1 ≤ period
  pub most : period ≤ longest_period
  pub later : m.clock < next
  pub job : is_some (m.jobs s) ≡ true
  pub is : n ≡ effect (changes.Arm (Some (period, next))) s m

all_three : (a b c : Bool) → (a && b && c) ≡ true → (a ≡ true) × (b ≡ true) × (c ≡ true)
all_three true true true h = (refl, refl, refl)
all_three true true false h = cc
all_three true false c h = cc
all_three false b c h = cc

pub alarm_set : (m : Machine) (s period next : ℕ) → OkBy (SetsAlarm m s period next) (with_alarm_set m s period next)
unfolding with_alarm_set
alarm_set m s period next =
    provided_then (SetsAlarm m s period next) ((may_come m.clock period next, Range) ∷ (has_job m s, NoJob) ∷ [])
    (effect (changes.Arm (Some (period, next))) s m)
    (λ h.
    let come = all_three (nat_le 1 period) (nat_le period longest_period) (nat_lt m.clock next) h.0 in
    record {
      some = leb-true 1 period come.0;
      most = leb-true period longest_period come.1;
      later = ltb-true m.clock next come.2;
      job = h.1.0;
      is = refl;
    })

-- UNDER
pub record SetsSuperior (m : Machine) (s t : ℕ) (n : Machine) : Type 0 where
  pub job : is_some (m.jobs s) ≡ true
  pub superior : is_some (m.jobs t) ≡ true
  pub top : superiors m s ≡ None
  pub apart : climbs_to (superiors m) s slots (Some t) ≡ false
  pub is : n ≡ in_job m s (under t)

pub superior_set : (m : Machine) (s t : ℕ) → OkBy (SetsSuperior m s t) (with_superior_set m s t)
unfolding with_superior_set
superior_set m s t =
    provided_then (SetsSuperior m s t)
    ((has_job m s && has_job m t, NoJob) ∷ (is_none (superiors m s), Exists) ∷ (not (climbs_to (superiors m) s slots (Some t)), Unfit) ∷ [])
    (in_job m s (under t))
    (λ h.
    let both = and_parts (has_job m s) (has_job m t) h.0 in
    record {
      job = both.0;
      superior = both.1;
      top = none_is (superiors m s) h.1.0;
      apart = false_is (climbs_to (superiors m) s slots (Some t)) h.1.1.0;
      is = refl;
    })

-- TTY, DSK, DRAFT and USR: what a channel is opened on
abbrev pub FitsOn : Machine → ℕ → Chan → Type 0
FitsOn m s TtyIn = is_some (console_in (m.jobs s)) ≡ true
FitsOn m s TtyOut = is_some (console_in (m.jobs s)) ≡ true
FitsOn m s (Reads names at) = has_file names m.files ≡ true
FitsOn m s (Writes f) = f.words ≡ []
FitsOn m s (On t write at) = superiors m t ≡ Some s
FitsOn m s _ = ⊥

pub record Opens (m : Machine) (s i : ℕ) (x : Chan) (n : Machine) : Type 0 where
  pub few : i < 16
  pub job : is_some (m.jobs s) ≡ true
  pub shut : channel_in (m.jobs s) i ≡ Shut
  pub fits : FitsOn m s x
  pub is : n ≡ channel_opened m s i x

opens : (m : Machine) (s i : ℕ) (x : Chan) → nat_lt i 16 ≡ true → has_job m s ≡ true → is_shut (channel_in (m.jobs s) i) ≡ true → FitsOn m s x
    → Opens m s i x (channel_opened m s i x)
opens m s i x few job shut fits = record {
  few = ltb-true i 16 few;
  job = job;
  shut = shut_is (channel_in (m.jobs s) i) shut;
  fits = fits;
  is = refl;
}

tty_fits : (m : Machine) (s : ℕ) (write : Bool) → is_some (console_in (m.jobs s)) ≡ true → FitsOn m s (on_tty write)
tty_fits m s true h = h
tty_fits m s false h = h

pub tty_opened : (m : Machine) (s i : ℕ) (write : Bool) → OkBy (Opens m s i (on_tty write)) (with_tty m s i write)
unfolding with_tty
tty_opened m s i write =
    provided_then (Opens m s i (on_tty write)) (can_open m s i ++ (is_some (console_in (m.jobs s)), Unfit) ∷ []) (channel_opened m s i (on_tty write))
    (λ h. opens m s i (on_tty write) h.0 h.1.0 h.1.1.0 (tty_fits m s write h.1.1.1.0))

pub disk_opened : (m : Machine) (s i : ℕ) (names : Names) (at : ℕ) → OkBy (Opens m s i (Reads names at)) (with_disk m s i names at)
unfolding with_disk
disk_opened m s i names at =
    provided_then (Opens m s i (Reads names at)) (can_open m s i ++ (has_file names m.files, NoFile) ∷ []) (channel_opened m s i (Reads names at))
    (λ h. opens m s i (Reads names at) h.0 h.1.0 h.1.1.0 h.1.1.1.0)

abbrev pub empty_draft : Names → Chan
empty_draft names = Writes (record { names = names; words = [] })

pub draft_opened : (m : Machine) (s i : ℕ) (names : Names) → OkBy (Opens m s i (empty_draft names)) (with_draft m s i names)
unfolding with_draft
draft_opened m s i names =
    provided_then (Opens m s i (empty_draft names)) (can_open m s i) (channel_opened m s i (empty_draft names))
    (λ h. opens m s i (empty_draft names) h.0 h.1.0 h.1.1.0 refl)

slot_is : (s : ℕ) (o : Option ℕ) → is_slot s o ≡ true → o ≡ Some s
slot_is s (Some k) h = ap Some (eqb-true k s h)
slot_is s None h = cc

pub usr_opened : (m : Machine) (s i t : ℕ) (write : Bool) (at : ℕ) → OkBy (Opens m s i (On t write at)) (with_usr m s i t write at)
unfolding with_usr
usr_opened m s i t write at =
    provided_then (Opens m s i (On t write at)) (can_open m s i ++ (is_slot s (superiors m t), Unfit) ∷ []) (channel_opened m s i (On t write at))
    (λ h. opens m s i (On t write at) h.0 h.1.0 h.1.1.0 (slot_is s (superiors m t) h.1.1.1.0))

-- WROTE: one change for each word
abbrev pub words_appended : ℕ → List ℕ → List Change
words_appended i ws = map (changes.Append i) ws

pub record WritesWords (m : Machine) (s i : ℕ) (ws : List ℕ) (n : Machine) : Type 0 where
  pub few : i < 16
  pub job : is_some (m.jobs s) ≡ true
  pub is : n ≡ effects (words_appended i ws) s m

word_written : (m : Machine) (s i w : ℕ) (c : Chan) → OkBy (λ k. k ≡ effect (changes.Append i w) s m) (with_word_to m s i w c)
word_written m s i w (Writes f) =
    provided_then (λ k. k ≡ effect (changes.Append i w) s m) ((not (is_full m.files (channels_of m) f.words), Full) ∷ [])
    (effect (changes.Append i w) s m) (λ h. refl)
word_written m s i w _ = tt

pub all_written : (m : Machine) (s i : ℕ) (ws : List ℕ) → OkBy (λ k. k ≡ effects (words_appended i ws) s m) (with_all_written m s i ws)
all_written m s i [] = refl
all_written m s i (w ∷ ws) =
    go (with_word_to m s i w (channel_in (m.jobs s) i)) (word_written m s i w (channel_in (m.jobs s) i)) (λ n. all_written n s i ws)
  where
    go : (r : Result Machine Reason) → OkBy (λ k. k ≡ effect (changes.Append i w) s m) r
        → ((n : Machine) → OkBy (λ k. k ≡ effects (words_appended i ws) s n) (with_all_written n s i ws))
        → OkBy (λ k. k ≡ effects (words_appended i ws) s (effect (changes.Append i w) s m)) (and_then r (λ k. with_all_written k s i ws))
    go (Ok n) e h = subst (λ (x : Machine). OkBy (λ k. k ≡ effects (words_appended i ws) s x) (with_all_written n s i ws)) e (h n)
    go (Err r) e h = tt

pub words_written : (m : Machine) (s i : ℕ) (ws : List ℕ) → OkBy (WritesWords m s i ws) (with_words_written m s i ws)
unfolding with_words_written
words_written m s i ws = by (nat_lt i 16) (has_job m s) refl refl
  where
    facts : (r : Result Machine Reason) → i < 16 → is_some (m.jobs s) ≡ true → OkBy (λ k. k ≡ effects (words_appended i ws) s m) r
        → OkBy (WritesWords m s i ws) r
    facts (Ok n) few job h = record { few = few; job = job; is = h }
    facts (Err r) few job h = tt

    by : (a b : Bool) → nat_lt i 16 ≡ a → has_job m s ≡ b
        → OkBy (WritesWords m s i ws) (and_then (provided ((a, Range) ∷ (b, NoJob) ∷ []) m) (λ k. with_all_written k s i ws))
    by true true few job = facts (with_all_written m s i ws) (ltb-true i 16 few) job (all_written m s i ws)
    by true false few job = tt
    by false b few job = tt

-- LNK
pub record Joins (m : Machine) (s i l : ℕ) (write : Bool) (x y : ℕ) (n : Machine) : Type 0 where
  pub link : l < most_links
  pub few : i < 16
  pub job : is_some (m.jobs s) ≡ true
  pub shut : channel_in (m.jobs s) i ≡ Shut
  pub fits : can_join x y write (m.links l) ≡ true
  pub is : n ≡ effect (changes.Join i l write x y) s m

pub link_joined : (m : Machine) (s i l : ℕ) (write : Bool) (x y : ℕ) → OkBy (Joins m s i l write x y) (with_link m s i l write x y)
unfolding with_link
link_joined m s i l write x y =
    provided_then (Joins m s i l write x y) ((nat_lt l most_links, Range) ∷ can_open m s i ++ (can_join x y write (m.links l), Exists) ∷ [])
    (effect (changes.Join i l write x y) s m)
    (λ h. record {
      link = ltb-true l most_links h.0;
      few = ltb-true i 16 h.1.0;
      job = h.1.1.0;
      shut = shut_is (channel_in (m.jobs s) i) h.1.1.1.0;
      fits = h.1.1.1.1.0;
      is = refl;
    })

-- SENT
pub record Sends (m : Machine) (l : ℕ) (ws : List ℕ) (n : Machine) : Type 0 where
  pub link : is_some (m.links l) ≡ true
  pub room : has_room ws (m.links l) ≡ true
  pub is : n ≡ on_link m l (option_map (with_words_in ws))

pub words_sent : (m : Machine) (l : ℕ) (ws : List ℕ) → OkBy (Sends m l ws) (with_words_sent m l ws)
unfolding with_words_sent
words_sent m l ws =
    provided_then (Sends m l ws) ((is_some (m.links l), Unfit) ∷ (has_room ws (m.links l), Full) ∷ []) (on_link m l (option_map (with_words_in ws)))
    (λ h. record { link = h.0; room = h.1.0; is = refl })

-- SHUT
pub record ShutsEnd (m : Machine) (l : ℕ) (write : Bool) (n : Machine) : Type 0 where
  pub link : is_some (m.links l) ≡ true
  pub unopened : has_unopened write (m.links l) ≡ true
  pub is : n ≡ on_link m l (option_map (with_end_closed write))

pub end_shut : (m : Machine) (l : ℕ) (write : Bool) → OkBy (ShutsEnd m l write) (with_end_shut m l write)
unfolding with_end_shut
end_shut m l write =
    provided_then (ShutsEnd m l write) ((is_some (m.links l), Unfit) ∷ (has_unopened write (m.links l), Exists) ∷ [])
    (on_link m l (option_map (with_end_closed write)))
    (λ h. record { link = h.0; unopened = h.1.0; is = refl })

-- IN and OUT
pub record PutsBytes (m : Machine) (c : ℕ) (out : Bool) (bs : List ℕ) (n : Machine) : Type 0 where
  pub room : length (bytes_of out (m.consoles c) ++ bs) ≤ most_waiting
  pub is : n ≡ on_console m c (with_bytes out bs)

pub bytes_put : (m : Machine) (c : ℕ) (out : Bool) (bs : List ℕ) → OkBy (PutsBytes m c out bs) (with_bytes_waiting m c out bs)
unfolding with_bytes_waiting
bytes_put m c out bs =
    provided_then (PutsBytes m c out bs) ((nat_le (length (bytes_of out (m.consoles c) ++ bs)) most_waiting, Full) ∷ []) (on_console m c (with_bytes out bs))
    (λ h. record { room = leb-true (length (bytes_of out (m.consoles c) ++ bs)) most_waiting h.0; is = refl })

-- HOLD
pub record SetsHolder (m : Machine) (c s : ℕ) (n : Machine) : Type 0 where
  pub job : is_some (m.jobs s) ≡ true
  pub free : m.holders c ≡ None
  pub is : n ≡ effect (changes.Hold c s) s m

pub holder_set : (m : Machine) (c s : ℕ) → OkBy (SetsHolder m c s) (with_holder_set m c s)
unfolding with_holder_set
holder_set m c s =
    provided_then (SetsHolder m c s) ((has_job m s, NoJob) ∷ (is_none (m.holders c), Exists) ∷ []) (effect (changes.Hold c s) s m)
    (λ h. record { job = h.0; free = none_is (m.holders c) h.1.0; is = refl })
