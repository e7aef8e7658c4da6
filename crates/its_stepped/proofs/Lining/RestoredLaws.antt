-- A line of the state part does the same on the stepped machine and on its plain machine: its tests
-- are the same there, and so is the change that it makes. Those that are lines of the rest of a
-- session too are in LineLaws.
use Rattle.std.specs.Prelude.{◌≡◌, ◌&&◌, ℕ, Bool, true, false, not, Option, Some, None, List, [], ◌∷◌, ◌++◌, Result, Ok, length, is_some, is_none, nat_le, nat_lt, option_map, refl}
use Rattle.std.proofs.Common.{sym, ◌∙◌, ap}
use Rattle.its_word.specs.Console.{most_waiting}
use Rattle.its_word.specs.Limits.{slots}
use Rattle.its_records.specs.Links.{most_links}
use Rattle.its_records.specs.Tree.{climbs_to}
use Rattle.its_records.specs.declared.session.Reason.{Reason}
use Rattle.its_records.specs.declared.session.Reason.TheVariants.{Range, NoJob, NoFile, Exists, Full, Unfit}
use Rattle.its_frame.specs.declared.change.Change.TheVariants as changes
use Rattle.its_plain.specs.Machine.{Names, Chan, Reads, Writes, On, Pipe, Console, Whole, Machine, with_new, limit}
use Rattle.its_plain.specs.Machine.Own.{on_channel}
use Rattle.its_plain.specs.Machine.Change.{on_console, on_link, in_job, superiors, console_in, channel_in, effect}
use Rattle.its_plain.specs.Call.Basic.{is_shut}
use Rattle.its_plain.specs.Call.File.{has_file, is_full}
use Rattle.its_plain.specs.Operator.{and_then}
use Rattle.its_plain.specs.Operator.Files.{channels_of}
use Rattle.its_plain.specs.Operator.Jobs.{new_job}
use Rattle.its_plain.specs.Operator.State.{provided_if, provided, has_job, with_job_made, may_come, with_alarm_set, under, with_superior_set, can_open, channel_opened, on_tty, with_tty, with_disk, with_draft, with_word_to, with_all_written, with_words_written, is_slot, with_usr, can_join, with_link, has_room, with_words_in, with_words_sent, has_unopened, with_end_closed, with_end_shut, bytes_of, with_bytes, with_bytes_waiting, with_holder_set}
use Rattle.its_plain.proofs.MachineLaws.{jobs_are}
use Rattle.its_plain.proofs.ProvidedLaws.{AllHold}
use Rattle.its_plain.proofs.RestoredLaws.{none_is, empty_draft}
use Rattle.its_stepped.specs.State.{State, plain}
use Rattle.its_stepped.specs.Commit.{effect_on}
use Rattle.its_stepped.specs.Sound.{Sound}
use Rattle.its_stepped.specs.Lines.{with_raw}
use Rattle.its_stepped.proofs.Committing.EffectLaws.{frame_moves, in_job_plain, seen_channel, channel_seen, console_seen, superiors_plain, unmarked_files, effect_plain}
use Rattle.its_stepped.proofs.Lining.LiftLaws.{job_put, lift, then_lifted, some_alike, channels_plain, free_frame}

-- what a line tests is the same on both
pub has_job_plain : (v : State) (s : ℕ) → has_job (plain v) s ≡ has_job v.raw s
unfolding plain
has_job_plain v s = some_alike (v.frames s) (v.raw.jobs s)

channel_plain : (v : State) (s i : ℕ) → channel_in ((plain v).jobs s) i ≡ channel_in (v.raw.jobs s) i
unfolding plain
channel_plain v s i = channel_seen (v.frames s) (v.raw.jobs s) i

console_plain : (v : State) (s : ℕ) → console_in ((plain v).jobs s) ≡ console_in (v.raw.jobs s)
unfolding plain
console_plain v s = console_seen (v.frames s) (v.raw.jobs s)

same_clock : (v : State) → (plain v).clock ≡ v.raw.clock
unfolding plain
same_clock v = refl

same_limit : (v : State) → limit (plain v) ≡ limit v.raw
unfolding plain
same_limit v = refl

same_link : (v : State) (l : ℕ) → (plain v).links l ≡ v.raw.links l
unfolding plain
same_link v l = refl

same_console : (v : State) (c : ℕ) → (plain v).consoles c ≡ v.raw.consoles c
unfolding plain
same_console v c = refl

same_holder : (v : State) (c : ℕ) → (plain v).holders c ≡ v.raw.holders c
unfolding plain
same_holder v c = refl

-- the same tests, and the same change if all of them hold
holds_lifted : (v : State) (ts : List (Bool × Reason)) (m n : Machine) → (AllHold ts → m ≡ plain (with_raw v n)) → provided ts m ≡ lift v (provided ts n)
holds_lifted v [] m n h = ap Ok (h tt)
holds_lifted v (t ∷ ts) m n h = by t.0 refl (λ g. holds_lifted v ts m n g)
  where
    by : (b : Bool) → t.0 ≡ b → ((AllHold ts → m ≡ plain (with_raw v n)) → provided ts m ≡ lift v (provided ts n))
        → provided_if b t.1 (provided ts m) ≡ lift v (provided_if b t.1 (provided ts n))
    by true e rest = rest (λ a. h (e, a))
    by false e rest = refl

provided_lifted : (v : State) (ts us : List (Bool × Reason)) (m n : Machine) → ts ≡ us → (AllHold us → m ≡ plain (with_raw v n))
    → provided ts m ≡ lift v (provided us n)
provided_lifted v ts us m n same h = ap (λ (xs : List (Bool × Reason)). provided xs m) same ∙ holds_lifted v us m n h

-- JOB
new_plain : (v : State) (s : ℕ) (q : Whole) → v.frames s ≡ None → with_new (plain v) s q ≡ plain (with_raw v (with_new v.raw s q))
unfolding plain
new_plain v s q e = sym (jobs_are _ _ (λ k. job_put v s q k e) refl)

pub job_lifted : (v : State) (s u j : ℕ) (console : Option ℕ) → Sound v → with_job_made (plain v) s u j console ≡ lift v (with_job_made v.raw s u j console)
unfolding with_job_made
job_lifted v s u j console sound =
    provided_lifted v _ ((nat_lt s (limit v.raw), Range) ∷ (is_none (v.raw.jobs s), Exists) ∷ []) _ (with_new v.raw s (new_job u j console))
    (λ t. (nat_lt s (same_limit v t), Range) ∷ (not (has_job_plain v s t), Exists) ∷ [])
    (λ h. new_plain v s (new_job u j console) (free_frame v s sound (none_is (v.raw.jobs s) h.1.0)))

-- ALARM
armed_plain : (v : State) (s : ℕ) (alarm : Option (ℕ × ℕ)) → effect (changes.Arm alarm) s (plain v) ≡ plain (with_raw v (effect (changes.Arm alarm) s v.raw))
unfolding effect_on
armed_plain v s alarm = sym (effect_plain (changes.Arm alarm) s v tt)

pub alarm_lifted : (v : State) (s period next : ℕ) → with_alarm_set (plain v) s period next ≡ lift v (with_alarm_set v.raw s period next)
unfolding with_alarm_set
alarm_lifted v s period next =
    provided_lifted v _ ((may_come v.raw.clock period next, Range) ∷ (has_job v.raw s, NoJob) ∷ []) _ (effect (changes.Arm (Some (period, next))) s v.raw)
    (λ t. (may_come (same_clock v t) period next, Range) ∷ (has_job_plain v s t, NoJob) ∷ []) (λ h. armed_plain v s (Some (period, next)))

-- UNDER
under_plain : (v : State) (s t : ℕ) → in_job (plain v) s (under t) ≡ plain (with_raw v (in_job v.raw s (under t)))
under_plain v s t = sym (in_job_plain v s (under t) (λ q. frame_moves (under t) (λ p. refl) (λ ss p. refl) (λ e p. refl) (v.frames s) q))

pub superior_lifted : (v : State) (s t : ℕ) → with_superior_set (plain v) s t ≡ lift v (with_superior_set v.raw s t)
unfolding with_superior_set
superior_lifted v s t =
    provided_lifted v _
    ((has_job v.raw s && has_job v.raw t, NoJob) ∷ (is_none (superiors v.raw s), Exists) ∷ (not (climbs_to (superiors v.raw) s slots (Some t)), Unfit) ∷ [])
    _ (in_job v.raw s (under t))
    (λ i. (has_job_plain v s i && has_job_plain v t i, NoJob) ∷ (is_none (superiors_plain v i s), Exists)
    ∷ (not (climbs_to (superiors_plain v i) s slots (Some t)), Unfit) ∷ [])
    (λ h. under_plain v s t)

-- TTY, DSK, DRAFT and USR
can_open_plain : (v : State) (s i : ℕ) → can_open (plain v) s i ≡ can_open v.raw s i
can_open_plain v s i = λ t. (nat_lt i 16, Range) ∷ (has_job_plain v s t, NoJob) ∷ (is_shut (channel_plain v s i t), Exists) ∷ []

opened_plain : (v : State) (s i : ℕ) (x : Chan) → channel_opened (plain v) s i x ≡ plain (with_raw v (channel_opened v.raw s i x))
opened_plain v s i x = sym (in_job_plain v s (on_channel i (λ c. x)) (seen_channel i (λ c. x) (v.frames s)))

pub tty_lifted : (v : State) (s i : ℕ) (write : Bool) → with_tty (plain v) s i write ≡ lift v (with_tty v.raw s i write)
unfolding with_tty
tty_lifted v s i write =
    provided_lifted v _ (can_open v.raw s i ++ (is_some (console_in (v.raw.jobs s)), Unfit) ∷ []) _ (channel_opened v.raw s i (on_tty write))
    (λ t. can_open_plain v s i t ++ (is_some (console_plain v s t), Unfit) ∷ []) (λ h. opened_plain v s i (on_tty write))

pub disk_lifted : (v : State) (s i : ℕ) (names : Names) (at : ℕ) → v.mark ≡ None → with_disk (plain v) s i names at ≡ lift v (with_disk v.raw s i names at)
unfolding with_disk
disk_lifted v s i names at e =
    provided_lifted v _ (can_open v.raw s i ++ (has_file names v.raw.files, NoFile) ∷ []) _ (channel_opened v.raw s i (Reads names at))
    (λ t. can_open_plain v s i t ++ (has_file names (unmarked_files v e t), NoFile) ∷ []) (λ h. opened_plain v s i (Reads names at))

pub draft_lifted : (v : State) (s i : ℕ) (names : Names) → with_draft (plain v) s i names ≡ lift v (with_draft v.raw s i names)
unfolding with_draft
draft_lifted v s i names =
    provided_lifted v _ (can_open v.raw s i) _ (channel_opened v.raw s i (empty_draft names)) (can_open_plain v s i)
    (λ h. opened_plain v s i (empty_draft names))

pub usr_lifted : (v : State) (s i t : ℕ) (write : Bool) (at : ℕ) → with_usr (plain v) s i t write at ≡ lift v (with_usr v.raw s i t write at)
unfolding with_usr
usr_lifted v s i t write at =
    provided_lifted v _ (can_open v.raw s i ++ (is_slot s (superiors v.raw t), Unfit) ∷ []) _ (channel_opened v.raw s i (On t write at))
    (λ x. can_open_plain v s i x ++ (is_slot s (superiors_plain v x t), Unfit) ∷ []) (λ h. opened_plain v s i (On t write at))

-- WROTE
appended_plain : (v : State) (s i w : ℕ) → effect (changes.Append i w) s (plain v) ≡ plain (with_raw v (effect (changes.Append i w) s v.raw))
unfolding effect_on
appended_plain v s i w = sym (effect_plain (changes.Append i w) s v tt)

word_lifted : (v : State) (s i w : ℕ) (c : Chan) → v.mark ≡ None → with_word_to (plain v) s i w c ≡ lift v (with_word_to v.raw s i w c)
word_lifted v s i w (Writes f) e =
    provided_lifted v _ ((not (is_full v.raw.files (channels_of v.raw) f.words), Full) ∷ []) _ (effect (changes.Append i w) s v.raw)
    (λ t. (not (is_full (unmarked_files v e t) (channels_plain v t) f.words), Full) ∷ []) (λ h. appended_plain v s i w)
word_lifted v s i w _ e = refl

all_lifted : (v : State) (s i : ℕ) (ws : List ℕ) → v.mark ≡ None → with_all_written (plain v) s i ws ≡ lift v (with_all_written v.raw s i ws)
all_lifted v s i [] e = refl
all_lifted v s i (w ∷ ws) e =
    ap (λ (c : Chan). and_then (with_word_to (plain v) s i w c) (λ k. with_all_written k s i ws)) (channel_plain v s i)
    ∙ ap (λ r. and_then r (λ k. with_all_written k s i ws)) (word_lifted v s i w (channel_in (v.raw.jobs s) i) e)
    ∙ then_lifted v (with_word_to v.raw s i w (channel_in (v.raw.jobs s) i)) (λ k. with_all_written k s i ws) (λ k. all_lifted (with_raw v k) s i ws e)

pub wrote_lifted : (v : State) (s i : ℕ) (ws : List ℕ) → v.mark ≡ None → with_words_written (plain v) s i ws ≡ lift v (with_words_written v.raw s i ws)
unfolding with_words_written
wrote_lifted v s i ws e =
    ap (λ (r : Result Machine Reason). and_then r (λ k. with_all_written k s i ws))
    (provided_lifted v _ ((nat_lt i 16, Range) ∷ (has_job v.raw s, NoJob) ∷ []) (plain v) v.raw
    (λ t. (nat_lt i 16, Range) ∷ (has_job_plain v s t, NoJob) ∷ []) (λ h. refl))
    ∙ then_lifted v (provided ((nat_lt i 16, Range) ∷ (has_job v.raw s, NoJob) ∷ []) v.raw) (λ k. with_all_written k s i ws)
    (λ k. all_lifted (with_raw v k) s i ws e)

-- LNK
joined_plain : (v : State) (s i l : ℕ) (write : Bool) (x y : ℕ)
    → effect (changes.Join i l write x y) s (plain v) ≡ plain (with_raw v (effect (changes.Join i l write x y) s v.raw))
unfolding effect_on
joined_plain v s i l write x y = sym (effect_plain (changes.Join i l write x y) s v tt)

pub link_lifted : (v : State) (s i l : ℕ) (write : Bool) (x y : ℕ) → with_link (plain v) s i l write x y ≡ lift v (with_link v.raw s i l write x y)
unfolding with_link
link_lifted v s i l write x y =
    provided_lifted v _ ((nat_lt l most_links, Range) ∷ can_open v.raw s i ++ (can_join x y write (v.raw.links l), Exists) ∷ []) _
    (effect (changes.Join i l write x y) s v.raw)
    (λ t. (nat_lt l most_links, Range) ∷ can_open_plain v s i t ++ (can_join x y write (same_link v l t), Exists) ∷ []) (λ h. joined_plain v s i l write x y)

-- SENT and SHUT
linked_plain : (v : State) (l : ℕ) (f : Option Pipe → Option Pipe) → on_link (plain v) l f ≡ plain (with_raw v (on_link v.raw l f))
unfolding plain
linked_plain v l f = refl

pub sent_lifted : (v : State) (l : ℕ) (ws : List ℕ) → with_words_sent (plain v) l ws ≡ lift v (with_words_sent v.raw l ws)
unfolding with_words_sent
sent_lifted v l ws =
    provided_lifted v _ ((is_some (v.raw.links l), Unfit) ∷ (has_room ws (v.raw.links l), Full) ∷ []) _ (on_link v.raw l (option_map (with_words_in ws)))
    (λ t. (is_some (same_link v l t), Unfit) ∷ (has_room ws (same_link v l t), Full) ∷ []) (λ h. linked_plain v l (option_map (with_words_in ws)))

pub shut_lifted : (v : State) (l : ℕ) (write : Bool) → with_end_shut (plain v) l write ≡ lift v (with_end_shut v.raw l write)
unfolding with_end_shut
shut_lifted v l write =
    provided_lifted v _ ((is_some (v.raw.links l), Unfit) ∷ (has_unopened write (v.raw.links l), Exists) ∷ []) _
    (on_link v.raw l (option_map (with_end_closed write)))
    (λ t. (is_some (same_link v l t), Unfit) ∷ (has_unopened write (same_link v l t), Exists) ∷ [])
    (λ h. linked_plain v l (option_map (with_end_closed write)))

-- IN, OUT and HOLD
waiting_plain : (v : State) (c : ℕ) (f : Console → Console) → on_console (plain v) c f ≡ plain (with_raw v (on_console v.raw c f))
unfolding plain
waiting_plain v c f = refl

pub bytes_lifted : (v : State) (c : ℕ) (out : Bool) (bs : List ℕ) → with_bytes_waiting (plain v) c out bs ≡ lift v (with_bytes_waiting v.raw c out bs)
unfolding with_bytes_waiting
bytes_lifted v c out bs =
    provided_lifted v _ ((nat_le (length (bytes_of out (v.raw.consoles c) ++ bs)) most_waiting, Full) ∷ []) _ (on_console v.raw c (with_bytes out bs))
    (λ t. (nat_le (length (bytes_of out (same_console v c t) ++ bs)) most_waiting, Full) ∷ []) (λ h. waiting_plain v c (with_bytes out bs))

held_plain : (v : State) (c s : ℕ) → effect (changes.Hold c s) s (plain v) ≡ plain (with_raw v (effect (changes.Hold c s) s v.raw))
unfolding effect_on
held_plain v c s = sym (effect_plain (changes.Hold c s) s v tt)

pub holder_lifted : (v : State) (c s : ℕ) → with_holder_set (plain v) c s ≡ lift v (with_holder_set v.raw c s)
unfolding with_holder_set
holder_lifted v c s =
    provided_lifted v _ ((has_job v.raw s, NoJob) ∷ (is_none (v.raw.holders c), Exists) ∷ []) _ (effect (changes.Hold c s) s v.raw)
    (λ t. (has_job_plain v s t, NoJob) ∷ (is_none (same_holder v c t), Exists) ∷ []) (λ h. held_plain v c s)
