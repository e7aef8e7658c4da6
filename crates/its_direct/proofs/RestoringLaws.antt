-- What the lines of the state part restore: the machine after each of them, and why each is
-- refused.
use Rattle.std.specs.Prelude.{◌≡◌, ◌==◌, ◌<◌, ◌≤◌, ◌+◌, ◌++◌, ◌&&◌, ℕ, Bool, true, false, not, Option, Some, None, is_some, is_none, List, [], ◌∷◌, length, option_map, slice_index_or, nat_lt, nat_le, Result, Ok, Err, refl}
use Rattle.std.proofs.Common.{ap, sym, subst, ◌∙◌, arith}
use Rattle.std.proofs.lemmas.Bool.{lt-ltb, le-ltb, le-leb, lt-leb}
use Rattle.std.proofs.lemmas.List.{get_or_default, length-append}
use Rattle.its_word.specs.Console.{Console, most_waiting, quiet_console}
use Rattle.its_word.specs.Limits.{consoles, limit_of, slots}
use Rattle.its_word.specs.Only.{Only}
use Rattle.its_records.specs.Links.{most_links, most_link_words}
use Rattle.its_records.specs.Refusals.{reason_of}
use Rattle.its_records.specs.Tree.{climbs_to}
use Rattle.its_records.specs.declared.jobs.Channel.{Channel}
use Rattle.its_records.specs.declared.jobs.Channel.TheVariants.{Closed, Writing}
use Rattle.its_records.specs.declared.jobs.Job.{Job}
use Rattle.its_records.specs.declared.session.Reason.{Reason}
use Rattle.its_records.specs.declared.session.Reason.TheVariants as reasons
use Rattle.its_records.specs.declared.session.Refusal.{Refusal}
use Rattle.its_records.specs.declared.session.Refusal.TheVariants as refusals
use Rattle.its_records.specs.declared.state_line.Registers.{Registers}
use Rattle.its_core.specs.Cores.{core_at, clear_at}
use Rattle.its_files.specs.Files.{Store, directory, found}
use Rattle.its_frame.specs.declared.change.Change.TheVariants as changes
use Rattle.its_frame.specs.declared.change.Opened.{Opened}
use Rattle.its_frame.specs.declared.change.Opened.TheVariants as opened
use Rattle.its_jobs.specs.Table.{IsTree, Table, job_at, superior_at}
use Rattle.its_pipes.specs.Pipes.{piped}
use Rattle.its_plain.specs.Call.Basic.{is_shut}
use Rattle.its_plain.specs.Call.File.{has_file}
use Rattle.its_plain.specs.Call.Link.{words_in}
use Rattle.its_plain.specs.Machine.{Chan, Machine, On, Pipe, Reads, Shut, Whole, changed, limit, with_new}
use Rattle.its_plain.specs.Machine.Change.{console_in, effect, in_job, on_console, on_link, superiors, with_alarm}
use Rattle.its_plain.specs.Machine.Own.{at_position, names_of, on_channel, opened_on}
use Rattle.its_plain.specs.Operator.{and_then}
use Rattle.its_plain.specs.Operator.Clock.{clock_end}
use Rattle.its_plain.specs.Operator.Jobs.{new_job, on_registers}
use Rattle.its_plain.specs.Operator.State.{after_registers, bytes_of, can_join, can_open, has_job, has_room, has_unopened, is_slot, may_come, on_tty, provided, provided_if, under, with_alarm_set, with_all_written, with_bytes, with_bytes_waiting, with_disk, with_draft, with_end_closed, with_end_shut, with_holder_set, with_job_made, with_link, with_superior_set, with_tty, with_usr, with_word_to, with_words_in, with_words_sent, with_words_written}
use Rattle.its_plain.proofs.MachineLaws.{machine_is}
use Rattle.its_shared.specs.Across.{Across, channel_at, channel_by}
use Rattle.its_shared.specs.Can.{HasJob, chan_in}
use Rattle.its_shared.specs.Parts.{alarm_at, chan_of, console_at, holder_at, raw_of, symbols_at}
use Rattle.its_shared.proofs.AcrossLaws.{across_table}
use Rattle.its_shared.proofs.PartLaws.{raw_some, slot_at}
use Rattle.its_shared.proofs.StoreLaws.{has_named}
use Rattle.its_direct.specs.Contents.{contents}
use Rattle.its_direct.specs.Effects.{Becomes, console_of}
use Rattle.its_direct.specs.Lines.{Keeps, Operates, Rewritten, one_slot}
use Rattle.its_direct.specs.Plain.{Tidy, machine_of, no_slots}
use Rattle.its_direct.specs.declared.plain.Plain.{Plain}
use Rattle.its_direct.proofs.ActLaws.{becomes_then, twice}
use Rattle.its_direct.proofs.ChannelLaws.{chan_is, files_are}
use Rattle.its_direct.proofs.ConsoleLaws.{console_is}
use Rattle.its_direct.proofs.EachLaws.{changed_again, changed_here}
use Rattle.its_direct.proofs.ContentsLaws.{alarms_as, clock_as, consoles_as, core_as, files_as, holders_as, pipes_as, place_as, symbols_as, touched_as, version_as}
use Rattle.its_direct.proofs.LineLaws.{only_touched, registers_done}
use Rattle.its_direct.proofs.LoadLaws.{console_here}
use Rattle.its_direct.proofs.SlotLaws.{IsPlaced, touched_machine}
use Rattle.its_direct.proofs.TouchLaws.{none_touched}
use Rattle.its_direct.proofs.UserLaws.{nobody_is, own_is}

-- a test that holds, and one that does not
holds : (b : Bool) (r : Reason) (x : Result Machine Reason) → b ≡ true → provided_if b r x ≡ x
holds b r x h = ap (λ (c : Bool). provided_if c r x) h

fails : (b : Bool) (r : Reason) (x : Result Machine Reason) → b ≡ false → provided_if b r x ≡ Err r
fails b r x h = ap (λ (c : Bool). provided_if c r x) h

abbrev refused_for : Refusal → Result Machine Reason
refused_for x = Err (reason_of x)

because : (x y : Refusal) → x ≡ y → refused_for y ≡ refused_for x
because x y e = ap refused_for (sym e)

empty : (m : Machine) (s : ℕ) → m.jobs s ≡ None → has_job m s ≡ false
empty m s none = ap (λ (o : Option Whole). is_some o) none

-- a change of the machine, after which one slot is touched, or none
pub operated : (old mid new : Plain) (s : ℕ) (m : Machine) (r : Result Machine Reason) → s < slots → r ≡ Ok m → Becomes old mid m
    → new ≡ record mid { touched = one_slot s } → Operates old new s r
operated old mid new s m r l is b e = record {
  is = is ∙ ap Ok (sym (touched_machine mid new (one_slot s) e ∙ b.machine));
  touched = only_touched mid new s l e;
  place = ap (λ (p : Plain). p.place) e ∙ b.place;
}

pub quieted : (old mid new : Plain) (m : Machine) (r : Result Machine Reason) → r ≡ Ok m → Becomes old mid m
    → new ≡ record mid { touched = no_slots } → Keeps old new r
quieted old mid new m r is b e = record {
  is = is ∙ ap Ok (sym (touched_machine mid new no_slots e ∙ b.machine));
  touched = none_touched new.touched (ap (λ (p : Plain). p.touched) e);
  place = ap (λ (p : Plain). p.place) e ∙ b.place;
}

-- JOB: the slot is one below the limit
limit_is : (p : Plain) → limit (machine_of p) ≡ limit_of p.version
unfolding machine_of
limit_is p = refl

module _ (p : Plain) (s u j n k : ℕ) (c : Option ℕ) (number : n ≡ s) (most : k ≡ limit_of p.version) where
  pub job_past : k ≤ n → with_job_made (machine_of p) s u j c ≡ Err reasons.Range
  unfolding with_job_made
  job_past l = let e = limit_is p in fails (nat_lt s (limit (machine_of p))) _ _ (le-ltb s (limit (machine_of p)) (omega arith))

  in_limit : n < k → nat_lt s (limit (machine_of p)) ≡ true
  in_limit l = let e = limit_is p in lt-ltb s (limit (machine_of p)) (omega arith)

  pub job_below : n < k → s < p.jobs.limit
  job_below l = let e = p.limited in omega arith

  pub job_there : (i : Job) (o : Option Job) → n < k → o ≡ job_at p.jobs s → o ≡ Some i → with_job_made (machine_of p) s u j c ≡ Err reasons.Exists
  unfolding with_job_made
  job_there i o l is some =
      holds (nat_lt s (limit (machine_of p))) _ _ (in_limit l)
      ∙ fails (is_none ((machine_of p).jobs s)) _ _ (ap (λ (q : Option Whole). is_none q) (own_is p s i (sym is ∙ some)))

  pub job_made : (o : Option Job) (new : Plain) (d : Option ℕ) → n < k → o ≡ job_at p.jobs s → o ≡ None → d ≡ c
      → machine_of new ≡ with_new (machine_of p) s (new_job u j d) → with_job_made (machine_of p) s u j c ≡ Ok (machine_of new)
  unfolding with_job_made
  job_made o new d l is none e made =
      holds (nat_lt s (limit (machine_of p))) _ _ (in_limit l)
      ∙ holds (is_none ((machine_of p).jobs s)) _ _ (ap (λ (q : Option Whole). is_none q) (nobody_is p s (sym is ∙ none)))
      ∙ ap Ok (sym (made ∙ ap (λ (x : Option ℕ). with_new (machine_of p) s (new_job u j x)) e))

pub no_superior : (t new : Table) (s : ℕ) → IsTree t.jobs t.superiors → job_at t s ≡ None → new.superiors ≡ t.superiors
    → Only (superior_at t) (superior_at new) s None
no_superior t new s tree free same = record {
  here = ap (λ (us : List (Option ℕ)). slice_index_or us s None) same ∙ tree.owned s free;
  others = λ k ne. ap (λ (us : List (Option ℕ)). slice_index_or us k None) same;
}

-- REGS
pub regs_done : (old new : Plain) (s : ℕ) (i k : Job) (r : Registers) (o : Option Job) → o ≡ job_at old.jobs s → o ≡ Some i → k ≡ after_registers r i
    → Rewritten old new s k → Operates old new s (on_registers (machine_of old) s (after_registers r))
regs_done old new s i k r o is some e w = registers_done old new s i k (after_registers r) (sym is ∙ some) e refl w

-- ALARM
clock_of : (p : Plain) → (machine_of p).clock ≡ p.clock
unfolding machine_of
clock_of p = refl

module _ (p : Plain) (s period next : ℕ) (b : Bool) (is : b ≡ may_come p.clock period next) where
  comes : may_come (machine_of p).clock period next ≡ b
  comes = ap (λ c. may_come c period next) (clock_of p) ∙ sym is

  pub alarm_late : b ≡ false → with_alarm_set (machine_of p) s period next ≡ Err reasons.Range
  unfolding with_alarm_set
  alarm_late un = fails (may_come (machine_of p).clock period next) _ _ (comes ∙ un)

  pub alarm_nobody : (x : Refusal) → b ≡ true → x ≡ refusals.NoJob → (machine_of p).jobs s ≡ None
      → with_alarm_set (machine_of p) s period next ≡ Err (reason_of x)
  unfolding with_alarm_set
  alarm_nobody x so e none =
      holds (may_come (machine_of p).clock period next) _ _ (comes ∙ so) ∙ fails (has_job (machine_of p) s) _ _ (empty (machine_of p) s none)
      ∙ because x refusals.NoJob e

  pub alarm_done : (mid new : Plain) → s < slots → b ≡ true → HasJob (machine_of p) s
      → Becomes p mid (in_job (machine_of p) s (with_alarm (Some (period, next)))) → new ≡ record mid { touched = one_slot s }
      → Operates p new s (with_alarm_set (machine_of p) s period next)
  unfolding with_alarm_set effect
  alarm_done mid new l so job a e =
      operated p mid new s _ _ l (holds (may_come (machine_of p).clock period next) _ _ (comes ∙ so) ∙ holds (has_job (machine_of p) s) _ _ job) a e

-- UNDER
module _ (p : Plain) (s t : ℕ) where
  pub under_nobody : (x : Refusal) → x ≡ refusals.NoJob → (machine_of p).jobs s ≡ None → with_superior_set (machine_of p) s t ≡ Err (reason_of x)
  unfolding with_superior_set
  under_nobody x e none =
      fails (has_job (machine_of p) s && has_job (machine_of p) t) _ _ (ap (λ b. b && has_job (machine_of p) t) (empty (machine_of p) s none))
      ∙ because x refusals.NoJob e

  module _ (job : HasJob (machine_of p) s) where
    pub under_none : (x : Refusal) → x ≡ refusals.NoJob → (machine_of p).jobs t ≡ None → with_superior_set (machine_of p) s t ≡ Err (reason_of x)
    unfolding with_superior_set
    under_none x e none =
        fails (has_job (machine_of p) s && has_job (machine_of p) t) _ _
        (ap (λ b. b && has_job (machine_of p) t) job ∙ empty (machine_of p) t none)
        ∙ because x refusals.NoJob e

    module _ (above : HasJob (machine_of p) t) where
      both : (has_job (machine_of p) s && has_job (machine_of p) t) ≡ true
      both = ap (λ b. b && has_job (machine_of p) t) job ∙ above

      pub under_owned : (k : ℕ) (o : Option ℕ) → o ≡ superiors (machine_of p) s → o ≡ Some k
          → with_superior_set (machine_of p) s t ≡ Err reasons.Exists
      unfolding with_superior_set
      under_owned k o is some =
          holds (has_job (machine_of p) s && has_job (machine_of p) t) _ _ both
          ∙ fails (is_none (superiors (machine_of p) s)) _ _ (ap (λ (x : Option ℕ). is_none x) (sym is ∙ some))

      module _ (none : superiors (machine_of p) s ≡ None) (b : Bool) (reached : b ≡ climbs_to (superiors (machine_of p)) s slots (Some t)) where
        free : is_none (superiors (machine_of p) s) ≡ true
        free = ap (λ (x : Option ℕ). is_none x) none

        pub under_circle : b ≡ true → with_superior_set (machine_of p) s t ≡ Err reasons.Unfit
        unfolding with_superior_set
        under_circle so =
            holds (has_job (machine_of p) s && has_job (machine_of p) t) _ _ both ∙ holds (is_none (superiors (machine_of p) s)) _ _ free
            ∙ fails (not (climbs_to (superiors (machine_of p)) s slots (Some t))) _ _ (ap not (sym reached ∙ so))

        pub under_done : (mid new : Plain) → s < slots → b ≡ false → Becomes p mid (in_job (machine_of p) s (under t))
            → new ≡ record mid { touched = one_slot s } → Operates p new s (with_superior_set (machine_of p) s t)
        unfolding with_superior_set
        under_done mid new l un u e = operated p mid new s _ _ l
            (holds (has_job (machine_of p) s && has_job (machine_of p) t) _ _ both ∙ holds (is_none (superiors (machine_of p) s)) _ _ free
            ∙ holds (not (climbs_to (superiors (machine_of p)) s slots (Some t))) _ _ (ap not (sym reached ∙ un))) u e

-- a superior is written
module _ (old new : Plain) (s t : ℕ) (i : Job) (had : job_at old.jobs s ≡ Some i) (up : Only (superior_at old.jobs) (superior_at new.jobs) s (Some t))
    (jobs : new.jobs.jobs ≡ old.jobs.jobs) (rest : contents new ≡ record (contents old) { jobs = new.jobs }) where
  same_job : (k : ℕ) → job_at new.jobs k ≡ job_at old.jobs k
  same_job k = ap (λ (js : List (Option Job)). slice_index_or js k None) jobs

  pub under_machine : machine_of new ≡ in_job (machine_of old) s (under t)
  unfolding machine_of
  under_machine = machine_is _ _
      (slot_at _ _ s (under t)
      ((λ x. raw_of (rest x).files (core_at (rest x).core s) (up.here x) (alarm_at (rest x).alarms.items s) (same_job s x))
      ∙ ap (raw_of old.files (core_at old.core s) (Some t) (alarm_at old.alarms.items s)) had
      ∙ sym (ap (option_map (under t)) (raw_some old.files old.core old.jobs old.alarms.items s i had)))
      (λ k ne. λ x. raw_of (rest x).files (core_at (rest x).core k) (up.others k ne x) (alarm_at (rest x).alarms.items k) (same_job k x)))
      (λ k. ap (λ l. console_at l.items k) (consoles_as rest)) (λ k. ap (λ l. holder_at l k) (holders_as rest)) (ap directory (files_as rest))
      (clock_as rest) (version_as rest) (λ k. ap (λ l. symbols_at l.items k) (symbols_as rest)) (λ k. ap (λ l. piped l k) (pipes_as rest))

  pub under_row : Becomes old new (in_job (machine_of old) s (under t))
  under_row = record { machine = under_machine; place = place_as rest; touched = touched_as rest }

  pub under_tidy : Tidy old → Tidy new
  under_tidy tidy = record {
    unreserved = λ k. ap (λ m. clear_at m k) (core_as rest) ∙ tidy.unreserved k;
    unmarked = ap (λ (x : Store). x.mark) (files_as rest) ∙ tidy.unmarked;
    across = subst (λ (x : Store). Across x new.jobs) (sym (files_as rest))
        (across_table old.files old.jobs new.jobs tidy.across (λ k n. ap (λ o. channel_by o n) (same_job k)));
    blank = λ k h. ap (λ m. core_at m k) (core_as rest) ∙ tidy.blank k (sym (same_job k) ∙ h);
    quiet = λ k h. ap (λ l. alarm_at l.items k) (alarms_as rest) ∙ tidy.quiet k (sym (same_job k) ∙ h);
    nameless = λ k h. ap (λ l. symbols_at l.items k) (symbols_as rest) ∙ tidy.nameless k (sym (same_job k) ∙ h);
    addressed = λ k. subst IsPlaced (sym (same_job k)) (tidy.addressed k);
    timed = subst (λ x. x < clock_end) (sym (clock_as rest)) tidy.timed;
  }

-- a channel is opened: three tests that come before others
abbrev opening : Machine → ℕ → ℕ → Result Machine Reason → Result Machine Reason
opening m s n x =
    provided_if (nat_lt n 16) reasons.Range
    (provided_if (has_job m s) reasons.NoJob (provided_if (is_shut (chan_in m s n)) reasons.Exists x))

refused_by : (a b c : Bool) (x y z r : Reason) (m : Machine) (next : Result Machine Reason)
    → provided_if a x (provided_if b y (provided_if c z (Ok m))) ≡ Err r → provided_if a x (provided_if b y (provided_if c z next)) ≡ Err r
refused_by true true true x y z r m next h = cc
refused_by true true false x y z r m next h = h
refused_by true false c x y z r m next h = h
refused_by false b c x y z r m next h = h

opens_refused : (m : Machine) (s n : ℕ) (next : Result Machine Reason) (r : Reason) → provided (can_open m s n) m ≡ Err r → opening m s n next ≡ Err r
opens_refused m s n next r h =
    refused_by (nat_lt n 16) (has_job m s) (is_shut (chan_in m s n)) reasons.Range reasons.NoJob reasons.Exists r m next h

opens : (m : Machine) (s n : ℕ) (next : Result Machine Reason) → n < 16 → HasJob m s → chan_in m s n ≡ Shut → opening m s n next ≡ next
opens m s n next l job shut =
    holds (nat_lt n 16) _ _ (lt-ltb n 16 l) ∙ holds (has_job m s) _ _ job ∙ holds (is_shut (chan_in m s n)) _ _ (ap is_shut shut)

pub closed_nobody : (p : Plain) (s n : ℕ) (x : Refusal) → n < 16 → x ≡ refusals.NoJob → (machine_of p).jobs s ≡ None
    → provided (can_open (machine_of p) s n) (machine_of p) ≡ Err (reason_of x)
closed_nobody p s n x l e none =
    holds (nat_lt n 16) _ _ (lt-ltb n 16 l) ∙ fails (has_job (machine_of p) s) _ _ (empty (machine_of p) s none) ∙ because x refusals.NoJob e

open_chan : (x : Store) (c : Channel) → (c ≡ Closed → ⊥) → is_shut (chan_of x c) ≡ false
open_chan x Closed h = absurd (h refl)
open_chan x c h = refl

pub closed_open : (p : Plain) (s n : ℕ) (c : Channel) → n < 16 → HasJob (machine_of p) s → c ≡ channel_at p.jobs s n → (c ≡ Closed → ⊥)
    → provided (can_open (machine_of p) s n) (machine_of p) ≡ Err reasons.Exists
closed_open p s n c l job is on =
    holds (nat_lt n 16) _ _ (lt-ltb n 16 l) ∙ holds (has_job (machine_of p) s) _ _ job
    ∙ fails (is_shut (chan_in (machine_of p) s n)) _ _
    (ap is_shut (chan_is p s n ∙ ap (chan_of p.files) (sym is)) ∙ open_chan p.files c on)

pub closed_shut : (p : Plain) (s n : ℕ) (c : Channel) → c ≡ channel_at p.jobs s n → c ≡ Closed → chan_in (machine_of p) s n ≡ Shut
closed_shut p s n c is shut = chan_is p s n ∙ ap (chan_of p.files) (sym is ∙ shut)

-- a channel that was shut is set twice
set_then : (n : ℕ) (x : Chan) (g : Chan → Chan) (q : Whole) → on_channel n g (on_channel n (λ c. x) q) ≡ on_channel n (λ c. g x) q
set_then n x g q = λ t. record q {
  channels = λ k. (changed_again q.channels n x (g (changed q.channels n x n)) k
      ∙ ap (λ (y : Chan). changed q.channels n (g y) k) (changed_here q.channels n x)) t;
}

channel_then : (m : Machine) (s n : ℕ) (x : Chan) (g : Chan → Chan)
    → in_job (in_job m s (on_channel n (λ c. x))) s (on_channel n g) ≡ in_job m s (on_channel n (λ c. g x))
channel_then m s n x g = twice m s (on_channel n (λ c. x)) (on_channel n g) ∙ (λ t. in_job m s (λ q. set_then n x g q t))

-- TTY, DSK, DRAFT, USR and LNK
module _ (p : Plain) (s n : ℕ) (x : Refusal) (shut : provided (can_open (machine_of p) s n) (machine_of p) ≡ Err (reason_of x)) where
  pub tty_refused : (w : Bool) → with_tty (machine_of p) s n w ≡ Err (reason_of x)
  unfolding with_tty
  tty_refused w = opens_refused (machine_of p) s n _ (reason_of x) shut

  pub disk_refused : (d u v at : ℕ) → with_disk (machine_of p) s n (names_of d u v) at ≡ Err (reason_of x)
  unfolding with_disk
  disk_refused d u v at = opens_refused (machine_of p) s n _ (reason_of x) shut

  pub draft_refused : (d u v : ℕ) → with_draft (machine_of p) s n (names_of d u v) ≡ Err (reason_of x)
  unfolding with_draft
  draft_refused d u v = opens_refused (machine_of p) s n _ (reason_of x) shut

  pub usr_refused : (t at : ℕ) (w : Bool) → with_usr (machine_of p) s n t w at ≡ Err (reason_of x)
  unfolding with_usr
  usr_refused t at w = opens_refused (machine_of p) s n _ (reason_of x) shut

  pub link_refused : (l u v : ℕ) (w : Bool) → l < most_links → with_link (machine_of p) s n l w u v ≡ Err (reason_of x)
  unfolding with_link
  link_refused l u v w in_range = holds (nat_lt l most_links) _ _ (lt-ltb l most_links in_range)
      ∙ opens_refused (machine_of p) s n _ (reason_of x) shut

links_are : (p : Plain) (l : ℕ) → (machine_of p).links l ≡ piped p.pipes l
unfolding machine_of
links_are p l = refl

module _ (p : Plain) (s n : ℕ) (ln : n < 16) (job : HasJob (machine_of p) s) (shut : chan_in (machine_of p) s n ≡ Shut) (b : Bool) where
  pub tty_unfit : (w : Bool) → b ≡ is_some (console_in ((machine_of p).jobs s)) → b ≡ false → with_tty (machine_of p) s n w ≡ Err reasons.Unfit
  unfolding with_tty
  tty_unfit w is un = opens (machine_of p) s n _ ln job shut ∙ fails (is_some (console_in ((machine_of p).jobs s))) _ _ (sym is ∙ un)

  pub tty_done : (mid new : Plain) (w : Bool) (on : Opened) → s < slots → b ≡ is_some (console_in ((machine_of p).jobs s)) → b ≡ true
      → opened_on on ≡ on_tty w → Becomes p mid (in_job (machine_of p) s (on_channel n (λ c. opened_on on)))
      → new ≡ record mid { touched = one_slot s } → Operates p new s (with_tty (machine_of p) s n w)
  unfolding with_tty
  tty_done mid new w on ls is so e a t = operated p mid new s (in_job (machine_of p) s (on_channel n (λ c. opened_on on))) _ ls
      (opens (machine_of p) s n _ ln job shut ∙ holds (is_some (console_in ((machine_of p).jobs s))) _ _ (sym is ∙ so)
      ∙ ap (λ (x : Chan). Ok (in_job (machine_of p) s (on_channel n (λ c. x)))) (sym e)) a t

  pub disk_nofile : (d u v at : ℕ) → b ≡ has_file (names_of d u v) (machine_of p).files → b ≡ false
      → with_disk (machine_of p) s n (names_of d u v) at ≡ Err reasons.NoFile
  unfolding with_disk
  disk_nofile d u v at is un = opens (machine_of p) s n _ ln job shut ∙ fails (has_file (names_of d u v) (machine_of p).files) _ _ (sym is ∙ un)

  pub disk_done : (mid put new : Plain) (d u v at : ℕ) → s < slots → b ≡ has_file (names_of d u v) (machine_of p).files → b ≡ true
      → Becomes p mid (in_job (machine_of p) s (on_channel n (λ c. opened_on (opened.Reading d u v))))
      → Becomes mid put (in_job (machine_of mid) s (on_channel n (at_position at))) → new ≡ record put { touched = one_slot s }
      → Operates p new s (with_disk (machine_of p) s n (names_of d u v) at)
  unfolding with_disk
  disk_done mid put new d u v at ls is so a m t =
      let row = becomes_then p mid put _ (in_job (machine_of p) s (on_channel n (λ c. Reads (names_of d u v) at)))
      (λ k. in_job k s (on_channel n (at_position at))) a m (channel_then (machine_of p) s n (Reads (names_of d u v) 0) (at_position at)) in
      operated p put new s (in_job (machine_of p) s (on_channel n (λ c. Reads (names_of d u v) at))) _ ls
      (opens (machine_of p) s n _ ln job shut ∙ holds (has_file (names_of d u v) (machine_of p).files) _ _ (sym is ∙ so)) row t

  pub usr_unfit : (t at : ℕ) (w : Bool) → b ≡ is_slot s (superiors (machine_of p) t) → b ≡ false
      → with_usr (machine_of p) s n t w at ≡ Err reasons.Unfit
  unfolding with_usr
  usr_unfit t at w is un = opens (machine_of p) s n _ ln job shut ∙ fails (is_slot s (superiors (machine_of p) t)) _ _ (sym is ∙ un)

  pub usr_done : (mid put new : Plain) (t k at : ℕ) (w : Bool) → s < slots → b ≡ is_slot s (superiors (machine_of p) t) → b ≡ true → k ≡ t
      → Becomes p mid (in_job (machine_of p) s (on_channel n (λ c. opened_on (opened.Usr k w))))
      → Becomes mid put (in_job (machine_of mid) s (on_channel n (at_position at))) → new ≡ record put { touched = one_slot s }
      → Operates p new s (with_usr (machine_of p) s n t w at)
  unfolding with_usr
  usr_done mid put new t k at w ls is so number a m e =
      let row = becomes_then p mid put _ (in_job (machine_of p) s (on_channel n (λ c. On k w at)))
      (λ i. in_job i s (on_channel n (at_position at))) a m (channel_then (machine_of p) s n (On k w 0) (at_position at)) in
      operated p put new s (in_job (machine_of p) s (on_channel n (λ c. On k w at))) _ ls
      (opens (machine_of p) s n _ ln job shut ∙ holds (is_slot s (superiors (machine_of p) t)) _ _ (sym is ∙ so)
      ∙ ap (λ (i : ℕ). Ok (in_job (machine_of p) s (on_channel n (λ c. On i w at)))) (sym number)) row e

  pub link_used : (l u v : ℕ) (w : Bool) → l < most_links → b ≡ can_join u v w (piped p.pipes l) → b ≡ false
      → with_link (machine_of p) s n l w u v ≡ Err reasons.Exists
  unfolding with_link
  link_used l u v w in_range is un =
      holds (nat_lt l most_links) _ _ (lt-ltb l most_links in_range) ∙ opens (machine_of p) s n _ ln job shut
      ∙ fails (can_join u v w ((machine_of p).links l)) _ _ (ap (can_join u v w) (links_are p l) ∙ sym is ∙ un)

  pub link_done : (mid new : Plain) (l u v : ℕ) (w : Bool) → s < slots → l < most_links → b ≡ can_join u v w (piped p.pipes l) → b ≡ true
      → Becomes p mid (effect (changes.Join n l w u v) s (machine_of p)) → new ≡ record mid { touched = one_slot s }
      → Operates p new s (with_link (machine_of p) s n l w u v)
  unfolding with_link
  link_done mid new l u v w ls in_range is so a t = operated p mid new s (effect (changes.Join n l w u v) s (machine_of p)) _ ls
      (holds (nat_lt l most_links) _ _ (lt-ltb l most_links in_range) ∙ opens (machine_of p) s n _ ln job shut
      ∙ holds (can_join u v w ((machine_of p).links l)) _ _ (ap (can_join u v w) (links_are p l) ∙ sym is ∙ so)) a t

pub draft_done : (p mid new : Plain) (s n d u v : ℕ) → n < 16 → HasJob (machine_of p) s → chan_in (machine_of p) s n ≡ Shut → s < slots
    → Becomes p mid (in_job (machine_of p) s (on_channel n (λ c. opened_on (opened.Writing d u v)))) → new ≡ record mid { touched = one_slot s }
    → Operates p new s (with_draft (machine_of p) s n (names_of d u v))
unfolding with_draft
draft_done p mid new s n d u v ln job shut ls a t =
    operated p mid new s (in_job (machine_of p) s (on_channel n (λ c. opened_on (opened.Writing d u v)))) _ ls
    (holds (nat_lt n 16) _ _ (lt-ltb n 16 ln) ∙ holds (has_job (machine_of p) s) _ _ job
    ∙ holds (is_shut (chan_in (machine_of p) s n)) _ _ (ap is_shut shut)) a t

-- the console of a job, and the names of a file
pub console_there : (p : Plain) (s : ℕ) (o : Option ℕ) (b : Bool) → o ≡ console_of (job_at p.jobs s) → b ≡ is_some o
    → b ≡ is_some (console_in ((machine_of p).jobs s))
console_there p s o b is e = e ∙ ap (λ (x : Option ℕ). is_some x) (is ∙ sym (console_here p s))

pub file_there : (p : Plain) (d x y : ℕ) (o : Option ℕ) (b : Bool) → o ≡ found p.files (names_of d x y) → b ≡ is_some o
    → b ≡ has_file (names_of d x y) (machine_of p).files
file_there p d x y o b is e = e ∙ ap (λ (z : Option ℕ). is_some z) is ∙ sym (ap (has_file (names_of d x y)) (files_are p) ∙ has_named p.files (names_of d x y))

-- the job in a slot is an inferior
pub inferior_some : (o : Option ℕ) (s k : ℕ) (b : Bool) → o ≡ Some k → b ≡ (k == s) → b ≡ is_slot s o
inferior_some o s k b some e = e ∙ ap (is_slot s) (sym some)

pub inferior_none : (o : Option ℕ) (s : ℕ) → o ≡ None → false ≡ is_slot s o
inferior_none o s none = ap (is_slot s) (sym none)

-- WROTE: the channel is on a draft
pub written_nobody : (p : Plain) (s n : ℕ) (ws : List ℕ) (x : Refusal) → n < 16 → x ≡ refusals.NoJob → (machine_of p).jobs s ≡ None
    → with_words_written (machine_of p) s n ws ≡ Err (reason_of x)
unfolding with_words_written
written_nobody p s n ws x l e none =
    ap (λ (r : Result Machine Reason). and_then r (λ k. with_all_written k s n ws))
    (holds (nat_lt n 16) _ _ (lt-ltb n 16 l) ∙ fails (has_job (machine_of p) s) _ _ (empty (machine_of p) s none)) ∙ because x refusals.NoJob e

pub written_all : (m : Machine) (s n : ℕ) (ws : List ℕ) → n < 16 → HasJob m s → with_words_written m s n ws ≡ with_all_written m s n ws
unfolding with_words_written
written_all m s n ws l job =
    ap (λ (r : Result Machine Reason). and_then r (λ k. with_all_written k s n ws))
    (holds (nat_lt n 16) _ _ (lt-ltb n 16 l) ∙ holds (has_job m s) _ _ job)

pub written_refused : (p : Plain) (s n : ℕ) (ws : List ℕ) (x : Refusal) → n < 16 → HasJob (machine_of p) s
    → with_all_written (machine_of p) s n ws ≡ Err (reason_of x) → with_words_written (machine_of p) s n ws ≡ Err (reason_of x)
written_refused p s n ws x l job h = written_all (machine_of p) s n ws l job ∙ h

pub written_done : (old new : Plain) (s n : ℕ) (ws : List ℕ) → n < 16 → HasJob (machine_of old) s
    → Operates old new s (with_all_written (machine_of old) s n ws) → Operates old new s (with_words_written (machine_of old) s n ws)
written_done old new s n ws l job h = subst (Operates old new s) (sym (written_all (machine_of old) s n ws l job)) h

no_draft : (m : Machine) (s n w : ℕ) (x : Store) (c : Channel) → ((d : ℕ) → c ≡ Writing d → ⊥) → with_word_to m s n w (chan_of x c) ≡ Err reasons.Unfit
no_draft m s n w x (Writing d) h = absurd (h d refl)
no_draft m s n w x c h = refl

pub written_unfit : (p : Plain) (s n : ℕ) (ws : List ℕ) (c : Channel) → n < 16 → 1 ≤ length ws → HasJob (machine_of p) s
    → c ≡ channel_at p.jobs s n → ((d : ℕ) → c ≡ Writing d → ⊥) → with_words_written (machine_of p) s n ws ≡ Err reasons.Unfit
written_unfit p s n [] c l some job is on = absurd (omega arith)
written_unfit p s n (w ∷ ws) c l some job is on =
    written_all (machine_of p) s n (w ∷ ws) l job
    ∙ ap (λ (r : Result Machine Reason). and_then r (λ k. with_all_written k s n ws))
    (ap (with_word_to (machine_of p) s n w) (chan_is p s n ∙ ap (chan_of p.files) (sym is)) ∙ no_draft (machine_of p) s n w p.files c on)

-- SENT and SHUT
module _ (p : Plain) (l : ℕ) (b : Bool) (is : b ≡ is_some (piped p.pipes l)) where
  link_stands : is_some ((machine_of p).links l) ≡ b
  link_stands = ap (λ (o : Option Pipe). is_some o) (links_are p l) ∙ sym is

  pub sent_unfit : (ws : List ℕ) → b ≡ false → with_words_sent (machine_of p) l ws ≡ Err reasons.Unfit
  unfolding with_words_sent
  sent_unfit ws un = fails (is_some ((machine_of p).links l)) _ _ (link_stands ∙ un)

  pub end_unfit : (w : Bool) → b ≡ false → with_end_shut (machine_of p) l w ≡ Err reasons.Unfit
  unfolding with_end_shut
  end_unfit w un = fails (is_some ((machine_of p).links l)) _ _ (link_stands ∙ un)

  module _ (so : b ≡ true) where
    room_is : (o : Option Pipe) (ws : List ℕ) → is_some o ≡ true → has_room ws o ≡ nat_le (length (words_in o) + length ws) most_link_words
    room_is (Some q) ws h = ap (λ k. nat_le k most_link_words) (length-append q.words ws)
    room_is None ws h = cc

    room_there : (ws : List ℕ) → has_room ws ((machine_of p).links l) ≡ nat_le (length (words_in (piped p.pipes l)) + length ws) most_link_words
    room_there ws = ap (has_room ws) (links_are p l) ∙ room_is (piped p.pipes l) ws (sym is ∙ so)

    pub sent_full : (ws : List ℕ) (k : ℕ) → k ≡ length (words_in (piped p.pipes l)) → most_link_words < k + length ws
        → with_words_sent (machine_of p) l ws ≡ Err reasons.Full
    unfolding with_words_sent
    sent_full ws k count more =
        holds (is_some ((machine_of p).links l)) _ _ (link_stands ∙ so)
        ∙ fails (has_room ws ((machine_of p).links l)) _ _ (room_there ws ∙ lt-leb (length (words_in (piped p.pipes l)) + length ws) most_link_words (omega arith))

    pub sent_room : (ws : List ℕ) (k : ℕ) → k ≡ length (words_in (piped p.pipes l)) → k + length ws ≤ most_link_words
        → has_room ws ((machine_of p).links l) ≡ true
    sent_room ws k count few = room_there ws ∙ le-leb (length (words_in (piped p.pipes l)) + length ws) most_link_words (omega arith)

    pub sent_done : (mid new : Plain) (ws : List ℕ) → has_room ws ((machine_of p).links l) ≡ true
        → Becomes p mid (on_link (machine_of p) l (option_map (with_words_in ws))) → new ≡ record mid { touched = no_slots }
        → Keeps p new (with_words_sent (machine_of p) l ws)
    unfolding with_words_sent
    sent_done mid new ws room a t = quieted p mid new _ _
        (holds (is_some ((machine_of p).links l)) _ _ (link_stands ∙ so) ∙ holds (has_room ws ((machine_of p).links l)) _ _ room) a t

    module _ (w c : Bool) (end : c ≡ has_unopened w (piped p.pipes l)) where
      end_is : has_unopened w ((machine_of p).links l) ≡ c
      end_is = ap (has_unopened w) (links_are p l) ∙ sym end

      pub end_used : c ≡ false → with_end_shut (machine_of p) l w ≡ Err reasons.Exists
      unfolding with_end_shut
      end_used un =
          holds (is_some ((machine_of p).links l)) _ _ (link_stands ∙ so) ∙ fails (has_unopened w ((machine_of p).links l)) _ _ (end_is ∙ un)

      pub end_free : c ≡ true → has_unopened w ((machine_of p).links l) ≡ true
      end_free so = end_is ∙ so

      pub end_done : (mid new : Plain) → c ≡ true → Becomes p mid (on_link (machine_of p) l (option_map (with_end_closed w)))
          → new ≡ record mid { touched = no_slots } → Keeps p new (with_end_shut (machine_of p) l w)
      unfolding with_end_shut
      end_done mid new unopened a t = quieted p mid new _ _
          (holds (is_some ((machine_of p).links l)) _ _ (link_stands ∙ so) ∙ holds (has_unopened w ((machine_of p).links l)) _ _ (end_is ∙ unopened)) a t

-- IN and OUT: a console is the one that is read
pub console_read : (p : Plain) (c i : ℕ) (x : Console) → i ≡ c → i < consoles → x ≡ slice_index_or p.consoles.items i x → x ≡ (machine_of p).consoles c
console_read p c i x at below is =
    let long = p.consoles_count in
    is ∙ get_or_default p.consoles.items i x quiet_console (omega arith) ∙ ap (console_at p.consoles.items) at ∙ sym (console_is p c)

module _ (p : Plain) (c k : ℕ) (w : Bool) (bs : List ℕ) (count : k ≡ length (bytes_of w ((machine_of p).consoles c))) where
  pub bytes_full : most_waiting < k + length bs → with_bytes_waiting (machine_of p) c w bs ≡ Err reasons.Full
  unfolding with_bytes_waiting
  bytes_full more =
      let n = length-append (bytes_of w ((machine_of p).consoles c)) bs in
      fails (nat_le (length (bytes_of w ((machine_of p).consoles c) ++ bs)) most_waiting) _ _
      (lt-leb (length (bytes_of w ((machine_of p).consoles c) ++ bs)) most_waiting (omega arith))

  pub bytes_room : k + length bs ≤ most_waiting → length (bytes_of w ((machine_of p).consoles c) ++ bs) ≤ most_waiting
  bytes_room few = let n = length-append (bytes_of w ((machine_of p).consoles c)) bs in omega arith

  pub bytes_done : (mid new : Plain) → k + length bs ≤ most_waiting → Becomes p mid (on_console (machine_of p) c (with_bytes w bs))
      → new ≡ record mid { touched = no_slots } → Keeps p new (with_bytes_waiting (machine_of p) c w bs)
  unfolding with_bytes_waiting
  bytes_done mid new few a t = quieted p mid new _ _
      (holds (nat_le (length (bytes_of w ((machine_of p).consoles c) ++ bs)) most_waiting) _ _
      (le-leb (length (bytes_of w ((machine_of p).consoles c) ++ bs)) most_waiting (bytes_room few))) a t

-- HOLD
holders_are : (p : Plain) (c : ℕ) → (machine_of p).holders c ≡ holder_at p.holders c
unfolding machine_of
holders_are p c = refl

module _ (p : Plain) (c s : ℕ) where
  pub holder_nobody : (x : Refusal) → x ≡ refusals.NoJob → (machine_of p).jobs s ≡ None → with_holder_set (machine_of p) c s ≡ Err (reason_of x)
  unfolding with_holder_set
  holder_nobody x e none = fails (has_job (machine_of p) s) _ _ (empty (machine_of p) s none) ∙ because x refusals.NoJob e

  module _ (job : HasJob (machine_of p) s) (o : Option ℕ) (is : o ≡ holder_at p.holders c) where
    pub holder_held : (h : ℕ) → o ≡ Some h → with_holder_set (machine_of p) c s ≡ Err reasons.Exists
    unfolding with_holder_set
    holder_held h some =
        holds (has_job (machine_of p) s) _ _ job
        ∙ fails (is_none ((machine_of p).holders c)) _ _ (ap (λ (x : Option ℕ). is_none x) (holders_are p c ∙ sym is ∙ some))

    pub holder_done : (mid new : Plain) (k : ℕ) → o ≡ None → k ≡ s
        → Becomes p mid (record (machine_of p) { holders = changed (machine_of p).holders c (Some k) }) → new ≡ record mid { touched = no_slots }
        → Keeps p new (with_holder_set (machine_of p) c s)
    unfolding with_holder_set effect
    holder_done mid new k none number a t = quieted p mid new (record (machine_of p) { holders = changed (machine_of p).holders c (Some k) }) _
        (holds (has_job (machine_of p) s) _ _ job
        ∙ holds (is_none ((machine_of p).holders c)) _ _ (ap (λ (x : Option ℕ). is_none x) (holders_are p c ∙ sym is ∙ none))
        ∙ ap (λ (x : ℕ). Ok (record (machine_of p) { holders = changed (machine_of p).holders c (Some x) })) (sym number)) a t
