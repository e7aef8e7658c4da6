-- The console of each job stays one of eight through the lines of the state part.
use Rattle.std.specs.Prelude.{◌<◌, ◌+◌, ℕ, Bool, true, false, Option, Some, IfSome, List, [], ◌∷◌, Result, Ok, Err, nat_lt, option_map, refl}
use Rattle.std.proofs.Common.{sym, subst}
use Rattle.its_records.specs.Tree.{fresh_job}
use Rattle.its_records.specs.declared.session.Reason.{Reason}
use Rattle.its_records.specs.declared.state_line.StateLine.{StateLine}
use Rattle.its_records.specs.declared.state_line.StateLine.TheVariants as states
use Rattle.its_frame.specs.declared.change.Change.TheVariants as changes
use Rattle.its_plain.specs.Machine.{Chan, Linked, Machine, On, Reads, with_job, with_new}
use Rattle.its_plain.specs.Machine.Change.{effect, effects, in_job, on_console, on_link, with_alarm}
use Rattle.its_plain.specs.Machine.Own.{names_of, on_channel, with_word}
use Rattle.its_plain.specs.Operator.{Block}
use Rattle.its_plain.specs.Operator.Clock.{after_clock, clock_end}
use Rattle.its_plain.specs.Operator.Files.{with_file_made, with_words_added}
use Rattle.its_plain.specs.Operator.Jobs.{new_job, on_registers, with_page_protected, with_words_loaded}
use Rattle.its_plain.specs.Operator.Lines.{Done}
use Rattle.its_plain.specs.Operator.State.{after_registers, channel_opened, on_tty, restored, under, with_alarm_set, with_bytes, with_bytes_waiting, with_disk, with_draft, with_end_closed, with_end_shut, with_holder_set, with_job_made, with_link, with_superior_set, with_tty, with_usr, with_words_in, with_words_sent, with_words_written}
use Rattle.its_plain.specs.Operator.Symbols.{with_symbol_kept}
use Rattle.its_plain.proofs.CallLineLaws.{added_files, made_files}
use Rattle.its_plain.proofs.RestoredLaws.{Joins, MakesJob, OkBy, Opens, PutsBytes, Sends, SetsAlarm, SetsHolder, SetsSuperior, ShutsEnd, WritesWords, alarm_set, bytes_put, disk_opened, draft_opened, empty_draft, end_shut, holder_set, job_made, link_joined, superior_set, tty_opened, usr_opened, words_appended, words_sent, words_written}
use Rattle.its_stepped.specs.Consoled.{Consoled}
use Rattle.its_stepped.proofs.Keeping.ConsoledLaws.{job_consoled, jobs_consoled, put_consoled}
use Rattle.its_direct.proofs.HousedLaws.{ConsoledBy, LinedConsoled, clock_consoled, clocking, disturbing, files_consoled, page_consoled, quiet, registers_consoled, symbol_consoled, version_consoled, words_consoled}

-- the console of a job that a line makes is one of eight
abbrev pub HousesLine : StateLine → Type 0
HousesLine (states.Job s u j c) = IfSome c (λ k. k < 8)
HousesLine _ = Unit {0}

-- what a line has found says which machine it leads to
found_consoled : (Found : Machine → Type 0) (r : Result Machine Reason) → OkBy Found r → ((n : Machine) → Found n → Consoled n) → ConsoledBy r
found_consoled Found (Ok n) found leads = leads n found
found_consoled Found (Err e) found leads = tt

-- words that are written, one after the other
appended_consoled : (m : Machine) (s i : ℕ) (ws : List ℕ) → Consoled m → Consoled (effects (words_appended i ws) s m)
unfolding effect
appended_consoled m s i [] h = h
appended_consoled m s i (w ∷ ws) h =
    appended_consoled (effect (changes.Append i w) s m) s i ws (job_consoled m s (on_channel i (with_word w)) (λ q. refl) h)

module _ (m : Machine) (h : Consoled m) where
  new_consoled : (s u j : ℕ) (c : Option ℕ) → IfSome c (λ k. k < 8) → Consoled (with_new m s (new_job u j c))
  unfolding fresh_job
  new_consoled s u j c fits =
      jobs_consoled (with_job m s (new_job u j c)) (with_new m s (new_job u j c)) refl (put_consoled m s (new_job u j c) fits h)

  job_made_consoled : (s u j : ℕ) (c : Option ℕ) → IfSome c (λ k. k < 8) → ConsoledBy (with_job_made m s u j c)
  job_made_consoled s u j c fits =
      found_consoled (MakesJob m s u j c) (with_job_made m s u j c) (job_made m s u j c) (λ n f. subst Consoled (sym f.is) (new_consoled s u j c fits))

  armed_consoled : (s p n : ℕ) → Consoled (effect (changes.Arm (Some (p, n))) s m)
  unfolding effect
  armed_consoled s p n = job_consoled m s (with_alarm (Some (p, n))) (λ q. refl) h

  alarm_consoled : (s p n : ℕ) → ConsoledBy (with_alarm_set m s p n)
  alarm_consoled s p n =
      found_consoled (SetsAlarm m s p n) (with_alarm_set m s p n) (alarm_set m s p n) (λ k f. subst Consoled (sym f.is) (armed_consoled s p n))

  under_consoled : (s t : ℕ) → ConsoledBy (with_superior_set m s t)
  under_consoled s t =
      found_consoled (SetsSuperior m s t) (with_superior_set m s t) (superior_set m s t)
      (λ n f. subst Consoled (sym f.is) (job_consoled m s (under t) (λ q. refl) h))

  -- a channel that is opened
  opened_consoled : (s n : ℕ) (x : Chan) → Consoled (channel_opened m s n x)
  opened_consoled s n x = job_consoled m s (on_channel n (λ c. x)) (λ q. refl) h

  channel_consoled : (s n : ℕ) (x : Chan) (r : Result Machine Reason) → OkBy (Opens m s n x) r → ConsoledBy r
  channel_consoled s n x r found = found_consoled (Opens m s n x) r found (λ k f. subst Consoled (sym f.is) (opened_consoled s n x))

  tty_consoled : (s n : ℕ) (w : Bool) → ConsoledBy (with_tty m s n w)
  tty_consoled s n w = channel_consoled s n (on_tty w) (with_tty m s n w) (tty_opened m s n w)

  disk_consoled : (s n d x y at : ℕ) → ConsoledBy (with_disk m s n (names_of d x y) at)
  disk_consoled s n d x y at =
      channel_consoled s n (Reads (names_of d x y) at) (with_disk m s n (names_of d x y) at) (disk_opened m s n (names_of d x y) at)

  draft_consoled : (s n d x y : ℕ) → ConsoledBy (with_draft m s n (names_of d x y))
  draft_consoled s n d x y =
      channel_consoled s n (empty_draft (names_of d x y)) (with_draft m s n (names_of d x y)) (draft_opened m s n (names_of d x y))

  usr_consoled : (s n t at : ℕ) (w : Bool) → ConsoledBy (with_usr m s n t w at)
  usr_consoled s n t at w = channel_consoled s n (On t w at) (with_usr m s n t w at) (usr_opened m s n t w at)

  written_consoled : (s n : ℕ) (ws : List ℕ) → ConsoledBy (with_words_written m s n ws)
  written_consoled s n ws =
      found_consoled (WritesWords m s n ws) (with_words_written m s n ws) (words_written m s n ws)
      (λ k f. subst Consoled (sym f.is) (appended_consoled m s n ws h))

  -- links, consoles and holders
  joined_consoled : (s n l x y : ℕ) (w : Bool) → Consoled (effect (changes.Join n l w x y) s m)
  unfolding effect
  joined_consoled s n l x y w = jobs_consoled (in_job m s (on_channel n (λ c. Linked l w))) _ refl (opened_consoled s n (Linked l w))

  link_consoled : (s n l x y : ℕ) (w : Bool) → ConsoledBy (with_link m s n l w x y)
  link_consoled s n l x y w =
      found_consoled (Joins m s n l w x y) (with_link m s n l w x y) (link_joined m s n l w x y)
      (λ k f. subst Consoled (sym f.is) (joined_consoled s n l x y w))

  sent_consoled : (l : ℕ) (ws : List ℕ) → ConsoledBy (with_words_sent m l ws)
  sent_consoled l ws =
      found_consoled (Sends m l ws) (with_words_sent m l ws) (words_sent m l ws)
      (λ k f. subst Consoled (sym f.is) (jobs_consoled m (on_link m l (option_map (with_words_in ws))) refl h))

  end_consoled : (l : ℕ) (w : Bool) → ConsoledBy (with_end_shut m l w)
  end_consoled l w =
      found_consoled (ShutsEnd m l w) (with_end_shut m l w) (end_shut m l w)
      (λ k f. subst Consoled (sym f.is) (jobs_consoled m (on_link m l (option_map (with_end_closed w))) refl h))

  bytes_consoled : (c : ℕ) (w : Bool) (bs : List ℕ) → ConsoledBy (with_bytes_waiting m c w bs)
  bytes_consoled c w bs =
      found_consoled (PutsBytes m c w bs) (with_bytes_waiting m c w bs) (bytes_put m c w bs)
      (λ k f. subst Consoled (sym f.is) (jobs_consoled m (on_console m c (with_bytes w bs)) refl h))

  hold_consoled : (c s : ℕ) → Consoled (effect (changes.Hold c s) s m)
  unfolding effect
  hold_consoled c s = jobs_consoled m _ refl h

  holder_consoled : (c s : ℕ) → ConsoledBy (with_holder_set m c s)
  holder_consoled c s =
      found_consoled (SetsHolder m c s) (with_holder_set m c s) (holder_set m c s) (λ k f. subst Consoled (sym f.is) (hold_consoled c s))

-- each line
pub restored_consoled : (m : Machine) (b : Block) (line : StateLine) → HousesLine line → Consoled m → LinedConsoled (Done (restored m b line))
unfolding restored after_clock
restored_consoled m b (states.System v) fits h = version_consoled m v h
restored_consoled m b (states.Clock n) fits h = clocking m b n (after_clock m n) (clock_consoled m n (nat_lt (m.clock + n) clock_end) h)
restored_consoled m b (states.File d x y) fits h = quiet (record b { file = names_of d x y }) (with_file_made m (names_of d x y))
    (files_consoled m (with_file_made m (names_of d x y)) (made_files m (names_of d x y)) h)
restored_consoled m b (states.FileWords ws) fits h =
    quiet b (with_words_added m b.file ws.items) (files_consoled m (with_words_added m b.file ws.items) (added_files m b.file ws.items) h)
restored_consoled m b (states.Job s u j c) fits h = disturbing s (record b { slot = s }) (with_job_made m s u j c) (job_made_consoled m h s u j c fits)
restored_consoled m b (states.CoreWords a ws) fits h =
    disturbing b.slot b (with_words_loaded m b.slot a ws.items) (words_consoled m b.slot a ws.items h)
restored_consoled m b (states.ReadOnly p) fits h = disturbing b.slot b (with_page_protected m b.slot p) (page_consoled m b.slot p h)
restored_consoled m b (states.Symbol x a) fits h = quiet b (with_symbol_kept m b.slot x a) (symbol_consoled m b.slot x a h)
restored_consoled m b (states.Regs r) fits h =
    disturbing b.slot b (on_registers m b.slot (after_registers r)) (registers_consoled m b.slot (after_registers r) (λ j. refl) h)
restored_consoled m b (states.Alarm s p n) fits h = disturbing s b (with_alarm_set m s p n) (alarm_consoled m h s p n)
restored_consoled m b (states.Under s t) fits h = disturbing s b (with_superior_set m s t) (under_consoled m h s t)
restored_consoled m b (states.Tty s n w) fits h = disturbing s b (with_tty m s n w) (tty_consoled m h s n w)
restored_consoled m b (states.Disk s n d x y at) fits h = disturbing s b (with_disk m s n (names_of d x y) at) (disk_consoled m h s n d x y at)
restored_consoled m b (states.Draft s n d x y) fits h = disturbing s b (with_draft m s n (names_of d x y)) (draft_consoled m h s n d x y)
restored_consoled m b (states.Wrote s n ws) fits h = disturbing s b (with_words_written m s n ws.items) (written_consoled m h s n ws.items)
restored_consoled m b (states.Usr s n t w at) fits h = disturbing s b (with_usr m s n t w at) (usr_consoled m h s n t at w)
restored_consoled m b (states.Join s n l w x y) fits h = disturbing s b (with_link m s n l w x y) (link_consoled m h s n l x y w)
restored_consoled m b (states.Sent l ws) fits h = quiet b (with_words_sent m l ws.items) (sent_consoled m h l ws.items)
restored_consoled m b (states.EndShut l w) fits h = quiet b (with_end_shut m l w) (end_consoled m h l w)
restored_consoled m b (states.Input c bs) fits h = quiet b (with_bytes_waiting m c false bs.items) (bytes_consoled m h c false bs.items)
restored_consoled m b (states.Output c bs) fits h = quiet b (with_bytes_waiting m c true bs.items) (bytes_consoled m h c true bs.items)
restored_consoled m b (states.Hold c s) fits h = quiet b (with_holder_set m c s) (holder_consoled m h c s)
restored_consoled m b (states.Turn s) fits h = h
restored_consoled m b states.Ready fits h = h
