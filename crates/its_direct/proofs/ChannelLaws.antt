-- A channel of a job is set, with the store that it is on; and the store alone: the machine after
-- it, and what holds of that machine.
use Rattle.std.specs.Prelude.{◌≡◌, ◌≢◌, ◌<◌, ◌≤◌, ◌^◌, ℕ, ◌+◌, ◌-◌, Bool, true, false, Option, Some, None, is_some, option_map, Ok, Err, List, [], ◌∷◌, ◌++◌, length, slice_set, refl}
use Rattle.std.proofs.Common.{sym, ◌∙◌, ap, subst, inl, inr}
use Rattle.std.proofs.lemmas.Bool.{cases_eq}
use Rattle.its_word.specs.Directory.{File as PlainFile, closed, named, with_changed, without_names}
use Rattle.its_word.specs.Limits.{slots}
use Rattle.its_word.specs.Only.{Only, Same}
use Rattle.its_records.specs.declared.jobs.Channel.{Channel}
use Rattle.its_records.specs.declared.jobs.Channel.TheVariants.{Closed, Reading, Writing, Usr}
use Rattle.its_records.specs.declared.jobs.Job.{Job}
use Rattle.its_core.specs.Cores.{core_at, clear_at}
use Rattle.its_files.specs.Blocks.{blocks_used as stored_blocks, is_full as store_is_full}
use Rattle.its_files.specs.Files.{Store, IsStore, entry_at, is_file, names_at, names_by, words_at, readers_at, directory, plain_directory, file_at, found, with_readers, with_draft, after_discard, with_word, close, delete, rename, new_names, after_help}
use Rattle.its_files.specs.declared.entry.CloseFault.{CloseFault}
use Rattle.its_files.specs.declared.entry.Entry.TheVariants.{File, Draft}
use Rattle.its_jobs.specs.Table.{job_at, superior_at}
use Rattle.its_frame.specs.declared.change.Opened.TheVariants as opened
use Rattle.its_pipes.specs.Pipes.{piped}
use Rattle.its_plain.specs.Machine.Change.{files_after_close, in_job, with_new_names, without_file}
use Rattle.its_plain.specs.Machine.{Chan, Machine, Shut, Reads, Writes}
use Rattle.its_plain.specs.Operator.Clock.{clock_end}
use Rattle.its_plain.specs.Operator.Files.{channels_of}
use Rattle.its_plain.specs.Machine.Own.{names_of, opened_on, at_position, on_channel, with_word as longer_on}
use Rattle.its_plain.proofs.MachineLaws.{machine_is}
use Rattle.its_shared.specs.Across.{channel_at, reads_file, writes_draft, Across, IsElsewhere}
use Rattle.its_shared.specs.Channels.{OnlyChannel, Shows}
use Rattle.its_shared.specs.Can.{HasJob, chan_in, HasRoom, CanClose}
use Rattle.its_shared.specs.Parts.{alarm_at, bare, chan_of, console_at, holder_at, raw_at, symbols_at}
use Rattle.its_shared.proofs.ChanLaws.{raw_alike, job_by, chan_by, shut_by, still_moved, close_marks}
use Rattle.its_shared.proofs.KeptLaws.{Kept, Stays, opened_kept, closed_kept, drafted_kept, discarded_kept, appended_kept, closing_kept, deleted_stays, renamed_stays, helped_stays, delete_is, rename_is}
use Rattle.its_shared.proofs.SetLaws.{only_same, channel_put, channel_absent, channel_same, open_job, one_channel, none_before, raw_channel, set_kept, put_kept}
use Rattle.its_shared.proofs.ShowLaws.{draft_room, close_can}
use Rattle.its_shared.proofs.StoreLaws.{renamed_directory}
use Rattle.its_direct.specs.Effects.{ChannelBecomes, Comes, OnlyStore}
use Rattle.its_direct.specs.Plain.{machine_of, Tidy, JobBecomes}
use Rattle.its_direct.specs.declared.plain.Plain.{Plain}
use Rattle.its_direct.proofs.SlotLaws.{IsPlaced}
use Rattle.its_direct.proofs.ContentsLaws.{core_as, jobs_as, consoles_as, holders_as, files_as, clock_as, alarms_as, version_as, symbols_as, pipes_as, place_as, touched_as}

-- a channel set
pub channel_becomes : (old new : Plain) (s n : ℕ) (x : Channel) (o : Option Job) (j : Job) → o ≡ job_at old.jobs s → o ≡ Some j → n < length j.channels
    → JobBecomes old new s (record j { channels = slice_set j.channels n x }) → ChannelBecomes old new s n x old.files
channel_becomes old new s n x o j has some lt b = record {
  jobs = channel_put old.jobs new.jobs s n x j (sym has ∙ some) lt b.job b.superiors;
  core = only_same (core_at old.core) (core_at new.core) s b.core;
  reserved = b.reserved;
  rest = b.aside.is;
}

pub channel_still : (old new : Plain) (s n : ℕ) (t : Store) → OnlyStore old new t → ChannelBecomes old new s n (channel_at old.jobs s n) t
channel_still old new s n t o = record {
  jobs = channel_same old.jobs new.jobs s n (jobs_as o.is);
  core = record { each = λ k. ap (λ c. core_at c k) (core_as o.is) };
  reserved = record { each = λ k. ap (λ c. clear_at c k) (core_as o.is) };
  rest = λ i. record (o.is i) { core = new.core; jobs = new.jobs };
}

pub no_store : (p : Plain) → OnlyStore p p p.files
no_store p = record { is = refl }

pub channel_missing : (p : Plain) (s n : ℕ) (x : Channel) (o : Option Job) → o ≡ job_at p.jobs s → o ≡ None → ChannelBecomes p p s n x p.files
channel_missing p s n x o has none = record {
  jobs = channel_absent p.jobs s n x (sym has ∙ none);
  core = record { each = λ k. refl };
  reserved = record { each = λ k. refl };
  rest = refl;
}

-- a channel is set after the store
pub store_first : (old mid new : Plain) (s n : ℕ) (x : Channel) (t : Store) → OnlyStore old mid t → ChannelBecomes mid new s n x mid.files
    → ChannelBecomes old new s n x t
store_first old mid new s n x t o b = record {
  jobs = subst (λ j. OnlyChannel j new.jobs s n x) (jobs_as o.is) b.jobs;
  core = record { each = λ k. b.core.each k ∙ ap (λ c. core_at c k) (core_as o.is) };
  reserved = record { each = λ k. b.reserved.each k ∙ ap (λ c. clear_at c k) (core_as o.is) };
  rest = b.rest ∙ (λ i. record (o.is i) { core = new.core; jobs = new.jobs });
}

pub placed_bare : (i j : Option Job) → option_map bare i ≡ option_map bare j → IsPlaced j → IsPlaced i
placed_bare (Some i) (Some j) e h = let b : bare i ≡ bare j = cc in subst (λ (k : Job). k.pc < 2 ^ 18) (sym b) h
placed_bare (Some i) None e h = cc
placed_bare None j e h = tt

module _ (old new : Plain) (s n : ℕ) (x : Channel) (t : Store) (b : ChannelBecomes old new s n x t) where
  -- the machine, if all other channels are on what they were on
  pub filed_machine : (g : Chan → Chan) → ((k m : ℕ) → (k ≡ s → m ≢ n) → chan_of t (channel_at new.jobs k m) ≡ chan_of old.files (channel_at old.jobs k m))
      → (is_some (job_at old.jobs s) ≡ true → chan_of t x ≡ g (chan_of old.files (channel_at old.jobs s n)))
      → machine_of new ≡ record (in_job (machine_of old) s (on_channel n g)) { files = directory t }
  unfolding machine_of
  filed_machine g others here = machine_is _ _
      (λ k. (λ i. raw_at (b.rest i).files new.core new.jobs (b.rest i).alarms.items k)
      ∙ raw_channel old.jobs new.jobs s n x b.jobs old.files t old.core new.core old.alarms.items g b.core others here k)
      (λ k. ap (λ l. console_at l.items k) (consoles_as b.rest)) (λ k. ap (λ l. holder_at l k) (holders_as b.rest))
      (ap directory (files_as b.rest)) (clock_as b.rest) (version_as b.rest) (λ k. ap (λ l. symbols_at l.items k) (symbols_as b.rest))
      (λ k. ap (λ l. piped l k) (pipes_as b.rest))

  placed_still : (k : ℕ) → IsPlaced (job_at old.jobs k) → IsPlaced (job_at new.jobs k)
  placed_still k h = elim (cases_eq k s) [
    | inl e ↦ subst IsPlaced (ap (job_at new.jobs) (sym e)) (placed_bare (job_at new.jobs s) (job_at old.jobs s) b.jobs.job
        (subst IsPlaced (ap (job_at old.jobs) e) h))
    | inr ne ↦ subst IsPlaced (sym (b.jobs.rows k ne)) h
  ]

  pub filed_tidy : Tidy old → t.mark ≡ None → Across t new.jobs → Tidy new
  filed_tidy tidy unmarked a = record {
    unreserved = λ k. b.reserved.each k ∙ tidy.unreserved k;
    unmarked = ap (λ (w : Store). w.mark) (files_as b.rest) ∙ unmarked;
    across = subst (λ f. Across f new.jobs) (sym (files_as b.rest)) a;
    blank = λ k none. b.core.each k ∙ tidy.blank k (none_before old.jobs new.jobs s n x b.jobs k none);
    quiet = λ k none. ap (λ l. alarm_at l.items k) (alarms_as b.rest) ∙ tidy.quiet k (none_before old.jobs new.jobs s n x b.jobs k none);
    nameless = λ k none. ap (λ l. symbols_at l.items k) (symbols_as b.rest) ∙ tidy.nameless k (none_before old.jobs new.jobs s n x b.jobs k none);
    addressed = λ k. placed_still k (tidy.addressed k);
    timed = subst (λ t. t < clock_end) (sym (clock_as b.rest)) tidy.timed;
  }

  -- with the files of the machine
  pub filed_comes : Tidy old → t.mark ≡ None → Kept old.files t old.jobs new.jobs s n → (g : Chan → Chan) → (fs : List PlainFile) → directory t ≡ fs
      → (is_some (job_at old.jobs s) ≡ true → chan_of t x ≡ g (chan_of old.files (channel_at old.jobs s n)))
      → Comes old new (record (in_job (machine_of old) s (on_channel n g)) { files = fs })
  filed_comes tidy unmarked kept g fs files here = record {
    row = record {
      machine = filed_machine g kept.chans here ∙ (λ i. record (in_job (machine_of old) s (on_channel n g)) { files = files i });
      place = place_as b.rest;
      touched = touched_as b.rest;
    };
    tidy = filed_tidy tidy unmarked kept.across;
  }

-- what the machine says of its parts
pub files_are : (p : Plain) → (machine_of p).files ≡ directory p.files
unfolding machine_of
files_are p = refl

pub has_job : (p : Plain) (s : ℕ) → HasJob (machine_of p) s → is_some (job_at p.jobs s) ≡ true
unfolding machine_of
has_job p s h = sym (job_by p.files (core_at p.core s) (superior_at p.jobs s) (alarm_at p.alarms.items s) (job_at p.jobs s)) ∙ h

pub chan_is : (p : Plain) (s n : ℕ) → chan_in (machine_of p) s n ≡ chan_of p.files (channel_at p.jobs s n)
unfolding machine_of
chan_is p s n = chan_by p.files (core_at p.core s) (superior_at p.jobs s) (alarm_at p.alarms.items s) (job_at p.jobs s) n

pub chans_are : (p : Plain) → channels_of (machine_of p) ≡ (λ k n. chan_of p.files (channel_at p.jobs k n))
chans_are p = λ i k n. chan_is p k n i

pub shows : (p : Plain) → Shows (machine_of p) p.files p.jobs
shows p = record { files = files_are p; chans = chans_are p }

pub chan_shut : (p : Plain) (s n : ℕ) → chan_in (machine_of p) s n ≡ Shut → channel_at p.jobs s n ≡ Closed
chan_shut p s n e = shut_by p.files (channel_at p.jobs s n) (sym (chan_is p s n) ∙ e)

-- a channel of a job, if the files of the machine are the same
module _ (old new : Plain) (s n : ℕ) (ls : s < slots) (ln : n < 16) (tidy : Tidy old) where
  channel_comes : (x : Channel) (t : Store) → ChannelBecomes old new s n x t → Kept old.files t old.jobs new.jobs s n → (g : Chan → Chan)
      → directory t ≡ directory old.files → t.mark ≡ old.files.mark
      → (is_some (job_at old.jobs s) ≡ true → chan_of t x ≡ g (chan_of old.files (channel_at old.jobs s n)))
      → Comes old new (in_job (machine_of old) s (on_channel n g))
  channel_comes x t b kept g files mark here = filed_comes old new s n x t b tidy (mark ∙ tidy.unmarked) kept g (machine_of old).files
      (files ∙ sym (files_are old)) here

  pub put_comes : (x : Channel) → ChannelBecomes old new s n x old.files → IsElsewhere (channel_at old.jobs s n) → IsElsewhere x
      → Comes old new (in_job (machine_of old) s (on_channel n (λ c. chan_of old.files x)))
  put_comes x b was is = channel_comes x old.files b (put_kept old.jobs new.jobs s n x b.jobs old.files tidy.across ls ln was is)
      (λ c. chan_of old.files x) refl refl (λ some. refl)

  -- opened on a file
  pub open_file_comes : (t : Store) (f d x y : ℕ) → ChannelBecomes old new s n (Reading f 0) t → HasJob (machine_of old) s
      → chan_in (machine_of old) s n ≡ Shut
      → is_file (entry_at old.files f) ≡ true → names_at old.files f ≡ d ∷ x ∷ y ∷ []
      → t ≡ with_readers old.files f (readers_at old.files f + 1) → directory t ≡ directory old.files
      → Only (entry_at old.files) (entry_at t) f (Some (File (names_at old.files f) (readers_at old.files f + 1))) → Same (words_at old.files) (words_at t)
      → Comes old new (in_job (machine_of old) s (on_channel n (λ c. opened_on (opened.Reading d x y))))
  open_file_comes t f d x y b job shut file names made files entry words = channel_comes (Reading f 0) t b
      (opened_kept old.files t old.jobs new.jobs s n f 0 tidy.across ls ln words (chan_shut old s n shut)
      (one_channel old.jobs new.jobs s n (Reading f 0) b.jobs (has_job old s job)) file made entry)
      (λ c. opened_on (opened.Reading d x y)) files (ap (λ (w : Store). w.mark) made) (λ some. ap (λ ns. Reads ns 0) (ap names_by entry.here ∙ names))

  -- on a new draft
  pub open_draft_comes : (t : Store) (k d x y : ℕ) → ChannelBecomes old new s n (Writing k) t → HasJob (machine_of old) s
      → chan_in (machine_of old) s n ≡ Shut
      → entry_at old.files k ≡ None → t ≡ with_draft old.files k (d ∷ x ∷ y ∷ []) → directory t ≡ directory old.files
      → Only (entry_at old.files) (entry_at t) k (Some (Draft (d ∷ x ∷ y ∷ [])))
      → Only (words_at old.files) (words_at t) k [] → Comes old new (in_job (machine_of old) s (on_channel n (λ c. opened_on (opened.Writing d x y))))
  open_draft_comes t k d x y b job shut free made files entry words = channel_comes (Writing k) t b
      (drafted_kept old.files t old.jobs new.jobs s n k tidy.across ls ln (d ∷ x ∷ y ∷ []) [] (chan_shut old s n shut)
      (one_channel old.jobs new.jobs s n (Writing k) b.jobs (has_job old s job)) tidy.unmarked free made entry words)
      (λ c. opened_on (opened.Writing d x y)) files (ap (λ (w : Store). w.mark) made)
      (λ some. λ i. Writes (record { names = ap names_by entry.here i; words = words.here i }))

  -- closed, if it read a file, if it wrote a draft, and if it was on neither
  pub shut_file_comes : (t : Store) (f at : ℕ) → ChannelBecomes old new s n Closed t → Reading f at ≡ channel_at old.jobs s n
      → t ≡ with_readers old.files f (readers_at old.files f - 1)
      → directory t ≡ directory old.files → Only (entry_at old.files) (entry_at t) f
      (Some (File (names_at old.files f) (readers_at old.files f - 1))) → Same (words_at old.files) (words_at t)
      → Comes old new (in_job (machine_of old) s (on_channel n (λ c. Shut)))
  shut_file_comes t f at b was made files entry words = channel_comes Closed t b
      (closed_kept old.files t old.jobs new.jobs s n f at tidy.across ls ln words (sym was)
      (one_channel old.jobs new.jobs s n Closed b.jobs (open_job old.jobs s n (Reading f at) (sym was) (λ e. cc))) made entry)
      (λ c. Shut) files (ap (λ (w : Store). w.mark) made) (λ some. refl)

  pub shut_draft_comes : (t : Store) (k : ℕ) → ChannelBecomes old new s n Closed t → Writing k ≡ channel_at old.jobs s n
      → t ≡ after_discard old.files k → directory t ≡ directory old.files
      → Only (entry_at old.files) (entry_at t) k None → Only (words_at old.files) (words_at t) k []
      → Comes old new (in_job (machine_of old) s (on_channel n (λ c. Shut)))
  shut_draft_comes t k b was made files entry words = channel_comes Closed t b
      (discarded_kept old.files t old.jobs new.jobs s n k tidy.across ls ln [] (sym was)
      (one_channel old.jobs new.jobs s n Closed b.jobs (open_job old.jobs s n (Writing k) (sym was) (λ e. cc))) made entry words)
      (λ c. Shut) files (ap (λ (w : Store). w.mark) made) (λ some. refl)

  pub shut_other_comes : ChannelBecomes old new s n Closed old.files → IsElsewhere (channel_at old.jobs s n)
      → Comes old new (in_job (machine_of old) s (on_channel n (λ c. Shut)))
  shut_other_comes b elsewhere = put_comes Closed b elsewhere tt

  -- a position is set
  pub move_file_comes : (f p at : ℕ) → ChannelBecomes old new s n (Reading f at) old.files → Reading f p ≡ channel_at old.jobs s n
      → Comes old new (in_job (machine_of old) s (on_channel n (at_position at)))
  move_file_comes f p at b was = channel_comes (Reading f at) old.files b
      (set_kept old.jobs new.jobs s n (Reading f at) b.jobs old.files tidy.across ls ln (λ g. ap (reads_file g) (sym was))
      (λ d. ap (writes_draft d) (sym was)))
      (at_position at) refl refl (λ some. ap (λ c. at_position at (chan_of old.files c)) was)

  pub move_usr_comes : (k p at : ℕ) (write : Bool) → ChannelBecomes old new s n (Usr k write at) old.files
      → Usr k write p ≡ channel_at old.jobs s n → Comes old new (in_job (machine_of old) s (on_channel n (at_position at)))
  move_usr_comes k p at write b was = channel_comes (Usr k write at) old.files b
      (set_kept old.jobs new.jobs s n (Usr k write at) b.jobs old.files tidy.across ls ln (λ g. ap (reads_file g) (sym was))
      (λ d. ap (writes_draft d) (sym was)))
      (at_position at) refl refl (λ some. ap (λ c. at_position at (chan_of old.files c)) was)

  -- it is on a draft
  on_draft : (k : ℕ) → Writing k ≡ channel_at old.jobs s n → chan_in (machine_of old) s n ≡ Writes (file_at old.files k)
  on_draft k was = chan_is old s n ∙ ap (chan_of old.files) (sym was)

  -- a word is appended to its draft
  pub append_comes : (t : Store) (k w : ℕ) → Writing k ≡ channel_at old.jobs s n → t ≡ with_word old.files k w
      → directory t ≡ directory old.files → Same (entry_at old.files) (entry_at t)
      → Only (words_at old.files) (words_at t) k (words_at old.files k ++ w ∷ []) → OnlyStore old new t
      → Comes old new (in_job (machine_of old) s (on_channel n (longer_on w)))
  append_comes t k w was made files entry words o = channel_comes (channel_at old.jobs s n) t (channel_still old new s n t o)
      (subst (λ j. Kept old.files t old.jobs j s n) (sym (jobs_as o.is))
      (appended_kept old.files t old.jobs old.jobs s n k tidy.across ls ln (words_at old.files k ++ w ∷ []) w (sym was) made entry words))
      (longer_on w) files (ap (λ (x : Store). x.mark) made)
      (λ some. ap (chan_of t) (sym was) ∙ (λ i. Writes (record { names = ap names_by (entry.each k) i; words = words.here i }))
      ∙ ap (λ c. longer_on w (chan_of old.files c)) was)

  pub append_room : (k : ℕ) → Writing k ≡ channel_at old.jobs s n → IsStore old.files → stored_blocks old.files.stored ≤ 2048
      → HasRoom (machine_of old) (chan_in (machine_of old) s n) → store_is_full old.files.stored k ≡ false
  append_room k was whole most room = draft_room (machine_of old) old.files old.jobs (shows old) whole tidy.across k tidy.unmarked most
      (subst (HasRoom (machine_of old)) (on_draft k was) room)

  -- the draft becomes a file: the close is begun, all its parts are made, and the channel is closed
  pub close_comes : (t u : Store) (k : ℕ) → ChannelBecomes old new s n Closed u → Writing k ≡ channel_at old.jobs s n
      → close old.files k s ≡ Ok t → plain_directory t ≡ closed (file_at old.files k) (directory old.files)
      → Same (entry_at old.files) (entry_at t) → Same (words_at old.files) (words_at t) → IsStore t → u ≡ after_help t → u.mark ≡ None
      → directory u ≡ plain_directory t
      → Comes old new (record (in_job (machine_of old) s (on_channel n (λ c. Shut)))
      { files = files_after_close (chan_in (machine_of old) s n) (machine_of old).files })
  unfolding without_file
  close_comes t u k b was begun plain entry words whole made unmarked files =
      let some = open_job old.jobs s n (Writing k) (sym was) (λ e. cc) in
      let kept = closing_kept old.files t old.jobs new.jobs s n k tidy.across ls ln (sym was)
      (one_channel old.jobs new.jobs s n Closed b.jobs some) tidy.unmarked (close_marks old.files t k s begun) entry words in
      let stays = helped_stays t u new.jobs whole kept.across made in
      let c = on_draft k was in
      filed_comes old new s n Closed u b tidy unmarked
      (record { across = stays.across; chans = λ i m apart. stays.chans i m ∙ kept.chans i m apart })
      (λ c. Shut) (files_after_close (chan_in (machine_of old) s n) (machine_of old).files)
      (files ∙ plain ∙ sym (λ i. files_after_close (c i) (files_are old i)))
      (λ h. refl)

  pub begin_can : (k : ℕ) → Writing k ≡ channel_at old.jobs s n → IsStore old.files
      → CanClose (machine_of old) (chan_in (machine_of old) s n) → (e : CloseFault) → close old.files k s ≡ Err e → ⊥
  begin_can k was whole closes = close_can (machine_of old) old.files old.jobs (shows old) whole tidy.across k s
      (subst (CanClose (machine_of old)) (on_draft k was) closes)

-- nothing is set, if a channel is on nothing of the kind
pub move_other_comes : (p : Plain) (s n : ℕ) → Tidy p → (at : ℕ) (c : Channel) → c ≡ channel_at p.jobs s n
    → ((f q : ℕ) → c ≡ Reading f q → ⊥) → ((k : ℕ) (write : Bool) (q : ℕ) → c ≡ Usr k write q → ⊥)
    → Comes p p (in_job (machine_of p) s (on_channel n (at_position at)))
move_other_comes p s n tidy at c was read usr = filed_comes p p s n (channel_at p.jobs s n) p.files
    (channel_still p p s n p.files (no_store p)) tidy tidy.unmarked
    (record { across = tidy.across; chans = λ k m apart. refl }) (at_position at) (machine_of p).files (sym (files_are p))
    (λ some. subst (λ (x : Channel). chan_of p.files x ≡ at_position at (chan_of p.files x)) was (still_moved p.files at c read usr))

pub closed_elsewhere : (p : Plain) (s n : ℕ) → chan_in (machine_of p) s n ≡ Shut → IsElsewhere (channel_at p.jobs s n)
closed_elsewhere p s n e = subst IsElsewhere (sym (chan_shut p s n e)) tt

-- a channel is on a draft if the machine says so
room_draft : (m : Machine) (x : Store) (c : Channel) → ((d : ℕ) → c ≡ Writing d → ⊥) → HasRoom m (chan_of x c) → ⊥
room_draft m x (Writing d) written h = written d refl
room_draft m x _ written h = h

closes_draft : (m : Machine) (x : Store) (c : Channel) → ((d : ℕ) → c ≡ Writing d → ⊥) → CanClose m (chan_of x c) → ⊥
closes_draft m x (Writing d) written h = written d refl
closes_draft m x _ written h = h

pub no_room : (p : Plain) (s n : ℕ) (c : Channel) → c ≡ channel_at p.jobs s n → ((d : ℕ) → c ≡ Writing d → ⊥)
    → HasRoom (machine_of p) (chan_in (machine_of p) s n) → ⊥
no_room p s n c was written h = room_draft (machine_of p) p.files c written
    (subst (HasRoom (machine_of p)) (chan_is p s n ∙ ap (chan_of p.files) (sym was)) h)

pub no_close : (p : Plain) (s n : ℕ) (c : Channel) → c ≡ channel_at p.jobs s n → ((d : ℕ) → c ≡ Writing d → ⊥)
    → CanClose (machine_of p) (chan_in (machine_of p) s n) → ⊥
no_close p s n c was written h = closes_draft (machine_of p) p.files c written
    (subst (CanClose (machine_of p)) (chan_is p s n ∙ ap (chan_of p.files) (sym was)) h)

-- the store alone is another
store_machine : (old new : Plain) (t : Store) → OnlyStore old new t → Stays old.files t old.jobs
    → machine_of new ≡ record (machine_of old) { files = directory t }
unfolding machine_of
store_machine old new t o stays = machine_is _ _
    (λ k. (λ i. raw_at (o.is i).files (o.is i).core (o.is i).jobs (o.is i).alarms.items k)
    ∙ raw_alike old.files t (core_at old.core k) (superior_at old.jobs k) (alarm_at old.alarms.items k) (job_at old.jobs k) (stays.chans k))
    (λ k. ap (λ l. console_at l.items k) (consoles_as o.is)) (λ k. ap (λ l. holder_at l k) (holders_as o.is)) (ap directory (files_as o.is))
    (clock_as o.is) (version_as o.is) (λ k. ap (λ l. symbols_at l.items k) (symbols_as o.is)) (λ k. ap (λ l. piped l k) (pipes_as o.is))

store_tidy : (old new : Plain) (t : Store) → OnlyStore old new t → Stays old.files t old.jobs → t.mark ≡ None → Tidy old → Tidy new
store_tidy old new t o stays unmarked tidy = record {
  unreserved = λ k. ap (λ c. clear_at c k) (core_as o.is) ∙ tidy.unreserved k;
  unmarked = ap (λ (w : Store). w.mark) (files_as o.is) ∙ unmarked;
  across = subst (λ f. Across f new.jobs) (sym (files_as o.is)) (subst (λ j. Across t j) (sym (jobs_as o.is)) stays.across);
  blank = λ k none. ap (λ c. core_at c k) (core_as o.is) ∙ tidy.blank k (sym (ap (λ j. job_at j k) (jobs_as o.is)) ∙ none);
  quiet = λ k none. ap (λ l. alarm_at l.items k) (alarms_as o.is) ∙ tidy.quiet k (sym (ap (λ j. job_at j k) (jobs_as o.is)) ∙ none);
  nameless = λ k none. ap (λ l. symbols_at l.items k) (symbols_as o.is) ∙ tidy.nameless k (sym (ap (λ j. job_at j k) (jobs_as o.is)) ∙ none);
  addressed = λ k. subst IsPlaced (sym (ap (λ j. job_at j k) (jobs_as o.is))) (tidy.addressed k);
  timed = subst (λ t. t < clock_end) (sym (clock_as o.is)) tidy.timed;
}

module _ (old new : Plain) (tidy : Tidy old) (d x y : ℕ) where
  directory_comes : (t : Store) (fs : List PlainFile) → OnlyStore old new t → Stays old.files t old.jobs → directory t ≡ fs
      → t.mark ≡ old.files.mark → Comes old new (record (machine_of old) { files = fs })
  directory_comes t fs o stays files mark = record {
    row = record {
      machine = store_machine old new t o stays ∙ (λ i. record (machine_of old) { files = files i });
      place = place_as o.is;
      touched = touched_as o.is;
    };
    tidy = store_tidy old new t o stays (mark ∙ tidy.unmarked) tidy;
  }

  pub delete_comes : (t : Store) (f : ℕ) → names_at old.files f ≡ d ∷ x ∷ y ∷ [] → is_file (entry_at old.files f) ≡ true → delete old.files f ≡ Ok t
      → directory t ≡ without_names (names_at old.files f) (directory old.files) → Only (entry_at old.files) (entry_at t) f None
      → Only (words_at old.files) (words_at t) f [] → OnlyStore old new t
      → Comes old new (record (machine_of old) { files = without_file (names_of d x y) (machine_of old).files })
  unfolding without_file
  delete_comes t f names file made files entry words o =
      directory_comes t (without_names (names_of d x y) (machine_of old).files) o (deleted_stays old.files t old.jobs f tidy.across [] file made entry words)
      (files ∙ ap (λ ns. without_names ns (directory old.files)) names ∙ sym (ap (without_names (names_of d x y)) (files_are old)))
      (ap (λ (w : Store). w.mark) (delete_is old.files t f made).1)

  pub rename_comes : (t : Store) (f u v : ℕ) → found old.files (d ∷ x ∷ y ∷ []) ≡ Some f → IsStore old.files
      → is_file (entry_at old.files f) ≡ true → rename old.files f u v ≡ Ok t
      → directory t ≡ with_changed (names_at old.files f) (named (new_names old.files f u v)) (directory old.files)
      → Only (entry_at old.files) (entry_at t) f (Some (File (new_names old.files f u v) 0)) → Same (words_at old.files) (words_at t) → OnlyStore old new t
      → Comes old new (record (machine_of old) { files = with_new_names (names_of d x y) u v (machine_of old).files })
  rename_comes t f u v is whole file made files entry words o =
      directory_comes t (with_new_names (names_of d x y) u v (machine_of old).files) o
      (renamed_stays old.files t old.jobs f tidy.across u v file made entry words)
      (renamed_directory old.files whole t (names_of d x y) f u v is files ∙ sym (ap (with_new_names (names_of d x y) u v) (files_are old)))
      (ap (λ (w : Store). w.mark) (rename_is old.files t f u v made).1)
