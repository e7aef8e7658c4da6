-- The lines FILE, its words and EOF.
use Rattle.std.specs.Prelude.{◌≡◌, ◌≢◌, ◌<◌, ◌≤◌, ◌+◌, ℕ, suc, Bool, true, false, Option, Some, None, List, [], ◌∷◌, ◌++◌, IsOk, Result, Ok, Err, is_some, option_map, drop, length, nat_lt, slice_index_or, refl}
use Rattle.std.proofs.Common.{sym, ◌∙◌, ap, subst, arith, get_or, inl, inr}
use Rattle.std.proofs.Math.ListN.{drop_of_length-le}
use Rattle.std.proofs.lemmas.Bool.{cases_Bool, cases_eq, eqb-true, lt-ltb, le-ltb}
use Rattle.std.proofs.lemmas.List.{drop_more, get_or-set_same, get_or-set_other, length-map, length-set}
use Rattle.its_word.specs.Directory.{with_changed, longer}
use Rattle.its_word.specs.Only.{Only, Same}
use Rattle.its_records.specs.declared.jobs.Channel.{Channel}
use Rattle.its_records.specs.declared.jobs.Channel.TheVariants.{Closed, Reading, Writing}
use Rattle.its_records.specs.declared.jobs.Job.{Job}
use Rattle.its_records.specs.declared.session.Reason.{Reason}
use Rattle.its_records.specs.declared.session.Reason.TheVariants as reasons
use Rattle.its_core.specs.Cores.{core_at, clear_at}
use Rattle.its_files.specs.Blocks.{text_at, is_full as store_is_full, blocks_used, room_behind}
use Rattle.its_files.specs.Files.{Store, IsStore, entry_at, is_file, is_draft, is_marked, names_by, names_at, readers_at, readers_by, words_by, words_at, file_at, found, with_file, with_word, directory}
use Rattle.its_files.specs.declared.entry.Entry.{Entry}
use Rattle.its_files.specs.declared.entry.Entry.TheVariants.{File as Standing, Draft}
use Rattle.its_files.proofs.DirectoryLaws.{with_word_file}
use Rattle.its_files.proofs.EntryLaws.{within, file_stands}
use Rattle.its_files.proofs.RoomBehindLaws.{no_room, most_appended, room_appended}
use Rattle.its_jobs.specs.Table.{Table, job_at, superior_at}
use Rattle.its_pipes.specs.Pipes.{piped}
use Rattle.its_plain.specs.Call.File.{most_files, is_full, file_named, has_file}
use Rattle.its_plain.specs.Machine.Change.{channel_in}
use Rattle.its_plain.specs.Machine.{Names, File, Machine}
use Rattle.its_plain.specs.Machine as machines
use Rattle.its_plain.specs.Operator.{and_then}
use Rattle.its_plain.specs.Operator.Clock.{clock_end}
use Rattle.its_plain.specs.Operator.Files.{channels_of, with_files, with_file_made_if, with_file_made, with_word_added_if, with_word_added_to, with_word_added, with_words_added}
use Rattle.its_plain.proofs.MachineLaws.{machine_is}
use Rattle.its_shared.specs.Across.{Across, channel_by, channel_at, writers}
use Rattle.its_shared.specs.Parts.{alarm_at, bare, chan_of, console_at, holder_at, symbols_at, raw_of}
use Rattle.its_shared.proofs.RoomLaws.{full_on}
use Rattle.its_shared.proofs.StandLaws.{reading_file, writing_draft}
use Rattle.its_shared.proofs.StoreLaws.{found_named, has_named, named_self}
use Rattle.its_direct.specs.Contents.{contents}
use Rattle.its_direct.specs.Effects.{OnlyStore}
use Rattle.its_direct.specs.Filing.{Leads}
use Rattle.its_direct.specs.Lines.{Keeps}
use Rattle.its_direct.specs.Plain.{machine_of, no_slots, Tidy}
use Rattle.its_direct.specs.declared.plain.Plain.{Plain}
use Rattle.its_direct.specs.declared.plain.Spot.{Spot}
use Rattle.its_direct.specs.declared.plain.Spot.TheVariants as spots
use Rattle.its_direct.proofs.DirectoryLaws.{files_are}
use Rattle.its_direct.proofs.LoadLaws.{placed_tidy}
use Rattle.its_direct.proofs.LoadedLaws.{no_error, first_ok}
use Rattle.its_direct.proofs.RoomLaws.{Within, within_ok, within_full}
use Rattle.its_direct.proofs.SlotLaws.{IsPlaced, touched_machine, touched_tidy}
use Rattle.its_direct.proofs.TouchLaws.{none_touched}
use Rattle.its_direct.proofs.ContentsLaws.{core_as, jobs_as, consoles_as, holders_as, files_as, clock_as, alarms_as, version_as, symbols_as, pipes_as}

-- what the channels are on is unchanged, if only the entry under one number is another: that is no
-- draft, and a file keeps its names
module _ (s u : Store) (t : Table) (across : Across s t) (id : ℕ) (entry : (k : ℕ) → k ≢ id → entry_at u k ≡ entry_at s k)
    (words : (k : ℕ) → k ≢ id → words_at u k ≡ words_at s k)
    (undrafted : is_draft (entry_at s id) ≡ false) (named : is_file (entry_at s id) ≡ true → names_at u id ≡ names_at s id) where
  names_stay : (f : ℕ) → is_file (entry_at s f) ≡ true → names_at u f ≡ names_at s f
  names_stay f file = elim (cases_eq f id) [
    | inl e ↦ ap (names_at u) e ∙ named (ap (λ n. is_file (entry_at s n)) (sym e) ∙ file) ∙ ap (names_at s) (sym e)
    | inr ne ↦ ap names_by (entry f ne)
  ]

  apart : (d : ℕ) → is_draft (entry_at s d) ≡ true → d ≢ id
  apart d draft e = let wrong : true ≡ false = sym draft ∙ ap (λ n. is_draft (entry_at s n)) e ∙ undrafted in cc

  chan_stays : (k n : ℕ) (c : Channel) → channel_at t k n ≡ c → chan_of u c ≡ chan_of s c
  chan_stays k n (Reading f at) e = ap (λ ns. machines.Reads ns at) (names_stay f (reading_file s t across k n f at e))
  chan_stays k n (Writing d) e =
      let ne = apart d (writing_draft s t across k n d e) in
      λ i. machines.Writes (record { names = ap names_by (entry d ne) i; words = words d ne i })
  chan_stays k n _ e = refl

across_stays : (s u : Store) (t : Table) → Across s t → ((f : ℕ) → readers_at u f ≡ readers_at s f)
    → ((d : ℕ) → writers (entry_at u d) (is_marked u d) ≡ writers (entry_at s d) (is_marked s d)) → Across u t
across_stays s u t a read written = record {
  past_slots = a.past_slots;
  past_numbers = a.past_numbers;
  read = λ f. a.read f ∙ sym (read f);
  written = λ d. a.written d ∙ sym (written d);
}

-- the store is written
pub store_becomes : (old new : Plain) (x : Store) → new.files ≡ x → contents new ≡ record (contents old) { files = new.files } → OnlyStore old new x
store_becomes old new x files e = record { is = e ∙ ap (λ (s : Store). record (contents old) { files = s }) files }

-- the machine with other files, whose channels are on the same
module _ (old new : Plain) (x : Store) (b : OnlyStore old new x)
    (stays : (k n : ℕ) (c : Channel) → channel_at old.jobs k n ≡ c → chan_of x c ≡ chan_of old.files c) where
  raw_stays : (k : ℕ) (o : Option Job) → job_at old.jobs k ≡ o
      → raw_of x (core_at old.core k) (superior_at old.jobs k) (alarm_at old.alarms.items k) o ≡ raw_of old.files (core_at old.core k)
      (superior_at old.jobs k) (alarm_at old.alarms.items k) o
  raw_stays k None e = refl
  raw_stays k (Some j) e = λ i. Some (record {
    core = core_at old.core k;
    job = bare j;
    superior = superior_at old.jobs k;
    channels = λ n. stays k n (slice_index_or j.channels n Closed) (ap (λ o. channel_by o n) e) i;
    alarm = alarm_at old.alarms.items k;
  })

  pub files_machine : machine_of new ≡ with_files (machine_of old) (directory x)
  unfolding machine_of
  files_machine = machine_is _ _
      (λ k. (λ t. raw_of (b.is t).files (core_at (b.is t).core k) (superior_at (b.is t).jobs k) (alarm_at (b.is t).alarms.items k)
      (job_at (b.is t).jobs k)) ∙ raw_stays k (job_at old.jobs k) refl)
      (λ k. ap (λ l. console_at l.items k) (consoles_as b.is)) (λ k. ap (λ l. holder_at l k) (holders_as b.is))
      (ap directory (files_as b.is)) (clock_as b.is) (version_as b.is) (λ k. ap (λ l. symbols_at l.items k) (symbols_as b.is))
      (λ k. ap (λ l. piped l k) (pipes_as b.is))

  pub files_tidy : x.mark ≡ None → Across x old.jobs → Tidy old → Tidy new
  files_tidy unmarked across tidy = record {
    unreserved = λ k. ap (λ m. clear_at m k) (core_as b.is) ∙ tidy.unreserved k;
    unmarked = ap (λ (s : Store). s.mark) (files_as b.is) ∙ unmarked;
    across = subst (λ (s : Store). Across s new.jobs) (sym (files_as b.is)) (subst (Across x) (sym (jobs_as b.is)) across);
    blank = λ k h. ap (λ m. core_at m k) (core_as b.is) ∙ tidy.blank k (was k h);
    quiet = λ k h. ap (λ l. alarm_at l.items k) (alarms_as b.is) ∙ tidy.quiet k (was k h);
    nameless = λ k h. ap (λ l. symbols_at l.items k) (symbols_as b.is) ∙ tidy.nameless k (was k h);
    addressed = λ k. subst IsPlaced (sym (ap (λ t. job_at t k) (jobs_as b.is))) (tidy.addressed k);
    timed = subst (λ t. t < clock_end) (sym (clock_as b.is)) tidy.timed;
  }
    where
      was : (k : ℕ) → job_at new.jobs k ≡ None → job_at old.jobs k ≡ None
      was k h = sym (ap (λ t. job_at t k) (jobs_as b.is)) ∙ h

-- FILE
abbrev new_file : Names → File
new_file n = record { names = n; words = [] }

made_on : (p : Plain) (n : Names) → with_file_made (machine_of p) n ≡ with_file_made_if (machine_of p) n (is_some (found p.files n))
    (nat_lt (length p.files.order) most_files)
unfolding with_file_made
made_on p n =
    ap (λ fs. with_file_made_if (machine_of p) n (has_file n fs) (nat_lt (length fs) most_files)) (files_are p)
    ∙ ap (λ b. with_file_made_if (machine_of p) n b (nat_lt (length (directory p.files)) most_files)) (has_named p.files n)
    ∙ ap (λ k. with_file_made_if (machine_of p) n (is_some (found p.files n)) (nat_lt k most_files)) (length-map p.files.order (file_at p.files))

pub file_exists : (p : Plain) (n : Names) (o : Option ℕ) (b : Bool) → o ≡ found p.files n → b ≡ is_some o → b ≡ true
    → with_file_made (machine_of p) n ≡ Err reasons.Exists
file_exists p n o b is e t = made_on p n ∙ ap (λ c. with_file_made_if (machine_of p) n c (nat_lt (length p.files.order) most_files))
    (sym (ap is_some is) ∙ sym e ∙ t)

pub file_full : (p : Plain) (n : Names) (o : Option ℕ) (b : Bool) (k : ℕ) → o ≡ found p.files n → b ≡ is_some o → b ≡ false
    → k ≡ length p.files.order → most_files ≤ k → with_file_made (machine_of p) n ≡ Err reasons.Full
file_full p n o b k is e f count le =
    made_on p n ∙ ap (λ c. with_file_made_if (machine_of p) n c (nat_lt (length p.files.order) most_files)) (sym (ap is_some is) ∙ sym e ∙ f)
    ∙ ap (with_file_made_if (machine_of p) n false) (ap (λ m. nat_lt m most_files) (sym count) ∙ le-ltb k most_files le)

free_draft : (o : Option Entry) → o ≡ None → is_draft o ≡ false
free_draft o e = ap is_draft e

free_file : (o : Option Entry) → o ≡ None → is_file o ≡ true → ⊥
free_file o e h = let wrong : false ≡ true = sym (ap is_file e) ∙ h in cc

module _ (old new : Plain) (id : ℕ) (n : Names) (tidy : Tidy old) (few : length old.files.order < most_files)
    (fresh : found old.files n ≡ None) (free : entry_at old.files id ≡ None)
    (b : OnlyStore old new (with_file old.files id n)) (entry : Only (entry_at old.files) (entry_at new.files) id (Some (Standing n 0)))
    (words : Only (words_at old.files) (words_at new.files) id []) (files : directory new.files ≡ directory old.files ++ new_file n ∷ []) where
  entry_made : Only (entry_at old.files) (entry_at (with_file old.files id n)) id (Some (Standing n 0))
  entry_made = subst (λ (s : Store). Only (entry_at old.files) (entry_at s) id (Some (Standing n 0))) (files_as b.is) entry

  words_made : Only (words_at old.files) (words_at (with_file old.files id n)) id []
  words_made = subst (λ (s : Store). Only (words_at old.files) (words_at s) id []) (files_as b.is) words

  made_chans : (k m : ℕ) (c : Channel) → channel_at old.jobs k m ≡ c → chan_of (with_file old.files id n) c ≡ chan_of old.files c
  made_chans = chan_stays old.files (with_file old.files id n) old.jobs tidy.across id entry_made.others words_made.others
      (free_draft (entry_at old.files id) free)
      (λ h. absurd (free_file (entry_at old.files id) free h))

  pub made_row : with_file_made (machine_of old) n ≡ Ok (machine_of new)
  made_row =
      made_on old n ∙ ap (λ o. with_file_made_if (machine_of old) n (is_some o) (nat_lt (length old.files.order) most_files)) fresh
      ∙ ap (with_file_made_if (machine_of old) n false) (lt-ltb (length old.files.order) most_files few)
      ∙ ap (λ fs. Ok (with_files (machine_of old) (fs ++ new_file n ∷ []))) (files_are old)
      ∙ ap (λ fs. Ok (with_files (machine_of old) fs)) (sym files ∙ ap directory (files_as b.is))
      ∙ ap Ok (sym (files_machine old new (with_file old.files id n) b made_chans))

  made_readers : (f : ℕ) → readers_at (with_file old.files id n) f ≡ readers_at old.files f
  made_readers f = elim (cases_eq f id) [
    | inl e ↦ ap (readers_at (with_file old.files id n)) e ∙ ap readers_by entry_made.here ∙ sym (ap (readers_at old.files) e ∙ ap readers_by free)
    | inr ne ↦ ap readers_by (entry_made.others f ne)
  ]

  made_writers : (d : ℕ) → writers (entry_at (with_file old.files id n) d) (is_marked (with_file old.files id n) d) ≡ writers
      (entry_at old.files d) (is_marked old.files d)
  made_writers d = elim (cases_eq d id) [
    | inl e ↦
        ap (λ k. writers (entry_at (with_file old.files id n) k) (is_marked old.files d)) e ∙ ap (λ o. writers o (is_marked old.files d)) entry_made.here
        ∙ sym (ap (λ k. writers (entry_at old.files k) (is_marked old.files d)) e ∙ ap (λ o. writers o (is_marked old.files d)) free)
    | inr ne ↦ ap (λ o. writers o (is_marked old.files d)) (entry_made.others d ne)
  ]

  pub made_tidy : Tidy new
  made_tidy = files_tidy old new (with_file old.files id n) b made_chans tidy.unmarked
      (across_stays old.files (with_file old.files id n) old.jobs tidy.across made_readers made_writers) tidy

pub placed_machine : (p new : Plain) (x : Spot) → new ≡ record p { place = x } → machine_of new ≡ machine_of p
unfolding machine_of
placed_machine p new x e = ap machine_of e

pub file_done : (old mid at new : Plain) (n : Names) → with_file_made (machine_of old) n ≡ Ok (machine_of mid)
    → at ≡ record mid { place = spots.File n } → new ≡ record at { touched = no_slots }
    → Leads old new (spots.File n) (with_file_made (machine_of old) n)
file_done old mid at new n made placed e = record {
  is = made ∙ ap Ok (sym (touched_machine at new no_slots e ∙ placed_machine mid at (spots.File n) placed));
  touched = none_touched new.touched (ap (λ (p : Plain). p.touched) e);
  place = ap (λ (p : Plain). p.place) e ∙ ap (λ (p : Plain). p.place) placed;
}

pub file_tidy : (mid at new : Plain) (n : Names) → at ≡ record mid { place = spots.File n } → new ≡ record at { touched = no_slots } → Tidy mid → Tidy new
file_tidy mid at new n placed e tidy = touched_tidy at new no_slots e (placed_tidy mid at (spots.File n) placed tidy)

-- EOF
pub ended : (old at new : Plain) → at ≡ record old { place = spots.Plain } → new ≡ record at { touched = no_slots }
    → Leads old new spots.Plain (Ok (machine_of old))
unfolding machine_of
ended old at new placed e = record {
  is = ap Ok (sym (ap machine_of (e ∙ ap (λ (p : Plain). record p { touched = no_slots }) placed)));
  touched = none_touched new.touched (ap (λ (p : Plain). p.touched) e);
  place = ap (λ (p : Plain). p.place) e ∙ ap (λ (p : Plain). p.place) placed;
}

pub ended_tidy : (old at new : Plain) → at ≡ record old { place = spots.Plain } → new ≡ record at { touched = no_slots } → Tidy old → Tidy new
ended_tidy old at new placed e tidy = touched_tidy at new no_slots e (placed_tidy old at spots.Plain placed tidy)

-- a word more of a file: the channels of the machine are those of the store
channels_by : (s : Store) (p : Plain) (k n : ℕ) (o : Option Job)
    → channel_in (raw_of s (core_at p.core k) (superior_at p.jobs k) (alarm_at p.alarms.items k) o) n ≡ chan_of s (channel_by o n)
channels_by s p k n (Some j) = refl
channels_by s p k n None = refl

chans_are : (p : Plain) → channels_of (machine_of p) ≡ (λ k n. chan_of p.files (channel_at p.jobs k n))
unfolding machine_of
chans_are p = λ t k n. channels_by p.files p k n (job_at p.jobs k) t

file_no_draft : (o : Option Entry) → is_file o ≡ true → is_draft o ≡ false
file_no_draft (Some (Standing names readers)) h = refl
file_no_draft (Some (Draft names)) h = cc
file_no_draft None h = refl

module _ (p : Plain) (whole : IsStore p.files) (tidy : Tidy p) (id : ℕ) (file : is_file (entry_at p.files id) ≡ true)
    (most : blocks_used p.files.stored ≤ 2048) where
  added_on : (w : ℕ) → with_word_added (machine_of p) (names_at p.files id) w ≡ with_word_added_if (machine_of p) (names_at p.files id) w
      (store_is_full p.files.stored id)
  unfolding with_word_added
  added_on w =
      let m = machine_of p in
      let n = names_at p.files id in
      ap (λ fs. with_word_added_to m n w (file_named n fs)) (files_are p) ∙ ap (with_word_added_to m n w) (named_self p.files whole id file)
      ∙ ap (λ fs. with_word_added_if m n w (is_full fs (channels_of m) (words_at p.files id))) (files_are p)
      ∙ ap (λ cs. with_word_added_if m n w (is_full (directory p.files) cs (words_at p.files id))) (chans_are p)
      ∙ ap (with_word_added_if m n w) (sym (full_on p.files whole tidy.unmarked p.jobs id tidy.across most))

  pub added_full : (w : ℕ) → store_is_full p.files.stored id ≡ true → with_word_added (machine_of p) (names_at p.files id) w ≡ Err reasons.Full
  added_full w full = added_on w ∙ ap (with_word_added_if (machine_of p) (names_at p.files id) w) full

  pub added_room : (w : ℕ) → store_is_full p.files.stored id ≡ true → IsOk (with_word_added (machine_of p) (names_at p.files id) w) → ⊥
  added_room w full ok = no_error (with_word_added (machine_of p) (names_at p.files id) w) reasons.Full (added_full w full) ok

  module _ (new : Plain) (w : ℕ) (b : OnlyStore p new (with_word p.files id w)) (entry : Same (entry_at p.files) (entry_at new.files))
      (words : Only (words_at p.files) (words_at new.files) id (words_at p.files id ++ w ∷ []))
      (files : directory new.files ≡ with_changed (names_at p.files id) (longer w) (directory p.files)) where
    added_entry : (k : ℕ) → entry_at (with_word p.files id w) k ≡ entry_at p.files k
    added_entry k = refl

    added_words : Only (words_at p.files) (words_at (with_word p.files id w)) id (words_at p.files id ++ w ∷ [])
    added_words = subst (λ (s : Store). Only (words_at p.files) (words_at s) id (words_at p.files id ++ w ∷ [])) (files_as b.is) words

    added_chans : (k m : ℕ) (c : Channel) → channel_at p.jobs k m ≡ c → chan_of (with_word p.files id w) c ≡ chan_of p.files c
    added_chans = chan_stays p.files (with_word p.files id w) p.jobs tidy.across id (λ k ne. refl) added_words.others
        (file_no_draft (entry_at p.files id) file) (λ h. refl)

    pub added_row : store_is_full p.files.stored id ≡ false → with_word_added (machine_of p) (names_at p.files id) w ≡ Ok (machine_of new)
    added_row room =
        let m = machine_of p in
        let n = names_at p.files id in
        added_on w ∙ ap (with_word_added_if m n w) room ∙ ap (λ fs. Ok (with_files m (with_changed n (longer w) fs))) (files_are p)
        ∙ ap (λ fs. Ok (with_files m fs)) (sym files ∙ ap directory (files_as b.is))
        ∙ ap Ok (sym (files_machine p new (with_word p.files id w) b added_chans))

    pub added_tidy : Tidy new
    added_tidy = files_tidy p new (with_word p.files id w) b added_chans tidy.unmarked
        (across_stays p.files (with_word p.files id w) p.jobs tidy.across (λ f. refl) (λ d. refl)) tidy

pub added_names : (s u : Store) (id : ℕ) → Same (entry_at s) (entry_at u) → names_at u id ≡ names_at s id
added_names s u id e = ap names_by (e.each id)

-- the words one by one: there is room for all of them, or they are refused
none_stands : (o : Option Entry) → o ≡ None → is_some o ≡ true → ⊥
none_stands o e h = let wrong : false ≡ true = sym (ap is_some e) ∙ h in cc

module _ (s : Store) (whole : IsStore s) (id w : ℕ) (stands : is_some (entry_at s id) ≡ true) where
  pub long : id < length s.stored.texts
  long =
      let l = within s.entries id stands in
      let e = whole.long in
      let t = whole.texts_long in
      omega arith

  pub longer_store : IsStore (with_word s id w)
  longer_store = record {
    long = whole.long;
    texts_long = length-set s.stored.texts id _ ∙ whole.texts_long;
    listed = whole.listed;
    number = whole.number;
    few = whole.few;
    few_drafts = whole.few_drafts;
    unique = whole.unique;
    bare = λ k none left. get_or-set_other s.stored.texts id k _ [] (λ e. none_stands (entry_at s id) (ap (entry_at s) (sym e) ∙ none) stands)
        ∙ whole.bare k none left;
    marked = whole.marked;
  }

  pub words_longer : Only (words_at s) (words_at (with_word s id w)) id (words_at s id ++ w ∷ [])
  words_longer = record {
    here = ap (words_by (entry_at s id)) (get_or-set_same s.stored.texts id (text_at s.stored.texts id ++ w ∷ []) [] long)
        ∙ words_more (entry_at s id) (text_at s.stored.texts id) stands;
    others = λ k ne. ap (words_by (entry_at s k)) (get_or-set_other s.stored.texts id k (text_at s.stored.texts id ++ w ∷ []) [] ne);
  }
    where
      words_more : (o : Option Entry) (ws : List ℕ) → is_some o ≡ true → words_by o (ws ++ w ∷ []) ≡ words_by o ws ++ w ∷ []
      words_more (Some e) ws h = refl
      words_more None ws h = cc

abbrev pub with_longer : Plain → ℕ → ℕ → Plain
with_longer p id w = record p { files = with_word p.files id w }

pub longer_only : (p : Plain) (id w : ℕ) → OnlyStore p (with_longer p id w) (with_word p.files id w)
longer_only p id w = record { is = refl }

room_for : (p : Plain) (id : ℕ) (ws : List ℕ) → IsStore p.files → Tidy p → is_file (entry_at p.files id) ≡ true → blocks_used p.files.stored ≤ 2048
    → Within (room_behind p.files.stored id) (length ws) (with_words_added (machine_of p) (names_at p.files id) ws)
room_for p id [] whole tidy file most = omega arith
room_for p id (w ∷ ws) whole tidy file most = elim (cases_Bool (store_is_full p.files.stored id)) [
  | inl t ↦
      let none : room_behind p.files.stored id ≡ 0 = eqb-true (room_behind p.files.stored id) 0 (sym (no_room p.files.stored id most) ∙ t) in
      subst (Within (room_behind p.files.stored id) (suc (length ws)))
      (sym (ap (λ r. and_then r (λ k. with_words_added k (names_at p.files id) ws)) (added_full p whole tidy id file most w t))) (refl, omega arith)
  | inr f ↦
      let q = with_longer p id w in
      let b = longer_only p id w in
      let entry : Same (entry_at p.files) (entry_at q.files) = record { each = λ k. refl } in
      let stands = file_stands (entry_at p.files id) file in
      let words = words_longer p.files whole id w stands in
      let files = with_word_file p.files whole id w file in
      let lt = long p.files whole id w stands in
      let rest = room_for q id ws (longer_store p.files whole id w stands) (added_tidy p whole tidy id file most q w b entry words files) file
      (most_appended p.files.stored id w lt most f) in
      subst (Within (room_behind p.files.stored id) (suc (length ws)))
      (sym (ap (λ r. and_then r (λ k. with_words_added k (names_at p.files id) ws)) (added_row p whole tidy id file most q w b entry words files f)))
      (one_more (room_behind q.files.stored id) (room_behind p.files.stored id) (length ws)
      (with_words_added (machine_of q) (names_at p.files id) ws) (room_appended p.files.stored id w lt most f) rest)
]
  where
    one_more : (x y n : ℕ) (r : Result Machine Reason) → x + 1 ≡ y → Within x n r → Within y (suc n) r
    one_more x y n (Ok m) e h = omega arith
    one_more x y n (Err z) e h = let l = h.1 in (h.0, omega arith)

module _ (p : Plain) (id room : ℕ) (ws : List ℕ) (whole : IsStore p.files) (tidy : Tidy p) (file : is_file (entry_at p.files id) ≡ true)
    (most : blocks_used p.files.stored ≤ 2048) (room_is : room ≡ room_behind p.files.stored id) where
  fits : Within room (length ws) (with_words_added (machine_of p) (names_at p.files id) ws)
  fits = subst (λ k. Within k (length ws) (with_words_added (machine_of p) (names_at p.files id) ws)) (sym room_is) (room_for p id ws whole tidy file most)

  pub adding_room : length ws ≤ room → IsOk (with_words_added (machine_of p) (names_at p.files id) ws)
  adding_room le = within_ok room (length ws) (with_words_added (machine_of p) (names_at p.files id) ws) fits le

  pub adding_full : room < length ws → with_words_added (machine_of p) (names_at p.files id) ws ≡ Err reasons.Full
  adding_full lt = within_full room (length ws) (with_words_added (machine_of p) (names_at p.files id) ws) fits lt

-- the words in their order: those before place k are added
pub record Adding (old now : Plain) (id : ℕ) (ws : List ℕ) (k : ℕ) : Type 0 where
  pub rest : with_words_added (machine_of now) (names_at old.files id) (drop k ws) ≡ with_words_added (machine_of old) (names_at old.files id) ws
  pub file : is_file (entry_at now.files id) ≡ true
  pub names : names_at now.files id ≡ names_at old.files id
  pub place : now.place ≡ old.place
  pub tidy : Tidy now

pub adding_starts : (p : Plain) (id : ℕ) (ws : List ℕ) → is_file (entry_at p.files id) ≡ true → Tidy p → Adding p p id ws 0
adding_starts p id ws file tidy = record { rest = refl; file = file; names = refl; place = refl; tidy = tidy }

added_next : (old now : Plain) (id k w d : ℕ) (ws : List ℕ) → Adding old now id ws k → k < length ws → w ≡ get_or ws k d
    → and_then (with_word_added (machine_of now) (names_at now.files id) w)
    (λ n. with_words_added n (names_at old.files id) (drop (k + 1) ws)) ≡ with_words_added (machine_of old) (names_at old.files id) ws
added_next old now id k w d ws h l is =
    ap (λ ns. and_then (with_word_added (machine_of now) ns w) (λ n. with_words_added n (names_at old.files id) (drop (k + 1) ws))) h.names
    ∙ ap (λ x. with_words_added (machine_of now) (names_at old.files id) (x ∷ drop (k + 1) ws)) is
    ∙ ap (with_words_added (machine_of now) (names_at old.files id)) (sym (drop_more ws k d l)) ∙ h.rest

pub adding_next : (old now : Plain) (id k w d : ℕ) (ws : List ℕ) → Adding old now id ws k → k < length ws → w ≡ get_or ws k d
    → IsOk (with_words_added (machine_of old) (names_at old.files id) ws)
    → IsOk (with_word_added (machine_of now) (names_at now.files id) w)
adding_next old now id k w d ws h l is ok =
    first_ok (with_word_added (machine_of now) (names_at now.files id) w)
    (λ n. with_words_added n (names_at old.files id) (drop (k + 1) ws))
    (subst (λ (r : Result Machine Reason). IsOk r) (sym (added_next old now id k w d ws h l is)) ok)

pub adding_more : (old now new : Plain) (id k w d : ℕ) (ws : List ℕ) → Adding old now id ws k → k < length ws → w ≡ get_or ws k d
    → with_word_added (machine_of now) (names_at now.files id) w ≡ Ok (machine_of new) → is_file (entry_at new.files id) ≡ true
    → names_at new.files id ≡ names_at now.files id → new.place ≡ now.place → Tidy new
    → Adding old new id ws (k + 1)
adding_more old now new id k w d ws h l is made file names place tidy = record {
  rest = sym (ap (λ r. and_then r (λ n. with_words_added n (names_at old.files id) (drop (k + 1) ws))) made) ∙ added_next old now id k w d ws h l is;
  file = file;
  names = names ∙ h.names;
  place = place ∙ h.place;
  tidy = tidy;
}

pub adding_ends : (old now : Plain) (id k n : ℕ) (ws : List ℕ) → Adding old now id ws k → n ≡ length ws → n ≤ k
    → with_words_added (machine_of old) (names_at old.files id) ws ≡ Ok (machine_of now)
adding_ends old now id k n ws h is l = sym h.rest ∙ ap (with_words_added (machine_of now) (names_at old.files id)) (drop_of_length-le ws (omega arith))

-- the line, if there is such a file, and if there is none
pub appended : (old put new : Plain) (n : Names) (ws : List ℕ) → with_words_added (machine_of old) n ws ≡ Ok (machine_of put)
    → put.place ≡ old.place → new ≡ record put { touched = no_slots }
    → Keeps old new (with_words_added (machine_of old) n ws)
appended old put new n ws made place e = record {
  is = made ∙ ap Ok (sym (touched_machine put new no_slots e));
  touched = none_touched new.touched (ap (λ (p : Plain). p.touched) e);
  place = ap (λ (p : Plain). p.place) e ∙ place;
}

nothing_of : {X Y : Type 0} (f : X → Y) (o : Option X) → o ≡ None → option_map f o ≡ None
nothing_of f o e = ap (option_map f) e

pub appended_none : (p : Plain) (n : Names) (ws : List ℕ) (o : Option ℕ) → o ≡ found p.files n → o ≡ None → 1 ≤ length ws
    → with_words_added (machine_of p) n ws ≡ Err reasons.NoFile
unfolding with_word_added
appended_none p n [] o is none some = absurd (omega arith)
appended_none p n (w ∷ ws) o is none some =
    ap (λ x. and_then (with_word_added_to (machine_of p) n w x) (λ k. with_words_added k n ws))
    (ap (file_named n) (files_are p) ∙ sym (found_named p.files n) ∙ nothing_of (file_at p.files) (found p.files n) (sym is ∙ none))
