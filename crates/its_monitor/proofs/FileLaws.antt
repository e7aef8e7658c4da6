-- FILE and its words: the pending parts of a close are performed first, and then a file is made, or
-- is longer by a word.
use Rattle.std.specs.Prelude.{◌≡◌, ◌<◌, ◌≤◌, ◌^◌, ℕ, Bool, true, false, Option, Some, None, IfSome, List, [], ◌∷◌, ◌++◌, Result, Ok, Err, OnOk, OnErr, is_some, option_map, length, nat_lt, refl}
use Rattle.std.proofs.Common.{sym, ◌∙◌, ap, subst}
use Rattle.std.proofs.lemmas.Bool.{lt-ltb, le-ltb}
use Rattle.std.proofs.lemmas.List.{length-map}
use Rattle.its_word.specs.Only.{Only, Same}
use Rattle.its_word.specs.Directory.{with_changed, longer}
use Rattle.its_records.specs.declared.jobs.Job.{Job}
use Rattle.its_records.specs.declared.session.Event.{Event}
use Rattle.its_records.specs.declared.session.Event.TheVariants as events
use Rattle.its_records.specs.declared.session.Reason.{Reason}
use Rattle.its_records.specs.declared.session.Refusal.{Refusal}
use Rattle.its_records.specs.declared.session.Refusal.TheVariants as refusals
use Rattle.its_core.specs.Cores.{core_at}
use Rattle.its_jobs.specs.Table.{superior_at}
use Rattle.its_files.specs.Blocks.{is_full as store_is_full, blocks_used as stored_blocks}
use Rattle.its_files.specs.Files.{Store, IsStore, entry_at, is_file, names_by, names_at, words_at, file_at, found, with_file, with_word, after_help, directory}
use Rattle.its_files.specs.declared.entry.Entry.TheVariants.{File as Standing}
use Rattle.its_plain.specs.Machine.{Names, File, Machine}
use Rattle.its_plain.specs.Machine.Own.{names_of}
use Rattle.its_plain.specs.Machine.Change.{channel_in}
use Rattle.its_plain.specs.Call.File.{most_files, is_full, file_named, has_file}
use Rattle.its_plain.specs.Operator.Files.{channels_of, with_files, with_file_made_if, with_file_made, with_word_added_if, with_word_added_to, with_word_added}
use Rattle.its_plain.specs.Operator.{Block, no_block, nobody, and_then, quietly}
use Rattle.its_plain.specs.Operator.Lines.{operate, Done, lined}
use Rattle.its_plain.proofs.CallLineLaws.{FilesAlone, made_files, word_files}
use Rattle.its_stepped.specs.State.{State, plain}
use Rattle.its_stepped.specs.Unwind.{help}
use Rattle.its_stepped.specs.Sound.{Sound}
use Rattle.its_stepped.specs.Lines.{after_calm, with_raw}
use Rattle.its_stepped.proofs.Committing.EffectLaws.{unmarked_files}
use Rattle.its_stepped.proofs.Committing.HelpLaws.{help_plain, help_sound, help_unmarked}
use Rattle.its_stepped.proofs.Lining.RefusalLaws.{error_of, made_alike, added_alike}
use Rattle.its_world.specs.World.{alarm_at, chan_of, raw_of, mark_of, state_of}
use Rattle.its_world.specs.Tidy.{channel_by, Tidy}
use Rattle.its_world.specs.declared.world.World.{World}
use Rattle.its_world.specs.Storage.{OnlyStore}
use Rattle.its_shared.proofs.RoomLaws.{full_on}
use Rattle.its_shared.proofs.KeptLaws.{Stays, made_stays, lengthened_stays, helped_stays}
use Rattle.its_world.proofs.MarkLaws.{none_marked, mark_none, made_none, help_step}
use Rattle.its_shared.proofs.StoreLaws.{found_named, has_named, found_self}
use Rattle.its_world.proofs.StorageLaws.{files_are, chans_are, marks_are, store_state, store_tidy}
use Rattle.its_records.specs.Refusals.{reason_of}
use Rattle.its_monitor.specs.Kept.{Kept, Lands, CloseMade, Helped, FileRefused}
use Rattle.its_monitor.proofs.KeptLaws.{alike_kept, error_is, Made, made_sound, made_plain, made_forest, made_timed, made_alarmed}
use Rattle.its_monitor.proofs.LoadLaws.{and_ok}
use Rattle.its_monitor.proofs.StartLaws.{quiet_by}
use Rattle.its_tick.proofs.WaitsLaws.{kept_is}
use Rattle.its_world.proofs.ContentsLaws.{files_as}

-- the pending parts of a close are performed
pub helped_is : (old new : World) → IsStore old.files → Kept old → CloseMade old new → Helped old new
helped_is old new whole kept alone =
    let stays : Stays old.files (after_help old.files) old.jobs = helped_stays old.files (after_help old.files) old.jobs whole kept.tidy.across refl in
    let state : state_of new ≡ help (state_of old) =
    store_state old new (after_help old.files) alone stays ∙ sym (help_step old.files whole (state_of old) (marks_are old) (files_are old)) in
    record {
      alone = alone;
      files = files_as alone.is;
      state = state;
      kept = alike_kept old new kept (ap plain state ∙ help_plain (state_of old))
          (subst Sound (sym state) (help_sound (state_of old) kept.sound)) (store_tidy old new (after_help old.files) alone stays kept.tidy);
    }

-- the plain machine is the same then, and no close is half made
module _ (old new : World) (h : Helped old new) where
  pub helped_plain : plain (state_of new) ≡ plain (state_of old)
  helped_plain = ap plain h.state ∙ help_plain (state_of old)

  helped_whole : mark_of new.files ≡ None
  helped_whole = sym (marks_are new) ∙ ap (λ (v : State). v.mark) h.state ∙ help_unmarked (state_of old)

  pub helped_unmarked : new.files.mark ≡ None
  helped_unmarked = mark_none new.files helped_whole

  pub helped_files : (plain (state_of old)).files ≡ directory new.files
  unfolding plain
  helped_files = sym (ap (λ (m : Machine). m.files) helped_plain) ∙ unmarked_files (state_of new) (marks_are new ∙ helped_whole) ∙ files_are new

-- a file exists then, and also if the parts were to be performed again
pub stands_still : (old new : World) (id : ℕ) → state_of new ≡ help (state_of old) → is_file (entry_at new.files id) ≡ true
    → is_file (entry_at (after_help new.files) id) ≡ true
stands_still old new id is file =
    let none = mark_none new.files (sym (marks_are new) ∙ ap (λ (v : State). v.mark) is ∙ help_unmarked (state_of old)) in
    ap (λ s. is_file (entry_at s id)) (made_none new.files none) ∙ file

-- a file that is found by its names, or not
module _ (old new : World) (n : Names) (o : Option ℕ) (h : Helped old new) (is : o ≡ found new.files n) where
  named_by : option_map (file_at new.files) o ≡ file_named n (plain (state_of old)).files
  named_by = ap (option_map (file_at new.files)) is ∙ found_named new.files n ∙ sym (ap (file_named n) (helped_files old new h))

  pub file_found : (id : ℕ) → o ≡ Some id → file_named n (plain (state_of old)).files ≡ Some (file_at new.files id)
  file_found id e = sym named_by ∙ ap (option_map (file_at new.files)) e

  pub file_absent : o ≡ None → file_named n (plain (state_of old)).files ≡ None
  file_absent e = sym named_by ∙ ap (option_map (file_at new.files)) e

-- a refusal
pub file_refused : {X : Type 0} (f : Machine → Result X Reason) (w : State) (x : Refusal)
    → ((u : State) → u.mark ≡ None → error_of (f (plain u)) ≡ error_of (f u.raw))
    → f (help w).raw ≡ Err (reason_of x) → FileRefused w f x
file_refused f w x alike h = record {
  plain = error_is (f (plain w)) (f (help w).raw) (reason_of x) (ap (λ m. error_of (f m)) (sym (help_plain w)) ∙ alike (help w) (help_unmarked w)) h;
  calmed = h;
}

-- other files in the store, if no close is half made: of the raw machine only the files are others
record Filed (old new : World) (fs : List File) : Type 0 where
  state : state_of new ≡ with_raw (state_of old) (with_files (state_of old).raw fs)
  tidy : Tidy new

filed : (old new : World) (fs : List File) → OnlyStore old new new.files → Tidy old → Stays old.files new.files old.jobs
    → old.files.mark ≡ None → new.files.mark ≡ None → directory new.files ≡ fs → Filed old new fs
filed old new fs o tidy stays none still files =
    let m : mark_of new.files ≡ (state_of old).mark = none_marked new.files still ∙ sym (marks_are old ∙ none_marked old.files none) in
    record {
      state = store_state old new new.files o stays ∙ (λ i. record (state_of old) { raw = record (state_of old).raw { files = files i }; mark = m i });
      tidy = store_tidy old new new.files o stays tidy;
    }

filed_lands : (old new : World) (fs : List File) (r : Result Machine Reason) → Filed old new fs → r ≡ Ok (with_files (state_of old).raw fs)
    → Lands (state_of old) (state_of new) r
filed_lands old new fs r f is = record {
  is = is ∙ ap (λ (v : State). Ok v.raw) (sym f.state);
  rest = f.state ∙ ap (λ (v : State). with_raw (state_of old) v.raw) (sym f.state);
}

-- if only the files change, a line keeps what holds between calls
files_kept : (e : Event) (b : Block) (old new : World) → Kept old → Made (state_of old) (state_of new) b e
    → plain (state_of new) ≡ with_files (plain (state_of old)) (plain (state_of new)).files → Tidy new → Kept new
files_kept e b old new kept made is tidy =
    kept_is new
    (made_sound (state_of old) (state_of new) b e kept.sound made)
    (made_forest (state_of old) (state_of new) b e kept.sound kept.forest made)
    tidy
    (λ k. subst (λ (m : Machine). IfSome (m.jobs k) (λ q. q.job.pc < 2 ^ 18)) (sym is) (kept.addressed k))
    (λ k. subst (λ (m : Machine). IfSome (m.jobs k) (λ q. IfSome q.job.console (λ c. c < 8))) (sym is) (kept.consoled k))
    (made_timed (state_of old) (state_of new) b e kept.sound kept.timed made)
    (made_alarmed (state_of old) (state_of new) b e kept.sound kept.forest kept.alarmed made)

alone_is : (m n : Machine) (r : Result Machine Reason) → r ≡ Ok n → FilesAlone m r → n ≡ with_files m n.files
alone_is m n r e h = subst (FilesAlone m) e h

-- FILE: a file of no words, the last in order
abbrev new_file : Names → File
new_file n = record { names = n; words = [] }

made_on : (w : World) (n : Names) → with_file_made (state_of w).raw n ≡ with_file_made_if (state_of w).raw n (is_some (found w.files n))
    (nat_lt (length w.files.order) most_files)
unfolding with_file_made
made_on w n =
    ap (λ fs. with_file_made_if (state_of w).raw n (has_file n fs) (nat_lt (length fs) most_files)) (files_are w)
    ∙ ap (λ b. with_file_made_if (state_of w).raw n b (nat_lt (length (directory w.files)) most_files)) (has_named w.files n)
    ∙ ap (λ k. with_file_made_if (state_of w).raw n (is_some (found w.files n)) (nat_lt k most_files)) (length-map w.files.order (file_at w.files))

module _ (old new : World) (id d x y : ℕ) (kept : Kept old) (none : old.files.mark ≡ None) (few : length old.files.order < most_files)
    (fresh : found old.files (names_of d x y) ≡ None)
    (free : entry_at old.files id ≡ None) (made : new.files ≡ with_file old.files id (names_of d x y))
    (entry : Only (entry_at old.files) (entry_at new.files) id (Some (Standing (names_of d x y) 0)))
    (words : Only (words_at old.files) (words_at new.files) id [])
    (files : directory new.files ≡ directory old.files ++ new_file (names_of d x y) ∷ []) (o : OnlyStore old new new.files) where
  made_filed : Filed old new (directory old.files ++ new_file (names_of d x y) ∷ [])
  made_filed =
      filed old new (directory old.files ++ new_file (names_of d x y) ∷ []) o kept.tidy
      (made_stays old.files new.files old.jobs id kept.tidy.across (names_of d x y) [] free made entry words) none
      (ap (λ (s : Store). s.mark) made ∙ none) files

  pub made_lands : Lands (state_of old) (state_of new) (with_file_made (state_of old).raw (names_of d x y))
  made_lands =
      let n = names_of d x y in
      let m = (state_of old).raw in
      filed_lands old new (directory old.files ++ new_file n ∷ []) (with_file_made m n) made_filed
      (made_on old n ∙ ap (λ o. with_file_made_if m n (is_some o) (nat_lt (length old.files.order) most_files)) fresh
      ∙ ap (with_file_made_if m n false) (lt-ltb (length old.files.order) most_files few)
      ∙ ap (λ fs. Ok (with_files m (fs ++ new_file n ∷ []))) (files_are old))

  pub made_tidy : Tidy new
  made_tidy = made_filed.tidy

  pub made_stands : is_file (entry_at new.files id) ≡ true
  made_stands = ap is_file entry.here

  pub made_names : names_at new.files id ≡ names_of d x y
  made_names = ap names_by entry.here

module _ (old mid new : World) (d x y : ℕ) (kept : Kept old) (h : Helped old mid)
    (l : Lands (state_of mid) (state_of new) (with_file_made (state_of mid).raw (names_of d x y))) where
  pub new_done : Lands (help (state_of old)) (state_of new) (with_file_made (help (state_of old)).raw (names_of d x y))
  new_done = subst (λ (v : State). Lands v (state_of new) (with_file_made v.raw (names_of d x y))) h.state l

  new_made : Made (state_of old) (state_of new) no_block (events.File d x y)
  unfolding after_calm lined operate
  new_made =
      let b = record no_block { file = names_of d x y } in
      record { out = []; touched = nobody; block = b; is = ap (λ r. Done (quietly b r)) new_done.is; rest = new_done.rest }

  pub new_plain : with_file_made (plain (state_of old)) (names_of d x y) ≡ Ok (plain (state_of new))
  unfolding lined operate
  new_plain =
      let m = new_made in
      quiet_by (with_file_made (plain (state_of old)) (names_of d x y)) (plain (state_of new)) m.out m.touched
      (record no_block { file = names_of d x y }) m.block
      (made_plain (state_of old) (state_of new) no_block (events.File d x y) kept.sound m)

  pub new_kept : Tidy new → Kept new
  new_kept tidy = files_kept (events.File d x y) no_block old new kept new_made
      (alone_is (plain (state_of old)) (plain (state_of new)) (with_file_made (plain (state_of old)) (names_of d x y))
      new_plain (made_files (plain (state_of old)) (names_of d x y))) tidy

-- it is refused
module _ (old mid : World) (n : Names) (h : Helped old mid) where
  new_err : (there room : Bool) (e : Refusal) → is_some (found mid.files n) ≡ there → nat_lt (length mid.files.order) most_files ≡ room
      → with_file_made_if (state_of mid).raw n there room ≡ Err (reason_of e) → FileRefused (state_of old) (λ m. with_file_made m n) e
  new_err there room e t r is = file_refused (λ m. with_file_made m n) (state_of old) e (λ u none. made_alike u n none)
      (ap (λ (v : State). with_file_made v.raw n) (sym h.state) ∙ made_on mid n ∙ (λ i. with_file_made_if (state_of mid).raw n (t i) (r i)) ∙ is)

  pub new_exists : is_some (found mid.files n) ≡ true → FileRefused (state_of old) (λ m. with_file_made m n) refusals.Exists
  new_exists t = new_err true (nat_lt (length mid.files.order) most_files) refusals.Exists t refl refl

  pub new_full : is_some (found mid.files n) ≡ false → most_files ≤ length mid.files.order
      → FileRefused (state_of old) (λ m. with_file_made m n) refusals.Full
  new_full t le = new_err false false refusals.Full t (le-ltb (length mid.files.order) most_files le) refl

-- a word more of a file: the channels of the machine are those of the store
channels_by : (s : Store) (w : World) (k n : ℕ) (o : Option Job)
    → channel_in (raw_of s (core_at w.core k) (superior_at w.jobs k) (alarm_at w.alarms.items k) o) n ≡ chan_of s (channel_by o n)
channels_by s w k n (Some j) = refl
channels_by s w k n None = refl

module _ (w : World) (whole : IsStore w.files) (kept : Kept w) (none : w.files.mark ≡ None) (id : ℕ)
    (file : is_file (entry_at w.files id) ≡ true) (most : stored_blocks w.files.stored ≤ 2048) where
  named_here : file_named (names_at w.files id) (directory w.files) ≡ Some (file_at w.files id)
  named_here = sym (found_named w.files (names_at w.files id)) ∙ ap (option_map (file_at w.files)) (found_self w.files whole id file)

  added_on : (x : ℕ) → with_word_added (state_of w).raw (names_at w.files id) x ≡ with_word_added_if (state_of w).raw (names_at w.files id)
      x (store_is_full w.files.stored id)
  unfolding with_word_added
  added_on x =
      let m = (state_of w).raw in
      let n = names_at w.files id in
      ap (λ fs. with_word_added_to m n x (file_named n fs)) (files_are w) ∙ ap (with_word_added_to m n x) named_here
      ∙ ap (λ fs. with_word_added_if m n x (is_full fs (channels_of m) (words_at w.files id))) (files_are w)
      ∙ ap (λ cs. with_word_added_if m n x (is_full (directory w.files) cs (words_at w.files id))) (chans_are w)
      ∙ ap (with_word_added_if m n x) (sym (full_on w.files whole none w.jobs id kept.tidy.across most))

  pub added_full : (x : ℕ) → store_is_full w.files.stored id ≡ true → with_word_added (state_of w).raw (names_at w.files id) x ≡ Err (reason_of refusals.Full)
  added_full x full = added_on x ∙ ap (with_word_added_if (state_of w).raw (names_at w.files id) x) full

  module _ (new : World) (x : ℕ) (made : new.files ≡ with_word w.files id x) (entry : Same (entry_at w.files) (entry_at new.files))
      (words : Only (words_at w.files) (words_at new.files) id (words_at w.files id ++ x ∷ []))
      (files : directory new.files ≡ with_changed (names_at w.files id) (longer x) (directory w.files)) (o : OnlyStore w new new.files) where
    added_filed : Filed w new (with_changed (names_at w.files id) (longer x) (directory w.files))
    added_filed =
        filed w new (with_changed (names_at w.files id) (longer x) (directory w.files)) o kept.tidy
        (lengthened_stays w.files new.files w.jobs id kept.tidy.across x (words_at w.files id ++ x ∷ []) file made entry words) none
        (ap (λ (s : Store). s.mark) made ∙ none) files

    pub added_lands : store_is_full w.files.stored id ≡ false → Lands (state_of w) (state_of new) (with_word_added (state_of w).raw (names_at w.files id) x)
    added_lands room =
        let m = (state_of w).raw in
        let n = names_at w.files id in
        filed_lands w new (with_changed n (longer x) (directory w.files)) (with_word_added m n x) added_filed
        (added_on x ∙ ap (with_word_added_if m n x) room ∙ ap (λ fs. Ok (with_files m (with_changed n (longer x) fs))) (files_are w))

    pub added_tidy : Tidy new
    added_tidy = added_filed.tidy

    pub added_stands : is_file (entry_at new.files id) ≡ true
    added_stands = ap is_file (entry.each id) ∙ file

    pub added_names : names_at new.files id ≡ names_at w.files id
    added_names = ap names_by (entry.each id)

-- the block of a file
abbrev file_block : Names → Block
file_block n = record no_block { file = n }

module _ (old mid new : World) (n : Names) (x : ℕ) (kept : Kept old) (h : Helped old mid)
    (l : Lands (state_of mid) (state_of new) (with_word_added (state_of mid).raw n x)) where
  pub more_done : Lands (help (state_of old)) (state_of new) (with_word_added (help (state_of old)).raw n x)
  more_done = subst (λ (v : State). Lands v (state_of new) (with_word_added v.raw n x)) h.state l

  more_made : Made (state_of old) (state_of new) (file_block n) (events.Append (record { items = x ∷ [] }))
  unfolding after_calm lined operate
  more_made = record {
    out = [];
    touched = nobody;
    block = file_block n;
    is = ap (λ r. Done (quietly (file_block n) (and_then r (λ k. Ok k)))) more_done.is;
    rest = more_done.rest;
  }

  pub more_plain : with_word_added (plain (state_of old)) n x ≡ Ok (plain (state_of new))
  unfolding lined operate
  more_plain =
      let m = more_made in
      and_ok (with_word_added (plain (state_of old)) n x) (plain (state_of new))
      (quiet_by (and_then (with_word_added (plain (state_of old)) n x) (λ k. Ok k)) (plain (state_of new)) m.out m.touched (file_block n) m.block
      (made_plain (state_of old) (state_of new) (file_block n) (events.Append (record { items = x ∷ [] })) kept.sound m))

  more_kept : Tidy new → Kept new
  more_kept tidy = files_kept (events.Append (record { items = x ∷ [] })) (file_block n) old new kept more_made
      (alone_is (plain (state_of old)) (plain (state_of new)) (with_word_added (plain (state_of old)) n x)
      more_plain (word_files (plain (state_of old)) n x)) tidy

pub word_kept : (old mid new : World) (n : Names) (x : ℕ) (r : Result (Unit {0}) Refusal) → Kept old → Helped old mid
    → OnOk r (Lands (state_of mid) (state_of new) (with_word_added (state_of mid).raw n x))
    → Tidy new → OnErr r (new ≡ mid) → Kept new
word_kept old mid new n x (Ok u) kept h l tidy same = more_kept old mid new n x kept h l tidy
word_kept old mid new n x (Err e) kept h l tidy same = subst Kept (sym same) h.kept

pub more_refused : (old mid : World) (n : Names) (x : ℕ) (e : Refusal) → Helped old mid
    → with_word_added (state_of mid).raw n x ≡ Err (reason_of e) → FileRefused (state_of old) (λ m. with_word_added m n x) e
more_refused old mid n x e h is = file_refused (λ m. with_word_added m n x) (state_of old) e (λ u none. added_alike u n x none)
    (ap (λ (v : State). with_word_added v.raw n x) (sym h.state) ∙ is)
