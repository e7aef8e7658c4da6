-- The result of each change of a channel, a draft or a file: the state is that after the change,
-- and the world is tidy.
use Rattle.std.specs.Prelude.{◌≡◌, ◌≢◌, ◌<◌, ◌≤◌, ℕ, ◌+◌, ◌-◌, Bool, true, false, Some, None, is_some, Ok, Err, List, [], ◌∷◌, ◌++◌, refl}
use Rattle.std.proofs.Common.{sym, ◌∙◌, ap, subst, inl, inr}
use Rattle.std.proofs.lemmas.Bool.{cases_eq}
use Rattle.its_word.specs.Directory.{without_names, with_changed, named}
use Rattle.its_word.specs.Limits.{slots}
use Rattle.its_word.specs.Only.{Only, Same}
use Rattle.its_records.specs.declared.jobs.Channel.{Channel}
use Rattle.its_records.specs.declared.jobs.Channel.TheVariants.{Closed, Reading, Writing, Usr}
use Rattle.its_files.specs.Files.{Store, IsStore, entry_at, is_file, names_at, names_by, words_at, readers_at, directory, found, with_readers, with_draft, after_discard, with_word, close, delete, rename, new_names}
use Rattle.its_files.specs.declared.entry.Entry.TheVariants.{File, Draft}
use Rattle.its_frame.specs.declared.change.Change.TheVariants.{Open, Shut as Shuts, Move, Append, Close, Delete, Rename}
use Rattle.its_frame.specs.declared.change.Opened.TheVariants as opened
use Rattle.its_plain.specs.Machine.{Names, Shut, Reads, Writes}
use Rattle.its_plain.specs.Machine.Own.{names_of, opened_on, at_position, with_word as longer_on, on_channel}
use Rattle.its_plain.specs.Machine.Change.{effect, without_file, with_new_names}
use Rattle.its_plain.specs.Call.File.{has_file}
use Rattle.its_stepped.specs.Commit.{effect_on}
use Rattle.its_world.specs.World.{chan_of, mark_of, state_of, in_raw}
use Rattle.its_world.specs.Tidy.{channel_at, reads_file, writes_draft, Tidy}
use Rattle.its_world.specs.Storage.{HasJob, chan_in, IsElsewhere, IsDraft, HasRoom, CanClose, ChannelBecomes, OnlyStore}
use Rattle.its_world.specs.declared.world.World.{World}
use Rattle.its_files.specs.Blocks.{blocks_used as stored_blocks, is_full as store_is_full}
use Rattle.its_files.specs.Files.{file_at}
use Rattle.its_files.specs.declared.entry.CloseFault.{CloseFault}
use Rattle.its_plain.specs.Machine.Change.{in_job}
use Rattle.its_stepped.specs.State.{mark_of_close}
use Rattle.its_word.specs.Directory.{File as PlainFile}
use Rattle.its_stepped.proofs.Committing.EffectLaws.{without_none, renamed_none}
use Rattle.its_shared.proofs.StoreLaws.{has_named, renamed_directory}
use Rattle.its_shared.proofs.StandLaws.{writing_stands, not_marked}
use Rattle.its_world.proofs.MarkLaws.{none_marked, mark_same, begin_close}
use Rattle.its_shared.proofs.ChanLaws.{still_moved, close_marks}
use Rattle.its_shared.proofs.SetLaws.{open_job, one_channel, set_kept, put_kept}
use Rattle.its_shared.proofs.ShowLaws.{draft_room, close_can}
use Rattle.its_shared.proofs.KeptLaws.{Kept, Stays, opened_kept, closed_kept, drafted_kept, discarded_kept, appended_kept, closing_kept, deleted_stays, renamed_stays, delete_is, rename_is}
use Rattle.its_world.proofs.StorageLaws.{Comes, channel_comes, still_unmarked, store_tidy, filed_state, filed_tidy, channel_still, still_state, store_state, has_job, chan_is, chan_shut, store_unmarked, files_are, shows}
use Rattle.its_world.proofs.ContentsLaws.{jobs_as}

-- a channel of the state is on a draft if that of the world is
draft_by : (s : Store) (c : Channel) → ((d : ℕ) → c ≡ Writing d → ⊥) → IsDraft (chan_of s c) → ⊥
draft_by s (Writing d) written h = written d refl
draft_by s _ written h = h

pub no_draft : (w : World) (s n : ℕ) (c : Channel) → c ≡ channel_at w.jobs s n → ((d : ℕ) → c ≡ Writing d → ⊥) → IsDraft (chan_in (state_of w) s n) → ⊥
no_draft w s n c was written h = draft_by w.files c written (subst IsDraft (chan_is w s n ∙ ap (chan_of w.files) (sym was)) h)

module _ (old new : World) (s n : ℕ) (ls : s < slots) (ln : n < 16) (tidy : Tidy old) where
  module _ (x : Channel) (b : ChannelBecomes old new s n x old.files) (old_elsewhere : IsElsewhere (channel_at old.jobs s n))
      (new_elsewhere : IsElsewhere x) where
    pub put_comes : Comes new (in_raw (state_of old) s (on_channel n (λ c. chan_of old.files x)))
    put_comes = channel_comes old new s n x old.files b tidy
        (put_kept old.jobs new.jobs s n x b.jobs old.files tidy.across ls ln old_elsewhere new_elsewhere) (λ c. chan_of old.files x) (λ some. refl) refl refl

  -- a channel is opened on a file
  module _ (t : Store) (f d x y : ℕ) (b : ChannelBecomes old new s n (Reading f 0) t) (job : HasJob (state_of old) s)
      (closed : chan_in (state_of old) s n ≡ Shut)
      (unmarked : (state_of old).mark ≡ None) (file : is_file (entry_at old.files f) ≡ true) (names : names_at old.files f ≡ d ∷ x ∷ y ∷ [])
      (made : t ≡ with_readers old.files f (readers_at old.files f + 1))
      (files : directory t ≡ directory old.files) (entry : Only (entry_at old.files) (entry_at t) f
      (Some (File (names_at old.files f) (readers_at old.files f + 1)))) (words : Same (words_at old.files) (words_at t)) where
    open_file_kept : Kept old.files t old.jobs new.jobs s n
    open_file_kept = opened_kept old.files t old.jobs new.jobs s n f 0 tidy.across ls ln words (chan_shut old s n closed)
        (one_channel old.jobs new.jobs s n (Reading f 0) b.jobs (has_job old s job)) file made entry

    pub open_file_comes : Comes new (effect_on (Open n (opened.Reading d x y)) s (state_of old))
    unfolding effect_on effect
    open_file_comes = channel_comes old new s n (Reading f 0) t b tidy open_file_kept (λ c. opened_on (opened.Reading d x y))
        (λ some. ap (λ ns. Reads ns 0) (ap names_by entry.here ∙ names)) files (still_unmarked old t unmarked (ap (λ w. w.mark) made))

  -- a draft is made on a channel
  module _ (t : Store) (k d x y : ℕ) (b : ChannelBecomes old new s n (Writing k) t) (job : HasJob (state_of old) s)
      (closed : chan_in (state_of old) s n ≡ Shut)
      (unmarked : (state_of old).mark ≡ None) (free : entry_at old.files k ≡ None) (made : t ≡ with_draft old.files k (d ∷ x ∷ y ∷ []))
      (files : directory t ≡ directory old.files)
      (entry : Only (entry_at old.files) (entry_at t) k (Some (Draft (d ∷ x ∷ y ∷ [])))) (words : Only (words_at old.files) (words_at t) k []) where
    open_draft_kept : Kept old.files t old.jobs new.jobs s n
    open_draft_kept = drafted_kept old.files t old.jobs new.jobs s n k tidy.across ls ln (d ∷ x ∷ y ∷ []) [] (chan_shut old s n closed)
        (one_channel old.jobs new.jobs s n (Writing k) b.jobs (has_job old s job)) (store_unmarked old unmarked) free made entry words

    pub open_draft_comes : Comes new (effect_on (Open n (opened.Writing d x y)) s (state_of old))
    unfolding effect_on effect
    open_draft_comes = channel_comes old new s n (Writing k) t b tidy open_draft_kept (λ c. opened_on (opened.Writing d x y))
        (λ some. λ i. Writes (record { names = ap names_by entry.here i; words = words.here i })) files
        (still_unmarked old t unmarked (ap (λ w. w.mark) made))

  -- a channel is closed: one that read a file, one that wrote a draft, and any other
  module _ (t : Store) (f at : ℕ) (b : ChannelBecomes old new s n Closed t) (was : Reading f at ≡ channel_at old.jobs s n)
      (made : t ≡ with_readers old.files f (readers_at old.files f - 1)) (files : directory t ≡ directory old.files)
      (entry : Only (entry_at old.files) (entry_at t) f (Some (File (names_at old.files f) (readers_at old.files f - 1))))
      (words : Same (words_at old.files) (words_at t)) where
    shut_file_kept : Kept old.files t old.jobs new.jobs s n
    shut_file_kept = closed_kept old.files t old.jobs new.jobs s n f at tidy.across ls ln words (sym was)
        (one_channel old.jobs new.jobs s n Closed b.jobs (open_job old.jobs s n (Reading f at) (sym was) (λ e. cc))) made entry

    shut_file_mark : mark_of t ≡ mark_of old.files
    shut_file_mark = mark_same old.files t (ap (λ w. w.mark) made) files (λ d m. λ i. record { names = names d i; words = words.each d i })
      where
        names : (d : ℕ) → names_at t d ≡ names_at old.files d
        names d = elim (cases_eq d f) [
          | inl e ↦ ap (names_at t) e ∙ ap names_by entry.here ∙ ap (names_at old.files) (sym e)
          | inr ne ↦ ap names_by (entry.others d ne)
        ]

    pub shut_file_comes : Comes new (effect_on (Shuts n) s (state_of old))
    unfolding effect_on effect
    shut_file_comes = channel_comes old new s n Closed t b tidy shut_file_kept (λ c. Shut) (λ some. refl) files shut_file_mark

  module _ (t : Store) (k : ℕ) (b : ChannelBecomes old new s n Closed t) (was : Writing k ≡ channel_at old.jobs s n)
      (made : t ≡ after_discard old.files k) (files : directory t ≡ directory old.files)
      (entry : Only (entry_at old.files) (entry_at t) k None) (words : Only (words_at old.files) (words_at t) k []) where
    shut_draft_kept : Kept old.files t old.jobs new.jobs s n
    shut_draft_kept = discarded_kept old.files t old.jobs new.jobs s n k tidy.across ls ln [] (sym was)
        (one_channel old.jobs new.jobs s n Closed b.jobs (open_job old.jobs s n (Writing k) (sym was) (λ e. cc))) made entry words

    shut_draft_mark : mark_of t ≡ mark_of old.files
    shut_draft_mark = mark_same old.files t (ap (λ w. w.mark) made) files
        (λ d m.
        let ne : d ≢ k = λ e. not_marked old.files k (writing_stands old.files old.jobs tidy.across s n k (sym was)).unmarked (m ∙ ap Some e) in
        λ i. record { names = ap names_by (entry.others d ne) i; words = words.others d ne i })

    pub shut_draft_comes : Comes new (effect_on (Shuts n) s (state_of old))
    unfolding effect_on effect
    shut_draft_comes = channel_comes old new s n Closed t b tidy shut_draft_kept (λ c. Shut) (λ some. refl) files shut_draft_mark

  pub shut_other_comes : ChannelBecomes old new s n Closed old.files → IsElsewhere (channel_at old.jobs s n)
      → Comes new (effect_on (Shuts n) s (state_of old))
  unfolding effect_on effect
  shut_other_comes b elsewhere = put_comes Closed b elsewhere tt

  -- the position of a channel is set
  module _ (t : Store) (f p at : ℕ) (b : ChannelBecomes old new s n (Reading f at) t) (was : Reading f p ≡ channel_at old.jobs s n)
      (same : t ≡ old.files) where
    moved_here : ChannelBecomes old new s n (Reading f at) old.files
    moved_here = subst (λ u. ChannelBecomes old new s n (Reading f at) u) same b

    move_file_kept : Kept old.files old.files old.jobs new.jobs s n
    move_file_kept = set_kept old.jobs new.jobs s n (Reading f at) moved_here.jobs old.files tidy.across ls ln
        (λ g. ap (reads_file g) (sym was)) (λ d. ap (writes_draft d) (sym was))

    pub move_file_comes : Comes new (effect_on (Move n at) s (state_of old))
    unfolding effect_on effect
    move_file_comes = channel_comes old new s n (Reading f at) old.files moved_here tidy move_file_kept (at_position at)
        (λ some. ap (λ c. at_position at (chan_of old.files c)) was) refl refl

  module _ (k p at : ℕ) (write : Bool) (b : ChannelBecomes old new s n (Usr k write at) old.files) (was : Usr k write p ≡ channel_at old.jobs s n) where
    pub move_usr_comes : Comes new (effect_on (Move n at) s (state_of old))
    unfolding effect_on effect
    move_usr_comes = channel_comes old new s n (Usr k write at) old.files b tidy
        (put_kept old.jobs new.jobs s n (Usr k write at) b.jobs old.files tidy.across ls ln (subst IsElsewhere was tt) tt) (at_position at)
        (λ some. ap (λ c. at_position at (chan_of old.files c)) was) refl refl

  pub move_other_comes : (at : ℕ) (c : Channel) → c ≡ channel_at old.jobs s n → ((f p : ℕ) → c ≡ Reading f p → ⊥)
      → ((k : ℕ) (write : Bool) (p : ℕ) → c ≡ Usr k write p → ⊥)
      → Comes old (effect_on (Move n at) s (state_of old))
  unfolding effect_on effect
  move_other_comes at c was read usr =
      record {
        row = still_state old s n (at_position at) (subst (λ x. chan_of old.files x ≡ at_position at (chan_of old.files x)) was
            (still_moved old.files at c read usr));
        tidy = tidy;
      }

  -- a word is appended to the draft of a channel
  module _ (t : Store) (k w : ℕ) (was : Writing k ≡ channel_at old.jobs s n) (unmarked : (state_of old).mark ≡ None)
      (made : t ≡ with_word old.files k w) (files : directory t ≡ directory old.files)
      (entry : Same (entry_at old.files) (entry_at t)) (words : Only (words_at old.files) (words_at t) k (words_at old.files k ++ w ∷ []))
      (o : OnlyStore old new t) where
    append_kept : Kept old.files t old.jobs old.jobs s n
    append_kept = appended_kept old.files t old.jobs old.jobs s n k tidy.across ls ln (words_at old.files k ++ w ∷ []) w (sym was) made entry words

    append_here : chan_of t (channel_at old.jobs s n) ≡ longer_on w (chan_of old.files (channel_at old.jobs s n))
    append_here =
        ap (chan_of t) (sym was)
        ∙ (λ i. Writes (record { names = ap names_by (entry.each k) i; words = words.here i }))
        ∙ ap (λ c. longer_on w (chan_of old.files c)) was

    append_new : Kept old.files t old.jobs new.jobs s n
    append_new = subst (λ j. Kept old.files t old.jobs j s n) (sym (jobs_as o.is)) append_kept

    pub append_comes : Comes new (effect_on (Append n w) s (state_of old))
    unfolding effect_on effect
    append_comes = channel_comes old new s n (channel_at old.jobs s n) t (channel_still old new s n t o) tidy append_new (longer_on w)
        (λ some. append_here) files
        (still_unmarked old t unmarked (ap (λ x. x.mark) made))

  still_appended : (w : ℕ) (c : Channel) → ((d : ℕ) → c ≡ Writing d → ⊥) → chan_of old.files c ≡ longer_on w (chan_of old.files c)
  still_appended w (Writing d) written = absurd (written d refl)
  still_appended w _ written = refl

  pub append_other_comes : (w : ℕ) (c : Channel) → c ≡ channel_at old.jobs s n → ((d : ℕ) → c ≡ Writing d → ⊥)
      → Comes old (effect_on (Append n w) s (state_of old))
  unfolding effect_on effect
  append_other_comes w c was written =
      record {
        row = still_state old s n (longer_on w) (subst (λ x. chan_of old.files x ≡ longer_on w (chan_of old.files x)) was
            (still_appended w c written));
        tidy = tidy;
      }

  -- it is on a draft
  on_draft : (k : ℕ) → Writing k ≡ channel_at old.jobs s n → chan_in (state_of old) s n ≡ Writes (file_at old.files k)
  on_draft k was = chan_is old s n ∙ ap (chan_of old.files) (sym was)

  pub append_room : (k : ℕ) → Writing k ≡ channel_at old.jobs s n → (state_of old).mark ≡ None → IsStore old.files → stored_blocks old.files.stored ≤ 2048
      → HasRoom (state_of old) (chan_in (state_of old) s n) → store_is_full old.files.stored k ≡ false
  append_room k was unmarked whole most room =
      draft_room (state_of old).raw old.files old.jobs (shows old) whole tidy.across k (store_unmarked old unmarked) most
      (subst (HasRoom (state_of old)) (on_draft k was) room)

  -- the close of the draft of a channel is begun
  module _ (t : Store) (k : ℕ) (b : ChannelBecomes old new s n Closed t) (was : Writing k ≡ channel_at old.jobs s n) (unmarked : (state_of old).mark ≡ None)
      (made : close old.files k s ≡ Ok t) (files : directory t ≡ directory old.files) (entry : Same (entry_at old.files) (entry_at t))
      (words : Same (words_at old.files) (words_at t)) where
    begin_close_kept : Kept old.files t old.jobs new.jobs s n
    begin_close_kept = closing_kept old.files t old.jobs new.jobs s n k tidy.across ls ln (sym was)
        (one_channel old.jobs new.jobs s n Closed b.jobs (open_job old.jobs s n (Writing k) (sym was) (λ e. cc)))
        (store_unmarked old unmarked) (close_marks old.files t k s made) entry words

    begin_close_row : state_of new ≡ effect_on (Close n) s (state_of old)
    unfolding effect_on
    begin_close_row =
        let c = on_draft k was in
        let m : mark_of t ≡ mark_of_close s (chan_in (state_of old) s n) (state_of old).raw.files =
        begin_close old.files t k s made ∙ sym (λ i. mark_of_close s (c i) (files_are old i)) in
        filed_state old new s n Closed t b (λ c. Shut) begin_close_kept.chans (λ some. refl)
        ∙ (λ i. record (state_of old) {
          raw = record (in_job (state_of old).raw s (on_channel n (λ c. Shut)))
              { files = (files ∙ sym (files_are old)) i };
          mark = m i;
        })

    pub begin_close_comes : Comes new (effect_on (Close n) s (state_of old))
    begin_close_comes = record { row = begin_close_row; tidy = filed_tidy old new s n Closed t b tidy begin_close_kept.across }

  pub begin_close_can : (k : ℕ) → Writing k ≡ channel_at old.jobs s n → IsStore old.files
      → CanClose (state_of old) (chan_in (state_of old) s n) → (e : CloseFault) → close old.files k s ≡ Err e → ⊥
  begin_close_can k was whole closes = close_can (state_of old).raw old.files old.jobs (shows old) whole tidy.across k s
      (subst (CanClose (state_of old)) (on_draft k was) closes)

-- a file is deleted or renamed, if there is one that no channel reads
absent : (w : World) (names : Names) → found w.files names ≡ None → has_file names (state_of w).raw.files ≡ false
absent w names none = ap (has_file names) (files_are w) ∙ has_named w.files names ∙ ap is_some none

module _ (old new : World) (tidy : Tidy old) (d x y : ℕ) (unmarked : (state_of old).mark ≡ None) where
  -- only the directory of the state is another
  directory_comes : (t : Store) (fs : List PlainFile) → OnlyStore old new t → Stays old.files t old.jobs → directory t ≡ fs → t.mark ≡ old.files.mark
      → Comes new (record (state_of old) { raw = record (state_of old).raw { files = fs } })
  directory_comes t fs o stays files mark =
      let m : mark_of t ≡ (state_of old).mark = none_marked t (mark ∙ store_unmarked old unmarked) ∙ sym unmarked in
      record {
        row = store_state old new t o stays ∙ (λ i. record (state_of old) { raw = record (state_of old).raw { files = files i }; mark = m i });
        tidy = store_tidy old new t o stays tidy;
      }

  directory_still : (fs : List PlainFile) → fs ≡ (state_of old).raw.files
      → Comes old (record (state_of old) { raw = record (state_of old).raw { files = fs } })
  directory_still fs e = record { row = λ i. record (state_of old) { raw = record (state_of old).raw { files = sym e i } }; tidy = tidy }

  module _ (t : Store) (f : ℕ) (names : names_at old.files f ≡ d ∷ x ∷ y ∷ []) (file : is_file (entry_at old.files f) ≡ true)
      (made : delete old.files f ≡ Ok t)
      (files : directory t ≡ without_names (names_at old.files f) (directory old.files))
      (entry : Only (entry_at old.files) (entry_at t) f None) (words : Only (words_at old.files) (words_at t) f []) (o : OnlyStore old new t) where
    deleted_is : Stays old.files t old.jobs
    deleted_is = deleted_stays old.files t old.jobs f tidy.across [] file made entry words

    pub delete_comes : (j : ℕ) → Comes new (effect_on (Delete d x y) j (state_of old))
    unfolding effect_on effect without_file
    delete_comes j =
        directory_comes t (without_names (names_of d x y) (state_of old).raw.files) o deleted_is
        (files ∙ ap (λ ns. without_names ns (directory old.files)) names ∙ sym (ap (without_names (names_of d x y)) (files_are old)))
        (ap (λ w. w.mark) (delete_is old.files t f made).1)

  pub delete_none : found old.files (d ∷ x ∷ y ∷ []) ≡ None → (j : ℕ) → Comes old (effect_on (Delete d x y) j (state_of old))
  unfolding effect_on effect
  delete_none none j = directory_still _ (without_none (names_of d x y) (state_of old).raw.files (absent old (d ∷ x ∷ y ∷ []) none))

  module _ (t : Store) (f u v : ℕ) (is : found old.files (d ∷ x ∷ y ∷ []) ≡ Some f) (whole : IsStore old.files)
      (file : is_file (entry_at old.files f) ≡ true) (made : rename old.files f u v ≡ Ok t)
      (files : directory t ≡ with_changed (names_at old.files f) (named (new_names old.files f u v)) (directory old.files))
      (entry : Only (entry_at old.files) (entry_at t) f (Some (File (new_names old.files f u v) 0)))
      (words : Same (words_at old.files) (words_at t)) (o : OnlyStore old new t) where
    renamed_is : Stays old.files t old.jobs
    renamed_is = renamed_stays old.files t old.jobs f tidy.across u v file made entry words

    pub rename_comes : (j : ℕ) → Comes new (effect_on (Rename d x y u v) j (state_of old))
    unfolding effect_on effect
    rename_comes j =
        directory_comes t (with_new_names (names_of d x y) u v (state_of old).raw.files) o renamed_is
        (renamed_directory old.files whole t (names_of d x y) f u v is files ∙ sym (ap (with_new_names (names_of d x y) u v) (files_are old)))
        (ap (λ w. w.mark) (rename_is old.files t f u v made).1)

  pub rename_none : (u v : ℕ) → found old.files (d ∷ x ∷ y ∷ []) ≡ None → (j : ℕ) → Comes old (effect_on (Rename d x y u v) j (state_of old))
  unfolding effect_on effect
  rename_none u v none j = directory_still _ (renamed_none (names_of d x y) u v (state_of old).raw.files (absent old (d ∷ x ∷ y ∷ []) none))
