-- Each operation on files and drafts keeps the facts on their numbers, and what all channels but
-- its own are on.
use Rattle.std.specs.Prelude.{◌≡◌, ◌≢◌, ◌<◌, ℕ, zero, suc, ◌+◌, ◌-◌, true, false, Option, Some, None, Ok, List, [], refl}
use Rattle.std.proofs.Common.{sym, ◌∙◌, ap, subst, inl, inr, arith}
use Rattle.std.proofs.lemmas.Bool.{cases_eq, both_ways, eq-eqb, ne_eqb}
use Rattle.std.proofs.lemmas.List.{get_or-set_same, get_or-set_other}
use Rattle.its_word.specs.Limits.{slots}
use Rattle.its_word.specs.Only.{Only, Same}
use Rattle.its_records.specs.declared.jobs.Channel.{Channel}
use Rattle.its_records.specs.declared.jobs.Channel.TheVariants.{Closed, Reading, Writing}
use Rattle.its_jobs.specs.Table.{Table}
use Rattle.its_files.specs.Files.{Store, entry_at, is_file, names_by, names_at, readers_at, readers_by, words_at, is_marked, is_marked_by, marked_draft, with_readers, with_draft, with_file, after_discard, with_word, delete, delete_by, after_delete, rename, rename_by, rename_free, after_rename, new_names, found, IsStore, Marked, Replaces, Links_to, Gone, words_by, after_unlink_old, after_unlink_old_at, after_unlink_old_by, after_link_new, after_link_new_at, after_link_new_by, after_free_old, after_free_old_at, after_free_old_by, after_help, after_link}
use Rattle.its_files.specs.Blocks.{text_at}
use Rattle.its_files.specs.declared.entry.Mark.{Mark}
use Rattle.its_files.specs.declared.entry.Parts.{Parts}
use Rattle.its_files.specs.declared.entry.Parts.TheVariants.{Replace, Link, Free}
use Rattle.its_files.specs.declared.entry.Entry.{Entry}
use Rattle.its_files.specs.declared.entry.Entry.TheVariants.{File, Draft}
use Rattle.its_files.proofs.EntryLaws.{reader_file, draft_unread, draft_no_file, draft_stands, file_stands, within}
use Rattle.its_plain.specs.Machine.{Chan}
use Rattle.its_shared.specs.Parts.{chan_of}
use Rattle.its_shared.specs.Across.{channel_at, reads_file, writes_draft, writers, Across}
use Rattle.its_shared.proofs.MarkLaws.{marks, unlinked_whole, linked_whole}
use Rattle.its_shared.proofs.TallyLaws.{OneChannel, tally_one, reads_here, reads_other, writes_here, writes_other}
use Rattle.its_shared.proofs.StandLaws.{unmarked_all, file_writers, marked_writers, draft_writers, read_by_none, written_by_none, reading_stands, writing_stands, writing_alone, write_stands}

-- what a channel is on, if the file that it reads keeps its names, and the draft that it writes its
-- names and words
pub chan_stays : (s u : Store) (c : Channel) → ((f : ℕ) → reads_file f c ≢ 0 → names_at u f ≡ names_at s f)
    → ((d : ℕ) → writes_draft d c ≢ 0 → (names_at u d ≡ names_at s d) × (words_at u d ≡ words_at s d)) → chan_of u c ≡ chan_of s c
chan_stays s u (Reading f at) names drafts = ap (λ ns. Chan.Reads ns at) (names f (λ z. let o = reads_here f at in omega arith))
chan_stays s u (Writing d) names drafts = let h = drafts d (λ z. let o = writes_here d in omega arith) in λ i. Chan.Writes
    (record { names = h.0 i; words = h.1 i })
chan_stays s u _ names drafts = refl

-- the facts after one channel and what it is on are others
pub across_one : (s u : Store) (t v : Table) (j n : ℕ) (x : Channel) → Across s t → OneChannel (channel_at t) (channel_at v) j n x → j < slots → n < 16
    → ((f : ℕ) → readers_at u f + reads_file f (channel_at t j n) ≡ readers_at s f + reads_file f x)
    → ((d : ℕ) → writers (entry_at u d) (is_marked u d) + writes_draft d (channel_at t j n) ≡ writers (entry_at s d) (is_marked s d) + writes_draft d x)
    → Across u v
across_one s u t v j n x a o lj ln read written = record {
  past_slots = λ k m le. o.rows k (λ e. omega arith) m ∙ a.past_slots k m le;
  past_numbers = λ k m le. elim (cases_eq k j) [
    | inl e ↦ ap (λ i. channel_at v i m) e ∙ o.row m (λ e. omega arith) ∙ ap (λ i. channel_at t i m) (sym e) ∙ a.past_numbers k m le
    | inr ne ↦ o.rows k ne m ∙ a.past_numbers k m le
  ];
  read = λ f. let h = tally_one (reads_file f) (channel_at t) (channel_at v) j n x o lj ln in let r = a.read f in let b = read f in omega arith;
  written = λ d. let h = tally_one (writes_draft d) (channel_at t) (channel_at v) j n x o lj ln in let r = a.written d in let b = written d in omega arith;
}

-- if no channel is another
pub across_store : (s u : Store) (t : Table) → Across s t → ((f : ℕ) → readers_at u f ≡ readers_at s f)
    → ((d : ℕ) → writers (entry_at u d) (is_marked u d) ≡ writers (entry_at s d) (is_marked s d)) → Across u t
across_store s u t a read written = record {
  past_slots = a.past_slots;
  past_numbers = a.past_numbers;
  read = λ f. a.read f ∙ sym (read f);
  written = λ d. a.written d ∙ sym (written d);
}

-- the entry under one number is another, with the channel that was on it or is
record OnNumber (s u : Store) (id : ℕ) (e : Option Entry) (c x : Channel) : Type 0 where
  entry : Only (entry_at s) (entry_at u) id e
  marks : (d : ℕ) → d ≢ id → is_marked u d ≡ is_marked s d
  reads_here : readers_by e + reads_file id c ≡ readers_at s id + reads_file id x
  reads_others : (f : ℕ) → f ≢ id → reads_file f c ≡ reads_file f x
  writes_here : writers e (is_marked u id) + writes_draft id c ≡ writers (entry_at s id) (is_marked s id) + writes_draft id x
  writes_others : (d : ℕ) → d ≢ id → writes_draft d c ≡ writes_draft d x

across_number : (s u : Store) (t v : Table) (j n id : ℕ) (e : Option Entry) (c x : Channel) → Across s t
    → OneChannel (channel_at t) (channel_at v) j n x → j < slots → n < 16
    → channel_at t j n ≡ c → OnNumber s u id e c x → Across u v
across_number s u t v j n id e c x a o lj ln was h = across_one s u t v j n x a o lj ln
    (λ f. elim (cases_eq f id) [
      | inl same ↦
          let b = h.reads_here in
          let r : readers_at u f ≡ readers_by e = ap (readers_at u) same ∙ ap readers_by h.entry.here in
          let q = ap (readers_at s) same in
          let y = ap (λ k. reads_file k (channel_at t j n)) same ∙ ap (reads_file id) was in
          let z = ap (λ k. reads_file k x) same in
          omega arith
      | inr ne ↦
          let r : readers_at u f ≡ readers_at s f = ap readers_by (h.entry.others f ne) in
          let y = ap (reads_file f) was in
          let z = h.reads_others f ne in
          omega arith
    ])
    (λ d. elim (cases_eq d id) [
      | inl same ↦
          let b = h.writes_here in
          let r : writers (entry_at u d) (is_marked u d) ≡ writers e (is_marked u id) =
          ap (λ k. writers (entry_at u k) (is_marked u k)) same ∙ ap (λ w. writers w (is_marked u id)) h.entry.here in
          let q = ap (λ k. writers (entry_at s k) (is_marked s k)) same in
          let y = ap (λ k. writes_draft k (channel_at t j n)) same ∙ ap (writes_draft id) was in
          let z = ap (λ k. writes_draft k x) same in
          omega arith
      | inr ne ↦
          let r : writers (entry_at u d) (is_marked u d) ≡ writers (entry_at s d) (is_marked s d) =
          ap (λ w. writers w (is_marked u d)) (h.entry.others d ne) ∙ ap (writers (entry_at s d)) (h.marks d ne) in
          let y = ap (writes_draft d) was in
          let z = h.writes_others d ne in
          omega arith
    ])

-- an entry under one number is another, and no channel is
number_store : (s u : Store) (t : Table) (id : ℕ) (e : Option Entry) → Across s t → Only (entry_at s) (entry_at u) id e
    → ((d : ℕ) → d ≢ id → is_marked u d ≡ is_marked s d)
    → readers_by e ≡ readers_at s id → writers e (is_marked u id) ≡ writers (entry_at s id) (is_marked s id) → Across u t
number_store s u t id e a entry marks read written = across_store s u t a
    (λ f. elim (cases_eq f id) [
      | inl same ↦ ap (readers_at u) same ∙ ap readers_by entry.here ∙ read ∙ sym (ap (readers_at s) same)
      | inr ne ↦ ap readers_by (entry.others f ne)
    ])
    (λ d. elim (cases_eq d id) [
      | inl same ↦
          ap (λ k. writers (entry_at u k) (is_marked u k)) same ∙ ap (λ w. writers w (is_marked u id)) entry.here ∙ written
          ∙ sym (ap (λ k. writers (entry_at s k) (is_marked s k)) same)
      | inr ne ↦ ap (λ w. writers w (is_marked u d)) (entry.others d ne) ∙ ap (writers (entry_at s d)) (marks d ne)
    ])

-- what an operation keeps that changes channel n of slot j, and what one keeps that changes no
-- channel
pub record Kept (s u : Store) (t v : Table) (j n : ℕ) : Type 0 where
  pub across : Across u v
  pub chans : (k m : ℕ) → (k ≡ j → m ≢ n) → chan_of u (channel_at v k m) ≡ chan_of s (channel_at t k m)

pub record Stays (s u : Store) (t : Table) : Type 0 where
  pub across : Across u t
  pub chans : (k m : ℕ) → chan_of u (channel_at t k m) ≡ chan_of s (channel_at t k m)

others_of : (cs ds : ℕ → ℕ → Channel) (j n : ℕ) (x : Channel) → OneChannel cs ds j n x → (k m : ℕ) → (k ≡ j → m ≢ n) → ds k m ≡ cs k m
others_of cs ds j n x o k m apart = elim (cases_eq k j) [
  | inl e ↦ ap (λ i. ds i m) e ∙ o.row m (apart e) ∙ ap (λ i. cs i m) (sym e)
  | inr ne ↦ o.rows k ne m
]

-- if a number keeps its names, all do
names_alike : (s u : Store) (id : ℕ) (e : Option Entry) → Only (entry_at s) (entry_at u) id e → names_by e ≡ names_at s id → (k : ℕ)
    → names_at u k ≡ names_at s k
names_alike s u id e o names k = elim (cases_eq k id) [
  | inl same ↦ ap (names_at u) same ∙ ap names_by o.here ∙ names ∙ sym (ap (names_at s) same)
  | inr ne ↦ ap names_by (o.others k ne)
]

-- a channel is opened on a file, and a channel that read one is closed
module _ (s u : Store) (t v : Table) (j n f at : ℕ) (a : Across s t) (lj : j < slots) (ln : n < 16) (words : Same (words_at s) (words_at u)) where
  same_files : (e : Entry) → Only (entry_at s) (entry_at u) f (Some e) → names_by (Some e) ≡ names_at s f → (c : Channel) → chan_of u c ≡ chan_of s c
  same_files e o names c = chan_stays s u c (λ k some. names_alike s u f (Some e) o names k) (λ k some. (names_alike s u f (Some e) o names k, words.each k))

  pub opened_kept : channel_at t j n ≡ Closed → OneChannel (channel_at t) (channel_at v) j n (Reading f at) → is_file (entry_at s f) ≡ true
      → u ≡ with_readers s f (readers_at s f + 1)
      → Only (entry_at s) (entry_at u) f (Some (File (names_at s f) (readers_at s f + 1))) → Kept s u t v j n
  opened_kept was o file made entry = record {
    across = across_number s u t v j n f (Some (File (names_at s f) (readers_at s f + 1))) Closed (Reading f at) a o lj ln was (record {
      entry = entry;
      marks = λ d ne. ap (λ w. is_marked w d) made;
      reads_here = let r = reads_here f at in omega arith;
      reads_others = λ k ne. sym (reads_other k f at (λ e. ne (sym e)));
      writes_here = let w = file_writers (entry_at s f) (is_marked s f) file in omega arith;
      writes_others = λ k ne. refl;
    });
    chans = λ k m apart. same_files (File (names_at s f) (readers_at s f + 1)) entry refl (channel_at v k m)
        ∙ ap (chan_of s) (others_of (channel_at t) (channel_at v) j n (Reading f at) o k m apart);
  }

  pub closed_kept : channel_at t j n ≡ Reading f at → OneChannel (channel_at t) (channel_at v) j n Closed → u ≡ with_readers s f (readers_at s f - 1)
      → Only (entry_at s) (entry_at u) f (Some (File (names_at s f) (readers_at s f - 1))) → Kept s u t v j n
  closed_kept was o made entry =
      let some = reading_stands s t a j n f at was in
      record {
        across = across_number s u t v j n f (Some (File (names_at s f) (readers_at s f - 1))) (Reading f at) Closed a o lj ln was (record {
          entry = entry;
          marks = λ d ne. ap (λ w. is_marked w d) made;
          reads_here = let r = reads_here f at in omega arith;
          reads_others = λ k ne. reads_other k f at (λ e. ne (sym e));
          writes_here = let w = file_writers (entry_at s f) (is_marked s f) (reader_file (entry_at s f) some) in omega arith;
          writes_others = λ k ne. refl;
        });
        chans = λ k m apart. same_files (File (names_at s f) (readers_at s f - 1)) entry refl (channel_at v k m)
            ∙ ap (chan_of s) (others_of (channel_at t) (channel_at v) j n Closed o k m apart);
      }

-- a channel that does not name the number of which the entry or the words change
apart_stays : (s u : Store) (d : ℕ) (e : Option Entry) (c : Channel) → Only (entry_at s) (entry_at u) d e
    → ((k : ℕ) → k ≢ d → words_at u k ≡ words_at s k) → reads_file d c ≡ 0 → writes_draft d c ≡ 0
    → chan_of u c ≡ chan_of s c
apart_stays s u d e c entry words no_read no_write =
    chan_stays s u c
    (λ k some. ap names_by (entry.others k (λ z. some (ap (λ i. reads_file i c) z ∙ no_read))))
    (λ k some. let ne : k ≢ d = λ z. some (ap (λ i. writes_draft i c) z ∙ no_write) in (ap names_by (entry.others k ne), words k ne))

-- a draft is made on a channel, and one is dropped with its channel
module _ (s u : Store) (t v : Table) (j n d : ℕ) (a : Across s t) (lj : j < slots) (ln : n < 16) where
  pub drafted_kept : (names ws : List ℕ) → channel_at t j n ≡ Closed → OneChannel (channel_at t) (channel_at v) j n (Writing d)
      → s.mark ≡ None → entry_at s d ≡ None → u ≡ with_draft s d names
      → Only (entry_at s) (entry_at u) d (Some (Draft names)) → Only (words_at s) (words_at u) d ws → Kept s u t v j n
  drafted_kept names ws was o none free made entry words = record {
    across = across_number s u t v j n d (Some (Draft names)) Closed (Writing d) a o lj ln was (record {
      entry = entry;
      marks = λ k ne. ap (λ w. is_marked w k) made;
      reads_here = let r = ap readers_by free in omega arith;
      reads_others = λ k ne. refl;
      writes_here =
          let m : is_marked u d ≡ false = ap (λ w. is_marked w d) made ∙ unmarked_all s d none in
          let w = ap (writers (Some (Draft names))) m in
          let z = ap (λ e. writers e (is_marked s d)) free in
          let h = writes_here d in
          omega arith;
      writes_others = λ k ne. sym (writes_other k d (λ e. ne (sym e)));
    });
    chans = λ k m apart.
        let e = others_of (channel_at t) (channel_at v) j n (Writing d) o k m apart in
        ap (chan_of u) e
        ∙ apart_stays s u d (Some (Draft names)) (channel_at t k m) entry words.others
        (read_by_none s t a k m d (ap readers_by free)) (written_by_none s t a k m d (ap (λ x. writers x (is_marked s d)) free));
  }

  pub discarded_kept : (ws : List ℕ) → channel_at t j n ≡ Writing d → OneChannel (channel_at t) (channel_at v) j n Closed → u ≡ after_discard s d
      → Only (entry_at s) (entry_at u) d None → Only (words_at s) (words_at u) d ws → Kept s u t v j n
  discarded_kept ws was o made entry words =
      let stands = writing_stands s t a j n d was in
      record {
        across = across_number s u t v j n d None (Writing d) Closed a o lj ln was (record {
          entry = entry;
          marks = λ k ne. ap (λ w. is_marked w k) made;
          reads_here = let r = draft_unread (entry_at s d) stands.draft in omega arith;
          reads_others = λ k ne. refl;
          writes_here = let w = ap (writers (entry_at s d)) stands.unmarked
              ∙ draft_writers (entry_at s d) stands.draft in let h = writes_here d in omega arith;
          writes_others = λ k ne. writes_other k d (λ e. ne (sym e));
        });
        chans = λ k m apart.
            let e = others_of (channel_at t) (channel_at v) j n Closed o k m apart in
            ap (chan_of u) e
            ∙ apart_stays s u d None (channel_at t k m) entry words.others
            (read_by_none s t a k m d (draft_unread (entry_at s d) stands.draft)) (writing_alone s t a j n k m d was apart);
      }

  -- a word more, which changes no entry
  pub appended_kept : (ws : List ℕ) (w : ℕ) → channel_at t j n ≡ Writing d → u ≡ with_word s d w → Same (entry_at s) (entry_at u)
      → Only (words_at s) (words_at u) d ws → Kept s u t t j n
  appended_kept ws w was made entry words =
      let stands = writing_stands s t a j n d was in
      record {
        across = across_store s u t a (λ f. ap readers_by (entry.each f))
            (λ k. ap (λ e. writers e (is_marked u k)) (entry.each k) ∙ ap (λ x. writers (entry_at s k) (is_marked x k)) made);
        chans = λ k m apart.
            apart_stays s u d (entry_at u d) (channel_at t k m) (record { here = refl; others = λ i ne. entry.each i }) words.others
            (read_by_none s t a k m d (draft_unread (entry_at s d) stands.draft)) (writing_alone s t a j n k m d was apart);
      }

  -- the close of its draft is begun
  pub closing_kept : channel_at t j n ≡ Writing d → OneChannel (channel_at t) (channel_at v) j n Closed → s.mark ≡ None → marked_draft u.mark ≡ Some d
      → Same (entry_at s) (entry_at u) → Same (words_at s) (words_at u) → Kept s u t v j n
  closing_kept was o none mark entry words =
      let stands = writing_stands s t a j n d was in
      record {
        across = across_number s u t v j n d (entry_at s d) (Writing d) Closed a o lj ln was (record {
          entry = record { here = entry.each d; others = λ k ne. entry.each k };
          marks = λ k ne. ap (λ x. is_marked_by x k) mark ∙ ne_eqb d k (λ e. ne (sym e)) ∙ sym (unmarked_all s k none);
          reads_here = refl;
          reads_others = λ k ne. refl;
          writes_here =
              let m : is_marked u d ≡ true = ap (λ x. is_marked_by x d) mark ∙ eq-eqb d d refl in
              let z = ap (writers (entry_at s d)) m ∙ marked_writers (entry_at s d) in
              let w = ap (writers (entry_at s d)) stands.unmarked ∙ draft_writers (entry_at s d) stands.draft in
              let h = writes_here d in
              omega arith;
          writes_others = λ k ne. writes_other k d (λ e. ne (sym e));
        });
        chans = λ k m apart.
            ap (chan_of u) (others_of (channel_at t) (channel_at v) j n Closed o k m apart)
            ∙ chan_stays s u (channel_at t k m) (λ i some. ap names_by (entry.each i)) (λ i some. (ap names_by (entry.each i), words.each i));
      }

-- the position of a channel is set
pub moved_kept : (s : Store) (t v : Table) (j n : ℕ) (c x : Channel) → Across s t → j < slots → n < 16 → channel_at t j n ≡ c
    → OneChannel (channel_at t) (channel_at v) j n x
    → ((f : ℕ) → reads_file f c ≡ reads_file f x) → ((d : ℕ) → writes_draft d c ≡ writes_draft d x) → Kept s s t v j n
moved_kept s t v j n c x a lj ln was o read written = record {
  across = across_one s s t v j n x a o lj ln (λ f. ap (λ k. readers_at s f + k) (ap (reads_file f) was ∙ read f))
      (λ d. ap (λ k. writers (entry_at s d) (is_marked s d) + k) (ap (writes_draft d) was ∙ written d));
  chans = λ k m apart. ap (chan_of s) (others_of (channel_at t) (channel_at v) j n x o k m apart);
}

-- the entry under a number that no channel names is another
number_stays : (s u : Store) (t : Table) (id : ℕ) (e : Option Entry) → Across s t → Only (entry_at s) (entry_at u) id e
    → ((k : ℕ) → k ≢ id → words_at u k ≡ words_at s k)
    → ((k : ℕ) → k ≢ id → is_marked u k ≡ is_marked s k) → readers_at s id ≡ 0 → writers (entry_at s id) (is_marked s id) ≡ 0
    → readers_by e ≡ 0 → writers e (is_marked u id) ≡ 0 → Stays s u t
number_stays s u t id e a entry words marks unread unwritten no_reader no_writer = record {
  across = number_store s u t id e a entry marks (no_reader ∙ sym unread) (no_writer ∙ sym unwritten);
  chans = λ k m. apart_stays s u id e (channel_at t k m) entry words (read_by_none s t a k m id unread) (written_by_none s t a k m id unwritten);
}

-- a file that is deleted or renamed has no readers
delete_by_is : (s u : Store) (f n : ℕ) → delete_by n s f ≡ Ok u → (n ≡ 0) × (u ≡ after_delete s f)
delete_by_is s u f zero e = (refl, cc)
delete_by_is s u f (suc n) e = cc

pub delete_is : (s u : Store) (f : ℕ) → delete s f ≡ Ok u → (readers_at s f ≡ 0) × (u ≡ after_delete s f)
delete_is s u f e = delete_by_is s u f (readers_at s f) e

rename_free_is : (s u : Store) (f : ℕ) (names : List ℕ) (o : Option ℕ) → rename_free o s f names ≡ Ok u → u ≡ after_rename s f names
rename_free_is s u f names None e = cc
rename_free_is s u f names (Some other) e = cc

rename_by_is : (s u : Store) (f n : ℕ) (names : List ℕ) → rename_by n s f names ≡ Ok u → (n ≡ 0) × (u ≡ after_rename s f names)
rename_by_is s u f zero names e = (refl, rename_free_is s u f names (found s names) e)
rename_by_is s u f (suc n) names e = cc

pub rename_is : (s u : Store) (f x y : ℕ) → rename s f x y ≡ Ok u → (readers_at s f ≡ 0) × (u ≡ after_rename s f (new_names s f x y))
rename_is s u f x y e = rename_by_is s u f (readers_at s f) (new_names s f x y) e

-- a file is made, deleted or renamed
module _ (s u : Store) (t : Table) (f : ℕ) (a : Across s t) where
  pub made_stays : (names ws : List ℕ) → entry_at s f ≡ None → u ≡ with_file s f names
      → Only (entry_at s) (entry_at u) f (Some (File names 0)) → Only (words_at s) (words_at u) f ws → Stays s u t
  made_stays names ws free made entry words =
      number_stays s u t f (Some (File names 0)) a entry words.others (λ k ne. ap (λ w. is_marked w k) made) (ap readers_by free)
      (ap (λ e. writers e (is_marked s f)) free) refl refl

  pub deleted_stays : (ws : List ℕ) → is_file (entry_at s f) ≡ true → delete s f ≡ Ok u → Only (entry_at s) (entry_at u) f None
      → Only (words_at s) (words_at u) f ws → Stays s u t
  deleted_stays ws file made entry words =
      let d = delete_is s u f made in
      number_stays s u t f None a entry words.others (λ k ne. ap (λ w. is_marked w k) d.1) d.0 (file_writers (entry_at s f) (is_marked s f) file) refl refl

  pub renamed_stays : (x y : ℕ) → is_file (entry_at s f) ≡ true → rename s f x y ≡ Ok u
      → Only (entry_at s) (entry_at u) f (Some (File (new_names s f x y) 0)) → Same (words_at s) (words_at u) → Stays s u t
  renamed_stays x y file made entry words =
      let d = rename_is s u f x y made in
      number_stays s u t f (Some (File (new_names s f x y) 0)) a entry (λ k ne. words.each k) (λ k ne. ap (λ w. is_marked w k) d.1) d.0
      (file_writers (entry_at s f) (is_marked s f) file) refl refl

  -- a word more of a file
  pub lengthened_stays : (w : ℕ) (ws : List ℕ) → is_file (entry_at s f) ≡ true → u ≡ with_word s f w → Same (entry_at s) (entry_at u)
      → Only (words_at s) (words_at u) f ws → Stays s u t
  lengthened_stays w ws file made entry words = record {
    across = across_store s u t a (λ k. ap readers_by (entry.each k))
        (λ k. ap (λ e. writers e (is_marked u k)) (entry.each k) ∙ ap (λ x. writers (entry_at s k) (is_marked x k)) made);
    chans = λ k m. chan_stays s u (channel_at t k m) (λ i some. ap names_by (entry.each i))
        (λ i some. (
          ap names_by (entry.each i),
          words.others i (λ e.
              let o = write_stands s t a k m i some in
              both_ways (is_file (entry_at s i)) (draft_no_file (entry_at s i) o.draft) (ap (λ j. is_file (entry_at s j)) e ∙ file)),
        ));
  }

-- the pending parts of a close
stays_same : (s u : Store) (t : Table) → Across s t → u ≡ s → Stays s u t
stays_same s u t a e = subst (λ x. Stays s x t) (sym e) (record { across = a; chans = λ k m. refl })

module _ (s : Store) (t : Table) (whole : IsStore s) (a : Across s t) where
  unlinked_by_mark : (o : Option Mark) → s.mark ≡ o → Stays s (after_unlink_old s) t × IsStore (after_unlink_old s)
  unlinked_by_mark None is = let e : after_unlink_old s ≡ s =
      ap (λ m. after_unlink_old_at m s) is in (stays_same s (after_unlink_old s) t a e, subst IsStore (sym e) whole)
  unlinked_by_mark (Some m) is = go m.owner m.parts is
    where
      go : (owner : ℕ) (p : Parts) → s.mark ≡ marks owner p → Stays s (after_unlink_old s) t × IsStore (after_unlink_old s)
      go owner (Replace old draft) is =
          let r : Replaces s.entries old draft = subst (λ x. Marked s.entries x) is whole.marked in
          let e : after_unlink_old s ≡ after_unlink_old_by (Replace old draft) owner s = ap (λ x. after_unlink_old_at x s) is in
          let h = number_stays s (after_unlink_old_by (Replace old draft) owner s) t old None a
          (record {
            here = get_or-set_same s.entries old None None (within s.entries old (file_stands (entry_at s old) r.file));
            others = λ k ne. get_or-set_other s.entries old k None None ne;
          })
          (λ k ne. ap (λ x. words_by x (text_at s.stored.texts k)) (get_or-set_other s.entries old k None None ne))
          (λ k ne. sym (ap (λ x. is_marked_by (marked_draft x) k) is)) r.unread (file_writers (entry_at s old) (is_marked s old) r.file) refl refl in
          (subst (λ x. Stays s x t) (sym e) h, unlinked_whole s whole owner draft old is)
      go owner (Link old draft) is = let e : after_unlink_old s ≡ s =
          ap (λ x. after_unlink_old_at x s) is in (stays_same s (after_unlink_old s) t a e, subst IsStore (sym e) whole)
      go owner (Free old) is = let e : after_unlink_old s ≡ s =
          ap (λ x. after_unlink_old_at x s) is in (stays_same s (after_unlink_old s) t a e, subst IsStore (sym e) whole)

  linked_by_mark : (o : Option Mark) → s.mark ≡ o → Stays s (after_link_new s) t × IsStore (after_link_new s)
  linked_by_mark None is = let e : after_link_new s ≡ s = ap (λ m. after_link_new_at m s) is
      in (stays_same s (after_link_new s) t a e, subst IsStore (sym e) whole)
  linked_by_mark (Some m) is = go m.owner m.parts is
    where
      go : (owner : ℕ) (p : Parts) → s.mark ≡ marks owner p → Stays s (after_link_new s) t × IsStore (after_link_new s)
      go owner (Replace old draft) is = let e : after_link_new s ≡ s =
          ap (λ x. after_link_new_at x s) is in (stays_same s (after_link_new s) t a e, subst IsStore (sym e) whole)
      go owner (Link old draft) is =
          let r : Links_to s.entries old draft = subst (λ x. Marked s.entries x) is whole.marked in
          let e : after_link_new s ≡ after_link_new_by (Link old draft) owner s = ap (λ x. after_link_new_at x s) is in
          let new : Option Entry = Some (File (names_at s draft) 0) in
          let m : is_marked s draft ≡ true = ap (λ x. is_marked_by (marked_draft x) draft) is ∙ eq-eqb draft draft refl in
          let h = number_stays s (after_link_new_by (Link old draft) owner s) t draft new a
          (record {
            here = get_or-set_same s.entries draft new None (within s.entries draft (draft_stands (entry_at s draft) r.draft_stands));
            others = λ k ne. get_or-set_other s.entries draft k new None ne;
          })
          (λ k ne. ap (λ x. words_by x (text_at s.stored.texts k)) (get_or-set_other s.entries draft k new None ne))
          (λ k ne. after old k ∙ sym (ap (λ x. is_marked_by (marked_draft x) k) is ∙ ne_eqb draft k (λ e. ne (sym e))))
          (draft_unread (entry_at s draft) r.draft_stands) (ap (writers (entry_at s draft)) m ∙ marked_writers (entry_at s draft)) refl refl in
          (subst (λ x. Stays s x t) (sym e) h, linked_whole s whole owner draft old is)
        where
          after : (o : Option ℕ) (k : ℕ) → is_marked_by (marked_draft (after_link o owner)) k ≡ false
          after None k = refl
          after (Some x) k = refl
      go owner (Free old) is = let e : after_link_new s ≡ s =
          ap (λ x. after_link_new_at x s) is in (stays_same s (after_link_new s) t a e, subst IsStore (sym e) whole)

  freed_by_mark : (o : Option Mark) → s.mark ≡ o → Stays s (after_free_old s) t
  freed_by_mark None is = stays_same s (after_free_old s) t a (ap (λ m. after_free_old_at m s) is)
  freed_by_mark (Some m) is = go m.owner m.parts is
    where
      go : (owner : ℕ) (p : Parts) → s.mark ≡ marks owner p → Stays s (after_free_old s) t
      go owner (Replace old draft) is = stays_same s (after_free_old s) t a (ap (λ x. after_free_old_at x s) is)
      go owner (Link old draft) is = stays_same s (after_free_old s) t a (ap (λ x. after_free_old_at x s) is)
      go owner (Free old) is =
          let r : Gone s.entries (Some old) = subst (λ x. Marked s.entries x) is whole.marked in
          let e : after_free_old s ≡ after_free_old_by (Free old) s = ap (λ x. after_free_old_at x s) is in
          let h = number_stays s (after_free_old_by (Free old) s) t old None a
          (record { here = r.1; others = λ k ne. refl })
          (λ k ne. ap (words_by (entry_at s k)) (get_or-set_other s.stored.texts old k [] [] ne))
          (λ k ne. sym (ap (λ x. is_marked_by (marked_draft x) k) is)) (ap readers_by r.1) (ap (λ x. writers x (is_marked s old)) r.1) refl refl in
          subst (λ x. Stays s x t) (sym e) h

  pub unlinked_stays : (u : Store) → u ≡ after_unlink_old s → Stays s u t
  unlinked_stays u e = subst (λ x. Stays s x t) (sym e) (unlinked_by_mark s.mark refl).0

  pub linked_stays : (u : Store) → u ≡ after_link_new s → Stays s u t
  linked_stays u e = subst (λ x. Stays s x t) (sym e) (linked_by_mark s.mark refl).0

  pub freed_stays : (u : Store) → u ≡ after_free_old s → Stays s u t
  freed_stays u e = subst (λ x. Stays s x t) (sym e) (freed_by_mark s.mark refl)

stays_then : (s m u : Store) (t : Table) → Stays s m t → Stays m u t → Stays s u t
stays_then s m u t a b = record { across = b.across; chans = λ k n. b.chans k n ∙ a.chans k n }

pub helped_stays : (s u : Store) (t : Table) → IsStore s → Across s t → u ≡ after_help s → Stays s u t
helped_stays s u t whole a e =
    let x = unlinked_by_mark s t whole a s.mark refl in
    let y = linked_by_mark (after_unlink_old s) t x.1 x.0.across (after_unlink_old s).mark refl in
    let z = freed_stays (after_link_new (after_unlink_old s)) t y.1 y.0.across u e in
    stays_then s (after_unlink_old s) u t x.0 (stays_then (after_unlink_old s) (after_link_new (after_unlink_old s)) u t y.0 z)
