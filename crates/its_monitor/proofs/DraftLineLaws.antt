-- WROTE: words at the end of a draft, one by one, if there is room for all of them.
use Rattle.std.specs.Prelude.{◌≡◌, ◌≤◌, ◌<◌, ◌+◌, ℕ, suc, Bool, true, false, not, Option, Some, None, List, [], ◌∷◌, ◌++◌, length, nat_lt, Result, Ok, Err, IsOk, is_some, refl}
use Rattle.std.proofs.Common.{sym, ◌∙◌, ap, subst, inl, inr, arith, drop, get_or}
use Rattle.std.proofs.Math.ListN.{drop_of_length-le}
use Rattle.std.proofs.lemmas.Bool.{cases_Bool, eqb-true, lt-ltb}
use Rattle.std.proofs.lemmas.List.{drop_more, get_or-set_same, get_or-set_other, length-set}
use Rattle.its_word.specs.Limits.{slots}
use Rattle.its_word.specs.Only.{Only}
use Rattle.its_records.specs.declared.jobs.Channel.{Channel}
use Rattle.its_records.specs.declared.jobs.Channel.TheVariants.{Writing}
use Rattle.its_records.specs.declared.session.Reason.{Reason}
use Rattle.its_records.specs.declared.session.Reason.TheVariants.{Range, NoJob, Full, Unfit}
use Rattle.its_records.specs.declared.session.Refusal.{Refusal}
use Rattle.its_records.specs.declared.session.Refusal.TheVariants as refusals
use Rattle.its_records.specs.Refusals.{reason_of}
use Rattle.its_files.specs.Blocks.{text_at, is_full as store_is_full, blocks_used, room_behind}
use Rattle.its_files.specs.Files.{Store, IsStore, entry_at, is_draft, words_by, words_at, file_at, with_word}
use Rattle.its_files.specs.declared.entry.Entry.{Entry}
use Rattle.its_files.proofs.DirectoryLaws.{with_word_draft}
use Rattle.its_files.proofs.EntryLaws.{within, draft_stands}
use Rattle.its_files.proofs.RoomBehindLaws.{no_room, most_appended, room_appended}
use Rattle.its_jobs.specs.Table.{job_at}
use Rattle.its_frame.specs.declared.change.Change.TheVariants as changes
use Rattle.its_plain.specs.Call.File.{is_full}
use Rattle.its_plain.specs.Machine.{Chan, Writes, Machine}
use Rattle.its_plain.specs.Machine.Change.{channel_in, effect}
use Rattle.its_plain.specs.Machine.Own.{with_word as word_on}
use Rattle.its_plain.specs.Operator.{and_then}
use Rattle.its_plain.specs.Operator.Files.{channels_of}
use Rattle.its_plain.specs.Operator.State.{provided_if, provided, has_job, with_word_to, with_all_written, with_words_written}
use Rattle.its_plain.proofs.ProvidedLaws.{provided_ok, provided_holds}
use Rattle.its_stepped.specs.Commit.{effect_on}
use Rattle.its_stepped.specs.Lines.{with_raw}
use Rattle.its_stepped.specs.State.{State}
use Rattle.its_stepped.proofs.Frame.FrameLaws.{on_slot_other}
use Rattle.its_stepped.proofs.Keeping.ForestLaws.{effect_forest}
use Rattle.its_stepped.proofs.Lining.KeptLaws.{Off}
use Rattle.its_stepped.proofs.Lining.RestoredLaws.{wrote_lifted}
use Rattle.its_shared.proofs.RoomLaws.{full_on}
use Rattle.its_shared.proofs.StandLaws.{writing_stands}
use Rattle.its_world.specs.Storage.{HasRoom, chan_in}
use Rattle.its_world.specs.Tidy.{channel_at, Tidy}
use Rattle.its_world.specs.World.{state_of, chan_of}
use Rattle.its_world.specs.declared.world.World.{World}
use Rattle.its_world.proofs.ChannelLaws.{append_comes}
use Rattle.its_world.proofs.MarkLaws.{none_marked}
use Rattle.its_world.proofs.StorageLaws.{Comes, chan_is, chans_are, files_are, marks_are, raw_has}
use Rattle.its_tick.proofs.WaitsLaws.{raw_is_none}
use Rattle.its_monitor.specs.Kept.{Lands}
use Rattle.its_monitor.proofs.RestoresLaws.{Holds, channel_holds, Restores}
use Rattle.its_monitor.proofs.ChannelLineLaws.{ok_of}

-- a word is appended to a draft: one job changes, and what holds between calls is kept
append_off : (m : Machine) (s n x : ℕ) → Off m (effect (changes.Append n x) s m) s
unfolding effect
append_off m s n x = record { others = λ k ne. on_slot_other m.jobs s k _ ne }

append_holds : (m : Machine) (s n x : ℕ) → Holds m → Holds (effect (changes.Append n x) s m)
unfolding effect
append_holds m s n x h = channel_holds m s n (word_on x) m.links (effect_forest (changes.Append n x) s m tt h.forest) h

word_is : (m k : Machine) (s n x : ℕ) (c : Chan) → with_word_to m s n x c ≡ Ok k → effect (changes.Append n x) s m ≡ k
word_is m k s n x (Writes f) e = (provided_holds ((not (is_full m.files (channels_of m) f.words), Full) ∷ []) (effect (changes.Append n x) s m) k e).1
word_is m k s n x _ e = absurd cc

-- words, one by one
split : (m k : Machine) (s n x : ℕ) (ws : List ℕ) → with_all_written m s n (x ∷ ws) ≡ Ok k
    → with_all_written (effect (changes.Append n x) s m) s n ws ≡ Ok k
split m k s n x ws e = by (with_word_to m s n x (channel_in (m.jobs s) n)) refl e
  where
    by : (r : Result Machine Reason) → with_word_to m s n x (channel_in (m.jobs s) n) ≡ r → and_then r (λ i. with_all_written i s n ws) ≡ Ok k
        → with_all_written (effect (changes.Append n x) s m) s n ws ≡ Ok k
    by (Ok i) is h = ap (λ j. with_all_written j s n ws) (word_is m i s n x (channel_in (m.jobs s) n) is) ∙ h
    by (Err y) is h = absurd cc

written_off : (m k : Machine) (s n : ℕ) (ws : List ℕ) → with_all_written m s n ws ≡ Ok k → Off m k s
written_off m k s n [] e = let is : m ≡ k = cc in subst (λ i. Off m i s) is (record { others = λ i ne. refl })
written_off m k s n (x ∷ ws) e =
    let first = append_off m s n x in
    let rest = written_off (effect (changes.Append n x) s m) k s n ws (split m k s n x ws e) in
    record { others = λ i ne. rest.others i ne ∙ first.others i ne }

written_holds : (m k : Machine) (s n : ℕ) (ws : List ℕ) → with_all_written m s n ws ≡ Ok k → Holds m → Holds k
written_holds m k s n [] e h = let is : m ≡ k = cc in subst Holds is h
written_holds m k s n (x ∷ ws) e h = written_holds (effect (changes.Append n x) s m) k s n ws (split m k s n x ws e) (append_holds m s n x h)

wrote_is : (m k : Machine) (s n : ℕ) (ws : List ℕ) → with_words_written m s n ws ≡ Ok k → with_all_written m s n ws ≡ Ok k
unfolding with_words_written
wrote_is m k s n ws e = by (provided ts m) refl e
  where
    ts : List (Bool × Reason)
    ts = (nat_lt n 16, Range) ∷ (has_job m s, NoJob) ∷ []

    by : (r : Result Machine Reason) → provided ts m ≡ r → and_then r (λ i. with_all_written i s n ws) ≡ Ok k → with_all_written m s n ws ≡ Ok k
    by (Ok i) is h = ap (λ j. with_all_written j s n ws) (provided_holds ts m i is).1 ∙ h
    by (Err y) is h = absurd cc

pub wrote_same : (m : Machine) (s n : ℕ) (ws : List ℕ) → IsOk (with_words_written m s n ws) → with_words_written m s n ws ≡ with_all_written m s n ws
wrote_same m s n ws h = let k = ok_of (with_words_written m s n ws) h in k.1 ∙ sym (wrote_is m k.0 s n ws k.1)

pub wrote_ok : (m : Machine) (s n : ℕ) (ws : List ℕ) → IsOk (with_words_written m s n ws) → IsOk (with_all_written m s n ws)
wrote_ok m s n ws h = subst (λ (r : Result Machine Reason). IsOk r) (wrote_same m s n ws h) h

pub wrote_restores : (s n : ℕ) (ws : List ℕ) → Restores true s (λ m. with_words_written m s n ws)
wrote_restores s n ws = record {
  lifts = λ v whole. wrote_lifted v s n ws (whole refl);
  off = λ m k e. written_off m k s n ws (wrote_is m k s n ws e);
  holds = λ m k e h. written_holds m k s n ws (wrote_is m k s n ws e) h;
}

-- the tests before the words
wrote_on : (m : Machine) (s n : ℕ) (ws : List ℕ) → n < 16 → is_some (m.jobs s) ≡ true → with_words_written m s n ws ≡ with_all_written m s n ws
unfolding with_words_written
wrote_on m s n ws few job = ap (λ r. and_then r (λ k. with_all_written k s n ws))
    (provided_ok ((nat_lt n 16, Range) ∷ (has_job m s, NoJob) ∷ []) m (lt-ltb n 16 few, (job, tt)))

wrote_missing : (m : Machine) (s n : ℕ) (ws : List ℕ) → n < 16 → m.jobs s ≡ None → with_words_written m s n ws ≡ Err NoJob
unfolding with_words_written
wrote_missing m s n ws few none =
    λ t. and_then (provided_if (lt-ltb n 16 few t) Range (provided_if (ap is_some none t) NoJob (Ok m))) (λ k. with_all_written k s n ws)

module _ (w : World) (s n : ℕ) (ws : List ℕ) (few : n < 16) where
  pub wrote_absent : (e : Refusal) → (e ≡ refusals.NoJob) × (job_at w.jobs s ≡ None) → with_words_written (state_of w).raw s n ws ≡ Err (reason_of e)
  wrote_absent e h = wrote_missing (state_of w).raw s n ws few (raw_is_none w s h.1) ∙ ap (λ r. Err (reason_of r)) (sym h.0)

  pub wrote_by : is_some (job_at w.jobs s) ≡ true → with_words_written (state_of w).raw s n ws ≡ with_all_written (state_of w).raw s n ws
  wrote_by some = wrote_on (state_of w).raw s n ws few (raw_has w s ∙ some)

  pub wrote_can : is_some (job_at w.jobs s) ≡ true → IsOk (with_all_written (state_of w).raw s n ws) → IsOk (with_words_written (state_of w).raw s n ws)
  wrote_can some ok = subst (λ (r : Result Machine Reason). IsOk r) (sym (wrote_by some)) ok

-- the first of the words can be appended, if all can
pub word_room : (v : State) (s n x : ℕ) (ws : List ℕ) → IsOk (with_all_written v.raw s n (x ∷ ws)) → HasRoom v (chan_in v s n)
word_room v s n x ws h = by (chan_in v s n) (first (with_word_to v.raw s n x (chan_in v s n)) h)
  where
    first : (r : Result Machine Reason) → IsOk (and_then r (λ k. with_all_written k s n ws)) → IsOk r
    first (Ok k) h = refl
    first (Err e) h = cc

    no_more : (b : Bool) → IsOk (provided ((not b, Full) ∷ []) (effect (changes.Append n x) s v.raw)) → b ≡ false
    no_more true h = cc
    no_more false h = refl

    by : (c : Chan) → IsOk (with_word_to v.raw s n x c) → HasRoom v c
    by (Writes f) h = no_more (is_full v.raw.files (channels_of v.raw) f.words) h
    by _ h = tt

append_raw : (v : State) (s n x : ℕ) → effect_on (changes.Append n x) s v ≡ with_raw v (effect (changes.Append n x) s v.raw)
unfolding effect_on
append_raw v s n x = refl

-- the words before place i are appended
pub record Appending (old now : State) (s n : ℕ) (ws : List ℕ) (i : ℕ) : Type 0 where
  pub rest : with_all_written now.raw s n (drop i ws) ≡ with_all_written old.raw s n ws
  pub alone : now ≡ with_raw old now.raw

pub appending_starts : (v : State) (s n : ℕ) (ws : List ℕ) → Appending v v s n ws 0
appending_starts v s n ws = record { rest = refl; alone = refl }

next_words : (ws : List ℕ) (i x d : ℕ) → i < length ws → x ≡ get_or ws i d → drop i ws ≡ x ∷ drop (i + 1) ws
next_words ws i x d l is = drop_more ws i d l ∙ ap (λ y. y ∷ drop (i + 1) ws) (sym is)

module _ (old now : State) (s n i x d : ℕ) (ws : List ℕ) (w : Appending old now s n ws i) (l : i < length ws) (is : x ≡ get_or ws i d)
    (ok : IsOk (with_all_written old.raw s n ws)) where
  next_ok : IsOk (with_all_written now.raw s n (x ∷ drop (i + 1) ws))
  next_ok = subst (λ (r : Result Machine Reason). IsOk r) (sym w.rest ∙ ap (with_all_written now.raw s n) (next_words ws i x d l is)) ok

  pub appending_room : HasRoom now (chan_in now s n)
  appending_room = word_room now s n x (drop (i + 1) ws) next_ok

  pub appending_next : (new : State) → new ≡ effect_on (changes.Append n x) s now → Appending old new s n ws (i + 1)
  appending_next new row =
      let m = ok_of (with_all_written now.raw s n (x ∷ drop (i + 1) ws)) next_ok in
      let made : new ≡ with_raw now (effect (changes.Append n x) s now.raw) = row ∙ append_raw now s n x in
      record {
        rest = ap (λ (v : State). with_all_written v.raw s n (drop (i + 1) ws)) made ∙ split now.raw m.0 s n x (drop (i + 1) ws) m.1
            ∙ sym m.1 ∙ ap (with_all_written now.raw s n) (sym (next_words ws i x d l is)) ∙ w.rest;
        alone = made ∙ ap (λ (v : State). with_raw v (effect (changes.Append n x) s now.raw)) w.alone
            ∙ ap (λ (v : State). with_raw old v.raw) (sym made);
      }

pub appending_ends : (old now : State) (s n i k : ℕ) (ws : List ℕ) → Appending old now s n ws i → k ≡ length ws → k ≤ i
    → Lands old now (with_all_written old.raw s n ws)
appending_ends old now s n i k ws w is le = record {
  is = sym w.rest ∙ ap (with_all_written now.raw s n) (drop_of_length-le ws (omega arith));
  rest = w.alone;
}

pub appending_whole : (old now : State) (s n i : ℕ) (ws : List ℕ) → Appending old now s n ws i → old.mark ≡ None → now.mark ≡ None
appending_whole old now s n i ws w none = ap (λ (v : State). v.mark) w.alone ∙ none

-- how many words there is room for
abbrev Within : ℕ → ℕ → Result Machine Reason → Type 0
Within most needed (Ok m) = needed ≤ most
Within most needed (Err r) = (r ≡ Full) × (most < needed)

within_ok : (most needed : ℕ) (r : Result Machine Reason) → Within most needed r → needed ≤ most → IsOk r
within_ok most needed (Ok m) h le = refl
within_ok most needed (Err r) h le = let l = h.1 in absurd (omega arith)

within_full : (most needed : ℕ) (r : Result Machine Reason) → Within most needed r → most < needed → r ≡ Err Full
within_full most needed (Ok m) h lt = absurd (omega arith)
within_full most needed (Err r) h lt = ap Err h.0

one_more : (x y n : ℕ) (r : Result Machine Reason) → x + 1 ≡ y → Within x n r → Within y (suc n) r
one_more x y n (Ok m) e h = omega arith
one_more x y n (Err z) e h = let l = h.1 in (h.0, omega arith)

-- a word more of a draft
no_entry : (o : Option Entry) → o ≡ None → is_draft o ≡ true → ⊥
no_entry o e h = let wrong : false ≡ true = sym (ap is_draft e) ∙ h in cc

module _ (s : Store) (whole : IsStore s) (id x : ℕ) (draft : is_draft (entry_at s id) ≡ true) where
  long : id < length s.stored.texts
  long =
      let l = within s.entries id (draft_stands (entry_at s id) draft) in
      let e = whole.long in
      let t = whole.texts_long in
      omega arith

  longer_store : IsStore (with_word s id x)
  longer_store = record {
    long = whole.long;
    texts_long = length-set s.stored.texts id _ ∙ whole.texts_long;
    listed = whole.listed;
    number = whole.number;
    few = whole.few;
    few_drafts = whole.few_drafts;
    unique = whole.unique;
    bare = λ k none left. get_or-set_other s.stored.texts id k _ [] (λ e. no_entry (entry_at s id) (ap (entry_at s) (sym e) ∙ none) draft)
        ∙ whole.bare k none left;
    marked = whole.marked;
  }

  words_longer : Only (words_at s) (words_at (with_word s id x)) id (words_at s id ++ x ∷ [])
  words_longer = record {
    here = ap (words_by (entry_at s id)) (get_or-set_same s.stored.texts id (text_at s.stored.texts id ++ x ∷ []) [] long)
        ∙ words_more (entry_at s id) (text_at s.stored.texts id) draft;
    others = λ k ne. ap (words_by (entry_at s k)) (get_or-set_other s.stored.texts id k (text_at s.stored.texts id ++ x ∷ []) [] ne);
  }
    where
      words_more : (o : Option Entry) (ws : List ℕ) → is_draft o ≡ true → words_by o (ws ++ x ∷ []) ≡ words_by o ws ++ x ∷ []
      words_more (Some e) ws h = refl
      words_more None ws h = cc

-- what makes it possible to append to the draft of a channel
record Drafted (w : World) (s n id : ℕ) : Type 0 where
  slot : s < slots
  few : n < 16
  tidy : Tidy w
  whole : IsStore w.files
  none : w.files.mark ≡ None
  most : blocks_used w.files.stored ≤ 2048
  was : Writing id ≡ channel_at w.jobs s n

abbrev with_longer : World → ℕ → ℕ → World
with_longer w id x = record w { files = with_word w.files id x }

module _ (w : World) (s n id : ℕ) (d : Drafted w s n id) where
  drafted : is_draft (entry_at w.files id) ≡ true
  drafted = (writing_stands w.files w.jobs d.tidy.across s n id (sym d.was)).draft

  unmarked : (state_of w).mark ≡ None
  unmarked = marks_are w ∙ none_marked w.files d.none

  on_draft : chan_in (state_of w) s n ≡ Writes (file_at w.files id)
  on_draft = chan_is w s n ∙ ap (chan_of w.files) (sym d.was)

  full_is : is_full (state_of w).raw.files (channels_of (state_of w).raw) (words_at w.files id) ≡ store_is_full w.files.stored id
  full_is = (λ t. is_full (files_are w t) (chans_are w t) (words_at w.files id)) ∙ sym (full_on w.files d.whole d.none w.jobs id d.tidy.across d.most)

  word_on_draft : (x : ℕ) → with_word_to (state_of w).raw s n x (channel_in ((state_of w).raw.jobs s) n)
      ≡ provided ((not (store_is_full w.files.stored id), Full) ∷ []) (effect (changes.Append n x) s (state_of w).raw)
  word_on_draft x =
      ap (with_word_to (state_of w).raw s n x) on_draft
      ∙ ap (λ b. provided ((not b, Full) ∷ []) (effect (changes.Append n x) s (state_of w).raw)) full_is

  module _ (x : ℕ) (room : store_is_full w.files.stored id ≡ false) where
    comes : Comes (with_longer w id x) (effect_on (changes.Append n x) s (state_of w))
    comes = append_comes w (with_longer w id x) s n d.slot d.few d.tidy (with_word w.files id x) id x d.was unmarked refl
        (with_word_draft w.files d.whole id x drafted) (record { each = λ k. refl })
        (words_longer w.files d.whole id x drafted) (record { is = refl })

    comes_raw : effect (changes.Append n x) s (state_of w).raw ≡ (state_of (with_longer w id x)).raw
    comes_raw = ap (λ (v : State). v.raw) (sym (append_raw (state_of w) s n x) ∙ sym comes.row)

    longer_drafted : Drafted (with_longer w id x) s n id
    longer_drafted = record {
      slot = d.slot;
      few = d.few;
      tidy = comes.tidy;
      whole = longer_store w.files d.whole id x drafted;
      none = d.none;
      most = most_appended w.files.stored id x (long w.files d.whole id x drafted) d.most room;
      was = d.was;
    }

room_for : (w : World) (s n id : ℕ) (ws : List ℕ) → Drafted w s n id
    → Within (room_behind w.files.stored id) (length ws) (with_all_written (state_of w).raw s n ws)
room_for w s n id [] d = omega arith
room_for w s n id (x ∷ ws) d = elim (cases_Bool (store_is_full w.files.stored id)) [
  | inl t ↦
      let none : room_behind w.files.stored id ≡ 0 = eqb-true (room_behind w.files.stored id) 0 (sym (no_room w.files.stored id d.most) ∙ t) in
      subst (Within (room_behind w.files.stored id) (suc (length ws)))
      (sym (ap (λ r. and_then r (λ k. with_all_written k s n ws)) (word_on_draft w s n id d x
      ∙ ap (λ b. provided ((not b, Full) ∷ []) (effect (changes.Append n x) s (state_of w).raw)) t)))
      (refl, omega arith)
  | inr f ↦
      let q = with_longer w id x in
      let rest = room_for q s n id ws (longer_drafted w s n id d x f) in
      subst (Within (room_behind w.files.stored id) (suc (length ws)))
      (sym (ap (λ r. and_then r (λ k. with_all_written k s n ws)) (word_on_draft w s n id d x
      ∙ ap (λ b. provided ((not b, Full) ∷ []) (effect (changes.Append n x) s (state_of w).raw)) f)
      ∙ ap (λ m. with_all_written m s n ws) (comes_raw w s n id d x f)))
      (one_more (room_behind q.files.stored id) (room_behind w.files.stored id) (length ws) (with_all_written (state_of q).raw s n ws)
      (room_appended w.files.stored id x (long w.files d.whole id x (drafted w s n id d)) d.most f) rest)
]

module _ (w : World) (s n id room : ℕ) (ws : List ℕ) (ls : s < slots) (ln : n < 16) (tidy : Tidy w) (whole : IsStore w.files)
    (none : w.files.mark ≡ None) (most : blocks_used w.files.stored ≤ 2048) (was : Writing id ≡ channel_at w.jobs s n)
    (room_is : room ≡ room_behind w.files.stored id) where
  fits : Within room (length ws) (with_all_written (state_of w).raw s n ws)
  fits = subst (λ k. Within k (length ws) (with_all_written (state_of w).raw s n ws)) (sym room_is)
      (room_for w s n id ws (record { slot = ls; few = ln; tidy = tidy; whole = whole; none = none; most = most; was = was }))

  pub fits_ok : length ws ≤ room → IsOk (with_all_written (state_of w).raw s n ws)
  fits_ok le = within_ok room (length ws) (with_all_written (state_of w).raw s n ws) fits le

  pub fits_full : room < length ws → with_all_written (state_of w).raw s n ws ≡ Err Full
  fits_full lt = within_full room (length ws) (with_all_written (state_of w).raw s n ws) fits lt

-- the channel is on no draft
unfit_by : (w : World) (s n x : ℕ) (c : Channel) → ((d : ℕ) → c ≡ Writing d → ⊥) → with_word_to (state_of w).raw s n x (chan_of w.files c) ≡ Err Unfit
unfit_by w s n x (Writing d) other = absurd (other d refl)
unfit_by w s n x _ other = refl

pub written_unfit : (w : World) (s n : ℕ) (ws : List ℕ) (c : Channel) → c ≡ channel_at w.jobs s n → ((d : ℕ) → c ≡ Writing d → ⊥) → 1 ≤ length ws
    → with_all_written (state_of w).raw s n ws ≡ Err Unfit
written_unfit w s n [] c is other some = absurd (omega arith)
written_unfit w s n (x ∷ ws) c is other some =
    ap (λ r. and_then r (λ k. with_all_written k s n ws)) (ap (with_word_to (state_of w).raw s n x) (chan_is w s n ∙ ap (chan_of w.files) (sym is))
    ∙ unfit_by w s n x c other)

pub written_stands : (w : World) (s n id : ℕ) → Tidy w → Writing id ≡ channel_at w.jobs s n → is_some (entry_at w.files id) ≡ true
written_stands w s n id tidy was = draft_stands (entry_at w.files id) (writing_stands w.files w.jobs tidy.across s n id (sym was)).draft
