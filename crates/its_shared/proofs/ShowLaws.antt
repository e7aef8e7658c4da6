-- What a machine shows of files and channels decides which changes of files can be made.
use Rattle.std.specs.Prelude.{◌≡◌, ◌≤◌, ◌||◌, ℕ, true, false, Option, Some, None, is_some, Err, [], ◌∷◌, length, nat_lt, slice_index_or, refl}
use Rattle.std.proofs.Common.{sym, ◌∙◌, ap}
use Rattle.std.proofs.lemmas.Bool.{both_ways}
use Rattle.std.proofs.lemmas.List.{length-map}
use Rattle.its_records.proofs.FreeLaws.{none_is}
use Rattle.its_files.specs.Blocks.{blocks_used as stored_blocks, is_full as store_is_full}
use Rattle.its_files.specs.Files.{Store, IsStore, names_at, words_at, readers_at, file_at, found, close, close_by, close_new, delete, delete_by, rename, rename_by, rename_free, new_names}
use Rattle.its_files.specs.declared.entry.CloseFault.{CloseFault}
use Rattle.its_files.specs.declared.entry.Locked.{Locked}
use Rattle.its_files.specs.declared.entry.RenameFault.{RenameFault}
use Rattle.its_jobs.specs.Table.{Table}
use Rattle.its_plain.specs.Call.File.{has_file, is_full, is_read}
use Rattle.its_plain.specs.Machine.{Names, Machine, Writes}
use Rattle.its_plain.specs.Machine.Own.{names_of}
use Rattle.its_shared.specs.Across.{Across}
use Rattle.its_shared.specs.Can.{HasRoom, CanClose, Unread}
use Rattle.its_shared.specs.Channels.{Shows}
use Rattle.its_shared.proofs.ChanLaws.{close_unread}
use Rattle.its_shared.proofs.RoomLaws.{full_on}
use Rattle.its_shared.proofs.StandLaws.{unread_is}
use Rattle.its_shared.proofs.StoreLaws.{has_named}

module _ (m : Machine) (s : Store) (t : Table) (shows : Shows m s t) where
  named : (names : Names) → has_file names m.files ≡ is_some (found s names)
  named names = ap (has_file names) shows.files ∙ has_named s names

  pub found_file : (names : Names) → has_file names m.files ≡ true → None ≡ found s names → ⊥
  found_file names h none = both_ways (has_file names m.files) (named names ∙ ap is_some (sym none)) h

  module _ (whole : IsStore s) (across : Across s t) where
    unread : (names : Names) (f : ℕ) → Unread m names → found s names ≡ Some f → readers_at s f ≡ 0
    unread names f h is = unread_is s t whole across names f (sym (ap (is_read names) shows.chans) ∙ h) is

    pub draft_room : (k : ℕ) → s.mark ≡ None → stored_blocks s.stored ≤ 2048 → HasRoom m (Writes (file_at s k)) → store_is_full s.stored k ≡ false
    draft_room k unmarked most room = full_on s whole unmarked t k across most ∙ sym (λ i. is_full (shows.files i) (shows.chans i) (words_at s k)) ∙ room

    pub close_can : (k slot : ℕ) → CanClose m (Writes (file_at s k)) → (e : CloseFault) → close s k slot ≡ Err e → ⊥
    close_can k slot can e h = by_found (found s (names_at s k)) refl h
      where
        by_found : (o : Option ℕ) → found s (names_at s k) ≡ o → close_by o s slot k ≡ Err e → ⊥
        by_found (Some f) is h = close_unread s f k slot (unread (names_at s k) f can.0 is) e h
        by_found None is h =
            let none : has_file (names_at s k) m.files ≡ false = named (names_at s k) ∙ ap is_some is in
            let n : length m.files ≡ length s.order = ap (λ fs. length fs) shows.files ∙ length-map s.order (file_at s) in
            let lt : nat_lt (length s.order) 256 ≡ true = sym (ap (λ b. b || nat_lt (length m.files) 256) none ∙ ap (λ l. nat_lt l 256) n) ∙ can.1 in
            let z : close_new true s slot k ≡ Err e = sym (ap (λ b. close_new b s slot k) lt) ∙ h in
            cc

    pub delete_can : (names : Names) (f : ℕ) → Unread m names → found s names ≡ Some f → (e : Locked) → delete s f ≡ Err e → ⊥
    delete_can names f h is e fault = let z : delete_by 0 s f ≡ Err e = sym (ap (λ l. delete_by l s f) (unread names f h is)) ∙ fault in cc

    pub rename_can : (d x y f u v : ℕ) → Unread m (names_of d x y) → has_file (names_of d u v) m.files ≡ false
        → found s (d ∷ x ∷ y ∷ []) ≡ Some f → names_at s f ≡ d ∷ x ∷ y ∷ []
        → (e : RenameFault) → rename s f u v ≡ Err e → ⊥
    rename_can d x y f u v h fresh is names e fault =
        let new : new_names s f u v ≡ d ∷ u ∷ v ∷ [] = ap (λ ns. slice_index_or ns 0 0 ∷ u ∷ v ∷ []) names in
        let free : found s (new_names s f u v) ≡ None = none_is (found s (new_names s f u v))
        (sym (named (new_names s f u v)) ∙ ap (λ ns. has_file ns m.files) new ∙ fresh) in
        let z : rename_free None s f (new_names s f u v) ≡ Err e =
        sym (ap (λ l. rename_by l s f (new_names s f u v)) (unread (names_of d x y) f h is) ∙ ap (λ o. rename_free o s f (new_names s f u v)) free) ∙ fault in
        cc
