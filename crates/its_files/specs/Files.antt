-- The store of files as contracts see it: the entry of each number, the order of the files, the
-- close that is half made, and the words.
-- No promise rests on this.
use Rattle.std.specs.Prelude.{◌≡◌, ◌<◌, ◌≤◌, ◌≢◌, ℕ, suc, zero, ◌+◌, Bool, true, false, cond, eqb, nat_lt, Option, Some, None, Result, Ok, Err, List, [], ◌∷◌, ◌++◌, length, map, count_by, slice_set, slice_index_or}
use Rattle.its_links.specs.Lists.{count, without}
use Rattle.its_records.specs.declared.calls.Owed.{Owed}
use Rattle.its_records.specs.declared.calls.Owed.TheVariants.{Unlink as Unlinks, Link as Links, Free as Frees}
use Rattle.its_word.specs.Only.{Only}
use Rattle.its_word.specs.Directory.{File as PlainFile, same_names}
use Rattle.its_files.specs.declared.entry.Entry.{Entry}
use Rattle.its_files.specs.declared.entry.Entry.TheVariants.{File, Draft}
use Rattle.its_files.specs.declared.entry.Parts.{Parts}
use Rattle.its_files.specs.declared.entry.Parts.TheVariants.{Replace, Link, Free}
use Rattle.its_files.specs.declared.entry.Mark.{Mark}
use Rattle.its_files.specs.declared.entry.CloseFault.{CloseFault}
use Rattle.its_files.specs.declared.entry.CloseFault.TheVariants.{Locked, NoRoom}
use Rattle.its_files.specs.declared.entry.RenameFault.{RenameFault}
use Rattle.its_files.specs.declared.entry.RenameFault.TheVariants.{Locked as IsLocked, Exists}
use Rattle.its_files.specs.declared.entry.Locked.{Locked as LockedFile}
use Rattle.its_files.specs.Blocks.{Stored, text_at, with_word_appended, after_giving_up, numbers}
pub use Rattle.its_files.specs.Blocks.{most_files, most_drafts}
use Rattle.its_files.specs.Opening.{nothing_stored}
use Rattle.its_word.specs.Table.{filled}

pub record Store : Type 0 where
  pub entries : List (Option Entry)
  pub order : List ℕ
  pub mark : Option Mark
  pub stored : Stored

-- the entry of a number
abbrev pub entry_in : List (Option Entry) → ℕ → Option Entry
entry_in entries id = slice_index_or entries id None

abbrev pub entry_at : Store → ℕ → Option Entry
entry_at s id = entry_in s.entries id

abbrev pub is_file : Option Entry → Bool
is_file None = false
is_file (Some (File names readers)) = true
is_file (Some (Draft names)) = false

abbrev pub is_draft : Option Entry → Bool
is_draft None = false
is_draft (Some (File names readers)) = false
is_draft (Some (Draft names)) = true

-- the names of a file or a draft
abbrev pub names_by : Option Entry → List ℕ
names_by None = []
names_by (Some (File names readers)) = names
names_by (Some (Draft names)) = names

abbrev pub names_at : Store → ℕ → List ℕ
names_at s id = names_by (entry_at s id)

-- how many channels read a file
abbrev pub readers_by : Option Entry → ℕ
readers_by None = 0
readers_by (Some (File names readers)) = readers
readers_by (Some (Draft names)) = 0

abbrev pub readers_at : Store → ℕ → ℕ
readers_at s id = readers_by (entry_at s id)

-- the words of a file or a draft
abbrev pub words_by : Option Entry → List ℕ → List ℕ
words_by None words = []
words_by (Some e) words = words

abbrev pub words_at : Store → ℕ → List ℕ
words_at s id = words_by (entry_at s id) (text_at s.stored.texts id)

-- how many drafts there are
abbrev pub drafts : Store → ℕ
drafts s = count_by is_draft s.entries

-- the first file in order that has these names
abbrev pub found_by : Bool → ℕ → Option ℕ → Option ℕ
found_by true id later = Some id
found_by false id later = later

abbrev pub found_in : List (Option Entry) → List ℕ → List ℕ → Option ℕ
found_in entries names [] = None
found_in entries names (id ∷ ids) = found_by (same_names names (names_by (entry_in entries id))) id (found_in entries names ids)

abbrev pub found : Store → List ℕ → Option ℕ
found s names = found_in s.entries names s.order

-- no entry
abbrev pub no_files : Store
no_files = record { entries = filled numbers None; order = []; mark = None; stored = nothing_stored }

-- a file of no words, the last in order
abbrev pub with_file : Store → ℕ → List ℕ → Store
with_file s id names = record s { entries = slice_set s.entries id (Some (File names 0)); order = s.order ++ id ∷ [] }

-- a draft of no words
abbrev pub with_draft : Store → ℕ → List ℕ → Store
with_draft s id names = record s { entries = slice_set s.entries id (Some (Draft names)) }

-- a word more
abbrev pub with_word : Store → ℕ → ℕ → Store
with_word s id w = record s { stored = with_word_appended s.stored id w }

-- a draft is dropped
abbrev pub after_discard : Store → ℕ → Store
after_discard s id = record s { entries = slice_set s.entries id None; stored = after_giving_up s.stored id }

-- a file goes
abbrev pub after_delete : Store → ℕ → Store
after_delete s id = record s { entries = slice_set s.entries id None; order = without id s.order; stored = after_giving_up s.stored id }

abbrev pub delete_by : ℕ → Store → ℕ → Result Store LockedFile
delete_by zero s id = Ok (after_delete s id)
delete_by (suc n) s id = Err (record {})

abbrev pub delete : Store → ℕ → Result Store LockedFile
delete s id = delete_by (readers_at s id) s id

-- a file gets other names in its directory, and keeps its place
abbrev pub after_rename : Store → ℕ → List ℕ → Store
after_rename s id names = record s { entries = slice_set s.entries id (Some (File names 0)) }

abbrev pub rename_free : Option ℕ → Store → ℕ → List ℕ → Result Store RenameFault
rename_free None s id names = Ok (after_rename s id names)
rename_free (Some other) s id names = Err Exists

abbrev pub rename_by : ℕ → Store → ℕ → List ℕ → Result Store RenameFault
rename_by zero s id names = rename_free (found s names) s id names
rename_by (suc n) s id names = Err IsLocked

abbrev pub new_names : Store → ℕ → ℕ → ℕ → List ℕ
new_names s id x y = slice_index_or (names_at s id) 0 0 ∷ x ∷ y ∷ []

abbrev pub rename : Store → ℕ → ℕ → ℕ → Result Store RenameFault
rename s id x y = rename_by (readers_at s id) s id (new_names s id x y)

-- a file has so many readers
abbrev pub with_readers : Store → ℕ → ℕ → Store
with_readers s id n = record s { entries = slice_set s.entries id (Some (File (names_at s id) n)) }

-- a close of a draft is marked: it replaces the file with its names, or it is the last of a
-- directory with room
abbrev pub with_mark : Store → ℕ → Parts → Store
with_mark s slot parts = record s { mark = Some (record { owner = slot; parts = parts }) }

abbrev pub close_old : ℕ → Store → ℕ → ℕ → ℕ → Result Store CloseFault
close_old zero s slot id old = Ok (with_mark s slot (Replace old id))
close_old (suc n) s slot id old = Err Locked

abbrev pub close_new : Bool → Store → ℕ → ℕ → Result Store CloseFault
close_new true s slot id = Ok (with_mark s slot (Link None id))
close_new false s slot id = Err NoRoom

abbrev pub close_by : Option ℕ → Store → ℕ → ℕ → Result Store CloseFault
close_by (Some old) s slot id = close_old (readers_at s old) s slot id old
close_by None s slot id = close_new (nat_lt (length s.order) most_files) s slot id

abbrev pub close : Store → ℕ → ℕ → Result Store CloseFault
close s id slot = close_by (found s (names_at s id)) s slot id

-- the pending parts, in order
abbrev pub parts_owed : Parts → List Owed
parts_owed (Replace old draft) = Unlinks ∷ Links ∷ Frees ∷ []
parts_owed (Link (Some old) draft) = Links ∷ Frees ∷ []
parts_owed (Link None draft) = Links ∷ []
parts_owed (Free old) = Frees ∷ []

abbrev pub owed : Option Mark → List Owed
owed None = []
owed (Some m) = parts_owed m.parts

-- the old file is unlinked, if that is the first pending part
abbrev pub after_unlink_old_by : Parts → ℕ → Store → Store
after_unlink_old_by (Replace old draft) owner s = record s {
  entries = slice_set s.entries old None;
  order = without old s.order;
  mark = Some (record { owner = owner; parts = Link (Some old) draft });
}
after_unlink_old_by (Link old draft) owner s = s
after_unlink_old_by (Free old) owner s = s

abbrev pub after_unlink_old_at : Option Mark → Store → Store
after_unlink_old_at None s = s
after_unlink_old_at (Some m) s = after_unlink_old_by m.parts m.owner s

abbrev pub after_unlink_old : Store → Store
after_unlink_old s = after_unlink_old_at s.mark s

-- the draft becomes the last file, if that is the first pending part
abbrev pub after_link : Option ℕ → ℕ → Option Mark
after_link None owner = None
after_link (Some old) owner = Some (record { owner = owner; parts = Free old })

abbrev pub after_link_new_by : Parts → ℕ → Store → Store
after_link_new_by (Replace old draft) owner s = s
after_link_new_by (Link old draft) owner s = record s {
  entries = slice_set s.entries draft (Some (File (names_at s draft) 0));
  order = s.order ++ draft ∷ [];
  mark = after_link old owner;
}
after_link_new_by (Free old) owner s = s

abbrev pub after_link_new_at : Option Mark → Store → Store
after_link_new_at None s = s
after_link_new_at (Some m) s = after_link_new_by m.parts m.owner s

abbrev pub after_link_new : Store → Store
after_link_new s = after_link_new_at s.mark s

-- the blocks of the old file become free, if that is the first pending part
abbrev pub after_free_old_by : Parts → Store → Store
after_free_old_by (Replace old draft) s = s
after_free_old_by (Link old draft) s = s
after_free_old_by (Free old) s = record s { mark = None; stored = after_giving_up s.stored old }

abbrev pub after_free_old_at : Option Mark → Store → Store
after_free_old_at None s = s
after_free_old_at (Some m) s = after_free_old_by m.parts s

abbrev pub after_free_old : Store → Store
after_free_old s = after_free_old_at s.mark s

-- all pending parts are performed
abbrev pub after_help : Store → Store
after_help s = after_free_old (after_link_new (after_unlink_old s))

-- the files in their order
abbrev pub file_at : Store → ℕ → PlainFile
file_at s id = record { names = names_at s id; words = words_at s id }

abbrev pub directory : Store → List PlainFile
directory s = map (file_at s) s.order

-- the files as the plain machine has them: with all pending parts performed
abbrev pub plain_directory : Store → List PlainFile
plain_directory s = directory (after_help s)

-- the draft that is marked, the number that has lost its file but not its blocks, and whether a
-- draft is about to be linked
abbrev pub draft_by : Parts → Option ℕ
draft_by (Replace old draft) = Some draft
draft_by (Link old draft) = Some draft
draft_by (Free old) = None

abbrev pub marked_draft : Option Mark → Option ℕ
marked_draft None = None
marked_draft (Some m) = draft_by m.parts

abbrev pub unlinked_old_by : Parts → Option ℕ
unlinked_old_by (Replace old draft) = None
unlinked_old_by (Link old draft) = old
unlinked_old_by (Free old) = Some old

abbrev pub unlinked_old : Option Mark → Option ℕ
unlinked_old None = None
unlinked_old (Some m) = unlinked_old_by m.parts

abbrev pub to_come_by : Parts → ℕ
to_come_by (Replace old draft) = 0
to_come_by (Link old draft) = 1
to_come_by (Free old) = 0

abbrev pub to_come : Option Mark → ℕ
to_come None = 0
to_come (Some m) = to_come_by m.parts

-- what holds of a mark
pub record Replaces (entries : List (Option Entry)) (old draft : ℕ) : Type 0 where
  pub file : is_file (entry_in entries old) ≡ true
  pub unread : readers_by (entry_in entries old) ≡ 0
  pub draft_stands : is_draft (entry_in entries draft) ≡ true
  pub names : same_names (names_by (entry_in entries draft)) (names_by (entry_in entries old)) ≡ true

abbrev pub Gone : List (Option Entry) → Option ℕ → Type 0
Gone entries None = Unit {0}
Gone entries (Some old) = (old < numbers) × (entry_in entries old ≡ None)

pub record Links_to (entries : List (Option Entry)) (old : Option ℕ) (draft : ℕ) : Type 0 where
  pub gone : Gone entries old
  pub draft_stands : is_draft (entry_in entries draft) ≡ true
  pub fresh : (k : ℕ) → is_file (entry_in entries k) ≡ true → same_names (names_by (entry_in entries draft)) (names_by (entry_in entries k)) ≡ false

abbrev pub Owes : List (Option Entry) → Parts → Type 0
Owes entries (Replace old draft) = Replaces entries old draft
Owes entries (Link old draft) = Links_to entries old draft
Owes entries (Free old) = Gone entries (Some old)

abbrev pub Marked : List (Option Entry) → Option Mark → Type 0
Marked entries None = Unit {0}
Marked entries (Some m) = Owes entries m.parts

abbrev pub one_if : Bool → ℕ
one_if b = cond b 1 0

pub record IsFiles (entries : List (Option Entry)) (order : List ℕ) (mark : Option Mark) (texts : List (List ℕ)) : Type 0 where
  pub long : length entries ≡ numbers
  pub texts_long : length texts ≡ numbers
  pub listed : (id : ℕ) → count id order ≡ one_if (is_file (entry_in entries id))
  pub number : length order ≡ count_by is_file entries
  pub few : length order + to_come mark ≤ 256
  pub few_drafts : count_by is_draft entries ≤ most_drafts
  pub unique : (i j : ℕ) → is_file (entry_in entries i) ≡ true → is_file (entry_in entries j) ≡ true → same_names (names_by (entry_in entries i)) (names_by (entry_in entries j)) ≡ true → i ≡ j
  pub bare : (id : ℕ) → entry_in entries id ≡ None → unlinked_old mark ≢ Some id → text_at texts id ≡ []
  pub marked : Marked entries mark

abbrev pub IsStore : Store → Type 0
IsStore s = IsFiles s.entries s.order s.mark s.stored.texts

-- what channels see of files and drafts, by number: the names of files, the words of drafts, and
-- which draft is marked
abbrev pub file_names_by : Option Entry → Option (List ℕ)
file_names_by None = None
file_names_by (Some (File names readers)) = Some names
file_names_by (Some (Draft names)) = None

abbrev pub file_names : Store → ℕ → Option (List ℕ)
file_names s id = file_names_by (entry_at s id)

abbrev pub draft_file_by : Option Entry → List ℕ → Option PlainFile
draft_file_by None words = None
draft_file_by (Some (File names readers)) words = None
draft_file_by (Some (Draft names)) words = Some (record { names = names; words = words })

abbrev pub draft_file : Store → ℕ → Option PlainFile
draft_file s id = draft_file_by (entry_at s id) (words_at s id)

abbrev pub is_marked_by : Option ℕ → ℕ → Bool
is_marked_by None id = false
is_marked_by (Some draft) id = eqb draft id

abbrev pub is_marked : Store → ℕ → Bool
is_marked s id = is_marked_by (marked_draft s.mark) id

-- one store is another except for one number
pub record But (s t : Store) (id : ℕ) : Type 0 where
  pub names : Only (file_names s) (file_names t) id (file_names t id)
  pub readers : Only (readers_at s) (readers_at t) id (readers_at t id)
  pub drafts : Only (draft_file s) (draft_file t) id (draft_file t id)
  pub marked : Only (is_marked s) (is_marked t) id (is_marked t id)
