-- Calls on files and drafts: OPEN, CLOSE, `.IOT` and SIOT if their device is DSK; ACCESS, FILLEN,
-- DELETE and RENAME (docs/CALLS.md, "Files").
-- A promise rests on this.
use Rattle.std.specs.Prelude.{◌==◌, ◌&&◌, ℕ, ◌+◌, ◌-◌, ◌/◌, ◌%◌, Bool, true, false, not, Option, Some, None, List, [], ◌∷◌, ◌++◌, nat_lt, is_some, length, find, sum_by, slice_get, unwrap_or}
use Rattle.std.specs.List.{list_any, range_with_len}
use Rattle.its_word.specs.Word.{right_of}
use Rattle.its_word.specs.Byte.{load_of}
use Rattle.its_word.specs.Limits.{slots}
use Rattle.its_records.specs.declared.calls.Ask.{Ask}
use Rattle.its_frame.specs.declared.change.Change.TheVariants as changes
use Rattle.its_frame.specs.declared.change.Opened.{Opened}
use Rattle.its_frame.specs.declared.change.Opened.TheVariants as opened
use Rattle.its_frame.specs.declared.decision.Decision.{Decision}
use Rattle.its_frame.specs.Errors as error
use Rattle.its_plain.specs.Machine.{Names, File, Chan, Shut, Reads, Writes, On, all_shut}
use Rattle.its_plain.specs.Machine.Own.{names_of}
use Rattle.its_plain.specs.Machine.Change.{same_names}
use Rattle.its_plain.specs.Machine.View.{View, Outline}
use Rattle.its_plain.specs.Call.Arguments.{input}
use Rattle.its_plain.specs.Call.Tests.{Test, ◌⇒◌, first, finishes, fails, goes, out}
use Rattle.its_plain.specs.Call.Basic.{channel_at, ioc, is_shut}
use Rattle.its_plain.specs.Call.Transfer.{iot_ends, store_tests, read_tests, word_of, siot_by, next_pointer}

-- the device of files
abbrev pub disk_device : ℕ
disk_device = 0o446353000000

-- there are at most 256 files
abbrev pub most_files : ℕ
most_files = 256

-- the words of files and drafts are kept in blocks of 128, of which there are 2048
abbrev pub most_blocks : ℕ
most_blocks = 2048

abbrev pub blocks_for : ℕ → ℕ
blocks_for n = (n + 127) / 128

abbrev pub needs_block : ℕ → Bool
needs_block n = n % 128 == 0

-- the channels of all jobs, by slot and number
abbrev pub Channels : Type 0
Channels = ℕ → ℕ → Chan

abbrev pub channels_by : Option Outline → ℕ → Chan
channels_by (Some o) = o.channels
channels_by None = all_shut

abbrev pub channels_in : View → Channels
channels_in v k = channels_by (v.outlines k)

-- how many blocks are in use: those of files, and those of drafts
abbrev pub blocks_on : Chan → ℕ
blocks_on (Writes f) = blocks_for (length f.words)
blocks_on _ = 0

unfoldable pub blocks_of_drafts : Channels → ℕ
blocks_of_drafts cs = sum_by (λ k. sum_by (λ n. blocks_on (cs k n)) (range_with_len 0 16)) (range_with_len 0 slots)

abbrev pub blocks_of_files : List File → ℕ
blocks_of_files fs = sum_by (λ f. blocks_for (length f.words)) fs

abbrev pub blocks_used : List File → Channels → ℕ
blocks_used fs cs = blocks_of_files fs + blocks_of_drafts cs

-- there is no room for one word more after these
abbrev pub is_full : List File → Channels → List ℕ → Bool
is_full fs cs words = needs_block (length words) && not (nat_lt (blocks_used fs cs) most_blocks)

-- the file with these names, and whether a channel reads it
abbrev pub file_named : Names → List File → Option File
file_named n fs = find (λ f. same_names n f.names) fs

abbrev pub has_file : Names → List File → Bool
has_file n fs = is_some (file_named n fs)

abbrev pub reads : Names → Chan → Bool
reads n (Reads m at) = same_names n m
reads n _ = false

unfoldable pub is_read : Names → Channels → Bool
is_read n cs = list_any (λ k. list_any (λ i. reads n (cs k i)) (range_with_len 0 16)) (range_with_len 0 slots)

-- its words; none if there is no such file
abbrev pub words_by : Option File → List ℕ
words_by (Some f) = f.words
words_by None = []

abbrev pub words_of : View → Names → List ℕ
words_of v n = words_by (file_named n v.files)

-- the names from argument k on: name 1, name 2 and the directory
abbrev pub names_from : Ask → ℕ → Names
names_from a k = names_of (input a (k + 2)) (input a k) (input a (k + 1))

-- OPEN channel, DSK, name 1, name 2, directory: a file for input, or a new draft with control 1
abbrev pub is_output : ℕ → Bool
is_output control = control == 1

abbrev pub opens_as : Bool → ℕ → ℕ → ℕ → Opened
opens_as true d x y = opened.Writing d x y
opens_as false d x y = opened.Reading d x y

abbrev pub disk_tests : View → Ask → ℕ → ℕ → List Test
disk_tests v a n control =
    not (nat_lt n 16 && is_shut (channel_at v.own.channels n)) ⇒ fails v a error.BAD_CHANNEL
    ∷ nat_lt 1 control ⇒ fails v a error.OUT_OF_RANGE
    ∷ (not (is_output control) && not (has_file (names_from a 2) v.files)) ⇒ fails v a error.NO_FILE
    ∷ []

unfoldable pub opens_disk : View → Ask → Decision
opens_disk v a =
    first (disk_tests v a (input a 0) (unwrap_or a.control 0))
    (finishes v (changes.Open (input a 0) (opens_as (is_output (unwrap_or a.control 0)) (input a 4) (input a 2) (input a 3)) ∷ []) [])

-- CLOSE of a draft: it becomes the last file, in place of one with its names that no channel reads
unfoldable pub closes_draft : View → Ask → File → Decision
closes_draft v a f =
    first (is_read f.names (channels_in v) ⇒ fails v a error.FILE_LOCKED ∷ (not (has_file f.names v.files) && not (nat_lt (length v.files) most_files)) ⇒ fails v a error.DIRECTORY_FULL ∷ [])
    (finishes v (changes.Close (input a 0) ∷ []) [])

-- `.IOT` of the word at E from a file, at whose end it gets 777777000003, and to a draft
abbrev pub end_of_file : ℕ
end_of_file = 0o777777000003

abbrev pub iot_read : View → ℕ → ℕ → ℕ → Option ℕ → Decision
iot_read v e n at (Some w) = iot_ends v (changes.Move n (at + 1) ∷ []) (record { at = e; word = w } ∷ [])
iot_read v e n at None = iot_ends v [] (record { at = e; word = end_of_file } ∷ [])

abbrev pub iot_reads : View → ℕ → ℕ → Names → ℕ → Decision
iot_reads v e n names at = first (store_tests v e) (iot_read v e n at (slice_get (words_of v names) at))

abbrev pub iot_writes : View → ℕ → ℕ → File → Decision
iot_writes v e n f =
    first (read_tests v e ++ (is_full v.files (channels_in v) f.words ⇒ ioc v ∷ []))
    (iot_ends v (changes.Append n (word_of v e) ∷ []) [])

-- SIOT of one word: from a file, or to a draft
abbrev pub siot_read : View → ℕ → ℕ → ℕ → ℕ → ℕ → Decision
siot_read v next k n at w =
    first (store_tests v (right_of next))
    (goes (changes.Move n (at + 1) ∷ []) (Some (record { place = right_of next; byte = w })) (next ∷ (k - 1) ∷ []))

abbrev pub siot_reads : View → Ask → ℕ → ℕ → Option ℕ → Decision
siot_reads v a n at o =
    siot_by v a true (not (is_some o)) (siot_read v (next_pointer (input a 1)) (input a 2) n at (unwrap_or o 0))

abbrev pub siot_write : View → Ask → ℕ → ℕ → ℕ → File → Decision
siot_write v a next k n f =
    first (read_tests v (right_of next) ++ (is_full v.files (channels_in v) f.words ⇒ fails v a error.DEVICE_FULL ∷ []))
    (goes (changes.Append n (load_of next (word_of v (right_of next))) ∷ []) None (next ∷ (k - 1) ∷ []))

abbrev pub siot_writes : View → Ask → ℕ → File → Decision
siot_writes v a n f = siot_by v a true false (siot_write v a (next_pointer (input a 1)) (input a 2) n f)

-- ACCESS channel, position: the next word that a file gives, or that a channel on an inferior is
-- at. An inferior has words 0 to 777777
abbrev pub end_of_core : ℕ
end_of_core = 0o1000000

abbrev pub access_to : View → Ask → ℕ → Decision
access_to v a most =
    first (nat_lt most (input a 1) ⇒ fails v a error.OUT_OF_RANGE ∷ []) (finishes v (changes.Move (input a 0) (input a 1) ∷ []) [])

abbrev pub access_on : View → Ask → Chan → Decision
access_on v a Shut = fails v a error.BAD_CHANNEL
access_on v a (Reads names at) = access_to v a (length (words_of v names))
access_on v a (On s write at) = access_to v a end_of_core
access_on v a _ = fails v a error.WRONG_DEVICE

unfoldable pub access : View → Ask → Decision
access v a = access_on v a (channel_at v.own.channels (input a 0))

-- FILLEN channel: how many words a file or a draft has
abbrev pub fillen_on : View → Ask → Chan → Decision
fillen_on v a Shut = fails v a error.BAD_CHANNEL
fillen_on v a (Reads names at) = finishes v [] (out a.outputs.items (length (words_of v names)))
fillen_on v a (Writes f) = finishes v [] (out a.outputs.items (length f.words))
fillen_on v a _ = fails v a error.WRONG_DEVICE

unfoldable pub fillen : View → Ask → Decision
fillen v a = fillen_on v a (channel_at v.own.channels (input a 0))

-- DELETE device, name 1, name 2, directory, and RENAME, which has a new name 1 and name 2 after
-- them, of a file that no channel reads. RENAME keeps the file's place; no file in its directory
-- may have the new names
abbrev pub file_tests : View → Ask → Names → List Test
file_tests v a names =
    not (input a 0 == disk_device) ⇒ fails v a error.WRONG_DEVICE
    ∷ not (has_file names v.files) ⇒ fails v a error.NO_FILE
    ∷ is_read names (channels_in v) ⇒ fails v a error.FILE_LOCKED
    ∷ []

unfoldable pub delete : View → Ask → Decision
delete v a =
    first (file_tests v a (names_from a 1)) (finishes v (changes.Delete (input a 3) (input a 1) (input a 2) ∷ []) [])

unfoldable pub rename : View → Ask → Decision
rename v a =
    first (file_tests v a (names_from a 1) ++ (has_file (names_of (input a 3) (input a 4) (input a 5)) v.files ⇒ fails v a error.FILE_EXISTS ∷ []))
    (finishes v (changes.Rename (input a 3) (input a 1) (input a 2) (input a 4) (input a 5) ∷ []) [])
