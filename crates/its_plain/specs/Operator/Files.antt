-- The lines of a session on files: FILE with its words, DIR and SHOW (docs/SESSION.md, "The
-- lines").
-- A promise rests on this.
use Rattle.std.specs.Prelude.{◌==◌, ℕ, zero, suc, ◌+◌, ◌/◌, Bool, true, false, Option, Some, None, List, [], ◌∷◌, ◌++◌, Result, Ok, Err, length, map, filter, take, drop, nat_lt, slice_index_or}
use Rattle.its_word.specs.Directory.{with_changed, longer}
use Rattle.its_records.specs.declared.session.Reason.{Reason}
use Rattle.its_records.specs.declared.session.Reason.TheVariants.{NoFile, Exists, Full}
use Rattle.its_records.specs.declared.show.FileShow.{FileShow}
use Rattle.its_print.specs.Printing.{Line}
use Rattle.its_print.specs.Printing as printed
use Rattle.its_plain.specs.Machine.{Names, File, Machine}
use Rattle.its_plain.specs.Machine.Own.{names_of}
use Rattle.its_plain.specs.Machine.Change.{channel_in}
use Rattle.its_plain.specs.Call.File.{most_files, Channels, is_full, file_named, has_file}
use Rattle.its_plain.specs.Operator.{and_then}

-- the channels of all jobs
abbrev pub channels_of : Machine → Channels
channels_of m k = channel_in (m.jobs k)

-- FILE: a file of no words, the last in order
abbrev pub with_files : Machine → List File → Machine
with_files m fs = record m { files = fs }

abbrev pub with_file_made_if : Machine → Names → Bool → Bool → Result Machine Reason
with_file_made_if m n true room = Err Exists
with_file_made_if m n false true = Ok (with_files m (m.files ++ record { names = n; words = [] } ∷ []))
with_file_made_if m n false false = Err Full

unfoldable pub with_file_made : Machine → Names → Result Machine Reason
with_file_made m n = with_file_made_if m n (has_file n m.files) (nat_lt (length m.files) most_files)

-- one more word after those of the file with these names. (Between FILE and EOF there is one, since
-- no line there takes a file away; in the state part there is none before the first FILE)
abbrev pub with_word_added_if : Machine → Names → ℕ → Bool → Result Machine Reason
with_word_added_if m n w true = Err Full
with_word_added_if m n w false = Ok (with_files m (with_changed n (longer w) m.files))

abbrev pub with_word_added_to : Machine → Names → ℕ → Option File → Result Machine Reason
with_word_added_to m n w (Some f) = with_word_added_if m n w (is_full m.files (channels_of m) f.words)
with_word_added_to m n w None = Err NoFile

unfoldable pub with_word_added : Machine → Names → ℕ → Result Machine Reason
with_word_added m n w = with_word_added_to m n w (file_named n m.files)

abbrev pub with_words_added : Machine → Names → List ℕ → Result Machine Reason
with_words_added m n [] = Ok m
with_words_added m n (w ∷ ws) = and_then (with_word_added m n w) (λ k. with_words_added k n ws)

-- DIR: the files of a directory, in their order
abbrev pub name_in : Names → ℕ → ℕ
name_in n k = slice_index_or n k 0

abbrev pub is_in : ℕ → File → Bool
is_in d f = name_in f.names 0 == d

unfoldable pub files_in : ℕ → List File → List File
files_in d fs = filter (is_in d) fs

abbrev pub show_of : File → FileShow
show_of f = record { x = name_in f.names 1; y = name_in f.names 2; length = length f.words }

abbrev pub filed_line : File → Line
filed_line f = printed.Filed (show_of f)

abbrev pub listing : ℕ → List File → List Line
listing d fs = printed.Dir d (length fs) ∷ map filed_line fs

-- SHOW: the words of a file, eight in a line
abbrev pub rows : ℕ → List ℕ → List Line
rows zero ws = []
rows (suc n) ws = printed.Row (take 8 ws) ∷ rows n (drop 8 ws)

abbrev pub shown_lines : ℕ → ℕ → ℕ → List ℕ → List Line
shown_lines d x y ws = printed.Shown d x y (length ws) ∷ rows ((length ws + 7) / 8) ws

abbrev pub shown_by : ℕ → ℕ → ℕ → Option File → Result (List Line) Reason
shown_by d x y (Some f) = Ok (shown_lines d x y f.words)
shown_by d x y None = Err NoFile

unfoldable pub file_shown : Machine → ℕ → ℕ → ℕ → Result (List Line) Reason
file_shown m d x y = shown_by d x y (file_named (names_of d x y) m.files)
