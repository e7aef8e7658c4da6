-- Whether a channel reads a file, and why a file is neither deleted nor renamed, in the forms that
-- code answers.
-- No promise rests on this.
use Rattle.std.specs.Prelude.{if◌then◌else◌, ◌==◌, ℕ, Bool, false, not, Option, Some, None, nat_lt}
use Rattle.its_records.specs.declared.calls.Ask.{Ask}
use Rattle.its_files.specs.Files.{Store, readers_at}
use Rattle.its_frame.specs.Errors as error
use Rattle.its_plain.specs.Call.Arguments.{input}
use Rattle.its_plain.specs.Call.File.{channels_in, disk_device, has_file, is_read}
use Rattle.its_plain.specs.Machine.{Names}
use Rattle.its_plain.specs.Machine.View.{View}

abbrev pub has_readers : Store → Option ℕ → Bool
has_readers s (Some f) = nat_lt 0 (readers_at s f)
has_readers s None = false

abbrev pub error_of_file : View → Ask → Names → Option ℕ
error_of_file v a names =
    if not (input a 0 == disk_device) then Some error.WRONG_DEVICE
    else (if not (has_file names v.files) then Some error.NO_FILE
    else (if is_read names (channels_in v) then Some error.FILE_LOCKED
    else None))
