-- What the calls on files find in the store and on channels, in the forms that code answers.
-- No promise rests on this.
use Rattle.std.specs.Prelude.{ℕ, Bool, true, false, Option, Some, None, nat_lt}
use Rattle.its_records.specs.declared.jobs.Channel.{Channel}
use Rattle.its_records.specs.declared.jobs.Channel.TheVariants.{Reading, Writing}
use Rattle.its_files.specs.Files.{Store, readers_at}

-- whether a channel reads a file, if there is one
abbrev pub has_readers : Store → Option ℕ → Bool
has_readers s (Some f) = nat_lt 0 (readers_at s f)
has_readers s None = false

-- whether a channel is on a file or a draft
abbrev pub is_on_file : Channel → Bool
is_on_file (Reading f at) = true
is_on_file (Writing d) = true
is_on_file _ = false
