-- The plain machine of given cores, jobs, consoles, files and the rest.
-- No promise rests on this.
use Rattle.std.specs.Prelude.{ℕ, Option, Some, None, List, [], replicate, slice_index_or}
use Rattle.its_word.specs.ArrayVec.{ArrayVec}
use Rattle.its_word.specs.Console.{Console, quiet_console}
use Rattle.its_word.specs.Core.{Core}
use Rattle.its_records.specs.declared.jobs.Channel.{Channel}
use Rattle.its_records.specs.declared.jobs.Channel.TheVariants as channels
use Rattle.its_records.specs.declared.jobs.Job.{Job}
use Rattle.its_core.specs.Cores.{Cores, core_at}
use Rattle.its_jobs.specs.Table.{Table, job_at, superior_at}
use Rattle.its_files.specs.Files.{Store, names_at, file_at, directory}
use Rattle.its_pipes.specs.Pipes.{Piping, piped}
use Rattle.its_plain.specs.Machine.{Symbol, Chan, Shut, TtyIn, TtyOut, Reads, Writes, On, Linked, Whole, Machine}

-- what a channel of the plain machine is on, with the names and words of files and drafts. (Their
-- numbers are the monitor's own, and never reach the machine)
abbrev pub chan_of : Store → Channel → Chan
chan_of s channels.Closed = Shut
chan_of s channels.TtyIn = TtyIn
chan_of s channels.TtyOut = TtyOut
chan_of s (channels.Reading f at) = Reads (names_at s f) at
chan_of s (channels.Writing d) = Writes (file_at s d)
chan_of s (channels.Usr k w at) = On k w at
chan_of s (channels.Link l w) = Linked l w

-- the registers of the plain machine: its channels are separate
unfoldable pub closed_channels : List Channel
closed_channels = replicate 16 channels.Closed

abbrev pub bare : Job → Job
bare j = record j { channels = closed_channels }

-- the raw job of a slot
abbrev pub chans_of : Store → Job → ℕ → Chan
chans_of s j n = chan_of s (slice_index_or j.channels n channels.Closed)

abbrev pub raw_of : Store → Core → Option ℕ → Option (ℕ × ℕ) → Option Job → Option Whole
raw_of s c superior alarm (Some j) = Some (record { core = c; job = bare j; superior = superior; channels = chans_of s j; alarm = alarm })
raw_of s c superior alarm None = None

-- the alarm of a slot: a period and a next time
abbrev pub alarm_at : List (Option (ℕ × ℕ)) → ℕ → Option (ℕ × ℕ)
alarm_at alarms k = slice_index_or alarms k None

abbrev pub raw_at : Store → Cores → Table → List (Option (ℕ × ℕ)) → ℕ → Option Whole
raw_at s cores table alarms k = raw_of s (core_at cores k) (superior_at table k) (alarm_at alarms k) (job_at table k)

-- nothing waits at a console past the last, and nobody holds it
abbrev pub console_at : List Console → ℕ → Console
console_at consoles c = slice_index_or consoles c quiet_console

abbrev pub holder_at : List (Option ℕ) → ℕ → Option ℕ
holder_at holders c = slice_index_or holders c None

-- the symbols of the job of a slot
abbrev pub no_symbols : ArrayVec Symbol
no_symbols = record { items = [] }

abbrev pub symbols_at : List (ArrayVec Symbol) → ℕ → List Symbol
symbols_at symbols k = (slice_index_or symbols k no_symbols).items

abbrev pub raw_machine : Store → Cores → Table → List (Option (ℕ × ℕ)) → List Console → List (Option ℕ) → ℕ → ℕ → List (ArrayVec Symbol) → Piping → Machine
raw_machine s cores table alarms consoles holders clock version symbols pipes = record {
  jobs = raw_at s cores table alarms;
  consoles = console_at consoles;
  holders = holder_at holders;
  files = directory s;
  clock = clock;
  version = version;
  symbols = symbols_at symbols;
  links = piped pipes;
}
