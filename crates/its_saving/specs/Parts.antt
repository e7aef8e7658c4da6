-- The lines of the parts of a world, one part after another.
-- No promise rests on this.
use Rattle.std.specs.Prelude.{ℕ, Option, Some, None, List, [], ◌∷◌, ◌++◌, slice_get, Bool, true, false}
use Rattle.its_word.specs.Console.{Console}
use Rattle.its_word.specs.Limits.{slots, consoles}
use Rattle.its_records.specs.Links.{most_links}
use Rattle.its_records.specs.declared.jobs.Job.{Job}
use Rattle.its_core.specs.Cores.{core_at}
use Rattle.its_jobs.specs.Table.{job_at, superior_at}
use Rattle.its_files.specs.Files.{Store, directory, file_at}
use Rattle.its_pipes.specs.Pipes.{piped}
use Rattle.its_shared.specs.Across.{channel_at}
use Rattle.its_shared.specs.Parts.{alarm_at, chan_of, console_at, holder_at, symbols_at}
use Rattle.its_world.specs.World.{state_of}
use Rattle.its_world.specs.declared.world.World.{World}
use Rattle.its_saved.specs.StateLine.{StateLine}
use Rattle.its_saved.specs.StateLine as state
use Rattle.its_saved.specs.Saving.{alarm_by, channel_lines, console_lines, core_lines, each, file_lines, files_lines, holder_line, link_lines, registers_of, symbol_lines, under_by}

-- the k-th file in their order, if there are so many
abbrev pub lines_at : Store → Option ℕ → List StateLine
lines_at s (Some id) = file_lines (file_at s id)
lines_at s None = []

abbrev pub nth_lines : Store → ℕ → List StateLine
nth_lines s k = lines_at s (slice_get s.order k)

-- the job of a slot, with its registers, its core and its symbols
abbrev pub jobs_lines : World → ℕ → Option Job → List StateLine
jobs_lines w s (Some j) =
    state.Job s j.uname j.jname j.console ∷ (core_lines s (core_at w.core s) ++
    (symbol_lines s (symbols_at w.symbols.items s) ++ state.Regs s (registers_of j) ∷ []))
jobs_lines w s None = []

abbrev pub job_part : World → ℕ → List StateLine
job_part w s = jobs_lines w s (job_at w.jobs s)

-- the bytes that wait at a console one way
abbrev pub bytes_of : Bool → Console → List ℕ
bytes_of false x = x.input
bytes_of true x = x.output

-- the lines of the channels of all jobs, by what the channels of a world are on
abbrev pub channel_part : World → ℕ → ℕ → List StateLine
channel_part w s n = channel_lines (state_of w).raw s n (chan_of w.files (channel_at w.jobs s n))

-- the lines from the channels on
abbrev pub channels_part : World → List StateLine
channels_part w =
    each (λ k. each (channel_part w k) 16) slots
    ++ (each (λ l. link_lines l (piped w.pipes l)) most_links
    ++ (each (console_lines (console_at w.consoles.items)) consoles
    ++ each (λ c. holder_line c (holder_at w.holders c)) consoles))

-- the lines from the files on
abbrev pub files_part : World → List StateLine
files_part w =
    files_lines (directory w.files)
    ++ (each (job_part w) slots
    ++ (each (λ k. under_by k (superior_at w.jobs k)) slots
    ++ (each (λ k. alarm_by k (alarm_at w.alarms.items k)) slots
    ++ channels_part w)))
