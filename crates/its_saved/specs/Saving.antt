-- The lines that are written of a machine, part by part. Each part is written after those that its
-- lines need: superiors after all jobs, channels after superiors and files, and the words of a link
-- after its ends.
-- No promise rests on this.
use Rattle.std.specs.Prelude.{if◌then◌else◌, ◌==◌, ◌&&◌, ◌||◌, ℕ, zero, suc, ◌+◌, ◌%◌, ◌^◌, Bool, true, false, not, Option, Some, None, List, [], ◌∷◌, ◌++◌, length, map, take, drop, nat_le, nat_lt}
use Rattle.its_word.specs.Limits.{slots, consoles}
use Rattle.its_word.specs.Console.{Console}
use Rattle.its_word.specs.Core.{Core, Page, page_of, word_at}
use Rattle.its_records.specs.Links.{most_links, link_end, is_closed}
use Rattle.its_records.specs.declared.jobs.Job.{Job}
use Rattle.its_plain.specs.Machine.Registers.{pc_word}
use Rattle.its_plain.specs.Machine.{File, Chan, Shut, TtyIn, TtyOut, Reads, Writes, On, Linked, Symbol, Pipe, Whole, Machine}
use Rattle.its_plain.specs.Machine.Change.{channel_in}
use Rattle.its_saved.specs.StateLine.{Registers, StateLine}
use Rattle.its_saved.specs.StateLine as state

-- the lines for the numbers below n, in order
abbrev pub each : (ℕ → List StateLine) → ℕ → List StateLine
each f zero = []
each f (suc n) = each f n ++ f n

-- lines of at most so many words or bytes each, for as many as n lines hold
abbrev pub in_rows : (List ℕ → StateLine) → ℕ → ℕ → List ℕ → List StateLine
in_rows line size zero ws = []
in_rows line size (suc n) [] = []
in_rows line size (suc n) (w ∷ ws) = line (take size (w ∷ ws)) ∷ in_rows line size n (drop size (w ∷ ws))

-- a file, then its words, 16 in a line
abbrev pub file_lines : File → List StateLine
file_lines f = state.File f.names ∷ in_rows (state.FileWords f.names) 16 (length f.words) f.words

abbrev pub files_lines : List File → List StateLine
files_lines [] = []
files_lines (f ∷ fs) = file_lines f ++ files_lines fs

-- the words of a core that are written: those that are not 0, and the first of each page, which
-- makes the page. The first that page 0 has is at 20 (octal)
abbrev pub begins_page : ℕ → Bool
begins_page a = (a == 16) || ((a % 1024 == 0) && nat_le 1024 a)

abbrev pub cell_of : ℕ → Option ℕ → List (ℕ × ℕ)
cell_of a None = []
cell_of a (Some w) = if (w == 0) && not (begins_page a) then [] else (a, w) ∷ []

abbrev pub cells_below : Core → ℕ → List (ℕ × ℕ)
cells_below c zero = []
cells_below c (suc n) = cells_below c n ++ cell_of n (word_at c n)

-- up to 16 words at consecutive addresses in a line, as `asm` writes them. Here the words ws from
-- address a on are in the line that is open
abbrev pub is_next : ℕ → List ℕ → ℕ → Bool
is_next a ws b = (b == a + length ws) && nat_lt (length ws) 16

abbrev pub rows_from : ℕ → ℕ → List ℕ → List (ℕ × ℕ) → List StateLine
rows_from s a ws [] = state.CoreWords s a ws ∷ []
rows_from s a ws (c ∷ cells) =
    if is_next a ws c.0 then rows_from s a (ws ++ c.1 ∷ []) cells
    else state.CoreWords s a ws ∷ rows_from s c.0 (c.1 ∷ []) cells

abbrev pub rows : ℕ → List (ℕ × ℕ) → List StateLine
rows s [] = []
rows s (c ∷ cells) = rows_from s c.0 (c.1 ∷ []) cells

unfoldable pub word_lines : ℕ → Core → List StateLine
word_lines s c = rows s (cells_below c (2 ^ 18))

-- its read-only pages
abbrev pub read_only_line : ℕ → ℕ → Option Page → List StateLine
read_only_line s k None = []
read_only_line s k (Some p) = if p.writable then [] else state.ReadOnly s k ∷ []

unfoldable pub read_only_lines : ℕ → Core → List StateLine
read_only_lines s c = each (λ k. read_only_line s k (page_of c k)) 256

abbrev pub core_lines : ℕ → Core → List StateLine
core_lines s c = word_lines s c ++ read_only_lines s c

abbrev pub symbol_lines : ℕ → List Symbol → List StateLine
symbol_lines s xs = map (λ x. state.Symbol s x.0 x.1) xs

abbrev pub registers_of : Job → Registers
registers_of j = record {
  run = not j.stopped;
  pc = pc_word j.flags j.pc;
  p1 = j.pend1;
  p2 = j.pend2;
  m1 = j.mask1;
  m2 = j.mask2;
  d1 = j.defer1;
  d2 = j.defer2;
}

-- a job, its core, its symbols and its registers
abbrev pub job_lines : (ℕ → List Symbol) → ℕ → Option Whole → List StateLine
job_lines symbols s None = []
job_lines symbols s (Some q) =
    state.Job s q.job.uname q.job.jname q.job.console ∷ (core_lines s q.core ++ (symbol_lines s (symbols s) ++ state.Regs s (registers_of q.job) ∷ []))

-- its superior and its alarm
abbrev pub under_by : ℕ → Option ℕ → List StateLine
under_by s (Some t) = state.Under s t ∷ []
under_by s None = []

abbrev pub under_line : ℕ → Option Whole → List StateLine
under_line s None = []
under_line s (Some q) = under_by s q.superior

abbrev pub alarm_by : ℕ → Option (ℕ × ℕ) → List StateLine
alarm_by s (Some a) = state.Alarm s a ∷ []
alarm_by s None = []

abbrev pub alarm_line : ℕ → Option Whole → List StateLine
alarm_line s None = []
alarm_line s (Some q) = alarm_by s q.alarm

-- a channel; after a draft its words, 16 in a line
abbrev pub end_names : Option Pipe → ℕ × ℕ
end_names (Some p) = (p.link.x, p.link.y)
end_names None = (0, 0)

abbrev pub channel_lines : Machine → ℕ → ℕ → Chan → List StateLine
channel_lines m s n Shut = []
channel_lines m s n TtyIn = state.Tty s n false ∷ []
channel_lines m s n TtyOut = state.Tty s n true ∷ []
channel_lines m s n (Reads names at) = state.Disk s n names at ∷ []
channel_lines m s n (Writes f) = state.Draft s n f.names ∷ in_rows (state.Wrote s n) 16 (length f.words) f.words
channel_lines m s n (On t w at) = state.Usr s n t w at ∷ []
channel_lines m s n (Linked l w) = state.Join s n l w (end_names (m.links l)).0 (end_names (m.links l)).1 ∷ []

-- the words of a link, 16 in a line, and its closed ends
abbrev pub shut_line : ℕ → Bool → Pipe → List StateLine
shut_line l w p = if is_closed (link_end w p.link) then state.EndShut l w ∷ [] else []

abbrev pub link_lines : ℕ → Option Pipe → List StateLine
link_lines l None = []
link_lines l (Some p) = in_rows (state.Sent l) 16 4 p.words ++ (shut_line l false p ++ shut_line l true p)

-- the bytes that wait at a console, 32 in a line, and its holder
abbrev pub console_lines : (ℕ → Console) → ℕ → List StateLine
console_lines consoles c = in_rows (state.Bytes c false) 32 2 (consoles c).input ++ in_rows (state.Bytes c true) 32 2 (consoles c).output

abbrev pub holder_line : ℕ → Option ℕ → List StateLine
holder_line c (Some s) = state.Hold c s ∷ []
holder_line c None = []

-- all lines of a machine
unfoldable pub saved : Machine → List StateLine
saved m =
    state.System m.version ∷ state.Clock m.clock ∷ (files_lines m.files
    ++ (each (λ k. job_lines m.symbols k (m.jobs k)) slots
    ++ (each (λ k. under_line k (m.jobs k)) slots
    ++ (each (λ k. alarm_line k (m.jobs k)) slots
    ++ (each (λ k. each (λ n. channel_lines m k n (channel_in (m.jobs k) n)) 16) slots
    ++ (each (λ l. link_lines l (m.links l)) most_links
    ++ (each (console_lines m.consoles) consoles
    ++ each (λ c. holder_line c (m.holders c)) consoles)))))))
