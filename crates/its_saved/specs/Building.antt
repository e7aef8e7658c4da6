-- What the lines of a saved system do to the plain machine: the machine after each, or none if the
-- line is refused. A line is refused only if it would break what the monitor keeps of its machines.
-- No promise rests on this.
use Rattle.std.specs.Prelude.{if◌then◌else◌, ◌==◌, ◌&&◌, ℕ, ◌+◌, Bool, true, false, not, Option, Some, None, List, [], ◌∷◌, ◌++◌, length, nat_le, nat_lt, is_some, is_none, option_map, option_and_then}
use Rattle.std.specs.Result.{result_ok}
use Rattle.its_word.specs.Word.{right_of}
use Rattle.its_word.specs.Limits.{slots}
use Rattle.its_word.specs.Console.{Console, most_waiting}
use Rattle.its_records.specs.Links.{most_links, most_link_words, link_end, with_end, is_unopened, is_link_named}
use Rattle.its_records.specs.Tree.{climbs_to}
use Rattle.its_records.specs.declared.jobs.Job.{Job}
use Rattle.its_records.specs.declared.link.End.TheVariants.{Closed}
use Rattle.its_frame.specs.declared.change.Change.TheVariants as changes
use Rattle.its_plain.specs.Machine.Registers.{flags_of}
use Rattle.its_plain.specs.Machine.{Names, Chan, TtyIn, TtyOut, Reads, Writes, On, Pipe, Whole, Machine, with_job, with_new, limit}
use Rattle.its_plain.specs.Machine.Own.{on_channel}
use Rattle.its_plain.specs.Machine.Change.{on_console, on_link, in_job, superiors, console_in, channel_in, effect}
use Rattle.its_plain.specs.Call.Basic.{is_shut, longest_period}
use Rattle.its_plain.specs.Call.File.{has_file, is_full}
use Rattle.its_plain.specs.Operator.Clock.{after_clock}
use Rattle.its_plain.specs.Operator.Files.{with_file_made, with_words_added, channels_of}
use Rattle.its_plain.specs.Operator.Jobs.{new_job, with_words_loaded, with_page_protected}
use Rattle.its_plain.specs.Operator.Symbols.{with_symbol_kept}
use Rattle.its_plain.specs.Operator.Version.{with_version}
use Rattle.its_saved.specs.StateLine.{Registers, StateLine}
use Rattle.its_saved.specs.StateLine as state

abbrev pub only_if : {A : Type 0} → Bool → A → Option A
only_if true x = Some x
only_if false x = None

-- JOB: a job as LOAD makes one, in an empty slot below the limit. No holder is changed
unfoldable pub with_job_made : Machine → ℕ → ℕ → ℕ → Option ℕ → Option Machine
with_job_made m s u j c = only_if (nat_lt s (limit m) && is_none (m.jobs s)) (with_new m s (new_job u j c))

-- REGS: the registers of the job in slot s
abbrev pub after_registers : Registers → Job → Job
after_registers r j = record j {
  stopped = not r.run;
  pc = right_of r.pc;
  flags = flags_of r.pc;
  pend1 = r.p1;
  pend2 = r.p2;
  mask1 = r.m1;
  mask2 = r.m2;
  defer1 = r.d1;
  defer2 = r.d2;
}

unfoldable pub with_registers_set : Machine → ℕ → Registers → Option Machine
with_registers_set m s r =
    option_and_then (λ q. Some (with_job m s (record q { job = after_registers r q.job }))) (m.jobs s)

-- ALARM: a period that REALT allows, and a next time above the clock
abbrev pub may_come : ℕ → ℕ × ℕ → Bool
may_come clock a = nat_le 1 a.0 && nat_le a.0 longest_period && nat_lt clock a.1

unfoldable pub with_alarm_set : Machine → ℕ → ℕ × ℕ → Option Machine
with_alarm_set m s a = only_if (is_some (m.jobs s) && may_come m.clock a) (effect (changes.Arm (Some a)) s m)

-- UNDER: t is a job, and neither s nor below s; s is a job that has no superior yet
abbrev pub under : ℕ → Whole → Whole
under t q = record q { superior = Some t }

unfoldable pub with_superior_set : Machine → ℕ → ℕ → Option Machine
with_superior_set m s t =
    only_if (is_some (m.jobs s) && is_none (superiors m s) && is_some (m.jobs t) && not (climbs_to (superiors m) s slots (Some t))) (in_job m s (under t))

-- the lines of channels: channel n of the job in slot s is one of its 16, and shut
abbrev pub can_open : Machine → ℕ → ℕ → Bool
can_open m s n = is_some (m.jobs s) && nat_lt n 16 && is_shut (channel_in (m.jobs s) n)

abbrev pub channel_opened : Machine → ℕ → ℕ → Chan → Machine
channel_opened m s n x = in_job m s (on_channel n (λ c. x))

-- TTY: the job has a console
abbrev pub on_tty : Bool → Chan
on_tty true = TtyOut
on_tty false = TtyIn

unfoldable pub with_tty : Machine → ℕ → ℕ → Bool → Option Machine
with_tty m s n w = only_if (can_open m s n && is_some (console_in (m.jobs s))) (channel_opened m s n (on_tty w))

-- DSK: the file is there
unfoldable pub with_disk : Machine → ℕ → ℕ → Names → ℕ → Option Machine
with_disk m s n names at = only_if (can_open m s n && has_file names m.files) (channel_opened m s n (Reads names at))

-- DRAFT
unfoldable pub with_draft : Machine → ℕ → ℕ → Names → Option Machine
with_draft m s n names = only_if (can_open m s n) (channel_opened m s n (Writes (record { names = names; words = [] })))

-- WROTE: word after word, as long as there is a block for it
abbrev pub with_word_to : Machine → ℕ → ℕ → ℕ → Chan → Option Machine
with_word_to m s n w (Writes f) = only_if (not (is_full m.files (channels_of m) f.words)) (effect (changes.Append n w) s m)
with_word_to m s n w _ = None

unfoldable pub with_word_written : Machine → ℕ → ℕ → ℕ → Option Machine
with_word_written m s n w = with_word_to m s n w (channel_in (m.jobs s) n)

abbrev pub with_words_written : Machine → ℕ → ℕ → List ℕ → Option Machine
with_words_written m s n [] = Some m
with_words_written m s n (w ∷ ws) = option_and_then (λ k. with_words_written k s n ws) (with_word_written m s n w)

-- USR: the superior of t is s
abbrev pub is_slot : ℕ → Option ℕ → Bool
is_slot s (Some k) = k == s
is_slot s None = false

unfoldable pub with_usr : Machine → ℕ → ℕ → ℕ → Bool → ℕ → Option Machine
with_usr m s n t w at = only_if (can_open m s n && is_slot s (superiors m t)) (channel_opened m s n (On t w at))

-- LNK: link l is one of 16; if it exists it has these names, and the end was never opened
abbrev pub can_join : ℕ → ℕ → Bool → Option Pipe → Bool
can_join x y w None = true
can_join x y w (Some p) = is_link_named x y p.link && is_unopened (link_end w p.link)

unfoldable pub with_link : Machine → ℕ → ℕ → ℕ → Bool → ℕ → ℕ → Option Machine
with_link m s n l w x y = only_if (can_open m s n && nat_lt l most_links && can_join x y w (m.links l)) (effect (changes.Join n l w x y) s m)

-- SENT: the link exists, and has room for all words
abbrev pub has_room : List ℕ → Option Pipe → Bool
has_room ws (Some p) = nat_le (length (p.words ++ ws)) most_link_words
has_room ws None = false

abbrev pub with_words_in : List ℕ → Pipe → Pipe
with_words_in ws p = record p { words = p.words ++ ws }

unfoldable pub with_words_sent : Machine → ℕ → List ℕ → Option Machine
with_words_sent m l ws = only_if (has_room ws (m.links l)) (on_link m l (option_map (with_words_in ws)))

-- SHUT: the link exists, and the end was never opened
abbrev pub has_unopened : Bool → Option Pipe → Bool
has_unopened w (Some p) = is_unopened (link_end w p.link)
has_unopened w None = false

abbrev pub with_end_closed : Bool → Pipe → Pipe
with_end_closed w p = record p { link = with_end w Closed p.link }

unfoldable pub with_end_shut : Machine → ℕ → Bool → Option Machine
with_end_shut m l w = only_if (has_unopened w (m.links l)) (on_link m l (option_map (with_end_closed w)))

-- IN and OUT: bytes after those that wait, if all find room; none is dropped
abbrev pub bytes_of : Bool → Console → List ℕ
bytes_of false x = x.input
bytes_of true x = x.output

abbrev pub with_bytes : Bool → List ℕ → Console → Console
with_bytes false bs x = record x { input = x.input ++ bs }
with_bytes true bs x = record x { output = x.output ++ bs }

unfoldable pub with_bytes_waiting : Machine → ℕ → Bool → List ℕ → Option Machine
with_bytes_waiting m c w bs = only_if (nat_le (length (bytes_of w (m.consoles c) ++ bs)) most_waiting) (on_console m c (with_bytes w bs))

-- HOLD: s is a job, and nobody holds the console
unfoldable pub with_holder_set : Machine → ℕ → ℕ → Option Machine
with_holder_set m c s = only_if (is_some (m.jobs s) && is_none (m.holders c)) (effect (changes.Hold c s) s m)

-- each line; SYSTEM, CLOCK, FILE and its words, words of cores, RO and SYM are those of a session
unfoldable pub build : Machine → StateLine → Option Machine
build m (state.System v) = Some (with_version m v)
build m (state.Clock n) = result_ok (after_clock m n)
build m (state.File names) = result_ok (with_file_made m names)
build m (state.FileWords names ws) = result_ok (with_words_added m names ws)
build m (state.Job s u j c) = with_job_made m s u j c
build m (state.CoreWords s a ws) = result_ok (with_words_loaded m s a ws)
build m (state.ReadOnly s k) = result_ok (with_page_protected m s k)
build m (state.Symbol s name a) = result_ok (with_symbol_kept m s name a)
build m (state.Regs s r) = with_registers_set m s r
build m (state.Alarm s a) = with_alarm_set m s a
build m (state.Under s t) = with_superior_set m s t
build m (state.Tty s n w) = with_tty m s n w
build m (state.Disk s n names at) = with_disk m s n names at
build m (state.Draft s n names) = with_draft m s n names
build m (state.Wrote s n ws) = with_words_written m s n ws
build m (state.Usr s n t w at) = with_usr m s n t w at
build m (state.Join s n l w x y) = with_link m s n l w x y
build m (state.Sent l ws) = with_words_sent m l ws
build m (state.EndShut l w) = with_end_shut m l w
build m (state.Bytes c w bs) = with_bytes_waiting m c w bs
build m (state.Hold c s) = with_holder_set m c s

-- all lines, in order; none of them may be refused
abbrev pub build_all : Machine → List StateLine → Option Machine
build_all m [] = Some m
build_all m (l ∷ ls) = option_and_then (λ n. build_all n ls) (build m l)
