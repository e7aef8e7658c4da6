-- The lines of the state part, which restore a system that was saved: what each does to the plain
-- machine, and when it is refused (docs/SESSION.md, "The state part"). A line is refused only if it
-- would break what holds of every machine: no slot has two jobs, no job is its own superior, no
-- channel is opened twice, and nothing has more than it has room for.
-- A promise rests on this.
use Rattle.std.specs.Prelude.{◌==◌, ◌&&◌, ℕ, ◌+◌, Bool, true, false, not, Option, Some, None, List, [], ◌∷◌, ◌++◌, length, nat_le, nat_lt, is_some, is_none, option_map, Result, Ok, Err}
use Rattle.its_word.specs.Word.{right_of}
use Rattle.its_word.specs.Limits.{slots}
use Rattle.its_word.specs.Console.{Console, most_waiting}
use Rattle.its_records.specs.Links.{most_links, most_link_words, link_end, with_end, is_unopened, is_link_named}
use Rattle.its_records.specs.Tree.{climbs_to}
use Rattle.its_records.specs.declared.jobs.Job.{Job}
use Rattle.its_records.specs.declared.link.End.TheVariants.{Closed}
use Rattle.its_records.specs.declared.session.Reason.{Reason}
use Rattle.its_records.specs.declared.session.Reason.TheVariants.{Range, NoJob, NoFile, Exists, Full, Unfit}
use Rattle.its_records.specs.declared.state_line.Registers.{Registers}
use Rattle.its_records.specs.declared.state_line.StateLine.{StateLine}
use Rattle.its_records.specs.declared.state_line.StateLine.TheVariants as states
use Rattle.its_frame.specs.declared.change.Change.TheVariants as changes
use Rattle.its_plain.specs.Machine.Registers.{flags_of}
use Rattle.its_plain.specs.Machine.{Names, Chan, TtyIn, TtyOut, Reads, Writes, On, Pipe, Whole, Machine, with_new, limit}
use Rattle.its_plain.specs.Machine.Own.{names_of, on_channel}
use Rattle.its_plain.specs.Machine.Change.{on_console, on_link, in_job, superiors, console_in, channel_in, effect}
use Rattle.its_plain.specs.Call.Basic.{is_shut, longest_period}
use Rattle.its_plain.specs.Call.File.{has_file, is_full}
use Rattle.its_plain.specs.Operator.{Block, no_block, Operated, Refuses, Does, nobody, disturbs, quietly, and_then}
use Rattle.its_plain.specs.Operator.Clock.{due, after_clock}
use Rattle.its_plain.specs.Operator.Files.{with_file_made, with_words_added, channels_of}
use Rattle.its_plain.specs.Operator.Jobs.{new_job, with_words_loaded, with_page_protected, on_registers}
use Rattle.its_plain.specs.Operator.Symbols.{with_symbol_kept}
use Rattle.its_plain.specs.Operator.Version.{with_version}

-- the machine after a line, if all of these tests hold; else the line is refused for the reason
-- beside the first that does not
abbrev pub provided_if : Bool → Reason → Result Machine Reason → Result Machine Reason
provided_if true r x = x
provided_if false r x = Err r

abbrev pub provided : List (Bool × Reason) → Machine → Result Machine Reason
provided [] m = Ok m
provided (t ∷ ts) m = provided_if t.0 t.1 (provided ts m)

-- slot s has a job
abbrev pub has_job : Machine → ℕ → Bool
has_job m s = is_some (m.jobs s)

-- JOB: a job as LOAD makes one, in an empty slot that a job can have. No holder is changed
unfoldable pub with_job_made : Machine → ℕ → ℕ → ℕ → Option ℕ → Result Machine Reason
with_job_made m s u j c = provided ((nat_lt s (limit m), Range) ∷ (is_none (m.jobs s), Exists) ∷ []) (with_new m s (new_job u j c))

-- REGS: whether the job runs, its PC and flags, and its pending words, masks and deferrals
abbrev pub after_registers : Registers → Job → Job
after_registers r j = record j {
  stopped = not r.run;
  pc = right_of r.pc;
  flags = flags_of r.pc;
  pend1 = r.p1;
  pend2 = r.p2;
  mask1 = r.m1;
  mask2 = r.m2;
  defer1 = r.d1;
  defer2 = r.d2;
}

-- ALARM: a period that REALT allows, and a next time above the clock
abbrev pub may_come : ℕ → ℕ → ℕ → Bool
may_come clock period next = nat_le 1 period && nat_le period longest_period && nat_lt clock next

unfoldable pub with_alarm_set : Machine → ℕ → ℕ → ℕ → Result Machine Reason
with_alarm_set m s period next =
    provided ((may_come m.clock period next, Range) ∷ (has_job m s, NoJob) ∷ []) (effect (changes.Arm (Some (period, next))) s m)

-- UNDER: job t becomes the superior of job s, which has none, and t is neither s nor below s
abbrev pub under : ℕ → Whole → Whole
under t q = record q { superior = Some t }

unfoldable pub with_superior_set : Machine → ℕ → ℕ → Result Machine Reason
with_superior_set m s t =
    provided ((has_job m s && has_job m t, NoJob) ∷ (is_none (superiors m s), Exists) ∷ (not (climbs_to (superiors m) s slots (Some t)), Unfit) ∷ []) (in_job m s (under t))

-- TTY, DSK, DRAFT, USR and LNK open a channel of job s: one of its 16, which is shut
abbrev pub can_open : Machine → ℕ → ℕ → List (Bool × Reason)
can_open m s n = (nat_lt n 16, Range) ∷ (has_job m s, NoJob) ∷ (is_shut (channel_in (m.jobs s) n), Exists) ∷ []

abbrev pub channel_opened : Machine → ℕ → ℕ → Chan → Machine
channel_opened m s n x = in_job m s (on_channel n (λ c. x))

-- TTY: on the console of the job, which has one
abbrev pub on_tty : Bool → Chan
on_tty true = TtyOut
on_tty false = TtyIn

unfoldable pub with_tty : Machine → ℕ → ℕ → Bool → Result Machine Reason
with_tty m s n w = provided (can_open m s n ++ (is_some (console_in (m.jobs s)), Unfit) ∷ []) (channel_opened m s n (on_tty w))

-- DSK: on a file that there is, at any position: past the end is the end
unfoldable pub with_disk : Machine → ℕ → ℕ → Names → ℕ → Result Machine Reason
with_disk m s n names at = provided (can_open m s n ++ (has_file names m.files, NoFile) ∷ []) (channel_opened m s n (Reads names at))

-- DRAFT: on a draft of no words
unfoldable pub with_draft : Machine → ℕ → ℕ → Names → Result Machine Reason
with_draft m s n names = provided (can_open m s n) (channel_opened m s n (Writes (record { names = names; words = [] })))

-- WROTE: word after word at the end of the draft, as long as there is a block for it
abbrev pub with_word_to : Machine → ℕ → ℕ → ℕ → Chan → Result Machine Reason
with_word_to m s n w (Writes f) = provided ((not (is_full m.files (channels_of m) f.words), Full) ∷ []) (effect (changes.Append n w) s m)
with_word_to m s n w _ = Err Unfit

abbrev pub with_all_written : Machine → ℕ → ℕ → List ℕ → Result Machine Reason
with_all_written m s n [] = Ok m
with_all_written m s n (w ∷ ws) = and_then (with_word_to m s n w (channel_in (m.jobs s) n)) (λ k. with_all_written k s n ws)

unfoldable pub with_words_written : Machine → ℕ → ℕ → List ℕ → Result Machine Reason
with_words_written m s n ws = and_then (provided ((nat_lt n 16, Range) ∷ (has_job m s, NoJob) ∷ []) m) (λ k. with_all_written k s n ws)

-- USR: on an inferior, which is a job whose superior is s
abbrev pub is_slot : ℕ → Option ℕ → Bool
is_slot s (Some k) = k == s
is_slot s None = false

unfoldable pub with_usr : Machine → ℕ → ℕ → ℕ → Bool → ℕ → Result Machine Reason
with_usr m s n t w at = provided (can_open m s n ++ (is_slot s (superiors m t), Unfit) ∷ []) (channel_opened m s n (On t w at))

-- LNK: on an end of link l, which nobody has opened. If there is no such link it is made; else it
-- has these names
abbrev pub can_join : ℕ → ℕ → Bool → Option Pipe → Bool
can_join x y w None = true
can_join x y w (Some p) = is_link_named x y p.link && is_unopened (link_end w p.link)

unfoldable pub with_link : Machine → ℕ → ℕ → ℕ → Bool → ℕ → ℕ → Result Machine Reason
with_link m s n l w x y =
    provided ((nat_lt l most_links, Range) ∷ can_open m s n ++ (can_join x y w (m.links l), Exists) ∷ []) (effect (changes.Join n l w x y) s m)

-- SENT: words after those of a link that there is, which has room for all of them
abbrev pub has_room : List ℕ → Option Pipe → Bool
has_room ws (Some p) = nat_le (length (p.words ++ ws)) most_link_words
has_room ws None = false

abbrev pub with_words_in : List ℕ → Pipe → Pipe
with_words_in ws p = record p { words = p.words ++ ws }

unfoldable pub with_words_sent : Machine → ℕ → List ℕ → Result Machine Reason
with_words_sent m l ws =
    provided ((is_some (m.links l), Unfit) ∷ (has_room ws (m.links l), Full) ∷ []) (on_link m l (option_map (with_words_in ws)))

-- SHUT: an end of a link that there is, which nobody has opened, is closed
abbrev pub has_unopened : Bool → Option Pipe → Bool
has_unopened w (Some p) = is_unopened (link_end w p.link)
has_unopened w None = false

abbrev pub with_end_closed : Bool → Pipe → Pipe
with_end_closed w p = record p { link = with_end w Closed p.link }

unfoldable pub with_end_shut : Machine → ℕ → Bool → Result Machine Reason
with_end_shut m l w =
    provided ((is_some (m.links l), Unfit) ∷ (has_unopened w (m.links l), Exists) ∷ []) (on_link m l (option_map (with_end_closed w)))

-- IN and OUT: bytes after those that wait, if all find room; none is dropped
abbrev pub bytes_of : Bool → Console → List ℕ
bytes_of false x = x.input
bytes_of true x = x.output

abbrev pub with_bytes : Bool → List ℕ → Console → Console
with_bytes false bs x = record x { input = x.input ++ bs }
with_bytes true bs x = record x { output = x.output ++ bs }

unfoldable pub with_bytes_waiting : Machine → ℕ → Bool → List ℕ → Result Machine Reason
with_bytes_waiting m c w bs =
    provided ((nat_le (length (bytes_of w (m.consoles c) ++ bs)) most_waiting, Full) ∷ []) (on_console m c (with_bytes w bs))

-- HOLD: job s holds a console that nobody holds
unfoldable pub with_holder_set : Machine → ℕ → ℕ → Result Machine Reason
with_holder_set m c s = provided ((has_job m s, NoJob) ∷ (is_none (m.holders c), Exists) ∷ []) (effect (changes.Hold c s) s m)

-- CLOCK, as in the rest of a session: it disturbs the jobs whose alarm is due at the new clock
abbrev pub by_clock : Machine → Block → ℕ → Result Machine Reason → Operated
by_clock m b n (Ok k) = Does k [] (due (m.clock + n) m.jobs) b
by_clock m b n (Err r) = Refuses r

-- the effect of each line: none shows anything. The words of a file are added to that of the last
-- FILE line, and the words of a core, RO, SYM and REGS are about the job of the last JOB line;
-- after SYSTEM and after READY they would be about none. A line that changes a job disturbs it.
-- TURN changes no machine: it says who had the last turn of RUN (`Transcript.Turns.turn_kept`)
unfoldable pub restored : Machine → Block → StateLine → Operated
restored m b (states.System v) = Does (with_version m v) [] nobody no_block
restored m b (states.Clock n) = by_clock m b n (after_clock m n)
restored m b (states.File d x y) = quietly (record b { file = names_of d x y }) (with_file_made m (names_of d x y))
restored m b (states.FileWords ws) = quietly b (with_words_added m b.file ws.items)
restored m b (states.Job s u j c) = disturbs s (record b { slot = s }) (with_job_made m s u j c)
restored m b (states.CoreWords a ws) = disturbs b.slot b (with_words_loaded m b.slot a ws.items)
restored m b (states.ReadOnly p) = disturbs b.slot b (with_page_protected m b.slot p)
restored m b (states.Symbol x a) = quietly b (with_symbol_kept m b.slot x a)
restored m b (states.Regs r) = disturbs b.slot b (on_registers m b.slot (after_registers r))
restored m b (states.Alarm s p n) = disturbs s b (with_alarm_set m s p n)
restored m b (states.Under s t) = disturbs s b (with_superior_set m s t)
restored m b (states.Tty s n w) = disturbs s b (with_tty m s n w)
restored m b (states.Disk s n d x y at) = disturbs s b (with_disk m s n (names_of d x y) at)
restored m b (states.Draft s n d x y) = disturbs s b (with_draft m s n (names_of d x y))
restored m b (states.Wrote s n ws) = disturbs s b (with_words_written m s n ws.items)
restored m b (states.Usr s n t w at) = disturbs s b (with_usr m s n t w at)
restored m b (states.Join s n l w x y) = disturbs s b (with_link m s n l w x y)
restored m b (states.Sent l ws) = quietly b (with_words_sent m l ws.items)
restored m b (states.EndShut l w) = quietly b (with_end_shut m l w)
restored m b (states.Input c bs) = quietly b (with_bytes_waiting m c false bs.items)
restored m b (states.Output c bs) = quietly b (with_bytes_waiting m c true bs.items)
restored m b (states.Hold c s) = quietly b (with_holder_set m c s)
restored m b (states.Turn s) = Does m [] nobody b
restored m b states.Ready = Does m [] nobody no_block
