-- The lines of the state part of a session, after SYSTEM up to READY: which line each is, or the
-- first reason why it is none (docs/SESSION.md, "The state part").
-- A promise rests on this.
use Rattle.std.specs.Prelude.{if◌then◌else◌, ℕ, ◌-◌, ◌^◌, Option, Some, None, Result, Ok, Err, List, [], ◌∷◌, length, map, bytes_eq, codes}
use Rattle.its_word.specs.Text.{octal_value}
use Rattle.its_records.specs.declared.session.Bad.{Bad}
use Rattle.its_records.specs.declared.session.Bad.TheVariants.{Syntax}
use Rattle.its_records.specs.declared.session.Event.{Event}
use Rattle.its_records.specs.declared.session.Event.TheVariants as events
use Rattle.its_records.specs.declared.state_line.StateLine.{StateLine}
use Rattle.its_records.specs.declared.state_line.StateLine.TheVariants as states
use Rattle.its_session.specs.Fields.{with_fields, number, number_to, count_to, slot, page, address, console, console_or_dash, console_given, tag, word_of_tag, is_run, run_or_stop, flag, is_set, channel, link, position, with_count, before_slash, is_place}
use Rattle.its_session.specs.declared.state_kind.StateKind.{StateKind}
use Rattle.its_session.specs.declared.state_kind.StateKind.TheVariants as kinds

-- The table of the state part: what may follow each first word, a definition a row. The version v
-- counts if a slot is named. In each, s and t are slots, n is a channel, l a link, c a console, and
-- w is 1 for output or leave to write, else 0. Names of jobs, files, links and symbols are tags.

-- `SYSTEM v`, 1 or 2: line 1, after which the state part begins
unfoldable pub system_row : List (List ℕ) → Result StateLine Bad
system_row (v ∷ []) = with_fields (count_to 2 v ∷ []) (states.System (octal_value v))
system_row _ = Err Syntax

-- `CLOCK n`
unfoldable pub clock_row : List (List ℕ) → Result StateLine Bad
clock_row (n ∷ []) = with_fields (number n ∷ []) (states.Clock (octal_value n))
clock_row _ = Err Syntax

-- `FILE d x y`
unfoldable pub file_row : List (List ℕ) → Result StateLine Bad
file_row (d ∷ x ∷ y ∷ []) = with_fields (tag d ∷ tag x ∷ tag y ∷ []) (states.File (word_of_tag d) (word_of_tag x) (word_of_tag y))
file_row _ = Err Syntax

-- `/` and 1 to 16 words
unfoldable pub file_words_row : List (List ℕ) → Result StateLine Bad
file_words_row ws = with_count 16 ws (with_fields (map number ws) (states.FileWords (record { items = map octal_value ws })))

-- `JOB s u j c`
unfoldable pub job_row : ℕ → List (List ℕ) → Result StateLine Bad
job_row v (s ∷ u ∷ j ∷ c ∷ []) =
    with_fields (slot v s ∷ tag u ∷ tag j ∷ console_or_dash c ∷ []) (states.Job (octal_value s) (word_of_tag u) (word_of_tag j) (console_given c))
job_row v _ = Err Syntax

-- `a/` and 1 to 16 words, which end at the last address
unfoldable pub core_words_row : List ℕ → List (List ℕ) → Result StateLine Bad
core_words_row a ws = with_count 16 ws (with_fields (number_to (2 ^ 18 - length ws) a ∷ map number ws) (states.CoreWords (octal_value a) (record { items = map octal_value ws })))

-- `RO p`
unfoldable pub read_only_row : List (List ℕ) → Result StateLine Bad
read_only_row (p ∷ []) = with_fields (page p ∷ []) (states.ReadOnly (octal_value p))
read_only_row _ = Err Syntax

-- `SYM name a`
unfoldable pub symbol_row : List (List ℕ) → Result StateLine Bad
symbol_row (x ∷ a ∷ []) = with_fields (tag x ∷ address a ∷ []) (states.Symbol (word_of_tag x) (octal_value a))
symbol_row _ = Err Syntax

-- `REGS r pc p1 p2 m1 m2 d1 d2`; r is RUN or STOP
unfoldable pub regs_row : List (List ℕ) → Result StateLine Bad
regs_row (r ∷ pc ∷ p1 ∷ p2 ∷ m1 ∷ m2 ∷ d1 ∷ d2 ∷ []) =
    with_fields (run_or_stop r ∷ number pc ∷ number p1 ∷ number p2 ∷ number m1 ∷ number m2 ∷ number d1 ∷ number d2 ∷ [])
    (states.Regs (record {
      run = is_run r;
      pc = octal_value pc;
      p1 = octal_value p1;
      p2 = octal_value p2;
      m1 = octal_value m1;
      m2 = octal_value m2;
      d1 = octal_value d1;
      d2 = octal_value d2;
    }))
regs_row _ = Err Syntax

-- `ALARM s period next`; the period is one that REALT allows
unfoldable pub alarm_row : ℕ → List (List ℕ) → Result StateLine Bad
alarm_row v (s ∷ p ∷ n ∷ []) = with_fields (slot v s ∷ count_to (2 ^ 34) p ∷ number n ∷ []) (states.Alarm (octal_value s) (octal_value p) (octal_value n))
alarm_row v _ = Err Syntax

-- `UNDER s t`
unfoldable pub under_row : ℕ → List (List ℕ) → Result StateLine Bad
under_row v (s ∷ t ∷ []) = with_fields (slot v s ∷ slot v t ∷ []) (states.Under (octal_value s) (octal_value t))
under_row v _ = Err Syntax

-- `TTY s n w`
unfoldable pub tty_row : ℕ → List (List ℕ) → Result StateLine Bad
tty_row v (s ∷ n ∷ w ∷ []) = with_fields (slot v s ∷ channel n ∷ flag w ∷ []) (states.Tty (octal_value s) (octal_value n) (is_set w))
tty_row v _ = Err Syntax

-- `DSK s n d x y at`
unfoldable pub disk_row : ℕ → List (List ℕ) → Result StateLine Bad
disk_row v (s ∷ n ∷ d ∷ x ∷ y ∷ at ∷ []) =
    with_fields (slot v s ∷ channel n ∷ tag d ∷ tag x ∷ tag y ∷ position at ∷ [])
    (states.Disk (octal_value s) (octal_value n) (word_of_tag d) (word_of_tag x) (word_of_tag y) (octal_value at))
disk_row v _ = Err Syntax

-- `DRAFT s n d x y`
unfoldable pub draft_row : ℕ → List (List ℕ) → Result StateLine Bad
draft_row v (s ∷ n ∷ d ∷ x ∷ y ∷ []) =
    with_fields (slot v s ∷ channel n ∷ tag d ∷ tag x ∷ tag y ∷ [])
    (states.Draft (octal_value s) (octal_value n) (word_of_tag d) (word_of_tag x) (word_of_tag y))
draft_row v _ = Err Syntax

-- `WROTE s n` and 1 to 16 words
unfoldable pub wrote_row : ℕ → List (List ℕ) → Result StateLine Bad
wrote_row v (s ∷ n ∷ ws) = with_count 16 ws (with_fields (slot v s ∷ channel n ∷ map number ws) (states.Wrote (octal_value s) (octal_value n) (record { items = map octal_value ws })))
wrote_row v _ = Err Syntax

-- `USR s n t w at`
unfoldable pub usr_row : ℕ → List (List ℕ) → Result StateLine Bad
usr_row v (s ∷ n ∷ t ∷ w ∷ at ∷ []) =
    with_fields (slot v s ∷ channel n ∷ slot v t ∷ flag w ∷ position at ∷ [])
    (states.Usr (octal_value s) (octal_value n) (octal_value t) (is_set w) (octal_value at))
usr_row v _ = Err Syntax

-- `LNK s n l w x y`
unfoldable pub join_row : ℕ → List (List ℕ) → Result StateLine Bad
join_row v (s ∷ n ∷ l ∷ w ∷ x ∷ y ∷ []) =
    with_fields (slot v s ∷ channel n ∷ link l ∷ flag w ∷ tag x ∷ tag y ∷ [])
    (states.Join (octal_value s) (octal_value n) (octal_value l) (is_set w) (word_of_tag x) (word_of_tag y))
join_row v _ = Err Syntax

-- `SENT l` and 1 to 16 words
unfoldable pub sent_row : List (List ℕ) → Result StateLine Bad
sent_row (l ∷ ws) = with_count 16 ws (with_fields (link l ∷ map number ws) (states.Sent (octal_value l) (record { items = map octal_value ws })))
sent_row [] = Err Syntax

-- `SHUT l w`
unfoldable pub end_shut_row : List (List ℕ) → Result StateLine Bad
end_shut_row (l ∷ w ∷ []) = with_fields (link l ∷ flag w ∷ []) (states.EndShut (octal_value l) (is_set w))
end_shut_row _ = Err Syntax

-- `IN c` and `OUT c`, each with 1 to 32 bytes
unfoldable pub bytes_row : List (List ℕ) → Result (ℕ × List ℕ) Bad
bytes_row (c ∷ bs) = with_count 32 bs (with_fields (console c ∷ map (number_to 127) bs) (octal_value c, map octal_value bs))
bytes_row [] = Err Syntax

-- the line of a console and bytes
abbrev pub of_bytes : (ℕ → List ℕ → StateLine) → Result (ℕ × List ℕ) Bad → Result StateLine Bad
of_bytes line (Ok x) = Ok (line x.0 x.1)
of_bytes line (Err bad) = Err bad

abbrev pub input_line : ℕ → List ℕ → StateLine
input_line c bs = states.Input c (record { items = bs })

abbrev pub output_line : ℕ → List ℕ → StateLine
output_line c bs = states.Output c (record { items = bs })

-- `HOLD c s`
unfoldable pub hold_row : ℕ → List (List ℕ) → Result StateLine Bad
hold_row v (c ∷ s ∷ []) = with_fields (console c ∷ slot v s ∷ []) (states.Hold (octal_value c) (octal_value s))
hold_row v _ = Err Syntax

-- `TURN s`
unfoldable pub turn_row : ℕ → List (List ℕ) → Result StateLine Bad
turn_row v (s ∷ []) = with_fields (slot v s ∷ []) (states.Turn (octal_value s))
turn_row v _ = Err Syntax

-- `READY`
unfoldable pub ready_row : List (List ℕ) → Result StateLine Bad
ready_row [] = Ok states.Ready
ready_row _ = Err Syntax

-- which kind of line a first word begins, if any
unfoldable pub state_kind_of : List ℕ → Option StateKind
state_kind_of w =
    if bytes_eq w (codes "CLOCK") then Some kinds.Clock
    else (if bytes_eq w (codes "FILE") then Some kinds.File
    else (if bytes_eq w (codes "/") then Some kinds.FileWords
    else (if bytes_eq w (codes "JOB") then Some kinds.Job
    else (if bytes_eq w (codes "RO") then Some kinds.ReadOnly
    else (if bytes_eq w (codes "SYM") then Some kinds.Symbol
    else (if bytes_eq w (codes "REGS") then Some kinds.Regs
    else (if bytes_eq w (codes "ALARM") then Some kinds.Alarm
    else (if bytes_eq w (codes "UNDER") then Some kinds.Under
    else (if bytes_eq w (codes "TTY") then Some kinds.Tty
    else (if bytes_eq w (codes "DSK") then Some kinds.Disk
    else (if bytes_eq w (codes "DRAFT") then Some kinds.Draft
    else (if bytes_eq w (codes "WROTE") then Some kinds.Wrote
    else (if bytes_eq w (codes "USR") then Some kinds.Usr
    else (if bytes_eq w (codes "LNK") then Some kinds.Join
    else (if bytes_eq w (codes "SENT") then Some kinds.Sent
    else (if bytes_eq w (codes "SHUT") then Some kinds.EndShut
    else (if bytes_eq w (codes "IN") then Some kinds.Input
    else (if bytes_eq w (codes "OUT") then Some kinds.Output
    else (if bytes_eq w (codes "HOLD") then Some kinds.Hold
    else (if bytes_eq w (codes "TURN") then Some kinds.Turn
    else (if bytes_eq w (codes "READY") then Some kinds.Ready
    else (if is_place w then Some kinds.CoreWords
    else None))))))))))))))))))))))

-- the line of a kind with its first word and the words that follow
abbrev pub state_line_of_kind : ℕ → StateKind → List ℕ → List (List ℕ) → Result StateLine Bad
state_line_of_kind v kinds.Clock first ws = clock_row ws
state_line_of_kind v kinds.File first ws = file_row ws
state_line_of_kind v kinds.FileWords first ws = file_words_row ws
state_line_of_kind v kinds.Job first ws = job_row v ws
state_line_of_kind v kinds.CoreWords first ws = core_words_row (before_slash first) ws
state_line_of_kind v kinds.ReadOnly first ws = read_only_row ws
state_line_of_kind v kinds.Symbol first ws = symbol_row ws
state_line_of_kind v kinds.Regs first ws = regs_row ws
state_line_of_kind v kinds.Alarm first ws = alarm_row v ws
state_line_of_kind v kinds.Under first ws = under_row v ws
state_line_of_kind v kinds.Tty first ws = tty_row v ws
state_line_of_kind v kinds.Disk first ws = disk_row v ws
state_line_of_kind v kinds.Draft first ws = draft_row v ws
state_line_of_kind v kinds.Wrote first ws = wrote_row v ws
state_line_of_kind v kinds.Usr first ws = usr_row v ws
state_line_of_kind v kinds.Join first ws = join_row v ws
state_line_of_kind v kinds.Sent first ws = sent_row ws
state_line_of_kind v kinds.EndShut first ws = end_shut_row ws
state_line_of_kind v kinds.Input first ws = of_bytes input_line (bytes_row ws)
state_line_of_kind v kinds.Output first ws = of_bytes output_line (bytes_row ws)
state_line_of_kind v kinds.Hold first ws = hold_row v ws
state_line_of_kind v kinds.Turn first ws = turn_row v ws
state_line_of_kind v kinds.Ready first ws = ready_row ws

-- the line of a first word of this kind
abbrev pub state_line_of_first : ℕ → Option StateKind → List ℕ → List (List ℕ) → Result StateLine Bad
state_line_of_first v None first ws = Err Syntax
state_line_of_first v (Some kind) first ws = state_line_of_kind v kind first ws

-- the event of a line of the state part
abbrev pub restores : Result StateLine Bad → Result Event Bad
restores (Ok line) = Ok (events.Restore line)
restores (Err bad) = Err bad
