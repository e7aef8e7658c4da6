-- The lines of a session: which event each is at its place, or the first reason why it is none
-- (docs/SESSION.md). Characters are their ASCII codes, numbers of the text are octal.
-- A promise rests on this.
use Rattle.std.specs.Prelude.{if◌then◌else◌, ℕ, ◌-◌, ◌^◌, Bool, true, false, ◌&&◌, Option, Some, None, Result, Ok, Err, List, [], ◌∷◌, length, map, slice_index, nat_le, ◌==◌, bytes_eq, codes}
use Rattle.std.specs.List.{list_all}
use Rattle.its_word.specs.Text.{is_code, octal_value, sixbit_of, words_of}
use Rattle.its_records.specs.declared.session.Event.{Event}
use Rattle.its_records.specs.declared.session.Event.TheVariants as events
use Rattle.its_records.specs.declared.session.Place.{Place}
use Rattle.its_records.specs.declared.session.Place.TheVariants as places
use Rattle.its_records.specs.declared.session.Bad.{Bad}
use Rattle.its_records.specs.declared.session.Bad.TheVariants.{Long, Syntax}
pub use Rattle.its_session.specs.Fields.{Field, with_fields, number, number_to, count_to, name, slot, page, address, console, is_dash, console_or_dash, console_given, with_count, before_slash, is_place}
unfoldable pub use Rattle.its_session.specs.Fields.{last_slot}
use Rattle.its_session.specs.StateGrammar.{state_kind_of, state_line_of_first, system_row, restores}
use Rattle.its_session.specs.declared.kind.Kind.{Kind}
use Rattle.its_session.specs.declared.kind.Kind.TheVariants as kinds

-- The table of lines: what may follow each first word, a definition a row. The version v counts if
-- a slot is named.

-- `VERSION v`, 1 or 2
unfoldable pub version_line : List (List ℕ) → Result Event Bad
version_line (v ∷ []) = with_fields (count_to 2 v ∷ []) (events.Version (octal_value v))
version_line _ = Err Syntax

-- `LOAD u j c`
unfoldable pub load_line : List (List ℕ) → Result Event Bad
load_line (u ∷ j ∷ c ∷ []) = with_fields (name u ∷ name j ∷ console_or_dash c ∷ []) (events.Load (sixbit_of u) (sixbit_of j) (console_given c))
load_line _ = Err Syntax

-- `a/` and 1 to 16 words, which end at the last address
unfoldable pub words_line : List ℕ → List (List ℕ) → Result Event Bad
words_line a ws = with_count 16 ws (with_fields (number_to (2 ^ 18 - length ws) a ∷ map number ws) (events.Words (octal_value a) (record { items = map octal_value ws })))

-- `RO p`
unfoldable pub read_only_line : List (List ℕ) → Result Event Bad
read_only_line (p ∷ []) = with_fields (page p ∷ []) (events.ReadOnly (octal_value p))
read_only_line _ = Err Syntax

-- `SYM name a`
unfoldable pub symbol_line : List (List ℕ) → Result Event Bad
symbol_line (x ∷ a ∷ []) = with_fields (name x ∷ address a ∷ []) (events.Symbol (sixbit_of x) (octal_value a))
symbol_line _ = Err Syntax

-- `GO a`
unfoldable pub go_line : List (List ℕ) → Result Event Bad
go_line (a ∷ []) = with_fields (address a ∷ []) (events.Go (octal_value a))
go_line _ = Err Syntax

-- `FILE d x y`
unfoldable pub file_line : List (List ℕ) → Result Event Bad
file_line (d ∷ x ∷ y ∷ []) = with_fields (name d ∷ name x ∷ name y ∷ []) (events.File (sixbit_of d) (sixbit_of x) (sixbit_of y))
file_line _ = Err Syntax

-- `/` and 1 to 16 words
unfoldable pub append_line : List (List ℕ) → Result Event Bad
append_line ws = with_count 16 ws (with_fields (map number ws) (events.Append (record { items = map octal_value ws })))

-- `EOF`, `END`
unfoldable pub bare_line : Event → List (List ℕ) → Result Event Bad
bare_line e [] = Ok e
bare_line e _ = Err Syntax

-- `TICK s n`
unfoldable pub tick_line : ℕ → List (List ℕ) → Result Event Bad
tick_line v (s ∷ n ∷ []) = with_fields (slot v s ∷ count_to 512 n ∷ []) (events.Tick (octal_value s) (octal_value n))
tick_line v _ = Err Syntax

-- `RUN n q`
unfoldable pub run_line : List (List ℕ) → Result Event Bad
run_line (n ∷ q ∷ []) = with_fields (count_to 512 n ∷ count_to 64 q ∷ []) (events.Run (octal_value n) (octal_value q))
run_line _ = Err Syntax

-- `TYPE c` and 1 to 32 bytes
unfoldable pub type_line : List (List ℕ) → Result Event Bad
type_line (c ∷ bs) = with_count 32 bs (with_fields (console c ∷ map (number_to 127) bs) (events.TypeIn (octal_value c) (record { items = map octal_value bs })))
type_line [] = Err Syntax

-- `DRAIN c n`
unfoldable pub drain_line : List (List ℕ) → Result Event Bad
drain_line (c ∷ n ∷ []) = with_fields (console c ∷ count_to 64 n ∷ []) (events.Drain (octal_value c) (octal_value n))
drain_line _ = Err Syntax

-- `CLOCK n`
unfoldable pub clock_line : List (List ℕ) → Result Event Bad
clock_line (n ∷ []) = with_fields (number n ∷ []) (events.Clock (octal_value n))
clock_line _ = Err Syntax

-- `INT s p q`
unfoldable pub int_line : ℕ → List (List ℕ) → Result Event Bad
int_line v (s ∷ p ∷ q ∷ []) = with_fields (slot v s ∷ number p ∷ number q ∷ []) (events.Int (octal_value s) (octal_value p) (octal_value q))
int_line v _ = Err Syntax

-- `EXAM s a n`, `LIST s a n`, whose words end at the last address
unfoldable pub span_line : ℕ → List (List ℕ) → Result (ℕ × ℕ × ℕ) Bad
span_line v (s ∷ a ∷ n ∷ []) = with_fields (slot v s ∷ number_to (2 ^ 18 - octal_value n) a ∷ count_to 8 n ∷ []) (octal_value s, octal_value a, octal_value n)
span_line v _ = Err Syntax

-- the event of a slot, a first address and a count
abbrev pub of_span : (ℕ → ℕ → ℕ → Event) → Result (ℕ × ℕ × ℕ) Bad → Result Event Bad
of_span event (Ok x) = Ok (event x.0 x.1 x.2)
of_span event (Err bad) = Err bad

-- `DEPOSIT s a w`
unfoldable pub deposit_line : ℕ → List (List ℕ) → Result Event Bad
deposit_line v (s ∷ a ∷ w ∷ []) = with_fields (slot v s ∷ address a ∷ number w ∷ []) (events.Deposit (octal_value s) (octal_value a) (octal_value w))
deposit_line v _ = Err Syntax

-- `STATE s`, `STOP s`, `CONT s`, `PEEK s`
unfoldable pub slot_line : ℕ → List (List ℕ) → Result ℕ Bad
slot_line v (s ∷ []) = with_fields (slot v s ∷ []) (octal_value s)
slot_line v _ = Err Syntax

-- the event of a slot
abbrev pub of_slot : (ℕ → Event) → Result ℕ Bad → Result Event Bad
of_slot event (Ok s) = Ok (event s)
of_slot event (Err bad) = Err bad

-- `DIR d`
unfoldable pub dir_line : List (List ℕ) → Result Event Bad
dir_line (d ∷ []) = with_fields (name d ∷ []) (events.Dir (sixbit_of d))
dir_line _ = Err Syntax

-- `SHOW d x y`
unfoldable pub show_line : List (List ℕ) → Result Event Bad
show_line (d ∷ x ∷ y ∷ []) = with_fields (name d ∷ name x ∷ name y ∷ []) (events.Show (sixbit_of d) (sixbit_of x) (sixbit_of y))
show_line _ = Err Syntax

-- which kind of line a first word begins, if any
unfoldable pub kind_of : List ℕ → Option Kind
kind_of w =
    if bytes_eq w (codes "VERSION") then Some kinds.Version
    else (if bytes_eq w (codes "SYSTEM") then Some kinds.System
    else (if bytes_eq w (codes "LOAD") then Some kinds.Load
    else (if bytes_eq w (codes "RO") then Some kinds.ReadOnly
    else (if bytes_eq w (codes "SYM") then Some kinds.Symbol
    else (if bytes_eq w (codes "GO") then Some kinds.Go
    else (if bytes_eq w (codes "FILE") then Some kinds.File
    else (if bytes_eq w (codes "/") then Some kinds.Append
    else (if bytes_eq w (codes "EOF") then Some kinds.EndFile
    else (if bytes_eq w (codes "TICK") then Some kinds.Tick
    else (if bytes_eq w (codes "RUN") then Some kinds.Run
    else (if bytes_eq w (codes "TYPE") then Some kinds.TypeIn
    else (if bytes_eq w (codes "DRAIN") then Some kinds.Drain
    else (if bytes_eq w (codes "CLOCK") then Some kinds.Clock
    else (if bytes_eq w (codes "INT") then Some kinds.Int
    else (if bytes_eq w (codes "EXAM") then Some kinds.Exam
    else (if bytes_eq w (codes "LIST") then Some kinds.List
    else (if bytes_eq w (codes "STATE") then Some kinds.State
    else (if bytes_eq w (codes "DEPOSIT") then Some kinds.Deposit
    else (if bytes_eq w (codes "STOP") then Some kinds.Stop
    else (if bytes_eq w (codes "CONT") then Some kinds.Cont
    else (if bytes_eq w (codes "PEEK") then Some kinds.Peek
    else (if bytes_eq w (codes "DIR") then Some kinds.Dir
    else (if bytes_eq w (codes "SHOW") then Some kinds.Show
    else (if bytes_eq w (codes "END") then Some kinds.End
    else (if is_place w then Some kinds.Words
    else None)))))))))))))))))))))))))

-- the place in which each kind of line may occur: line 1, after LOAD until GO, after FILE until
-- EOF, or elsewhere outside the state part, whose lines have a table of their own
abbrev pub place_of_kind : Kind → Place
place_of_kind kinds.Version = places.First
place_of_kind kinds.System = places.First
place_of_kind kinds.Words = places.Load
place_of_kind kinds.ReadOnly = places.Load
place_of_kind kinds.Symbol = places.Load
place_of_kind kinds.Go = places.Load
place_of_kind kinds.Append = places.File
place_of_kind kinds.EndFile = places.File
place_of_kind _ = places.Plain

-- line 1 is outside any block
abbrev pub is_at : Place → Place → Bool
is_at places.First places.First = true
is_at places.First places.Plain = true
is_at places.System places.System = true
is_at places.Plain places.Plain = true
is_at places.Load places.Load = true
is_at places.File places.File = true
is_at _ _ = false

-- the version from which on there is a kind of line
abbrev pub version_of_kind : Kind → ℕ
version_of_kind kinds.ReadOnly = 2
version_of_kind kinds.Symbol = 2
version_of_kind kinds.Run = 2
version_of_kind kinds.List = 2
version_of_kind _ = 1

-- a line of this kind may occur at a place of a session of version v
abbrev pub may_stand : Place → ℕ → Kind → Bool
may_stand place v kind = is_at place (place_of_kind kind) && nat_le (version_of_kind kind) v

-- the line of a kind with its first word and the words that follow
abbrev pub line_of_kind : ℕ → Kind → List ℕ → List (List ℕ) → Result Event Bad
line_of_kind v kinds.Version first ws = version_line ws
line_of_kind v kinds.System first ws = restores (system_row ws)
line_of_kind v kinds.Load first ws = load_line ws
line_of_kind v kinds.Words first ws = words_line (before_slash first) ws
line_of_kind v kinds.ReadOnly first ws = read_only_line ws
line_of_kind v kinds.Symbol first ws = symbol_line ws
line_of_kind v kinds.Go first ws = go_line ws
line_of_kind v kinds.File first ws = file_line ws
line_of_kind v kinds.Append first ws = append_line ws
line_of_kind v kinds.EndFile first ws = bare_line events.EndFile ws
line_of_kind v kinds.Tick first ws = tick_line v ws
line_of_kind v kinds.Run first ws = run_line ws
line_of_kind v kinds.TypeIn first ws = type_line ws
line_of_kind v kinds.Drain first ws = drain_line ws
line_of_kind v kinds.Clock first ws = clock_line ws
line_of_kind v kinds.Int first ws = int_line v ws
line_of_kind v kinds.Exam first ws = of_span events.Exam (span_line v ws)
line_of_kind v kinds.List first ws = of_span events.List (span_line v ws)
line_of_kind v kinds.State first ws = of_slot events.State (slot_line v ws)
line_of_kind v kinds.Deposit first ws = deposit_line v ws
line_of_kind v kinds.Stop first ws = of_slot events.Stop (slot_line v ws)
line_of_kind v kinds.Cont first ws = of_slot events.Cont (slot_line v ws)
line_of_kind v kinds.Peek first ws = of_slot events.Peek (slot_line v ws)
line_of_kind v kinds.Dir first ws = dir_line ws
line_of_kind v kinds.Show first ws = show_line ws
line_of_kind v kinds.End first ws = bare_line events.End ws

-- the line of a first word of this kind, if that kind may occur
abbrev pub line_of_first : Place → ℕ → Option Kind → List ℕ → List (List ℕ) → Result Event Bad
line_of_first place v None first ws = Err Syntax
line_of_first place v (Some kind) first ws = if may_stand place v kind then line_of_kind v kind first ws else Err Syntax

-- the line of a first word at a place: in the state part it is one of the table of that part
abbrev pub line_at : Place → ℕ → List ℕ → List (List ℕ) → Result Event Bad
line_at places.System v first ws = restores (state_line_of_first v (state_kind_of first) first ws)
line_at place v first ws = line_of_first place v (kind_of first) first ws

-- a first word that begins with `;` makes the line a comment
abbrev pub is_comment : List ℕ → Bool
is_comment w = slice_index w 0 == 59

-- a line without words is empty, and so is a comment; either may occur anywhere
unfoldable pub event_of_words : Place → ℕ → List (List ℕ) → Result Event Bad
event_of_words place v [] = Ok events.Nothing
event_of_words place v (first ∷ ws) = if is_comment first then Ok events.Nothing else line_at place v first ws

-- a line of a session of version v: at most 255 bytes, all from 40 to 176
unfoldable pub line_event : Place → ℕ → List ℕ → Result Event Bad
line_event place v line =
    if nat_le (length line) 255 then
    (if list_all (is_code 32 126) line then event_of_words place v (words_of line) else Err Syntax)
    else Err Long
