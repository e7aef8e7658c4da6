-- The assembly of a text: its image, or its first refused line (docs/ASM.md).
-- A promise rests on this.
use Rattle.std.specs.Prelude.{if◌then◌else◌, ℕ, ◌+◌, ◌%◌, ◌^◌, Bool, true, false, ◌||◌, Option, Some, None, Result, Ok, Err, List, [], ◌∷◌, ◌++◌, length, nat_eq, nat_le, nat_lt, is_some}
use Rattle.std.specs.List.{list_any, position_or_len}
use Rattle.std.specs.Map.{lookup}
use Rattle.its_word.specs.Word.{left_of, pair_of}
use Rattle.its_asm.specs.Text.{pieces}
use Rattle.its_asm.specs.Layout.{before_all, defined, is_defined, labelled, laid_out, passed, read, symbols_after}
use Rattle.its_asm.specs.declared.layout.Layout.{Layout}
use Rattle.its_asm.specs.declared.layout.Line.{Line as Spoken}
use Rattle.its_asm.specs.declared.layout.Stage.{Stage}
use Rattle.its_asm.specs.declared.layout.Stage.TheVariants.{After}
use Rattle.its_asm.specs.declared.statements.Statement.{Statement}
use Rattle.its_asm.specs.declared.statements.Statement.TheVariants.{Job, Equals, Loc, Gives, Go}
use Rattle.its_asm.specs.declared.assembly.Image.{Image}
use Rattle.its_asm.specs.declared.reason.AsmFault.{AsmFault}
use Rattle.its_asm.specs.declared.reason.AsmFault.TheVariants.{Line}
use Rattle.its_asm.specs.declared.reason.AsmReason.{AsmReason}
use Rattle.its_asm.specs.declared.reason.AsmReason.TheVariants.{Long, Syntax, Range, Undef, Twice, Full, Cut}

-- the lines of a text end at LF; a last one without LF counts if it has a byte
abbrev pub whole_lines : List (List ℕ) → List (List ℕ)
whole_lines [] = []
whole_lines ([] ∷ []) = []
whole_lines (line ∷ lines) = line ∷ whole_lines lines

unfoldable pub lines_of : List ℕ → List (List ℕ)
lines_of text = whole_lines (pieces (10 ∷ []) text)

-- addresses with their words, in rising order of address
abbrev pub inserted : ℕ → ℕ → List (ℕ × ℕ) → List (ℕ × ℕ)
inserted a w [] = (a, w) ∷ []
inserted a w (c ∷ cells) =
    if nat_lt a c.0 then (a, w) ∷ (c ∷ cells)
    else (if nat_eq a c.0 then (a, w) ∷ cells else c ∷ inserted a w cells)

abbrev pub is_given : List (ℕ × ℕ) → ℕ → Bool
is_given cells a = is_some (lookup (nat_eq a) cells)

-- literals are in order of first use, equal ones once
abbrev pub used : List ℕ → ℕ → List ℕ
used literals w = if list_any (nat_eq w) literals then literals else literals ++ w ∷ []

abbrev pub used_by : List ℕ → Option ℕ → List ℕ
used_by literals None = literals
used_by literals (Some w) = used literals w

-- a literal's address, when the first one is at `base`: that of an equal one before, or the next
abbrev pub address_of : ℕ → List ℕ → ℕ → ℕ
address_of base literals w = (base + position_or_len (nat_eq w) literals) % 2 ^ 18

-- a word whose right half is its literal's address
abbrev pub addressed : ℕ → List ℕ → Option ℕ → ℕ → ℕ
addressed base literals None word = word
addressed base literals (Some w) word = pair_of (left_of word) (address_of base literals w)

-- literals from an address on
abbrev pub placed : ℕ → List ℕ → List (ℕ × ℕ) → List (ℕ × ℕ)
placed a [] cells = cells
placed a (w ∷ ws) cells = placed (a + 1) ws (inserted a w cells)

-- what the lines so far have made
pub record Assembly : Type 0 where
  pub layout : Layout
  pub u : ℕ
  pub j : ℕ
  pub console : Option ℕ
  pub cells : List (ℕ × ℕ)
  pub literals : List ℕ
  pub start : ℕ

abbrev pub nothing_made : Assembly
nothing_made = record { layout = before_all; u = 0; j = 0; console = None; cells = []; literals = []; start = 0 }

-- what a statement makes; literals are from `base` on
abbrev pub made : ℕ → Statement → Assembly → Assembly
made base (Job u j console) a = record a { u = u; j = j; console = console }
made base (Gives (Ok item)) a =
    record a { cells = inserted a.layout.location (addressed base a.literals item.literal item.word) a.cells; literals = used_by a.literals item.literal }
made base (Go (Ok start)) a = record a { cells = placed base a.literals a.cells; start = start }
made base other a = a

abbrev pub behind : ℕ → Assembly → Spoken → Assembly
behind base a line = record (made base line.statement a) { layout = passed a.layout line }

-- RANGE: an accumulator or index register above 17; a word, or a literal at GO, above 777777
abbrev pub literals_past : ℕ → List ℕ → Bool
literals_past base [] = false
literals_past base (w ∷ ws) = nat_lt (2 ^ 18) (base + length (w ∷ ws))

abbrev pub is_past : ℕ → Statement → Assembly → Bool
is_past base (Gives (Err Range)) a = true
is_past base (Gives item) a = nat_le (2 ^ 18) a.layout.location
is_past base (Go start) a = literals_past base a.literals
is_past base other a = false

-- UNDEF: a symbol that is not defined, or not yet
abbrev pub is_undefined : Statement → Bool
is_undefined (Equals name (Err reason)) = true
is_undefined (Loc (Err reason)) = true
is_undefined (Gives (Err reason)) = true
is_undefined (Go (Err reason)) = true
is_undefined other = false

-- TWICE: a symbol that is defined already; a location, or that of a literal at GO, that has a word
-- already
abbrev pub any_defined : List (ℕ × ℕ) → ℕ → List ℕ → Bool
any_defined symbols value [] = false
any_defined symbols value (name ∷ names) = is_defined symbols name || any_defined (defined symbols name value) value names

abbrev pub is_equated : Statement → List (ℕ × ℕ) → Bool
is_equated (Equals name value) symbols = is_defined symbols name
is_equated other symbols = false

abbrev pub is_symbol_twice : Layout → Spoken → Bool
is_symbol_twice l line =
    any_defined l.symbols (l.location % 2 ^ 18) line.labels.items
    || is_equated line.statement (labelled l.symbols (l.location % 2 ^ 18) line.labels.items)

abbrev pub any_given : ℕ → List ℕ → List (ℕ × ℕ) → Bool
any_given a [] cells = false
any_given a (w ∷ ws) cells = is_given cells a || any_given (a + 1) ws cells

abbrev pub is_location_twice : ℕ → Statement → Assembly → Bool
is_location_twice base (Gives item) a = is_given a.cells a.layout.location
is_location_twice base (Go start) a = any_given base a.literals a.cells
is_location_twice base other a = false

-- FULL: symbol 513
abbrev pub is_full : Layout → Spoken → Bool
is_full l line = nat_lt 512 (length (symbols_after l line))

-- the first of these reasons that holds
abbrev pub first_reason : Bool → Bool → Bool → Bool → Option AsmReason
first_reason range undef twice full =
    if range then Some Range else (if undef then Some Undef else (if twice then Some Twice else (if full then Some Full else None)))

abbrev pub reason_against : ℕ → Assembly → Spoken → Option AsmReason
reason_against base a line =
    first_reason (is_past base line.statement a) (is_undefined line.statement)
    (is_symbol_twice a.layout line || is_location_twice base line.statement a) (is_full a.layout line)

-- a line is refused, or goes into the assembly
abbrev pub unless : Option AsmReason → Assembly → Result Assembly AsmReason
unless None a = Ok a
unless (Some reason) a = Err reason

abbrev pub spoken : ℕ → Assembly → Option Spoken → Result Assembly AsmReason
spoken base a None = Err Syntax
spoken base a (Some line) = unless (reason_against base a line) (behind base a line)

-- one more line, when the whole text has this layout
unfoldable pub with_line : Layout → Assembly → List ℕ → Result Assembly AsmReason
with_line whole a line =
    if nat_le (length line) 255 then spoken whole.location a (read a.layout whole.symbols line) else Err Long

-- the image of an assembly that ends here, or CUT at the line after it
abbrev pub ended : ℕ → Stage → Assembly → Result Image AsmFault
ended n After a = Ok (record { u = a.u; j = a.j; console = a.console; words = a.cells; symbols = a.layout.symbols; start = a.start })
ended n stage a = Err (Line n Cut)

-- the lines from line n on: the first that is refused, or the image
abbrev pub onwards : ℕ → Result Assembly AsmReason → (Assembly → Result Image AsmFault) → Result Image AsmFault
onwards n (Ok a) rest = rest a
onwards n (Err reason) rest = Err (Line n reason)

abbrev pub from_line : Layout → ℕ → Assembly → List (List ℕ) → Result Image AsmFault
from_line whole n a [] = ended n a.layout.stage a
from_line whole n a (line ∷ lines) = onwards n (with_line whole a line) (λ b. from_line whole (n + 1) b lines)

-- the image of a text, or its first refused line with the reason
unfoldable pub assembly : List ℕ → Result Image AsmFault
assembly text = from_line (laid_out before_all (lines_of text)) 1 nothing_made (lines_of text)
