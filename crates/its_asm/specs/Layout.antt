-- The places of lines, and the symbols that they define (docs/ASM.md, "Locations and symbols").
-- A promise rests on this.
use Rattle.std.specs.Prelude.{if◌then◌else◌, ℕ, ◌+◌, ◌%◌, ◌^◌, Bool, true, false, Option, Some, None, Ok, List, [], ◌∷◌, ◌++◌, length, drop, fold, nat_le, nat_eq, is_some}
use Rattle.std.specs.Map.{lookup}
use Rattle.its_chart.specs.Text.{is_printable}
use Rattle.its_asm.specs.Text.{statement_words}
use Rattle.its_asm.specs.Expression.{Scope}
use Rattle.its_asm.specs.Statement.{body, job, labels_of}
use Rattle.its_asm.specs.declared.layout.Stage.{Stage}
use Rattle.its_asm.specs.declared.layout.Stage.TheVariants.{Begin, Body, After}
use Rattle.its_asm.specs.declared.layout.Line.{Line}
use Rattle.its_asm.specs.declared.layout.Layout.{Layout}
use Rattle.its_asm.specs.declared.statements.Statement.{Statement}
use Rattle.its_asm.specs.declared.statements.Statement.TheVariants.{Nothing, Job, Equals, Loc, Gives, Go}

-- at the start JOB is waited for, the location is 0, and no symbol is defined
abbrev pub before_all : Layout
before_all = record { stage = Begin; location = 0; symbols = [] }

-- the statement of a line's words at a stage, with its labels' number; a line without words may
-- occur anywhere
abbrev pub statement_at : Stage → Scope → Scope → ℕ → List (List ℕ) → Option Statement
statement_at stage earlier s k [] = Some Nothing
statement_at Begin earlier s k (w ∷ ws) = job (w ∷ ws)
statement_at Body earlier s k (w ∷ ws) = body earlier s (drop k (w ∷ ws))
statement_at After earlier s k (w ∷ ws) = None

abbrev pub with_labels : List ℕ → Option Statement → Option Line
with_labels labels None = None
with_labels labels (Some s) = Some (record { labels = record { items = labels }; statement = s })

-- the location as a term
abbrev pub here_of : Layout → Option ℕ
here_of l = Some (l.location % 2 ^ 18)

abbrev pub earlier_at : Layout → Scope
earlier_at l = record { symbols = l.symbols; here = here_of l }

abbrev pub scope_at : Layout → List (ℕ × ℕ) → Scope
scope_at l symbols = record { symbols = symbols; here = here_of l }

-- what a line of at most 255 bytes says after these lines, when these symbols are defined; None if
-- it is no statement there
unfoldable pub read : Layout → List (ℕ × ℕ) → List ℕ → Option Line
read l symbols line =
    if is_printable line then
    with_labels (labels_of (statement_words line)) (statement_at l.stage (earlier_at l) (scope_at l symbols) (length (labels_of (statement_words line))) (statement_words line))
    else None

-- whether a symbol is defined
abbrev pub is_defined : List (ℕ × ℕ) → ℕ → Bool
is_defined symbols name = is_some (lookup (nat_eq name) symbols)

-- a symbol is defined once: its first value stays
abbrev pub defined_by : Bool → List (ℕ × ℕ) → ℕ → ℕ → List (ℕ × ℕ)
defined_by true symbols name value = symbols
defined_by false symbols name value = symbols ++ (name, value) ∷ []

abbrev pub defined : List (ℕ × ℕ) → ℕ → ℕ → List (ℕ × ℕ)
defined symbols name value = defined_by (is_defined symbols name) symbols name value

-- labels are the location modulo 1000000
unfoldable pub labelled : List (ℕ × ℕ) → ℕ → List ℕ → List (ℕ × ℕ)
labelled symbols value labels = fold (λ done name. defined done name value) symbols labels

-- `NAME = e` defines a symbol after the line's labels; all other statements define none
abbrev pub equated : Statement → List (ℕ × ℕ) → List (ℕ × ℕ)
equated (Equals name (Ok value)) symbols = defined symbols name value
equated other symbols = symbols

abbrev pub symbols_after : Layout → Line → List (ℕ × ℕ)
symbols_after l line = equated line.statement (labelled l.symbols (l.location % 2 ^ 18) line.labels.items)

-- LOC sets the location; each statement that gives a word adds 1
abbrev pub location_after : Statement → ℕ → ℕ
location_after (Loc (Ok to)) at = to
location_after (Gives item) at = at + 1
location_after other at = at

abbrev pub stage_after : Statement → Stage → Stage
stage_after (Job u j console) stage = Body
stage_after (Go start) stage = After
stage_after other stage = stage

-- after a line
abbrev pub passed : Layout → Line → Layout
passed l line = record { stage = stage_after line.statement l.stage; location = location_after line.statement l.location; symbols = symbols_after l line }

abbrev pub passed_by : Layout → Option Line → Layout
passed_by l None = l
passed_by l (Some line) = passed l line

-- a line of more than 255 bytes ends the reading; one that is no statement leaves all as it was
abbrev pub laid_by : Bool → Layout → List ℕ → Layout
laid_by true l line = passed_by l (read l l.symbols line)
laid_by false l line = record l { stage = After }

unfoldable pub laid : Layout → List ℕ → Layout
laid l line = laid_by (nat_le (length line) 255) l line

-- after all these lines
unfoldable pub laid_out : Layout → List (List ℕ) → Layout
laid_out l lines = fold laid l lines
