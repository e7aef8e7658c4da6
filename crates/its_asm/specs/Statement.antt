-- The statements of lines (docs/ASM.md, "Statements").
-- A promise rests on this.
use Rattle.std.specs.Prelude.{if◌then◌else◌, ℕ, Option, Some, None, Result, Ok, Err, List, [], ◌∷◌, length, nat_le, bytes_eq, codes}
use Rattle.its_word.specs.Text.{is_name, is_octal, octal_value, sixbit_of}
use Rattle.its_chart.specs.Text.{is_printable}
use Rattle.its_chart.specs.Mnemonic.{opcode_named}
use Rattle.its_asm.specs.Text.{label_of, symbol_of, statement_words}
use Rattle.its_asm.specs.Expression.{Scope, expression, given}
use Rattle.its_asm.specs.Instruction.{without_literal, instruction, whole}
use Rattle.its_asm.specs.declared.instruction.Item.{Item}
use Rattle.its_asm.specs.declared.statements.Statement.{Statement}
use Rattle.its_asm.specs.declared.statements.Statement.TheVariants.{Nothing, Job, Equals, Loc, Gives, Go}
use Rattle.its_asm.specs.declared.reason.AsmReason.{AsmReason}
use Rattle.its_asm.specs.declared.reason.AsmReason.TheVariants.{Syntax}

-- a value makes a statement unless its text is none; whatever else is against it the statement says
abbrev pub formed : {A : Type 0} → (Result A AsmReason → Statement) → Result A AsmReason → Option Statement
formed says (Err Syntax) = None
formed says value = Some (says value)

-- the labels before a statement, and the words after them
abbrev pub labels_by : Option ℕ → List ℕ → List ℕ
labels_by None more = []
labels_by (Some name) more = name ∷ more

abbrev pub labels_of : List (List ℕ) → List ℕ
labels_of [] = []
labels_of (word ∷ words) = labels_by (label_of word) (labels_of words)

-- `JOB u j c`; c is `-` or a console from 0 to 7
abbrev pub console_named : List ℕ → Option (Option ℕ)
console_named word =
    if bytes_eq word (codes "-") then Some None
    else (if is_octal word then (if nat_le (octal_value word) 7 then Some (Some (octal_value word)) else None) else None)

abbrev pub job_by : List ℕ → List ℕ → Option (Option ℕ) → Option Statement
job_by u j None = None
job_by u j (Some console) = if is_name u then (if is_name j then Some (Job (sixbit_of u) (sixbit_of j) console) else None) else None

unfoldable pub job : List (List ℕ) → Option Statement
job (first ∷ u ∷ j ∷ c ∷ []) = if bytes_eq first (codes "JOB") then job_by u j (console_named c) else None
job words = None

-- `NAME = e`
abbrev pub equals_by : Scope → List ℕ → Option ℕ → Option Statement
equals_by s e None = None
equals_by s e (Some name) = formed (λ v. Equals name v) (expression s e)

abbrev pub equals : Scope → List ℕ → List ℕ → List ℕ → Option Statement
equals s name sign e = if bytes_eq sign (codes "=") then equals_by s e (symbol_of name) else None

-- `SIXBIT name`
abbrev pub sixbit : List ℕ → Result Item AsmReason
sixbit name = if is_name name then Ok (without_literal (sixbit_of name)) else Err Syntax

-- `op` with what follows it
abbrev pub gives : Result Item AsmReason → Option Statement
gives item = formed (λ w. Gives w) item

abbrev pub operation : Scope → List ℕ → Option ℕ → Option Statement
operation s text None = None
operation s text (Some op) = gives (instruction s op text)

-- `LOC e`, `GO e`, `WORD w`, `SIXBIT name`, or `op` with its address; LOC asks for symbols of
-- earlier lines
unfoldable pub with_one : Scope → Scope → List ℕ → List ℕ → Option Statement
with_one earlier s first text =
    if bytes_eq first (codes "LOC") then formed (λ v. Loc v) (expression earlier text)
    else (if bytes_eq first (codes "GO") then formed (λ v. Go v) (expression s text)
    else (if bytes_eq first (codes "WORD") then gives (given (whole s text) (λ w. Ok (without_literal w)))
    else (if bytes_eq first (codes "SIXBIT") then gives (sixbit text)
    else operation s text (opcode_named first))))

-- the statement of the words after a line's labels, between JOB and GO; None if they are none
unfoldable pub body : Scope → Scope → List (List ℕ) → Option Statement
body earlier s [] = Some Nothing
body earlier s (op ∷ []) = operation s [] (opcode_named op)
body earlier s (first ∷ text ∷ []) = with_one earlier s first text
body earlier s (name ∷ sign ∷ e ∷ []) = equals earlier name sign e
body earlier s words = None

-- the word that a line gives on its own, without symbols, literals and the term `.`
abbrev pub word_of_item : Option ℕ → ℕ → Option ℕ
word_of_item None w = Some w
word_of_item (Some other) w = None

abbrev pub word_of : Option Statement → Option ℕ
word_of (Some (Gives (Ok item))) = word_of_item item.literal item.word
word_of other = None

abbrev pub no_names : Scope
no_names = record { symbols = []; here = None }

unfoldable pub statement_of : List ℕ → Option ℕ
statement_of line =
    if nat_le (length line) 255 then
    (if is_printable line then word_of (body no_names no_names (statement_words line)) else None)
    else None
