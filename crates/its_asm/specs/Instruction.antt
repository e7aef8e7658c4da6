-- The words that statements give (docs/ASM.md, "Words").
-- A promise rests on this.
use Rattle.std.specs.Prelude.{if◌then◌else◌, ℕ, ◌+◌, ◌*◌, ◌^◌, ◌==◌, Option, Some, None, Result, Ok, Err, List, [], ◌∷◌, drop, slice_index, codes}
use Rattle.its_word.specs.Text.{is_octal, octal_value}
use Rattle.its_word.specs.Word.{pair_of}
use Rattle.its_chart.specs.Text.{cut}
use Rattle.its_asm.specs.Text.{closed}
use Rattle.its_asm.specs.Expression.{Scope, both, expression, given, register}
use Rattle.its_asm.specs.declared.instruction.Item.{Item}
use Rattle.its_asm.specs.declared.reason.AsmReason.{AsmReason}
use Rattle.its_asm.specs.declared.reason.AsmReason.TheVariants.{Syntax}

-- `n`, 1 to 12 octal digits, or `l,,r`, two expressions
abbrev pub whole_by : Scope → List ℕ → Option (List ℕ × ℕ × List ℕ) → Result ℕ AsmReason
whole_by s text None = if is_octal text then Ok (octal_value text) else Err Syntax
whole_by s text (Some p) =
    if slice_index p.2 0 == 44 then given (both (expression s p.0) (expression s (drop 1 p.2))) (λ h. Ok (pair_of h.0 h.1))
    else Err Syntax

unfoldable pub whole : Scope → List ℕ → Result ℕ AsmReason
whole s text = whole_by s text (cut (codes ",") text)

-- a word without a literal
abbrev pub without_literal : ℕ → Item
without_literal w = record { word = w; literal = None }

-- a literal's word between brackets; its address is still to be added
abbrev pub literal : Scope → Option (List ℕ) → Result Item AsmReason
literal s None = Err Syntax
literal s (Some text) = given (whole s text) (λ w. Ok (record { word = 0; literal = Some w }))

-- what an address is without @ and index register: nothing, a literal in brackets, or an expression
abbrev pub place : Scope → List ℕ → Result Item AsmReason
place s [] = Ok (without_literal 0)
place s (b ∷ rest) = if b == 91 then literal s (closed 93 rest) else given (expression s (b ∷ rest)) (λ y. Ok (without_literal y))

-- an index register before the parenthesis that ends it
abbrev pub index : Scope → Option (List ℕ) → Result ℕ AsmReason
index s None = Err Syntax
index s (Some x) = register s x

abbrev pub indexed_by : Scope → List ℕ → Option (List ℕ × ℕ × List ℕ) → Result (Item × ℕ) AsmReason
indexed_by s text None = both (place s text) (Ok 0)
indexed_by s text (Some p) = both (place s p.0) (index s (closed 41 p.2))

-- an address: `@` sets bit 13, `(x)` bits 14 to 17
abbrev pub indexed : Scope → ℕ → List ℕ → Result Item AsmReason
indexed s indirect text =
    given (indexed_by s text (cut (codes "(") text))
    (λ p. Ok (record { word = indirect * 2 ^ 22 + p.1 * 2 ^ 18 + p.0.word; literal = p.0.literal }))

unfoldable pub address : Scope → List ℕ → Result Item AsmReason
address s text = if slice_index text 0 == 64 then indexed s 1 (drop 1 text) else indexed s 0 text

-- an accumulator and an address
abbrev pub joined : ℕ → Result ℕ AsmReason → Result Item AsmReason → Result Item AsmReason
joined op a y = given (both a y) (λ p. Ok (record { word = op * 2 ^ 27 + p.0 * 2 ^ 23 + p.1.word; literal = p.1.literal }))

-- `a,y` or `y`; a comma in a literal is none of the instruction's
abbrev pub instruction_by : Scope → ℕ → List ℕ → Option (List ℕ × ℕ × List ℕ) → Result Item AsmReason
instruction_by s op text None = joined op (Ok 0) (address s text)
instruction_by s op text (Some p) =
    if p.1 == 44 then joined op (register s p.0) (address s p.2) else joined op (Ok 0) (address s text)

-- the instruction of an opcode
unfoldable pub instruction : Scope → ℕ → List ℕ → Result Item AsmReason
instruction s op text = instruction_by s op text (cut (codes ",[") text)
