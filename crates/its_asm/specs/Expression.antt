-- Expressions: sums and differences of terms, modulo 1000000 (docs/ASM.md, "Expressions").
-- A promise rests on this.
use Rattle.std.specs.Prelude.{if◌then◌else◌, ℕ, ◌+◌, ◌-◌, ◌%◌, ◌^◌, ◌&&◌, ◌==◌, Option, Result, Ok, Err, List, ◌∷◌, length, filter, nat_eq, nat_le, bytes_eq, codes}
use Rattle.std.specs.Map.{lookup}
use Rattle.std.specs.Option.{ok_or}
use Rattle.its_word.specs.Text.{is_octal, octal_value, sixbit_of}
use Rattle.its_word.specs.Word.{right_of}
use Rattle.its_chart.specs.Text.{is_mark}
use Rattle.its_asm.specs.Text.{pieces, is_symbol}
use Rattle.its_asm.specs.declared.reason.AsmReason.{AsmReason}
use Rattle.its_asm.specs.declared.reason.AsmReason.TheVariants.{Syntax, Range, Undef}

-- what an expression may name: symbols with their values, and the location, if there is one
pub record Scope : Type 0 where
  pub symbols : List (ℕ × ℕ)
  pub here : Option ℕ

-- what follows a value, or the reason against it
abbrev pub given : {A B : Type 0} → Result A AsmReason → (A → Result B AsmReason) → Result B AsmReason
given (Ok a) f = f a
given (Err reason) f = Err reason

-- of two reasons among SYNTAX, RANGE and UNDEF the one that is tested first
abbrev pub sooner : AsmReason → AsmReason → AsmReason
sooner Syntax other = Syntax
sooner Range Syntax = Syntax
sooner Range other = Range
sooner reason other = other

-- two values, or the first reason against them
abbrev pub both : {A B : Type 0} → Result A AsmReason → Result B AsmReason → Result (A × B) AsmReason
both (Ok a) (Ok b) = Ok (a, b)
both (Ok a) (Err reason) = Err reason
both (Err reason) (Ok b) = Err reason
both (Err reason) (Err other) = Err (sooner reason other)

abbrev pub value_of : Scope → ℕ → Option ℕ
value_of s name = lookup (nat_eq name) s.symbols

-- a term is `.`, the location; a symbol; or a number of 1 to 6 octal digits
unfoldable pub term : Scope → List ℕ → Result ℕ AsmReason
term s text =
    if bytes_eq text (codes ".") then ok_or s.here Undef
    else (if is_symbol text then ok_or (value_of s (sixbit_of text)) Undef
    else (if is_octal text && nat_le (length text) 6 then Ok (right_of (octal_value text))
    else Err Syntax))

-- a sum, and one more term after its sign
abbrev pub added : Result ℕ AsmReason → ℕ → Result ℕ AsmReason → Result ℕ AsmReason
added sum sign t = given (both sum t) (λ p. Ok ((if sign == 45 then p.0 + (2 ^ 18 - p.1 % 2 ^ 18) else p.0 + p.1) % 2 ^ 18))

-- a sum goes on with these terms after these signs
abbrev pub summed : Scope → Result ℕ AsmReason → List ℕ → List (List ℕ) → Result ℕ AsmReason
summed s sum (sign ∷ signs) (t ∷ ts) = summed s (added sum sign (term s t)) signs ts
summed s sum signs ts = sum

-- a sum goes on with a sign and the terms of a text, which have `+` or `-` between them
unfoldable pub sum_with : Scope → Result ℕ AsmReason → ℕ → List ℕ → Result ℕ AsmReason
sum_with s sum sign text = summed s sum (sign ∷ filter (is_mark (codes "+-")) text) (pieces (codes "+-") text)

-- an expression is terms with `+` or `-` between them; the first one is added to 0
abbrev pub expression : Scope → List ℕ → Result ℕ AsmReason
expression s text = sum_with s (Ok 0) 43 text

-- the value of an expression that names an accumulator or an index register is at most 17
abbrev pub register : Scope → List ℕ → Result ℕ AsmReason
register s text = given (expression s text) (λ n. if nat_le n 15 then Ok n else Err Range)
