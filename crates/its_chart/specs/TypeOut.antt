-- A word typed out (docs/ASM.md, "Words as text").
-- A promise rests on this.
use Rattle.std.specs.Prelude.{if◌then◌else◌, ℕ, ◌/◌, ◌%◌, ◌^◌, ◌==◌, Option, Some, None, List, [], ◌++◌, codes}
use Rattle.its_word.specs.Text.{digits_of}
use Rattle.its_word.specs.Word.{left_of, right_of}
use Rattle.its_word.specs.Opcode.{opcode_of, ac_of}
use Rattle.its_chart.specs.Mnemonic.{mnemonic_of}

-- bit 13, I, and bits 14 to 17, X
abbrev pub indirect_of : ℕ → ℕ
indirect_of w = w / 2 ^ 22 % 2

abbrev pub index_of : ℕ → ℕ
index_of w = w / 2 ^ 18 % 16

-- `a,` if A is not 0
abbrev pub typed_ac : ℕ → List ℕ
typed_ac a = if a == 0 then [] else digits_of a ++ codes ","

-- `@` if I is 1
abbrev pub typed_indirect : ℕ → List ℕ
typed_indirect i = if i == 0 then [] else codes "@"

-- `(x)` if X is not 0
abbrev pub typed_index : ℕ → List ℕ
typed_index x = if x == 0 then [] else codes "(" ++ digits_of x ++ codes ")"

-- accumulator, `@`, Y without leading zeros, index register
abbrev pub typed_operand : ℕ → List ℕ
typed_operand w = typed_ac (ac_of w) ++ (typed_indirect (indirect_of w) ++ (digits_of (right_of w) ++ typed_index (index_of w)))

-- the name of the opcode and the operand; both halves as numbers if the opcode has no name
abbrev pub typed_by : Option (List ℕ) → ℕ → List ℕ
typed_by (Some name) w = name ++ (codes " " ++ typed_operand w)
typed_by None w = codes "WORD " ++ (digits_of (left_of w) ++ (codes ",," ++ digits_of (right_of w)))

unfoldable pub typed : ℕ → List ℕ
typed w = typed_by (mnemonic_of (opcode_of w)) w
