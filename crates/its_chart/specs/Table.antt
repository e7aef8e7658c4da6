-- The names against the table of opcodes that decodes (processor reference manual, "User
-- operations").
-- No promise rests on this.
use Rattle.std.specs.Prelude.{◌≡◌, ℕ, Bool, true, false, Some, IfSome, is_some}
use Rattle.its_word.specs.Opcode.{instruction_of}
use Rattle.its_word.specs.declared.instruction.Instruction.{Instruction}
use Rattle.its_word.specs.declared.instruction.Instruction.TheVariants.{Illegal}
use Rattle.its_chart.specs.Mnemonic.{mnemonic_of, opcode_named}

abbrev pub is_legal : Instruction → Bool
is_legal Illegal = false
is_legal other = true

-- the opcodes that have names are those that are instructions, and no name occurs twice
pub record IsNamed (op : ℕ) : Type 0 where
  pub named : is_some (mnemonic_of op) ≡ is_legal (instruction_of op)
  pub once : IfSome (mnemonic_of op) (λ n. opcode_named n ≡ Some op)
