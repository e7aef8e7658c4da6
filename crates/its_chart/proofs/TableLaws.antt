-- The names against the table of opcodes.
use Rattle.std.proofs.Common.{◌≡◌, ◌<◌, ℕ, Option, Some, None, List, refl, is_some, IfSome}
use Rattle.its_word.specs.Opcode.{instruction_of}
use Rattle.its_word.specs.declared.instruction.Instruction.{Instruction}
use Rattle.its_word.specs.declared.instruction.Instruction.TheVariants.{Illegal}
use Rattle.its_chart.specs.Mnemonic.{mnemonic_of, name_of, opcode_named}
use Rattle.its_chart.specs.Table.{IsNamed, is_legal}
use Rattle.its_chart.proofs.ChartLaws.{named_first}
use Rattle.its_chart.proofs.NameLaws.{stood_first}

legal_named : (i : Instruction) → is_some (name_of i) ≡ is_legal i
legal_named Illegal = refl
legal_named other = refl

once_by : (op : ℕ) (r : Option (List ℕ)) → op < 512 → mnemonic_of op ≡ r → IfSome r (λ n. opcode_named n ≡ Some op)
once_by op None below e = tt
once_by op (Some n) below e = named_first n op below (stood_first op n below e)

named_at : (op : ℕ) → is_some (mnemonic_of op) ≡ is_legal (instruction_of op)
unfolding mnemonic_of
named_at op = legal_named (instruction_of op)

pub table_named : (op : ℕ) → op < 512 → IsNamed op
table_named op h = record { named = named_at op; once = once_by op (mnemonic_of op) h refl }
