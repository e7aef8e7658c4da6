-- Inputs of a call with new values.
-- No promise rests on this.
use Rattle.std.specs.Prelude.{ℕ, None, List, ◌++◌, take, drop, slice_set, slice_index_or}
use Rattle.its_records.specs.declared.calls.Ask.{Ask}
use Rattle.its_records.specs.declared.calls.Operand.{Operand}
use Rattle.its_plain.specs.Call.Arguments.{operands_with_values}

-- an input with a new value; the inputs from one on with new values
abbrev pub no_operand : Operand
no_operand = record { value = 0; place = None }

abbrev pub with_value : Ask → ℕ → ℕ → Ask
with_value a k v = record a { inputs = record { items = slice_set a.inputs.items k (record (slice_index_or a.inputs.items k no_operand) { value = v }) } }

abbrev pub with_values : Ask → ℕ → List ℕ → Ask
with_values a kept vs = record a { inputs = record { items = take kept a.inputs.items ++ operands_with_values (drop kept a.inputs.items) vs } }
