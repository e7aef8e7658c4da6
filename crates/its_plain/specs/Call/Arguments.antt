-- The arguments of a decoded call: values, places, and the words that it must not write into.
-- A promise rests on this.
use Rattle.std.specs.Prelude.{ℕ, ◌-◌, Bool, Option, Some, None, List, [], ◌∷◌, ◌++◌, length, take, drop, slice_get, is_some}
use Rattle.its_records.specs.declared.calls.Ask.{Ask}
use Rattle.its_records.specs.declared.calls.Operand.{Operand}
use Rattle.its_word.specs.declared.plan.Store.{Store}
pub use Rattle.its_plain.specs.Call.Footprint.{times, in_footprint, is_shared}

-- the value and the place of input k; 0 and none if there is no such input
abbrev pub value_in : Option Operand → ℕ
value_in (Some o) = o.value
value_in None = 0

abbrev pub place_in : Option Operand → Option ℕ
place_in (Some o) = o.place
place_in None = None

abbrev pub input : Ask → ℕ → ℕ
input a k = value_in (slice_get a.inputs.items k)

abbrev pub place_of_input : Ask → ℕ → Option ℕ
place_of_input a k = place_in (slice_get a.inputs.items k)

abbrev pub has_input : Ask → ℕ → Bool
has_input a k = is_some (slice_get a.inputs.items k)

-- the values of the last inputs as stores at their places. While a call is in progress these words
-- may be stale in core
abbrev pub store_of : Operand → List Store → List Store
store_of o ss = stores_at o.place
  where
    stores_at : Option ℕ → List Store
    stores_at (Some p) = record { at = p; word = o.value } ∷ ss
    stores_at None = ss

abbrev pub stores_of : List Operand → List Store
stores_of [] = []
stores_of (o ∷ os) = store_of o (stores_of os)

unfoldable pub debts : Ask → ℕ → List Store
debts a n = stores_of (drop (length a.inputs.items - n) a.inputs.items)

-- inputs with new values
abbrev pub operands_with_values : List Operand → List ℕ → List Operand
operands_with_values (o ∷ os) (v ∷ vs) = record o { value = v } ∷ operands_with_values os vs
operands_with_values os [] = os
operands_with_values [] (v ∷ vs) = []

-- a call whose last inputs have new values
unfoldable pub with_new_values : Ask → List ℕ → Ask
with_new_values a vs =
    record a { inputs = record { items = take kept a.inputs.items ++ operands_with_values (drop kept a.inputs.items) vs } }
  where
    kept : ℕ
    kept = length a.inputs.items - length vs
