-- What the steps of reading a name and the chart give.
-- No promise rests on this.
use Rattle.std.specs.Prelude.{ℕ, Option, Some, None, List, codes}
use Rattle.std.specs.List.{position_or_len}
use Rattle.its_chart.specs.Mnemonic.{is_named, names}

-- the first opcode with a name, or 1000
unfoldable pub first_named : List ℕ → ℕ
first_named text = position_or_len (is_named text) names

-- the entry of a chart for a name: `-` if there is none
abbrev pub cell_of : Option (List ℕ) → List ℕ
cell_of None = codes "-"
cell_of (Some name) = name
