-- The lines that a source has left, if its bytes are known.
-- No promise rests on this.
use Rattle.std.specs.Prelude.{ℕ, true, Option, Some, None, List, []}
use Rattle.its_records.specs.Item.{Item}
use Rattle.its_reader.specs.declared.items.Items.{Items}
use Rattle.its_reader.specs.declared.texts.Texts.{Texts}
use Rattle.its_reader.specs.Items.{items_ahead}
use Rattle.its_reader.specs.Texts.{texts_ahead}

-- the contract says which bytes the source has left
abbrev pub IsTold : Option (List ℕ) → Type 0
IsTold (Some bytes) = Unit {0}
IsTold None = ⊥

abbrev pub bytes_of : Option (List ℕ) → List ℕ
bytes_of (Some bytes) = bytes
bytes_of None = []

-- the lines that it has left
abbrev pub texts_of : Texts → Option (List ℕ) → List (List ℕ)
texts_of r left = texts_ahead r (bytes_of left)

-- and the items of a session
abbrev pub items_of : Items → Option (List ℕ) → List Item
items_of r left = items_ahead true r (bytes_of left)
