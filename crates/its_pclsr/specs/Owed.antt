-- The head of the parts of a close.
-- No promise rests on this.
use Rattle.std.specs.Prelude.{◌≡◌, ℕ, Option, Some, None, List, [], ◌∷◌}
use Rattle.its_records.specs.declared.calls.Owed.{Owed}
use Rattle.its_stepped.specs.Sound.{file_parts}
use Rattle.its_stepped.specs.State.{Part, Mark}

-- if a slot's call owns the mark, exactly the parts of the mark are among the pending steps
abbrev pub Marks : Option Mark → ℕ → List Owed → Type 0
Marks (Some m) j os = m.owner ≡ j → file_parts os ≡ m.parts
Marks None j os = Unit {0}

-- a part is the next of a marked close
abbrev pub FirstPart : List Part → Part → Type 0
FirstPart (p ∷ ps) q = p ≡ q
FirstPart [] q = ⊥

abbrev pub IsNext : Option Mark → Part → Type 0
IsNext (Some m) q = FirstPart m.parts q
IsNext None q = Unit {0}
