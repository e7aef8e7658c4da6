-- Words that are made ready from the first on.
-- No promise rests on this.
use Rattle.std.specs.Prelude.{ℕ, List}

-- the words that are ready, and how many there may be
pub record Ready : Type 0 where
  pub words : List ℕ
  pub most : ℕ
