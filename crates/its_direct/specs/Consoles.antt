-- A byte that is typed and not kept is lost.
-- No promise rests on this.
use Rattle.std.specs.Prelude.{ℕ, Bool, true, false}

abbrev pub lost_of : Bool → ℕ
lost_of true = 0
lost_of false = 1
