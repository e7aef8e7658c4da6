-- The stores of a unit as a list.
-- No promise rests on this.
use Rattle.std.specs.Prelude.{List, [], ◌∷◌}
use Rattle.its_word.specs.declared.plan.Store.{Store}
use Rattle.pdp_exec.specs.declared.stores.Stores.{Stores}
use Rattle.pdp_exec.specs.declared.stores.Stores.TheVariants.{Zero, One, Two, Three}

abbrev pub list_of : Stores → List Store
list_of Zero = []
list_of (One a) = a ∷ []
list_of (Two a b) = a ∷ b ∷ []
list_of (Three a b c) = a ∷ b ∷ c ∷ []
