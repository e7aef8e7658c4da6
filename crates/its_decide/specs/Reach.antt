-- Whom a commit disturbs, in the forms that code answers.
-- No promise rests on this.
use Rattle.std.specs.Prelude.{◌==◌, ℕ, Bool, false, Option, Some, None, List, [], ◌∷◌, ◌++◌}
use Rattle.its_records.specs.Tree.{slots_below}
use Rattle.its_plain.specs.Machine.Change.{superiors}
use Rattle.its_plain.specs.Call.Decide.{listed}
use Rattle.its_plain.specs.Machine.{Machine}
use Rattle.its_decide.specs.declared.reach.Disturbed.{Disturbed}
use Rattle.its_decide.specs.declared.reach.Disturbed.TheVariants.{Target, TargetTree, Kin}

-- the slots of the jobs that the call of slot j's job disturbs, which has this superior
abbrev pub slots_of : Disturbed → Machine → ℕ → Option ℕ → List ℕ
slots_of (Target t) m j o = listed t
slots_of (TargetTree t) m j o = slots_below (superiors m) t ++ t ∷ []
slots_of Kin m j o = slots_below (superiors m) j ++ listed o

-- a slot is this one
abbrev pub is_listed : ℕ → Option ℕ → Bool
is_listed k (Some s) = s == k
is_listed k None = false
