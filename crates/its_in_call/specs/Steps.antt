-- The head of a list of pending steps.
-- No promise rests on this.
use Rattle.std.specs.Prelude.{Bool, true, false, List, [], ◌∷◌}
use Rattle.its_records.specs.declared.calls.Owed.{Owed}
use Rattle.its_records.specs.declared.calls.Owed.TheVariants.{Store, GiveBack, Unlink, Link, Free, Leave}

abbrev pub is_file : Owed → Bool
is_file Unlink = true
is_file Link = true
is_file Free = true
is_file (Store a w) = false
is_file GiveBack = false
is_file (Leave e) = false

-- the first pending step is one of a close
abbrev pub begins_with_file : List Owed → Bool
begins_with_file [] = false
begins_with_file (o ∷ os) = is_file o
