-- The constant of the code is the number of the definition.
use Rattle.std.specs.Prelude.{◌≡◌, refl}
use Rattle.its_session.specs.Events.{most_lines}
use Rattle.its_session.specs.declared.limits.TheConstants as limits

pub lines_are : limits.MOST_LINES ≡ most_lines
lines_are = refl
