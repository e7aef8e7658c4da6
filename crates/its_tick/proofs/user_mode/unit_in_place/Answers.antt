use Rattle.its_tick.proofs.StepsLaws.{unit_of_units}
use Rattle.its_tick.proofs.user_mode.unit_in_place.Goals as goal

pub returns : goal.returns
returns c = unit_of_units _ _ _ _ c.requires.quiet c.units_in_place.ensures.few c.units_in_place.ensures.same c.units_in_place.ensures.made
