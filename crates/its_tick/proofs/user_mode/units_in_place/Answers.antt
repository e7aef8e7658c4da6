use Rattle.std.proofs.Common.{sym}
use Rattle.its_tick.proofs.StepsLaws.{units_in, units_same}
use Rattle.its_tick.proofs.user_mode.units_in_place.Goals as goal

pub returns-clause-made : goal.returns-clause-made
returns-clause-made c = units_in _ _ _ _ _ _ _ _ _ _ _ _ _ _ _ c.requires.frame (sym c.in-Some.ensures.value) c.run_units.ensures.others
    c.run_units.ensures.reserved c.run_units.ensures.frames c.run_units.ensures.left c.run_units.ensures.most

pub returns-clause-same : goal.returns-clause-same
returns-clause-same c = λ z. units_same _ _ _ _ _ _ _ _ _ _ _ _ _ (sym c.in-Some.ensures.value) (c.run_units.ensures.same z)
