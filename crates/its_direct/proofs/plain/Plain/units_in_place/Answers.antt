use Rattle.std.proofs.Common.{sym, refl}
use Rattle.its_direct.proofs.InPlaceLaws.{units_in, units_same}
use Rattle.its_direct.proofs.plain.Plain.units_in_place.Goals as goal

pub returns-clause-made : goal.returns-clause-made
returns-clause-made c =
    units_in _ _ c.args.slot _ _ _ _ _ _ _ _ refl (sym c.in-Some.ensures.value) _ _ c.run_units.ensures.others c.run_units.ensures.reserved
    c.run_units.ensures.left c.run_units.ensures.pc
    c.run_units.ensures.most

pub returns-clause-same : goal.returns-clause-same
returns-clause-same c = λ z. units_same _ _ c.args.slot _ _ _ _ _ _ _ _ refl (sym c.in-Some.ensures.value) (c.run_units.ensures.same z)
