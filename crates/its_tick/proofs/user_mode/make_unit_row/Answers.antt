use Rattle.std.proofs.Common.{subst}
use Rattle.its_tick.specs.Ticks.{UnitIn}
use Rattle.its_tick.proofs.UserLaws.{unit_tidy}
use Rattle.std.proofs.Common.{◌∙◌}
use Rattle.its_tick.proofs.FramesLaws.{unit_frames}
use Rattle.its_tick.proofs.user_mode.make_unit_row.Goals as goal

pub returns-then-unit_in_place-clause-tidy : goal.returns-then-unit_in_place-clause-tidy
returns-then-unit_in_place-clause-tidy c =
    unit_tidy c.args.w.now c.unit_in_place.new.w c.args.slot
    (subst (UnitIn c.args.w.now c.unit_in_place.new.w c.args.slot _) c.if-unit_in_place.true c.unit_in_place.ensures) c.requires.kept.tidy

pub returns-then-unit_in_place-clause-pages : goal.returns-then-unit_in_place-clause-pages
returns-then-unit_in_place-clause-pages c = unit_frames _ _ _ _ _ c.unit_in_place.ensures

pub returns-else-unit_in_place-clause-pages : goal.returns-else-unit_in_place-clause-pages
returns-else-unit_in_place-clause-pages c = c.enter.ensures.pages ∙ unit_frames _ _ _ _ _ c.unit_in_place.ensures
