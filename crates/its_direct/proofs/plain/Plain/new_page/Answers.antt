use Rattle.std.proofs.Common.{refl}
use Rattle.its_direct.proofs.EffectLaws.{absent_still, new_page_is}
use Rattle.its_direct.proofs.plain.Plain.new_page.Goals as goal

pub map-requires-clause-absent : goal.map-requires-clause-absent
map-requires-clause-absent c = (absent_still _ _ _ _ c.reserve_clear.ensures.cores c.requires.absent)

pub returns : goal.returns
returns c = new_page_is c.args.self.now _ _ c.args.slot c.args.page c.requires.none c.reserve_clear.ensures.quarters
    c.reserve_clear.ensures.cores c.in-Ok.ensures.mapped c.in-Ok.ensures.quarters refl
    (record { is = refl })
