use Rattle.std.proofs.Common.{refl, sym, ◌∙◌}
use Rattle.its_world.proofs.WorldLaws.{page_becomes, frames_backed}
use Rattle.its_world.proofs.world.World.give_back.Goals as goal

pub returns : goal.returns
returns c = page_becomes _ _ _ _ c.give_back.ensures.quarters c.give_back.ensures.cores
    (c.give_back.ensures.frames ∙ sym (frames_backed _ _ _ c.requires.page)) refl
