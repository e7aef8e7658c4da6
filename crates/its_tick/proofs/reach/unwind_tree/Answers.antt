use Rattle.std.proofs.Common.{◌∙◌, sym}
use Rattle.its_world.specs.World.{state_of}
use Rattle.its_tick.proofs.ReachLaws.{tree_unwound}
use Rattle.its_tick.proofs.FramesLaws.{tree_pages}
use Rattle.its_tick.proofs.reach.unwind_tree.Goals as goal

pub returns-in-Some-clause-row : goal.returns-in-Some-clause-row
returns-in-Some-clause-row c =
    tree_unwound (state_of c.unwind_below.new.w) (state_of c.args.w.now) (state_of c.calm.new.w) c.args.slot c.in-Some.superior _
    c.unwind_below.ensures.unwinds c.calm.ensures.row (sym c.superior-superior.ensures.value ∙ c.in-Some.is)

pub returns-in-Some-clause-pages : goal.returns-in-Some-clause-pages
returns-in-Some-clause-pages c =
    tree_pages (state_of c.unwind_below.new.w) (state_of c.args.w.now) c.args.slot c.in-Some.superior _ _ _ _
    c.unwind_below.ensures.unwinds c.unwind_below.ensures.pages c.calm.ensures.pages (sym c.superior-superior.ensures.value ∙ c.in-Some.is)
