use Rattle.its_world.specs.World.{state_of}
use Rattle.its_tick.proofs.FramesLaws.{branch_pages}
use Rattle.its_tick.proofs.reach.unwind_branch.Goals as goal

pub returns-clause-pages : goal.returns-clause-pages
returns-clause-pages c =
    branch_pages (state_of c.unwind_below.new.w) (state_of c.args.w.now) c.args.root _ _ _ c.unwind_below.ensures.unwinds
    c.unwind_below.ensures.pages c.calm.ensures.pages
