use Rattle.std.proofs.Common.{ap, ◌∙◌}
use Rattle.its_core.specs.Cores.{Cores}
use Rattle.its_tick.proofs.FramesLaws.{reach_pages}
use Rattle.its_tick.proofs.TrialLaws.{kept_forest, made_ready}
use Rattle.its_tick.proofs.ready.make_ready.Goals as goal

pub needs_in-needs-requires-clause-forest : goal.needs_in-needs-requires-clause-forest
needs_in-needs-requires-clause-forest c = kept_forest c.args.w.now c.requires.kept

pub returns-clause-row : goal.returns-clause-row
returns-clause-row c = made_ready c.args.w.now c.unwind_reach.new.w c.help_if.new.w c.args.slot _ _ c.needs_in-needs.ensures.slots
    c.needs_in-needs.ensures.helps c.unwind_reach.ensures.row c.help_if.ensures.row

pub returns-clause-pages : goal.returns-clause-pages
returns-clause-pages c = reach_pages _ _ _ _ _ _ _ (ap (λ (k : Cores). k.frames) c.help_if.ensures.core ∙ c.unwind_reach.ensures.pages)
    c.needs_in-needs.ensures.slots
