use Rattle.std.proofs.Common.{None, refl, sym, ◌∙◌}
use Rattle.its_pipes.specs.Pipes.{pipe_by, queue_at}
use Rattle.its_saved.specs.Saving.{link_lines}
use Rattle.its_saving.proofs.WritingLaws.{none_at}
use Rattle.its_saving.proofs.links.write_link.Goals as goal

pub returns-in-Some : goal.returns-in-Some
returns-in-Some g c = c.write_there.ensures

pub returns-in-None : goal.returns-in-None
returns-in-None g c = none_at _ _ (λ o. link_lines c.args.l (pipe_by o (queue_at c.args.pipes.now.queues c.args.l).items)) _ _ None _
    (sym c.in-None.is ∙ c.link.ensures) refl
