use Rattle.std.proofs.Common.{ap, sym, ◌∙◌}
use Rattle.its_pipes.specs.Pipes.{pipe_by, queue_at}
use Rattle.its_saved.specs.Saving.{end_names}
use Rattle.its_saving.proofs.channels.link_names.Goals as goal

pub returns-in-Some : goal.returns-in-Some
returns-in-Some c = ap (λ o. end_names (pipe_by o (queue_at c.args.pipes.now.queues c.args.l).items)) (sym c.in-Some.is ∙ c.link.ensures)

pub returns-in-None : goal.returns-in-None
returns-in-None c = ap (λ o. end_names (pipe_by o (queue_at c.args.pipes.now.queues c.args.l).items)) (sym c.in-None.is ∙ c.link.ensures)
