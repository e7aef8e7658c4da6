use Rattle.std.proofs.Common.{◌∙◌}
use Rattle.its_world.proofs.FilingLaws.{settled_console}
use Rattle.its_world.proofs.world.World.resettle.Goals as goal

pub returns : goal.returns
returns c = settled_console c.args.self.now c.settle.new.self c.settle-2.new.self c.settle-3.new.self c.settle-4.new.self c.args.console
    c.from-c.result (c.from-c.ensures ∙ c.number.ensures.value)
    c.settle.ensures c.settle-2.ensures c.settle-3.ensures c.settle-4.ensures
