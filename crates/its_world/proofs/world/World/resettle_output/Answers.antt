use Rattle.std.proofs.Common.{◌∙◌}
use Rattle.its_world.proofs.FilingLaws.{settled_output}
use Rattle.its_world.proofs.world.World.resettle_output.Goals as goal

pub returns : goal.returns
returns c = settled_output c.args.self.now c.settle_any.new.self c.settle_any-2.new.self c.settle_any-3.new.self c.args.console
    c.from-c.result (c.from-c.ensures ∙ c.number.ensures.value)
    c.settle_any.ensures c.settle_any-2.ensures c.settle_any-3.ensures
