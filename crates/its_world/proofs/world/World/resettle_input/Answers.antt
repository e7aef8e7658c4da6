use Rattle.std.proofs.Common.{◌∙◌}
use Rattle.its_world.proofs.FilingLaws.{settled_input}
use Rattle.its_world.proofs.world.World.resettle_input.Goals as goal

pub returns : goal.returns
returns c = settled_input c.args.self.now c.settle_any.new.self c.settle_any-2.new.self c.args.console c.from-c.result
    (c.from-c.ensures ∙ c.number.ensures.value) c.settle_any.ensures c.settle_any-2.ensures
