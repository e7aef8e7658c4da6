use Rattle.std.specs.Prelude.{refl}
use Rattle.its_world.proofs.WorldLaws.{console_heard}
use Rattle.its_world.proofs.world.World.type_in.Goals as goal

pub returns-clause-typed : goal.returns-clause-typed
returns-clause-typed c = console_heard c.args.self.now _ c.resettle_input.new.self c.args.console _ c.write_typed-kept.ensures.typed refl
    c.resettle_input.ensures
