use Rattle.std.specs.Prelude.{refl}
use Rattle.std.proofs.Common.{sym}
use Rattle.its_world.proofs.FilingLaws.{settled_some, heads_within}
use Rattle.its_world.proofs.world.World.+settle.Goals as goal

pub returns-in-Some : goal.returns-in-Some
returns-in-Some t c = settled_some c.args.self.now _ c.settle.new.self c.refile.new.self c.args.head c.in-Some.node _
    (record { is = refl })
    (heads_within c.args.self.now c.args.head c.requires) (sym c.in-Some.ensures.front) c.in-Some.ensures.lists refl c.settle.ensures
    (rw c.new.ensures at c.refile.ensures)
