use Rattle.std.specs.Prelude.{refl}
use Rattle.its_world.proofs.PlaceLaws.{place_lists}
use Rattle.its_world.proofs.FilingLaws.{refiled}
use Rattle.its_world.proofs.world.World.file.Goals as goal

pub put-requires-clause-place : goal.put-requires-clause-place
put-requires-clause-place c = place_lists c.args.self.now c.args.slot _ c.wait_list_of-place.ensures

pub returns : goal.returns
returns c = refiled c.args.self.now _ c.args.slot _ (record { is = refl }) c.wait_list_of-place.ensures c.put.ensures
