use Rattle.std.proofs.Common.{refl, rules}
use Rattle.its_world.proofs.PlaceLaws.{on_lists_alike}
use Rattle.its_world.proofs.world.World.put_alarm.Goals as goal

pub returns : goal.returns
returns c = record {
  alarms = search rules;
  rest = refl;
  on_lists = on_lists_alike c.args.self.now _ refl refl refl refl;
}
