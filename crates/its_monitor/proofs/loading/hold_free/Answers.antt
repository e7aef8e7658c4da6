use Rattle.std.proofs.Common.{ap}
use Rattle.its_world.specs.World.{holder_at}
use Rattle.its_monitor.proofs.StartLaws.{console_held}
use Rattle.its_monitor.proofs.loading.hold_free.Goals as goal

pub returns-in-Some : goal.returns-in-Some
returns-in-Some c = console_held c.args.w.now c.args.c c.args.slot _ _ (ap (holder_at c.args.w.now.holders) c.index.ensures.value) c.in-Some.is
