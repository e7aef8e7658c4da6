use Rattle.its_monitor.proofs.ByteLineLaws.{byte_typed}
use Rattle.its_monitor.proofs.restoring.type_one.Goals as goal

pub returns : goal.returns
returns c = byte_typed c.args.w.now _ c.args.c c.args.b c.requires c.type_in.ensures.typed
