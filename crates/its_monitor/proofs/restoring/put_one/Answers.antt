use Rattle.its_monitor.proofs.ByteLineLaws.{byte_room}
use Rattle.its_monitor.proofs.restoring.put_one.Goals as goal

pub returns : goal.returns
returns c = c.put.ensures.put (c.put.ensures.kept.1 (byte_room c.args.w.now c.args.c c.requires))
