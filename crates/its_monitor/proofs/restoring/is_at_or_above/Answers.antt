use Rattle.its_monitor.proofs.GivenLaws.{climbs_read}
use Rattle.its_monitor.proofs.restoring.is_at_or_above.Goals as goal

pub returns : goal.returns
returns c = climbs_read c.args.w.now c.args.s c.args.t c.tree.ensures _ c.is_at_or_above.ensures
