use Rattle.its_monitor.proofs.GivenLaws.{superior_read}
use Rattle.its_monitor.proofs.restoring.has_superior.Goals as goal

pub returns : goal.returns
returns c = superior_read c.args.w.now c.args.s c.args.s c.tree.ensures _ _ c.superior.ensures.value c.is_some.ensures
