use Rattle.its_monitor.proofs.FileLaws.{helped_is}
use Rattle.its_monitor.proofs.filing.help.Goals as goal

pub returns : goal.returns
returns c = helped_is _ _ c.seen.ensures.whole c.requires.kept c.make_parts.ensures
