use Rattle.its_tick.proofs.ByteLaws.{bytes_none}
use Rattle.its_tick.proofs.bytes.bytes.Goals as goal

pub returns-clause-made : goal.returns-clause-made
returns-clause-made c = bytes_none c.args.w.now c.args.slot c.requires.kept c.requires.frame
