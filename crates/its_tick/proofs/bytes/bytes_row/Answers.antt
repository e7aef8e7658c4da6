use Rattle.its_tick.proofs.ByteLaws.{bytes_more, bytes_none}
use Rattle.its_tick.proofs.bytes.bytes_row.Goals as goal

pub loop-k-init : goal.loop-k-init
loop-k-init c = bytes_none c.args.w.now c.args.slot c.requires.kept c.requires.frame

pub loop-k-preserved : goal.loop-k-preserved
loop-k-preserved c = bytes_more c.args.w.now c.loop-k.w c.makes_byte.new.w c.args.slot c.loop-k.k c.loop-k.invariant c.if-not-makes_byte.ensures.made
