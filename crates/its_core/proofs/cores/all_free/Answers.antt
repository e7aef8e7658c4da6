use Rattle.std.proofs.Common.{◌∙◌, sym}
use Rattle.its_core.proofs.EmptyLaws.{free_none, free_more, free_long, free_apart}
use Rattle.its_core.proofs.cores.all_free.Goals as goal

pub loop-frame-init : goal.loop-frame-init
loop-frame-init c = c.in_ok-lists.ensures ∙ sym free_none

pub push_back-requires-clause-head : goal.push_back-requires-clause-head
push_back-requires-clause-head c = rw c.loop-frame.invariant (free_long c.loop-frame.frame)

pub push_back-requires-clause-apart : goal.push_back-requires-clause-apart
push_back-requires-clause-apart c = rw c.loop-frame.invariant (free_apart c.loop-frame.frame)

pub loop-frame-preserved : goal.loop-frame-preserved
loop-frame-preserved c = rw (c.push_back.ensures.lists, c.loop-frame.invariant) (free_more c.loop-frame.frame)
