use Rattle.std.proofs.Common.{rules}
use Rattle.its_commit.proofs.IdleLaws.{can_removed}
use Rattle.test_decisions.proofs.removals.removed.Goals as goal

pub apply-requires-clause-can : goal.apply-requires-clause-can
apply-requires-clause-can g c = rw c.new.ensures
    (can_removed c.args.w.now c.args.caller c.args.root (search rules) (search rules) (search rules) c.tree.ensures (search rules) c.requires.sound
    c.requires.frames c.requires.page)
