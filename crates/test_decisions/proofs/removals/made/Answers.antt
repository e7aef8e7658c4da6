use Rattle.std.proofs.Common.{rules}
use Rattle.its_commit.proofs.IdleLaws.{can_made}
use Rattle.test_decisions.proofs.removals.made.Goals as goal

pub apply-requires-clause-can : goal.apply-requires-clause-can
apply-requires-clause-can g c = rw c.new.ensures (can_made c.args.w.now c.args.maker c.args.slot 0 0 (search rules) (search rules))
